-- Request 8: after the checks of the face list and of unused vertices every ring walk ends within the faces at its vertex. So refusal 11, "a ring walk passes more faces
-- than the mesh has", was given to no cage: without it every answer is as before, and none is 11. No law that is cited here reads a check 11.
use Rattle.std.specs.Prelude.{Ok}
use mathlib.Core.Path.{◌≡◌, refl, sym, ap, ◌∙◌}
use mathlib.Core.Logic.{◌≢◌}
use Prim.Native.Nat.{ℕ, ◌+◌, ◌*◌, ◌/◌, ◌%◌, ◌<◌, ◌≤◌}
use native.Mathlib.Omega.{arith}
use mathlib.Core.Bool.{Bool, true, false, not, ◌&&◌}
use mathlib.Core.List.{List}
use mathlib.Core.Option.{Option, none, some}
use lib.Dec.{T, T_not, eqb, ltb, leb}
use lib.Ieee.Fits.{eq→eqb}
use lib.ListN.{length, get_or}
use Rattle.lists.specs.Lists.{count, find, found, tally, lowest}
use Rattle.turns.specs.Turns.{most_valence}
use Rattle.rules.specs.Mesh.{corner, links, Fan, inner, rim, endless, corners, valence, here, long, walk, stop_of, next_corner, prev_corner, last_corner, sides, Mesh, cage}
use Rattle.rules.specs.Position.{Numbers, whole}
use Rattle.rules.specs.Levels.{sizes, after, last}
use Rattle.rules.specs.Refusals.{most_levels, most_in_cage, has, check, ◌or_else◌, when, either, equal_corners, same_set, used_before, too_large, parted, fans_of, shape_refusal, range_refusal, list_refusal, fan_refusal, size_refusal, mesh_refusal, refusal, Room, short_of}
use Rattle.rules.specs.Answers.{answer, counted, unless, outcome}
use Rattle.rules.specs.Sharp.{unlinked, told, sharp_last, sharp_refusal, sharp_outcome}
use Rattle.rules.specs.Sheets.{bad_sheet, sheet_levels, sheet_indices, sheet_coords, sheet_outcome, cut_rooms, most_input, cut_outcome}
use Rattle.rules.specs.declared.Refusal.{Refusal}
use Rattle.rules.specs.declared.Counts.{Counts}
use Rattle.rules.specs.Outcome.{Outcome}
use Rattle.lists.proofs.Places.{lowest-none, lowest-all, lowest-same}
use Rattle.lists.proofs.Counting.{at_most}
use Rattle.rules.proofs.Refine.{Good}
use Rattle.rules.proofs.Faces.{one-corner}
use Rattle.rules.proofs.Walks.{not-long}
use Rattle.rules.proofs.Turns.{Corners, Turned, round, fringe, on-corners, back-corners}
use Rattle.rules.proofs.Checks.{check-none, not-not, shape_of, good-list, has-corner}
use Rattle.rules.proofs.Sound.{Sound}
use Rattle.rules.proofs.Levels.{level, faces_at, sound-level}
use Rattle.rules.proofs.Cage.{start, cage-turned, accepted}

-- ---- "every ring walk ends within the faces at that vertex"

-- how many faces have the vertex
abbrev pub faces_with : List ℕ → ℕ → ℕ
faces_with fs v = tally (λ f. has (corner fs (3 * f)) (corner fs (3 * f + 1)) (corner fs (3 * f + 2)) v) (count 0 (length fs / 3))

-- the walks of a ring of vertex u, by `next_face` from its start corner s and by `prev_face` from any corner e of it, in at most as many faces as have u
pub record Ending (fs : List ℕ) (u s : ℕ) : Type 0 where
  pub on : stop_of (walk (next_corner (links fs) s) (faces_with fs u) (here s)) ≢ long
  pub back : (e : ℕ) → e < length fs → corner fs e ≡ u → stop_of (walk (prev_corner (links fs) e) (faces_with fs u) (here e)) ≢ long

module _ (v n : ℕ) (fs : List ℕ) (g : Good v n fs) where
  -- corners of one vertex that differ lie in faces that differ
  few-at : (s : ℕ) (cs : List ℕ) → Corners n fs s cs → length cs ≤ faces_with fs (corner fs s)
  few-at s cs c =
      let a : length fs / 3 ≡ n = omega (arith, g.size) in
      rw a (at_most (λ i. get_or cs i 0 / 3) (length cs) (λ f. has (corner fs (3 * f)) (corner fs (3 * f + 1)) (corner fs (3 * f + 2)) (corner fs s)) n
      (record {
        below = λ i k. let b = c.below i k in omega arith;
        passes = λ i k. rw (c.at i k) at (has-corner fs n g.size (get_or cs i 0 / 3) (get_or cs i 0) refl);
        apart = λ i j k l e. c.apart i j k l (one-corner v n fs g (get_or cs i 0) (get_or cs j 0) (c.below i (omega arith)) (sym e) (c.at i (omega arith) ∙ sym (c.at j l)));
      }))

  on-ends : (s : ℕ) → s < 3 * n → stop_of (walk (next_corner (links fs) s) (faces_with fs (corner fs s)) (here s)) ≢ long
  on-ends s h = not-long (next_corner (links fs) s) (faces_with fs (corner fs s)) (here s) (λ m. few-at s _ (on-corners v n fs g s h m))

  back-ends : (s : ℕ) → s < 3 * n → stop_of (walk (prev_corner (links fs) s) (faces_with fs (corner fs s)) (here s)) ≢ long
  back-ends s h = not-long (prev_corner (links fs) s) (faces_with fs (corner fs s)) (here s) (λ m. few-at s _ (back-corners v n fs g s h m))

-- check 9
abbrev pub unused_in : ℕ → List ℕ → Option ℕ
unused_in v fs = lowest (λ u. not (found (find (eqb u) fs))) v

used-of : (v : ℕ) (fs : List ℕ) → unused_in v fs ≡ none → (u : ℕ) → u < v → T (found (find (eqb u) fs))
used-of v fs e u h = not-not (found (find (eqb u) fs)) (lowest-none (λ u. not (found (find (eqb u) fs))) v e u h)

-- of the control cage, "after checks 5 to 10"; 10 is not needed
pub rings-end : (v : ℕ) (fs : List ℕ) → length fs % 3 ≡ 0 → list_refusal v fs ≡ none → unused_in v fs ≡ none → (u : ℕ) → u < v → Ending fs u (last_corner fs u)
rings-end v fs m list nine u h =
    let g = good-list v fs m list in
    let s = start v (length fs / 3) fs g (used-of v fs nine) u h in
    record {
      on = rw s.at at (on-ends v (length fs / 3) fs g (last_corner fs u) (omega (arith, s.below)));
      back = λ e k q. rw q at (back-ends v (length fs / 3) fs g e (omega arith));
    }

-- of any sound mesh
pub sound-ends : (n : ℕ) (m : Mesh) → Sound n m → (u : ℕ) → u < m.verts → Ending m.faces u (get_or m.starts u 0)
sound-ends n m p u h =
    let g = p.good in
    record {
      on = rw (p.starts u h) at (on-ends m.verts n m.faces g (get_or m.starts u 0) (p.below u h));
      back = λ e k q. rw q at (back-ends m.verts n m.faces g e (omega (arith, g.size)));
    }

-- and so of every level of an accepted cage
pub levels-end : (𝓝 : Numbers) (l : ℕ) (fs : List ℕ) (xs : List 𝓝.N) → refusal 𝓝 l fs xs ≡ none → (k u : ℕ) → (let m = level k (cage (length xs / 3) fs) in
    u < m.verts → Ending m.faces u (get_or m.starts u 0))
levels-end 𝓝 l fs xs e k u h =
    let m = cage (length xs / 3) fs in
    sound-ends (faces_at k (length fs / 3)) (level k m) (sound-level k (length fs / 3) m (accepted 𝓝 l fs xs e).sound) u h

-- ---- the table as it was, with 11

abbrev is_endless : Fan → Bool
is_endless (inner cs) = false
is_endless (rim cs) = false
is_endless endless = true

abbrev parted_before : List ℕ → (ℕ → Fan) → ℕ → Bool
parted_before fs fans v = not (is_endless (fans v)) && ltb (length (corners (fans v))) (tally (eqb v) fs)

unfoldable pub fan_refusal_before : ℕ → List ℕ → Option Refusal
fan_refusal_before v fs =
    let fans = fans_of v fs in
    check 9 (unused_in v fs)
    or_else check 10 (lowest (parted_before fs fans) v)
    or_else check 11 (lowest (λ u. is_endless (fans u)) v)
    or_else check 12 (lowest (λ u. ltb most_valence (valence (fans u))) v)

module _ (𝓝 : Numbers) where
  unfoldable pub mesh_refusal_before : ℕ → List ℕ → List 𝓝.N → Option Refusal
  mesh_refusal_before l fs xs =
      let v = length xs / 3 in
      let fans = fan_refusal_before v fs in
      shape_refusal l (length fs) (length xs) or_else range_refusal 𝓝 xs or_else list_refusal v fs or_else fans

  unfoldable pub refusal_before : ℕ → List ℕ → List 𝓝.N → Option Refusal
  refusal_before l fs xs =
      let v = length xs / 3 in
      let fans = fan_refusal_before v fs in
      let size = size_refusal l v fs in
      shape_refusal l (length fs) (length xs) or_else range_refusal 𝓝 xs or_else list_refusal v fs or_else fans or_else size

  unfoldable pub sharp_refusal_before : ℕ → List ℕ → List ℕ → List 𝓝.N → Option Refusal
  sharp_refusal_before n l fs xs =
      let v = length xs / 3 in
      let fans = fan_refusal_before v fs in
      let marks = check 18 (told (find (unlinked (links fs)) l)) in
      let size = size_refusal n v fs in
      shape_refusal n (length fs) (length xs) or_else range_refusal 𝓝 xs or_else list_refusal v fs or_else fans or_else marks or_else size

-- ---- every answer is as before

or_same : (a b c : Option Refusal) → (a ≡ none → b ≡ c) → a or_else b ≡ a or_else c
or_same none b c h = h refl
or_same (some r) b c h = refl

kept : (n : ℕ) (fs : List ℕ) (s : ℕ) (f : Fan) → Turned n fs s f → (b : Bool) → (not (is_endless f) && b) ≡ b
kept n fs s _ (round cs r) b = refl
kept n fs s _ (fringe cs r) b = refl

not-endless : (n : ℕ) (fs : List ℕ) (s : ℕ) (f : Fan) → Turned n fs s f → T (not (is_endless f))
not-endless n fs s _ (round cs r) = tt
not-endless n fs s _ (fringe cs r) = tt

pub fans-as-before : (v : ℕ) (fs : List ℕ) → length fs % 3 ≡ 0 → list_refusal v fs ≡ none → fan_refusal_before v fs ≡ fan_refusal v fs
unfolding fan_refusal_before fan_refusal
fans-as-before v fs m list =
    or_same (check 9 (unused_in v fs)) _ _ (λ e.
    let n = length fs / 3 in
    let g = good-list v fs m list in
    let turn = cage-turned v n fs g (used-of v fs (check-none 9 (unused_in v fs) e)) in
    let eleven : lowest (λ u. is_endless (fans_of v fs u)) v ≡ none = lowest-all _ v (λ u h. not-endless n fs (last_corner fs u) (fans_of v fs u) (turn u h)) in
    let ten : lowest (parted_before fs (fans_of v fs)) v ≡ lowest (parted fs (fans_of v fs)) v = lowest-same _ _ v (λ u h. kept n fs (last_corner fs u) (fans_of v fs u) (turn u h) _) in
    rw (eleven, ten) refl)

module _ (𝓝 : Numbers) (l : ℕ) (fs : List ℕ) (xs : List 𝓝.N) where
  -- whatever comes after the fans
  in-chain : (rest : Option Refusal → Option Refusal) → (let v = length xs / 3 in
      shape_refusal l (length fs) (length xs) or_else range_refusal 𝓝 xs or_else list_refusal v fs or_else rest (fan_refusal_before v fs)
      ≡ shape_refusal l (length fs) (length xs) or_else range_refusal 𝓝 xs or_else list_refusal v fs or_else rest (fan_refusal v fs))
  in-chain rest =
      let v = length xs / 3 in
      or_same (shape_refusal l (length fs) (length xs)) _ _ (λ s.
      or_same (range_refusal 𝓝 xs) _ _ (λ r.
      or_same (list_refusal v fs) _ _ (λ e.
      ap rest (fans-as-before v fs (shape_of l (length fs) (length xs) s).indices e))))

  pub mesh-as-before : mesh_refusal_before 𝓝 l fs xs ≡ mesh_refusal 𝓝 l fs xs
  unfolding mesh_refusal_before mesh_refusal
  mesh-as-before = in-chain (λ fans. fans)

  pub as_before : refusal_before 𝓝 l fs xs ≡ refusal 𝓝 l fs xs
  unfolding refusal_before refusal
  as_before = in-chain (λ fans. fans or_else size_refusal l (length xs / 3) fs)

  pub sharp-as-before : (sharp : List ℕ) → sharp_refusal_before 𝓝 l sharp fs xs ≡ sharp_refusal 𝓝 l sharp fs xs
  unfolding sharp_refusal_before sharp_refusal
  sharp-as-before sharp = in-chain (λ fans. fans or_else check 18 (told (find (unlinked (links fs)) sharp)) or_else size_refusal l (length xs / 3) fs)

  -- and so is each outcome, which says what is left in every buffer
  pub outcome-as-before : (rooms : Counts → List Room) → (let c = counted (last 𝓝 l fs xs).mesh in
      unless (refusal_before 𝓝 l fs xs or_else check 14 (short_of (rooms c))) (Ok c) ≡ outcome 𝓝 rooms l fs xs)
  unfolding outcome
  outcome-as-before rooms =
      let c = counted (last 𝓝 l fs xs).mesh in
      ap {B = Outcome} (λ (z : Option Refusal). unless (z or_else check 14 (short_of (rooms c))) (Ok c)) as_before

  pub sharp-outcome-as-before : (rooms : Counts → List Room) (sharp : List ℕ) → (let c = counted (sharp_last 𝓝 l sharp fs xs).mesh in
      unless (sharp_refusal_before 𝓝 l sharp fs xs or_else check 14 (short_of (rooms c))) (Ok c) ≡ sharp_outcome 𝓝 rooms l sharp fs xs)
  unfolding sharp_outcome
  sharp-outcome-as-before rooms sharp =
      let c = counted (sharp_last 𝓝 l sharp fs xs).mesh in
      ap {B = Outcome} (λ (z : Option Refusal). unless (z or_else check 14 (short_of (rooms c))) (Ok c)) (sharp-as-before sharp)

-- ---- no answer is 11

abbrev pub Never : Option Refusal → Type 0
Never o = (r : Refusal) → o ≡ some r → r.number ≢ 11

pub never-or : (a b : Option Refusal) → Never a → Never b → Never (a or_else b)
never-or none b p q r e = q r e
never-or (some x) b p q r e = p r e

pub never-check : (k : ℕ) (o : Option ℕ) → T (not (eqb k 11)) → Never (check k o)
never-check k none h r e q = let z : ◌≡◌ {A = ℕ} 0 1 = cc in omega arith
never-check k (some i) h r e q =
    let z : ◌≡◌ {A = Refusal} (record { number = k; place = i }) r = cc in
    T_not (eqb k 11) h (eq→eqb (ap (λ (x : Refusal). x.number) z ∙ q))

never-shape : (l is cs : ℕ) → Never (shape_refusal l is cs)
unfolding shape_refusal
never-shape l is cs =
    let one = when (ltb most_levels l) in
    let two = either (not (eqb (is % 3) 0)) (not (eqb (cs % 3) 0)) in
    let three = either (ltb most_in_cage (is / 3)) (ltb most_in_cage (cs / 3)) in
    never-or (check 1 one) (check 2 two or_else check 3 three) (never-check 1 one tt) (never-or (check 2 two) (check 3 three) (never-check 2 two tt) (never-check 3 three tt))

never-range : (𝓝 : Numbers) (xs : List 𝓝.N) → Never (range_refusal 𝓝 xs)
unfolding range_refusal
never-range 𝓝 xs = never-check 4 (find (λ x. not (𝓝.allowed x)) xs) tt

never-list : (v : ℕ) (fs : List ℕ) → Never (list_refusal v fs)
unfolding list_refusal
never-list v fs =
    let n = length fs / 3 in
    let five = find (λ u. leb v u) fs in
    let six = lowest (equal_corners fs) n in
    let seven = lowest (used_before (sides fs)) (3 * n) in
    let eight = lowest (λ f. found (lowest (same_set fs f) f)) n in
    never-or (check 5 five) (check 6 six or_else check 7 seven or_else check 8 eight) (never-check 5 five tt)
    (never-or (check 6 six) (check 7 seven or_else check 8 eight) (never-check 6 six tt)
    (never-or (check 7 seven) (check 8 eight) (never-check 7 seven tt) (never-check 8 eight tt)))

never-fans : (v : ℕ) (fs : List ℕ) → Never (fan_refusal v fs)
unfolding fan_refusal
never-fans v fs =
    let nine = unused_in v fs in
    let ten = lowest (parted fs (fans_of v fs)) v in
    let twelve = lowest (λ u. ltb most_valence (valence (fans_of v fs u))) v in
    never-or (check 9 nine) (check 10 ten or_else check 12 twelve) (never-check 9 nine tt) (never-or (check 10 ten) (check 12 twelve) (never-check 10 ten tt) (never-check 12 twelve tt))

never-size : (l v : ℕ) (fs : List ℕ) → Never (size_refusal l v fs)
unfolding size_refusal
never-size l v fs = never-check 13 (when (too_large (after l (sizes (cage v fs))))) tt

-- the number that the answer of an outcome begins with
never-unless : (a : Option Refusal) (o : Outcome) → Never a → get_or (answer o) 0 0 ≢ 11 → get_or (answer (unless a o)) 0 0 ≢ 11
never-unless none o p q = q
never-unless (some r) o p q = p r refl

module _ (𝓝 : Numbers) (l : ℕ) (fs : List ℕ) (xs : List 𝓝.N) where
  never-chain : (rest : Option Refusal) → Never rest → Never (shape_refusal l (length fs) (length xs) or_else range_refusal 𝓝 xs or_else list_refusal (length xs / 3) fs or_else rest)
  never-chain rest p =
      let a = shape_refusal l (length fs) (length xs) in
      let b = range_refusal 𝓝 xs in
      let c = list_refusal (length xs / 3) fs in
      never-or a (b or_else c or_else rest) (never-shape l (length fs) (length xs)) (never-or b (c or_else rest) (never-range 𝓝 xs) (never-or c rest (never-list (length xs / 3) fs) p))

  pub mesh-never-eleven : Never (mesh_refusal 𝓝 l fs xs)
  unfolding mesh_refusal
  mesh-never-eleven = never-chain (fan_refusal (length xs / 3) fs) (never-fans (length xs / 3) fs)

  pub never-eleven : Never (refusal 𝓝 l fs xs)
  unfolding refusal
  never-eleven =
      let v = length xs / 3 in
      let fans = fan_refusal v fs in
      let size = size_refusal l v fs in
      never-chain (fans or_else size) (never-or fans size (never-fans v fs) (never-size l v fs))

  pub sharp-never-eleven : (sharp : List ℕ) → Never (sharp_refusal 𝓝 l sharp fs xs)
  unfolding sharp_refusal
  sharp-never-eleven sharp =
      let v = length xs / 3 in
      let fans = fan_refusal v fs in
      let listed = told (find (unlinked (links fs)) sharp) in
      let marks = check 18 listed in
      let size = size_refusal l v fs in
      never-chain (fans or_else marks or_else size) (never-or fans (marks or_else size) (never-fans v fs) (never-or marks size (never-check 18 listed tt) (never-size l v fs)))

  pub outcome-never-eleven : (rooms : Counts → List Room) → get_or (answer (outcome 𝓝 rooms l fs xs)) 0 0 ≢ 11
  unfolding outcome
  outcome-never-eleven rooms =
      let c = counted (last 𝓝 l fs xs).mesh in
      let short = short_of (rooms c) in
      never-unless (refusal 𝓝 l fs xs or_else check 14 short) (Ok c) (never-or (refusal 𝓝 l fs xs) (check 14 short) never-eleven (never-check 14 short tt)) (λ e. omega arith)

  pub sharp-outcome-never-eleven : (rooms : Counts → List Room) (sharp : List ℕ) → get_or (answer (sharp_outcome 𝓝 rooms l sharp fs xs)) 0 0 ≢ 11
  unfolding sharp_outcome
  sharp-outcome-never-eleven rooms sharp =
      let c = counted (sharp_last 𝓝 l sharp fs xs).mesh in
      let short = short_of (rooms c) in
      let all = sharp_refusal 𝓝 l sharp fs xs in
      never-unless (all or_else check 14 short) (Ok c) (never-or all (check 14 short) (sharp-never-eleven sharp) (never-check 14 short tt)) (λ e. omega arith)

pub sheet-never-eleven : (rooms : Counts → List Room) (b : List ℕ) → get_or (answer (sheet_outcome rooms b)) 0 0 ≢ 11
unfolding sheet_outcome
sheet-never-eleven rooms b =
    let bad = when (bad_sheet b) in
    never-unless (check 15 bad) (outcome whole rooms (sheet_levels b) (sheet_indices b) (sheet_coords b)) (never-check 15 bad tt)
    (outcome-never-eleven whole (sheet_levels b) (sheet_indices b) (sheet_coords b) rooms)

pub cut-never-eleven : (b : List ℕ) → get_or (answer (cut_outcome b)) 0 0 ≢ 11
unfolding cut_outcome
cut-never-eleven b =
    let over = when (ltb most_input (length b)) in
    never-unless (check 16 over) (sheet_outcome cut_rooms b) (never-check 16 over tt) (sheet-never-eleven cut_rooms b)
