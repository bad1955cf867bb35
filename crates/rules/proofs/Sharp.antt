-- Request 6: with marks the whole engine stays as near to the exact limit as without; and with none it gives what it gave before.
use mathlib.Core.Path.{◌≡◌, refl, ap, ◌∙◌}
use Prim.Native.Nat.{ℕ, zero, suc, ◌+◌, ◌*◌, ◌/◌, zero-le, suc-le-suc}
use native.Mathlib.Omega.{arith}
use mathlib.Core.Bool.{Bool, false}
use mathlib.Core.List.{List, [], ◌∷◌, ◌++◌, map}
use mathlib.Core.Option.{Option, none, some}
use lib.ListN.{length, get_or, length-map}
use lib.IntN.{ℤ, pos}
use Rattle.lists.specs.Lists.{pick, count, keep, gather}
use Rattle.lists.proofs.Places.{length-count, length-gather}
use Rattle.lists.proofs.Pairs.{Pairs, nil, cons, pairs-at, pairs-append, pairs-map, pairs-gather}
use Rattle.whole.specs.Whole.{nearest}
use Rattle.whole.specs.Fraction.{of_whole, Within}
use Rattle.whole.proofs.Rounding.{Rounds}
use Rattle.whole.proofs.Half.{nearest-rounds}
use Rattle.whole.proofs.Nearness.{Close, within, close-zero}
use Rattle.rules.specs.Mesh.{onward, backward, corner, links, Fan, inner, rim, fan, ring, Mesh, cage, firsts, refined}
use Rattle.rules.specs.Position.{Stage, refining, limit, ring_rule, rim_rule, Numbers, whole, whole_by, exact}
use Rattle.rules.specs.Levels.{coord, three, blended, moved, edge_at, new_positions, limits, finer, levels, last, positions, Level}
use Rattle.rules.specs.Refusals.{Room, refusal}
use Rattle.rules.specs.Answers.{outcome, written}
use Rattle.rules.specs.Calls.{Lent, Buffers, whole_room, SharpCall, WholeCall}
use Rattle.rules.specs.declared.Counts.{Counts}
use Rattle.rules.specs.Outcome.{Outcome}
use Rattle.rules.specs.Sharp.{sharp, names, names_across, marks_of, twelve_marks, marks_by, finer_marks, creases, by_creases, creased, sharp_moved, sharp_edge, sharp_new, sharp_limits, SharpLevel, sharp_finer, sharp_levels, sharp_last, sharp_positions, sharp_exact, sharp_refusal, sharp_outcome}
use Rattle.rules.proofs.Weights.{ring-adds-up, rim-adds-up}
use Rattle.rules.proofs.Related.{Filled, round, fringe, lost, filled, Keeps, at, of_three, of-edge}
use Rattle.rules.proofs.Bound.{keeps-close, control, close-as}

-- ---- two kinds of number on one mesh with one set of marks

module _ (𝓝 𝓜 : Numbers) (R : ℕ → 𝓝.N → 𝓜.N → Type 0) (K : Keeps 𝓝 𝓜 R) where
  module _ (e : ℕ) (xs : List 𝓝.N) (ys : List 𝓜.N) (p : Pairs (R e) xs ys) where
    -- the ring rule over a ring that is not empty
    by-ring : (s : Stage) (v u : ℕ) (vs : List ℕ) (c : ℕ)
        → R (suc e) (𝓝.blend (ring_rule s (length (u ∷ vs))) (coord 𝓝 xs c v) (map (coord 𝓝 xs c) (u ∷ vs))) (𝓜.blend (ring_rule s (length (u ∷ vs))) (coord 𝓜 ys c v) (map (coord 𝓜 ys c) (u ∷ vs)))
    by-ring s v u vs c =
        K.blend (ring_rule s (length (u ∷ vs))) (rw (length-map (u ∷ vs) (coord 𝓝 xs c)) (ring-adds-up s (suc (length vs)) (suc-le-suc zero-le)))
        (at 𝓝 𝓜 R K e xs ys p c v) (pairs-map (R e) (coord 𝓝 xs c) (coord 𝓜 ys c) (at 𝓝 𝓜 R K e xs ys p c) (u ∷ vs))

    of-creases : (s : Stage) (v u : ℕ) (vs es : List ℕ) (c : ℕ) → R (suc e) (by_creases 𝓝 s xs v (u ∷ vs) es c) (by_creases 𝓜 s ys v (u ∷ vs) es c)
    of-creases s v u vs [] c = by-ring s v u vs c
    of-creases s v u vs (a ∷ []) c = by-ring s v u vs c
    of-creases s v u vs (a ∷ b ∷ []) c =
        let h = at 𝓝 𝓜 R K e xs ys p c in
        K.blend (rim_rule s) (rim-adds-up s) (h v) (cons (h a) (cons (h b) nil))
    of-creases s v u vs (a ∷ b ∷ d ∷ es) c = K.more (at 𝓝 𝓜 R K e xs ys p c v)

    of-creased : (s : Stage) (fs : List ℕ) (ms : List Bool) (v : ℕ) (f : Fan) → Filled f → (c : ℕ) → R (suc e) (creased 𝓝 s fs ms xs v f c) (creased 𝓜 s fs ms ys v f c)
    of-creased s fs ms v _ (round {x} {cs}) c = of-creases s v (corner fs (onward x)) (map (λ d. corner fs (onward d)) cs) (creases fs ms (inner (x ∷ cs))) c
    of-creased s fs ms v _ (fringe {x} {cs}) c = of-creases s v (corner fs (onward x)) (map (λ d. corner fs (backward d)) (x ∷ cs)) (creases fs ms (rim (x ∷ cs))) c
    of-creased s fs ms v _ lost c = K.more (at 𝓝 𝓜 R K e xs ys p c v)

    pub related-sharp-moved : (s : Stage) (m : Mesh) (ls : List (Option ℕ)) (ms : List Bool) (v : ℕ) → Pairs (R (suc e)) (sharp_moved 𝓝 s m ls ms xs v) (sharp_moved 𝓜 s m ls ms ys v)
    unfolding sharp_moved
    related-sharp-moved s m ls ms v =
        let f = fan ls (get_or m.starts v 0) in
        of_three 𝓝 𝓜 R K e xs ys p _ _ (of-creased s m.faces ms v f (filled ls (get_or m.starts v 0)))

    pub related-sharp-new : (m : Mesh) (ls : List (Option ℕ)) (ms : List Bool) → Pairs (R (suc e)) (sharp_new 𝓝 m ls ms xs) (sharp_new 𝓜 m ls ms ys)
    unfolding sharp_new
    related-sharp-new m ls ms =
        pairs-append (R (suc e))
        (pairs-gather (R (suc e)) (sharp_moved 𝓝 refining m ls ms xs) (sharp_moved 𝓜 refining m ls ms ys) (related-sharp-moved refining m ls ms) (count 0 m.verts))
        (pairs-gather (R (suc e)) _ _ (λ s. of_three 𝓝 𝓜 R K e xs ys p _ _ (of-edge 𝓝 𝓜 R K e xs ys p m.faces s (pick (sharp ms s) none (get_or ls s none)))) (firsts ls))

    pub related-sharp-limits : (m : Mesh) (ls : List (Option ℕ)) (ms : List Bool) → Pairs (R (suc e)) (sharp_limits 𝓝 m ls ms xs) (sharp_limits 𝓜 m ls ms ys)
    unfolding sharp_limits
    related-sharp-limits m ls ms = pairs-gather (R (suc e)) (sharp_moved 𝓝 limit m ls ms xs) (sharp_moved 𝓜 limit m ls ms ys) (related-sharp-moved limit m ls ms) (count 0 m.verts)

  -- all levels, and the limit on the last
  pub related-sharp : (n e : ℕ) (m : Mesh) (ms : List Bool) (xs : List 𝓝.N) (ys : List 𝓜.N) → Pairs (R e) xs ys
      → Pairs (R (suc (e + n))) (sharp_positions 𝓝 (sharp_levels 𝓝 n (record { mesh = m; marks = ms; points = xs }))) (sharp_positions 𝓜 (sharp_levels 𝓜 n (record { mesh = m; marks = ms; points = ys })))
  unfolding sharp_levels sharp_finer sharp_positions
  related-sharp zero e m ms xs ys p = let a : e + 0 ≡ e = omega arith in rw a (related-sharp-limits e xs ys p m (links m.faces) ms)
  related-sharp (suc n) e m ms xs ys p =
      let ls = links m.faces in
      let a : e + suc n ≡ suc e + n = omega arith in
      rw a (related-sharp n (suc e) (refined m ls) (finer_marks (length m.faces / 3) ms) (sharp_new 𝓝 m ls ms xs) (sharp_new 𝓜 m ls ms ys) (related-sharp-new e xs ys p m ls ms))

-- ---- demand 3, with marks

pub sharp-bound-by : (by : ℤ → ℕ → ℤ) → Rounds by → (n : ℕ) (l fs : List ℕ) (xs : List ℤ) (c v : ℕ)
    → Within (n + 1) (coord (whole_by by) (sharp_positions (whole_by by) (sharp_last (whole_by by) n l fs xs)) c v) (coord exact (sharp_exact n l fs xs) c v)
sharp-bound-by by N n l fs xs c v =
    let p = related-sharp (whole_by by) exact Close (keeps-close by N) n 0 (cage (length xs / 3) fs) (marks_of (links fs) l) xs (map of_whole xs) (control xs) in
    rw (length-map xs of_whole) (within (close-as (omega arith) (pairs-at (Close (suc (0 + n))) (pos 0) (of_whole (pos 0)) close-zero p (3 * v + c))))

pub sharp-demand-3 : (n : ℕ) (l fs : List ℕ) (xs : List ℤ) (c v : ℕ) → Within (n + 1) (coord whole (sharp_positions whole (sharp_last whole n l fs xs)) c v) (coord exact (sharp_exact n l fs xs) c v)
sharp-demand-3 = sharp-bound-by nearest nearest-rounds

-- ---- "With no marks the results are those of before"

pub record Smooth (ms : List Bool) : Type 0 where
  pub at : (s : ℕ) → sharp ms s ≡ false

data Nil : List Bool → Type 0 where
  done : Nil []
  next : {ms : List Bool} → Nil ms → Nil (false ∷ ms)

nil-at : {ms : List Bool} → Nil ms → (s : ℕ) → get_or ms s false ≡ false
nil-at done s = refl
nil-at (next h) zero = refl
nil-at (next h) (suc s) = nil-at h s

nil-append : {ms ks : List Bool} → Nil ms → Nil ks → Nil (ms ++ ks)
nil-append done k = k
nil-append (next h) k = next (nil-append h k)

nil-gather : (f : ℕ → List Bool) → ((x : ℕ) → Nil (f x)) → (l : List ℕ) → Nil (gather f l)
nil-gather f h [] = done
nil-gather f h (x ∷ l) = nil-append (h x) (nil-gather f h l)

twelve : Nil (twelve_marks false false false)
twelve = next (next (next (next (next (next (next (next (next (next (next (next done)))))))))))

smooth-finer : (n : ℕ) (ms : List Bool) → Smooth ms → Smooth (finer_marks n ms)
unfolding finer_marks
smooth-finer n ms h =
    record {
      at = nil-at (nil-gather (marks_by ms) (λ f. rw (h.at (3 * f), h.at (3 * f + 1), h.at (3 * f + 2)) twelve) (count 0 n));
    }

none-across : (o : Option ℕ) → names_across [] o ≡ false
none-across none = refl
none-across (some t) = refl

nil-map : (f : ℕ → Bool) → ((x : ℕ) → f x ≡ false) → (l : List ℕ) → Nil (map f l)
nil-map f h [] = done
nil-map f h (x ∷ l) = rw (h x) (next (nil-map f h l))

smooth-none : (ls : List (Option ℕ)) → Smooth (marks_of ls [])
unfolding marks_of
smooth-none ls = record { at = nil-at (nil-map _ (λ s. none-across (get_or ls s none)) (count 0 (length ls))) }

keep-none : (p : ℕ → Bool) → ((s : ℕ) → p s ≡ false) → (l : List ℕ) → keep p l ≡ []
keep-none p h [] = refl
keep-none p h (x ∷ l) = rw (h x) (keep-none p h l)

module _ (𝓝 : Numbers) (ms : List Bool) (h : Smooth ms) where
  creased-smooth : (p : Stage) (fs : List ℕ) (xs : List 𝓝.N) (v : ℕ) (f : Fan) → Filled f → (c : ℕ) → creased 𝓝 p fs ms xs v f c ≡ blended 𝓝 p fs xs v f c
  creased-smooth p fs xs v _ (round {x} {cs}) c =
      let vs = ring fs (inner (x ∷ cs)) in
      rw (keep-none (sharp ms) h.at (x ∷ cs))
      (ap (λ (n : ℕ). 𝓝.blend (ring_rule p n) (coord 𝓝 xs c v) (map (coord 𝓝 xs c) vs)) (length-map (x ∷ cs) (λ s. corner fs (onward s))))
  creased-smooth p fs xs v _ (fringe {x} {cs}) c = rw (keep-none (λ s. sharp ms (backward s)) (λ s. h.at (backward s)) (x ∷ cs))
  creased-smooth p fs xs v _ lost c = refl

  moved-smooth : (p : Stage) (m : Mesh) (ls : List (Option ℕ)) (xs : List 𝓝.N) (v : ℕ) → sharp_moved 𝓝 p m ls ms xs v ≡ moved 𝓝 p m ls xs v
  unfolding sharp_moved moved
  moved-smooth p m ls xs v =
      let s = get_or m.starts v 0 in
      let e = creased-smooth p m.faces xs v (fan ls s) (filled ls s) in
      rw (e 0, e 1, e 2)

  gather-same : (f g : ℕ → List 𝓝.N) → ((x : ℕ) → f x ≡ g x) → (l : List ℕ) → gather f l ≡ gather g l
  gather-same f g e [] = refl
  gather-same f g e (x ∷ l) = rw (e x, gather-same f g e l)

  pub new-smooth : (m : Mesh) (ls : List (Option ℕ)) (xs : List 𝓝.N) → sharp_new 𝓝 m ls ms xs ≡ new_positions 𝓝 m ls xs
  unfolding sharp_new new_positions
  new-smooth m ls xs =
      rw (
        gather-same _ _ (moved-smooth refining m ls xs) (count 0 m.verts),
        gather-same (λ s. three 𝓝 (sharp_edge 𝓝 m.faces xs s (sharp ms s) (get_or ls s none))) (λ s. three 𝓝 (edge_at 𝓝 m.faces xs s (get_or ls s none)))
            (λ s. rw (h.at s)) (firsts ls),
      )

  pub limits-smooth : (m : Mesh) (ls : List (Option ℕ)) (xs : List 𝓝.N) → sharp_limits 𝓝 m ls ms xs ≡ limits 𝓝 m ls xs
  unfolding sharp_limits limits
  limits-smooth m ls xs = gather-same _ _ (moved-smooth limit m ls xs) (count 0 m.verts)

-- what a level has beside its marks
abbrev pub plain : (𝓝 : Numbers) → SharpLevel 𝓝 → Level 𝓝
plain 𝓝 a = record { mesh = a.mesh; points = a.points }

module _ (𝓝 : Numbers) where
  pub levels-smooth : (n : ℕ) (m : Mesh) (ms : List Bool) (xs : List 𝓝.N) → Smooth ms
      → (plain 𝓝 (sharp_levels 𝓝 n (record { mesh = m; marks = ms; points = xs })) ≡ levels 𝓝 n (record { mesh = m; points = xs })) × Smooth (sharp_levels 𝓝 n (record { mesh = m; marks = ms; points = xs })).marks
  unfolding sharp_levels sharp_finer levels finer
  levels-smooth zero m ms xs h = (refl, h)
  levels-smooth (suc n) m ms xs h =
      let ls = links m.faces in
      let k = length m.faces / 3 in
      rw (← new-smooth 𝓝 ms h m ls xs) (levels-smooth n (refined m ls) (finer_marks k ms) (sharp_new 𝓝 m ls ms xs) (smooth-finer k ms h))

  -- the level, its limit positions, the refusal and the outcome
  pub no-marks : (n : ℕ) (fs : List ℕ) (xs : List 𝓝.N) → plain 𝓝 (sharp_last 𝓝 n [] fs xs) ≡ last 𝓝 n fs xs
  no-marks n fs xs = (levels-smooth n (cage (length xs / 3) fs) (marks_of (links fs) []) xs (smooth-none (links fs))).0

  pub no-marks-positions : (n : ℕ) (fs : List ℕ) (xs : List 𝓝.N) → sharp_positions 𝓝 (sharp_last 𝓝 n [] fs xs) ≡ positions 𝓝 (last 𝓝 n fs xs)
  unfolding sharp_positions positions
  no-marks-positions n fs xs =
      let r = levels-smooth n (cage (length xs / 3) fs) (marks_of (links fs) []) xs (smooth-none (links fs)) in
      let a = sharp_last 𝓝 n [] fs xs in
      limits-smooth 𝓝 a.marks r.1 a.mesh (links a.mesh.faces) a.points
      ∙ ap (λ (b : Level 𝓝). limits 𝓝 b.mesh (links b.mesh.faces) b.points) r.0

  pub no-marks-refusal : (n : ℕ) (fs : List ℕ) (xs : List 𝓝.N) → sharp_refusal 𝓝 n [] fs xs ≡ refusal 𝓝 n fs xs
  unfolding sharp_refusal refusal
  no-marks-refusal n fs xs = refl

  pub no-marks-outcome : (rooms : Counts → List Room) (n : ℕ) (fs : List ℕ) (xs : List 𝓝.N) → sharp_outcome 𝓝 rooms n [] fs xs ≡ outcome 𝓝 rooms n fs xs
  unfolding sharp_outcome outcome
  no-marks-outcome rooms n fs xs = rw (no-marks-refusal n fs xs, ap (λ (b : Level 𝓝). b.mesh) (no-marks n fs xs))

-- the promise of a call that lists no side is the promise of before
pub no-marks-call : (l : ℕ) (fs : List ℕ) (xs : List ℤ) (b : Lent (Buffers ℤ)) (r : Outcome) → SharpCall l [] fs xs b r → WholeCall l fs xs b r
no-marks-call l fs xs b r c =
    record {
      answer = c.answer ∙ no-marks-outcome whole (whole_room b.old) l fs xs;
      positions = c.positions ∙ ap {B = List ℤ} (λ ps. written r ps b.old.positions) (no-marks-positions whole l fs xs);
      indices = c.indices;
      words = c.words;
      work = c.work;
    }

-- ---- marks move no face and no count

module _ (𝓝 : Numbers) where
  mesh-levels : (n : ℕ) (m : Mesh) (ms : List Bool) (xs ys : List 𝓝.N)
      → (sharp_levels 𝓝 n (record { mesh = m; marks = ms; points = xs })).mesh ≡ (levels 𝓝 n (record { mesh = m; points = ys })).mesh
  unfolding sharp_levels sharp_finer levels finer
  mesh-levels zero m ms xs ys = refl
  mesh-levels (suc n) m ms xs ys = let ls = links m.faces in mesh-levels n (refined m ls) _ _ _

  pub sharp-mesh : (n : ℕ) (l fs : List ℕ) (xs : List 𝓝.N) → (sharp_last 𝓝 n l fs xs).mesh ≡ (last 𝓝 n fs xs).mesh
  sharp-mesh n l fs xs = mesh-levels n (cage (length xs / 3) fs) (marks_of (links fs) l) xs xs

-- three coordinates to a vertex
pub length-sharp-positions : (𝓝 : Numbers) (a : SharpLevel 𝓝) → length (sharp_positions 𝓝 a) ≡ 3 * a.mesh.verts
unfolding sharp_positions sharp_limits sharp_moved
length-sharp-positions 𝓝 a =
    length-gather (sharp_moved 𝓝 limit a.mesh (links a.mesh.faces) a.marks a.points) 3 (λ v. refl) (count 0 a.mesh.verts)
    ∙ ap (λ (z : ℕ). 3 * z) (length-count 0 a.mesh.verts)

-- ---- "The list may name a side twice to no effect": a list is what it names

names_same : (l k : List ℕ) → ((s : ℕ) → names l s ≡ names k s) → (o : Option ℕ) → names_across l o ≡ names_across k o
names_same l k h none = refl
names_same l k h (some t) = h t

map_same : (f g : ℕ → Bool) → ((x : ℕ) → f x ≡ g x) → (l : List ℕ) → map f l ≡ map g l
map_same f g h [] = refl
map_same f g h (x ∷ l) = rw (h x, map_same f g h l)

pub same_names : (ls : List (Option ℕ)) (l k : List ℕ) → ((s : ℕ) → names l s ≡ names k s) → marks_of ls l ≡ marks_of ls k
unfolding marks_of
same_names ls l k h = map_same _ _ (λ s. rw (h s, names_same l k h (get_or ls s none))) (count 0 (length ls))
