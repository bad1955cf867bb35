-- One passage round a vertex gathers its ring: on from the start, and on the rim what was gathered is turned over and the passage goes on backwards from the start.
use mathlib.Core.Path.{◌≡◌, refl, sym, ap, ap₂, ◌∙◌}
use Prim.Native.Nat.{ℕ, zero, suc, ◌+◌, ◌-◌, ◌*◌, ◌/◌, ◌≤◌, ◌<◌}
use native.Mathlib.Omega.{arith}
use mathlib.Core.List.{List, [], ◌∷◌, ◌++◌}
use mathlib.Core.Option.{Option}
use mathlib.Core.Logic.{inr}
use native.Mathlib.Decide.{dec_lt}
use lib.ListN.{length, get_or, length-append}
use lib.Seq.{sets, length-sets, ext_get_or}
use Rattle.lists.specs.Lists.{last_of, part}
use Rattle.lists.proofs.Stores.{get_d_part, get_or-within, get_or-outside}
use Rattle.turns.specs.Turns.{most_valence}
use Rattle.rules.specs.Mesh as mesh
use Rattle.rules.specs.Mesh.{onward, backward, corner, home, off, here, Stop, closed, ended, long, walk, passed, stop_of, next_corner, prev_corner, rim, fan, valence, ring}
use Rattle.rules.proofs.Sides.{on_below}
use Rattle.rules.proofs.Refine.{back_below}
use Rattle.rules.proofs.Walks.{trail}
use Rattle.faces.specs.Words.{links_in}
use Rattle.faces.specs.Rings.{Ringable, Ends, trip_by, trip_of, inners, backs, down_from}
use Rattle.faces.specs.declared.walks.Trip.TheVariants as trip
use Rattle.faces.proofs.Links.{get_or-links_in}
use Rattle.faces.proofs.Trips.{first-passed}
use Rattle.faces.proofs.Trails.{some-passed, faces-in, filled, next-trail, IsRim, inner-is, rim-is, long-is, inner-ends}
use Rattle.faces.proofs.Retrace.{back-trail, back-stop, came-by, length-down, down-same, ring-turned}

-- a walk passes no more than it may
trail-few : (next : ℕ → mesh.Step) (n : ℕ) (st : mesh.Step) → length (trail next n st) ≤ n
trail-few next zero home = omega arith
trail-few next zero off = omega arith
trail-few next zero (here s) = omega arith
trail-few next (suc n) home = omega arith
trail-few next (suc n) off = omega arith
trail-few next (suc n) (here s) = let h = trail-few next n (next s) in omega arith

backs-append : (fs cs ds : List ℕ) → backs fs (cs ++ ds) ≡ backs fs cs ++ backs fs ds
backs-append fs [] ds = refl
backs-append fs (c ∷ cs) ds = ap (λ (l : List ℕ). corner fs (backward c) ∷ l) (backs-append fs cs ds)

append-one : (xs ys : List ℕ) (y : ℕ) → (xs ++ (y ∷ [])) ++ ys ≡ xs ++ (y ∷ ys)
append-one [] ys y = refl
append-one (x ∷ xs) ys y = ap (λ (l : List ℕ). x ∷ l) (append-one xs ys y)

-- ---- where the walk on runs off the rim, after the corners `on`

pub record Turned (w : List ℕ) (corners links n s k e : ℕ) : Type 0 where
  pub some : 0 < k
  pub few : k ≤ n
  pub back : Ends (prev_corner (links_in w links (3 * n)) e) (n + 1 - k) s (most_valence - k)
  pub fits : k < most_valence
  pub ring :
      ring (part corners (3 * n) w) (fan (links_in w links (3 * n)) s) ≡
      down_from (inners (part corners (3 * n) w) (trail (next_corner (links_in w links (3 * n)) s) n (here s))) (k - 1) ++
      backs (part corners (3 * n) w) (passed (walk (prev_corner (links_in w links (3 * n)) e) (n + 1 - k) (here s)))

module _ (w : List ℕ) (corners links n s : ℕ) (p : Ringable w corners links n s) (ends : stop_of (walk (next_corner (links_in w links (3 * n)) s) n (here s)) ≡ ended) where
  abbrev ls : List (Option ℕ)
  ls = links_in w links (3 * n)

  abbrev fs : List ℕ
  fs = part corners (3 * n) w

  abbrev on : List ℕ
  on = trail (next_corner ls s) n (here s)

  size : length ls / 3 ≡ n
  size = faces-in w links n s p.walkable

  pub passes : 0 < length on
  passes = some-passed (next_corner ls s) n s (filled w links n s p.walkable)

  short : length on ≤ n
  short = trail-few (next_corner ls s) n (here s)

  pub as-rim : IsRim ls n s (last_of 0 on)
  as-rim = rim-is ls n s size p.turns (length on) (last_of 0 on) (rw ends)

  abbrev rest : List ℕ
  rest = passed (walk (prev_corner ls (last_of 0 on)) (n - length on) (prev_corner ls (last_of 0 on) s))

  fuel : n ≡ suc (n - length on + (length on - 1))
  fuel = omega (arith, passes, short)

  pub again : n + 1 - length on ≡ suc (n - length on)
  again = omega (arith, passes, short)

  pub begins : get_or on 0 0 ≡ s
  begins = first-passed (next_corner ls s) n s (filled w links n s p.walkable)

  pub whole-fan : trail (prev_corner ls (last_of 0 on)) n (here (last_of 0 on)) ≡ down_from on (length on - 1) ++ rest
  whole-fan =
      ap (λ (z : ℕ). trail (prev_corner ls (last_of 0 on)) z (here (last_of 0 on))) fuel
      ∙ back-trail ls p.leads n s ends (n - length on) passes
      ∙ ap (λ (z : ℕ). down_from on (length on - 1) ++ passed (walk (prev_corner ls (last_of 0 on)) (n - length on) (prev_corner ls (last_of 0 on) z))) begins

  whole-stop : stop_of (walk (prev_corner ls (last_of 0 on)) n (here (last_of 0 on))) ≡ stop_of (walk (prev_corner ls (last_of 0 on)) (n - length on) (prev_corner ls (last_of 0 on) s))
  whole-stop =
      ap (λ (z : ℕ). stop_of (walk (prev_corner ls (last_of 0 on)) z (here (last_of 0 on)))) fuel
      ∙ back-stop ls p.leads n s ends (n - length on) passes
      ∙ ap (λ (z : ℕ). stop_of (walk (prev_corner ls (last_of 0 on)) (n - length on) (prev_corner ls (last_of 0 on) z))) begins

  -- `few` of the fan, counted
  counted : suc (length on + length rest) ≤ most_valence
  counted =
      let a : valence (fan ls s) ≡ suc (length on + length rest) =
      ap valence as-rim.is ∙ ap (λ (l : List ℕ). suc (length l)) whole-fan
      ∙ ap suc (length-append (down_from on (length on - 1)) rest ∙ (let q = length-down on (length on - 1) in omega (arith, q, passes))) in
      rw a at p.few

  mates : (i : ℕ) → i < length on - 1 → corner fs (backward (get_or on (suc i) 0)) ≡ corner fs (onward (get_or on i 0))
  mates i h =
      let x = get_or on i 0 in
      let y = backward (get_or on (suc i) 0) in
      let bx : x < 3 * n = next-trail w links n s p.walkable i (omega (arith, passes)) in
      let by : y < 3 * n = back_below (get_or on (suc i) 0) n (next-trail w links n s p.walkable (suc i) (omega (arith, passes))) in
      get_d_part w corners (3 * n) y 0 by
      ∙ p.mated.from x y bx (sym (get_or-links_in w links (3 * n) p.walkable.room x bx) ∙ came-by ls p.leads n s ends i h)
      ∙ sym (get_d_part w corners (3 * n) (onward x) 0 (on_below x n bx))

  ring-is : ring fs (fan ls s) ≡ down_from (inners fs on) (length on - 1) ++ backs fs (s ∷ rest)
  ring-is =
      let k : length on ≡ suc (length on - 1) = omega (arith, passes) in
      let e = last_of 0 on in
      let cs = trail (prev_corner ls e) n (here e) in
      let f : get_or cs 0 0 ≡ get_or on (length on - 1) 0 =
      ap (λ (l : List ℕ). get_or l 0 0) whole-fan ∙ at-down (length on - 1) in
      ap (ring fs) as-rim.is
      ∙ ap₂ (λ (x : ℕ) (l : List ℕ). corner fs (onward x) ∷ backs fs l) f whole-fan
      ∙ ap (λ (l : List ℕ). corner fs (onward (get_or on (length on - 1) 0)) ∷ l) (backs-append fs (down_from on (length on - 1)) rest)
      ∙ ap (λ (l : List ℕ). l ++ backs fs rest) (ring-turned fs on (length on - 1) k mates (length on - 1) (omega arith))
      ∙ append-one (down_from (inners fs on) (length on - 1)) (backs fs rest) (corner fs (backward (get_or on 0 0)))
      ∙ ap (λ (z : ℕ). down_from (inners fs on) (length on - 1) ++ (corner fs (backward z) ∷ backs fs rest)) begins
    where
      at-down : (j : ℕ) → get_or (down_from on j ++ rest) 0 0 ≡ get_or on j 0
      at-down zero = refl
      at-down (suc j) = refl

  turned-here : Turned w corners links n s (length on) (last_of 0 on)
  turned-here =
      record {
        some = passes;
        few = short;
        back = record { stops = rw again (rw whole-stop at as-rim.stops); few = rw again (let c = counted in omega (arith, c)) };
        fits = let c = counted in omega (arith, c);
        ring = rw again ring-is;
      }

pub record Told (st : Stop) (a b m e : ℕ) : Type 0 where
  pub stop : st ≡ ended
  pub count : a ≡ m
  pub end : b ≡ e

pub told : (st : Stop) (a b m e : ℕ) → trip_by st a b ≡ trip.Ended m e → Told st a b m e
told closed a b m e q = absurd (let z : ◌≡◌ {A = ℕ} 0 1 = cc in omega arith)
told ended a b m e q = record { stop = refl; count = cc; end = cc }
told long a b m e q = absurd (let z : ◌≡◌ {A = ℕ} 0 1 = cc in omega arith)

module _ (w : List ℕ) (corners links n s : ℕ) (p : Ringable w corners links n s) where
  abbrev steps : ℕ → mesh.Step
  steps = next_corner (links_in w links (3 * n)) s

  pub turned : (m e : ℕ) → trip_of (walk steps n (here s)) ≡ trip.Ended m e → (length (trail steps n (here s)) ≡ m) × Turned w corners links n s m e
  turned m e q =
      let v = walk steps n (here s) in
      let t = told (stop_of v) (length (passed v)) (last_of 0 (passed v)) m e q in
      let r = turned-here w corners links n s p t.stop in
      (t.count, rw (t.count, t.end) at r)

  -- what the walk on asks
  pub on-ends : Ends steps n s most_valence
  on-ends = go (stop_of (walk steps n (here s))) refl
    where
      go : (st : Stop) → stop_of (walk steps n (here s)) ≡ st → Ends steps n s most_valence
      go closed e = inner-ends (links_in w links (3 * n)) n s most_valence (inner-is (links_in w links (3 * n)) n s (faces-in w links n s p.walkable) (length (trail steps n (here s))) (rw e)) p.few
      go ended e = record { stops = λ q. (let a = sym e ∙ q in let z : ◌≡◌ {A = ℕ} 0 1 = cc in omega arith); few = let h = (turned-here w corners links n s p e).fits in omega (arith, h) }
      go long e = absurd (p.turns (long-is (links_in w links (3 * n)) n s (faces-in w links n s p.walkable) (rw e)))

-- ---- what is stored over what was gathered

over : (l ys xs : List ℕ) → length ys ≤ length xs → length xs ≤ length l → sets (sets l 0 ys) 0 xs ≡ sets l 0 xs
over l ys xs h k =
    ext_get_or 0 (sets (sets l 0 ys) 0 xs) (sets l 0 xs) (length-sets (sets l 0 ys) 0 xs ∙ length-sets l 0 ys ∙ sym (length-sets l 0 xs)) (λ i b. go i (dec_lt i (length xs)))
  where
    go : (i : ℕ) → Dec (i < length xs) → get_or (sets (sets l 0 ys) 0 xs) i 0 ≡ get_or (sets l 0 xs) i 0
    go i (yes b) =
        let z : 0 + i ≡ i = omega arith in
        let a = get_or-within xs (sets l 0 ys) 0 i 0 b (rw (length-sets l 0 ys) (omega arith)) in
        let c = get_or-within xs l 0 i 0 b (omega arith) in
        (rw z at a) ∙ sym (rw z at c)
    go i (no b) =
        get_or-outside xs (sets l 0 ys) 0 i 0 (inr (omega arith)) ∙ get_or-outside ys l 0 i 0 (inr (omega arith)) ∙ sym (get_or-outside xs l 0 i 0 (inr (omega arith)))

pub turned-over : (l ys zs : List ℕ) (n : ℕ) → 0 < n → length ys ≡ n → n + length zs ≤ length l
    → sets (sets l 0 ys) 0 (down_from (sets l 0 ys) (n - 1) ++ zs) ≡ sets l 0 (down_from ys (n - 1) ++ zs)
turned-over l ys zs n h e k =
    let d = length-down ys (n - 1) in
    ap (λ (x : List ℕ). sets (sets l 0 ys) 0 (x ++ zs)) (down-same (sets l 0 ys) ys (n - 1) (λ i b.
    let z : 0 + i ≡ i = omega arith in
    rw z at (get_or-within ys l 0 i 0 (omega arith) (omega arith))))
    ∙ over l ys (down_from ys (n - 1) ++ zs) (rw (length-append (down_from ys (n - 1)) zs, d) (omega arith)) (rw (length-append (down_from ys (n - 1)) zs, d) (omega arith))

pub counted-closed : (st : Stop) (a b m : ℕ) → trip_by st a b ≡ trip.Closed m → a ≡ m
counted-closed closed a b m q = cc
counted-closed ended a b m q = absurd (let z : ◌≡◌ {A = ℕ} 0 1 = cc in omega arith)
counted-closed long a b m q = absurd (let z : ◌≡◌ {A = ℕ} 0 1 = cc in omega arith)
