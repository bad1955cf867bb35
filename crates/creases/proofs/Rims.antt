-- Request 6: the sharp edges of a rim vertex, from those that the two arms of the passage round it meet.
use mathlib.Core.Path.{◌≡◌, refl, sym, ap, ◌∙◌}
use Prim.Native.Nat.{ℕ, suc, ◌+◌, ◌-◌, ◌*◌, ◌≤◌, ◌<◌}
use native.Mathlib.Omega.{arith}
use mathlib.Core.Bool.{Bool, true, false}
use mathlib.Core.List.{List, ◌∷◌, ◌++◌}
use mathlib.Core.Option.{Option, none, some}
use lib.Dec.{eqb}
use lib.ListN.{length, get_or, take, length-map}
use lib.Seq.{sets, take_all}
use Rattle.lists.specs.Lists.{last_of, part, pick, bit, keep, tally}
use Rattle.lists.proofs.Places.{last-at, length-keep}
use Rattle.lists.proofs.Counting.{tally-append}
use Rattle.lists.proofs.Stores.{get_or-within}
use Rattle.rules.specs.Mesh.{onward, backward, corner, home, off, here, ended, walk, passed, stop_of, step_to, through, next_corner, prev_corner, Fan, rim, fan, ring}
use Rattle.rules.specs.Sharp.{sharp, creases}
use Rattle.rules.proofs.Walks.{trail}
use Rattle.rules.proofs.Both.{Both}
use Rattle.faces.specs.Words.{links_in}
use Rattle.faces.specs.Rings.{Ringable, trip_of, down_from}
use Rattle.faces.specs.declared.walks.Trip.TheVariants as trip
use Rattle.faces.proofs.Trails.{next-trail}
use Rattle.faces.proofs.Retrace.{came-by, off-last}
use Rattle.faces.proofs.Passage.{passes, as-rim, again, begins, whole-fan, told}
use Rattle.creases.specs.Rings.{comes}
use Rattle.creases.specs.declared.rings.Met.{Met}
use Rattle.creases.specs.declared.rings.SharpRing.{SharpRing}
use Rattle.creases.proofs.Creases.{tally-take, tally-down}

-- ---- the answer, part by part

abbrev pub ring_by : ℕ → Met → SharpRing
ring_by n m = record { n = n; creases = m.n; a = m.a; b = m.b }

abbrev ring4 : ℕ → ℕ → ℕ → ℕ → SharpRing
ring4 n k a b = record { n = n; creases = k; a = a; b = b }

pub same-ring : (x : SharpRing) (n k a b : ℕ) → x.n ≡ n → x.creases ≡ k → x.a ≡ a → x.b ≡ b → x ≡ ring4 n k a b
same-ring x n k a b e f g h =
    ap (λ (z : ℕ). ring4 z x.creases x.a x.b) e ∙ ap (λ (z : ℕ). ring4 n z x.a x.b) f ∙ ap (λ (z : ℕ). ring4 n k z x.b) g ∙ ap (λ (z : ℕ). ring4 n k a z) h

-- an entry of what was stored
pub stored_at : (o xs : List ℕ) (i : ℕ) → i < length xs → length xs ≤ length o → get_or (sets o 0 xs) i 0 ≡ get_or xs i 0
stored_at o xs i h k = let z : 0 + i ≡ i = omega arith in rw z at (get_or-within xs o 0 i 0 h (omega arith))

-- ---- how many sharp and rim edges a rim vertex has, and the far ends of the first two

pub record Creased (w : List ℕ) (corners links n s k e : ℕ) (ms : List Bool) : Type 0 where
  pub number :
      length (creases (part corners (3 * n) w) ms (fan (links_in w links (3 * n)) s)) ≡
      2 + tally (sharp ms) (trail (next_corner (links_in w links (3 * n)) s) n (here s)) + tally (comes ms) (passed (walk (prev_corner (links_in w links (3 * n)) e) (n + 1 - k) (here s)))
  pub first : get_or (creases (part corners (3 * n) w) ms (fan (links_in w links (3 * n)) s)) 0 0 ≡ get_or (ring (part corners (3 * n) w) (fan (links_in w links (3 * n)) s)) 0 0
  pub second :
      get_or (creases (part corners (3 * n) w) ms (fan (links_in w links (3 * n)) s)) 1 0 ≡
      get_or (ring (part corners (3 * n) w) (fan (links_in w links (3 * n)) s)) (length (ring (part corners (3 * n) w) (fan (links_in w links (3 * n)) s)) - 1) 0

off-none : (h : ℕ) (o : Option ℕ) → step_to h (through onward o) ≡ off → o ≡ none
off-none h none e = refl
off-none h (some x) e = go (eqb (onward x) h) e
  where
    go : (b : Bool) → pick b home (here (onward x)) ≡ off → some x ≡ none
    go true q = absurd (let z : ◌≡◌ {A = ℕ} 0 1 = cc in omega arith)
    go false q = absurd (let z : ◌≡◌ {A = ℕ} 0 1 = cc in omega arith)

pub creases-long : (fs : List ℕ) (ms : List Bool) (cs : List ℕ) → length (creases fs ms (rim cs)) ≡ 2 + tally (comes ms) cs
creases-long fs ms cs =
    let a = length-map (keep (comes ms) cs) (λ s. corner fs (backward s)) in
    let b = length-keep (comes ms) cs in
    omega (arith, a, b)

pub first-crease : (fs : List ℕ) (ms : List Bool) (f : Fan) (cs : List ℕ) → f ≡ rim cs → get_or (creases fs ms f) 0 0 ≡ get_or (ring fs f) 0 0
first-crease fs ms f cs e = rw e

pub second-crease : (fs : List ℕ) (ms : List Bool) (f : Fan) (cs : List ℕ) → f ≡ rim cs → get_or (creases fs ms f) 1 0 ≡ get_or (ring fs f) (length (ring fs f) - 1) 0
second-crease fs ms f cs e = rw e (last-at 0 (ring fs (rim cs)) (omega arith))

module _ (w : List ℕ) (corners links n s : ℕ) (p : Ringable w corners links n s) (ends : stop_of (walk (next_corner (links_in w links (3 * n)) s) n (here s)) ≡ ended)
    (ms : List Bool) (b : Both n (links_in w links (3 * n)) ms) where
  abbrev ls : List (Option ℕ)
  ls = links_in w links (3 * n)

  abbrev fs : List ℕ
  fs = part corners (3 * n) w

  abbrev on : List ℕ
  on = trail (next_corner ls s) n (here s)

  abbrev rest : List ℕ
  rest = passed (walk (prev_corner ls (last_of 0 on)) (n - length on) (prev_corner ls (last_of 0 on) s))

  filled : 0 < length on
  filled = passes w corners links n s p ends

  on-below-at : (i : ℕ) → i < length on → get_or on i 0 < 3 * n
  on-below-at i h = next-trail w links n s p.walkable i h

  joined : (i : ℕ) → i < length on - 1 → comes ms (get_or on (suc i) 0) ≡ sharp ms (get_or on i 0)
  joined i h = sym (b.same (get_or on i 0) (backward (get_or on (suc i) 0)) (on-below-at i (omega arith)) (came-by ls p.leads n s ends i h))

  last-smooth : sharp ms (get_or on (length on - 1) 0) ≡ false
  last-smooth =
      let e : last_of 0 on ≡ get_or on (length on - 1) 0 = last-at 0 on filled in
      b.rim (get_or on (length on - 1) 0) (on-below-at (length on - 1) (omega (arith, filled)))
      (ap (λ (z : ℕ). get_or ls z none) (sym e) ∙ off-none s (get_or ls (last_of 0 on) none) (off-last ls p.leads n s ends))

  coming : tally (comes ms) (down_from on (length on - 1) ++ rest) ≡ tally (sharp ms) on + tally (comes ms) (s ∷ rest)
  coming =
      let j = length on - 1 in
      let a = tally-append (comes ms) (down_from on j) rest in
      let d = tally-down (sharp ms) (comes ms) on j joined (omega (arith, filled)) j (omega arith) in
      let c = tally-take (sharp ms) on j (omega (arith, filled)) in
      let f : take (j + 1) on ≡ on = take_all (j + 1) on (omega (arith, filled)) in
      let g = ap (λ (l : List ℕ). tally (sharp ms) l) f in
      let z = ap bit last-smooth in
      let x = ap (λ (y : ℕ). bit (comes ms y)) (begins w corners links n s p ends) in
      omega (arith, a, d, c, g, z, x)

  creased-here : Creased w corners links n s (length on) (last_of 0 on) ms
  creased-here =
      let f : fan ls s ≡ rim (down_from on (length on - 1) ++ rest) = (as-rim w corners links n s p ends).is ∙ ap rim (whole-fan w corners links n s p ends) in
      record {
        number =
            ap (λ (x : Fan). length (creases fs ms x)) f
            ∙ creases-long fs ms (down_from on (length on - 1) ++ rest)
            ∙ ap (λ (z : ℕ). 2 + z) coming
            ∙ (let e : passed (walk (prev_corner ls (last_of 0 on)) (n + 1 - length on) (here s)) ≡ s ∷ rest = ap (λ (z : ℕ). passed (walk (prev_corner ls (last_of 0 on)) z (here s))) (again w corners links n s p ends) in
            let k = ap (λ (l : List ℕ). tally (comes ms) l) e in
            omega (arith, k));
        first = first-crease fs ms (fan ls s) (down_from on (length on - 1) ++ rest) f;
        second = second-crease fs ms (fan ls s) (down_from on (length on - 1) ++ rest) f;
      }

-- of the trip that was made
pub creased : (w : List ℕ) (corners links n s : ℕ) (p : Ringable w corners links n s) (ms : List Bool) → Both n (links_in w links (3 * n)) ms
    → (m e : ℕ) → trip_of (walk (next_corner (links_in w links (3 * n)) s) n (here s)) ≡ trip.Ended m e → Creased w corners links n s m e ms
creased w corners links n s p ms b m e q =
    let v = walk (next_corner (links_in w links (3 * n)) s) n (here s) in
    let t = told (stop_of v) (length (passed v)) (last_of 0 (passed v)) m e q in
    let r = creased-here w corners links n s p t.stop ms b in
    rw (t.count, t.end) at r
