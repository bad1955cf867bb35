-- What the loops over the coordinates of a claim work out, and the exact limits that they hold it to.
use Rattle.std.specs.Prelude.{ℕ, zero, suc, ◌+◌, ◌*◌, ◌/◌, ◌<◌, ◌≤◌, Bool, true, false, ◌≡◌, List, [], ◌∷◌, map, eqb, ltb, length, get_or, ℤ, pos}
use Rattle.std.proofs.Math.Option.{Option, none, some}
use Rattle.std.specs.Int.Signed.{mag}
use Rattle.lists.specs.Lists.{pick, part}
use Rattle.whole.specs.Whole.{reach, raise}
use Rattle.whole.specs.Fraction.{Fraction, of_whole}
use Rattle.whole.specs.Fraction.{Val}
use Rattle.turns.specs.Turns.{most_valence}
use Rattle.rules.specs.Mesh.{onward, backward, corner, links, refined}
use Rattle.rules.specs.Position.{Stage, refining, exact}
use Rattle.rules.specs.Levels.{ends, coord, new_positions, limits, moved}
use Rattle.weights.specs.declared.Rule.{Rule}
use Rattle.weights.specs.declared.Rule.TheVariants.{Ring, Rim}
use Rattle.weights.specs.declared.micrometres.Share.{Share}
use Rattle.weights.specs.Lent.{own}
use Rattle.levels.specs.Level.{mesh_in}
use Rattle.levels.specs.Moves.{edges_in}
use Rattle.station.specs.Acceptance.{needs_at}
use Rattle.station.specs.Lift.{lift, need_over}
use Rattle.station.specs.declared.Fault.TheVariants.{Face, Far}
use Rattle.station.specs.declared.Verdict.{Verdict}
use Rattle.station.specs.declared.Verdict.TheVariants.{Yes, No, Refused}
use Rattle.station.specs.declared.fractions.Over3.{Over3}

-- ---- coordinates in order, each with the tolerance that it needs: the first that needs more than t

-- n of them, from index i on
unfoldable pub far_from : (ℕ → ℕ) → ℕ → ℕ → ℕ → Verdict
far_from g t i zero = Yes
far_from g t i (suc n) = let r = far_from g t (i + 1) n in pick (ltb t (g i)) (No (Far i (g i))) r

-- three, which need a, b and c
abbrev pub first3 : ℕ → ℕ → ℕ → ℕ → ℕ → Verdict
first3 t i a b c = pick (ltb t a) (No (Far i a)) (pick (ltb t b) (No (Far (i + 1) b)) (pick (ltb t c) (No (Far (i + 2) c)) Yes))

abbrev pub is_yes : Verdict → Bool
is_yes Yes = true
is_yes (No x) = false
is_yes (Refused r) = false

-- a yes goes on
abbrev pub and_then : Verdict → Verdict → Verdict
and_then Yes r = r
and_then (No x) r = No x
and_then (Refused x) r = Refused x

-- a vertex of the claim, held to the exact limits es
abbrev pub held_vertex : List Fraction → List ℤ → ℕ → ℕ → Verdict
held_vertex es ys t u = first3 t (3 * u) (needs_at es ys (3 * u)) (needs_at es ys (3 * u + 1)) (needs_at es ys (3 * u + 2))

-- the same from index i on, over the denominator of o
abbrev pub held_over : Over3 → List ℤ → ℕ → ℕ → Verdict
held_over o ys i t =
    first3 t i (need_over (lift (get_or ys i (pos 0))) o.x o.den) (need_over (lift (get_or ys (i + 1) (pos 0))) o.y o.den) (need_over (lift (get_or ys (i + 2) (pos 0))) o.z o.den)

-- they are i32
pub record Small3 (ys : List ℤ) (i : ℕ) : Type 0 where
  pub x : mag (get_or ys i (pos 0)) < 2147483648
  pub y : mag (get_or ys (i + 1) (pos 0)) < 2147483648
  pub z : mag (get_or ys (i + 2) (pos 0)) < 2147483648

-- ---- raised numbers over one denominator

-- e = p / D - reach
pub record Over (D p : ℕ) (e : Fraction) : Type 0 where
  pub val : Val D p (D * reach) e

-- no product of the comparison overflows
pub record Bounded (o : Over3) : Type 0 where
  pub above : 0 < o.den
  pub few : o.den ≤ 96 * (most_valence * most_valence)
  pub x : o.x ≤ o.den * 2000000000
  pub y : o.y ≤ o.den * 2000000000
  pub z : o.z ≤ o.den * 2000000000

-- the raised coordinate c of control vertex u; a sum of such
abbrev pub raised_at : List ℤ → ℕ → ℕ → ℕ
raised_at xs c u = raise (get_or xs (3 * u + c) (pos 0))

abbrev pub sum_n : List ℕ → ℕ
sum_n [] = 0
sum_n (x ∷ xs) = x + sum_n xs

-- a vertex and those of its ring that its rule weighs, by what f has of each, out of the whole of its weight
abbrev pub weighted_n : Rule Share → (ℕ → ℕ) → ℕ → List ℕ → ℕ
weighted_n (Ring b) f u vs = own b (length vs) * f u + b.each * sum_n (map f vs)
weighted_n (Rim b) f u vs = own b 2 * f u + b.each * sum_n (map f (ends vs))

-- the new point of an edge, times 8: from side s with this link
abbrev pub eight_at : List ℤ → ℕ → List ℕ → ℕ → Option ℕ → ℕ
eight_at xs c fs s none = 4 * (raised_at xs c (corner fs s) + raised_at xs c (corner fs (onward s)))
eight_at xs c fs s (some t) =
    3 * (raised_at xs c (corner fs s) + raised_at xs c (corner fs (onward s))) + raised_at xs c (corner fs (backward s)) + raised_at xs c (corner fs (backward t))

-- of the side s of the mesh at `at` in the words
abbrev pub eight_in : List ℤ → ℕ → List ℕ → ℕ → ℕ → ℕ → ℕ
eight_in xs c w at n s = eight_at xs c (part at (3 * n) w) s (get_or (links (part at (3 * n) w)) s none)

-- o is the point of coordinates f 0, f 1 and f 2
pub record Stands (o : Over3) (f : ℕ → Fraction) : Type 0 where
  pub bounded : Bounded o
  pub x : Over o.den o.x (f 0)
  pub y : Over o.den o.y (f 1)
  pub z : Over o.den o.z (f 2)

-- the denominators of the vertex rules
pub record Ruled (s : Stage) (o : Over3) : Type 0 where
  pub few : o.den ≤ 8 * most_valence
  pub eighth : s ≡ refining → 8 * (o.den / 8) ≡ o.den

-- the point of an edge and its refined ends, small enough to be mixed
pub record Ends (e a b j k : ℕ) : Type 0 where
  pub edge : e ≤ 10 * (16 * reach)
  pub one : a ≤ 8 * j * (2 * reach)
  pub other : b ≤ 8 * k * (2 * reach)
  pub few : j ≤ most_valence
  pub few' : k ≤ most_valence

-- o is vertex u of the exact points es
pub record Exactly (o : Over3) (es : List Fraction) (u : ℕ) : Type 0 where
  pub bounded : Bounded o
  pub x : Over o.den o.x (coord exact es 0 u)
  pub y : Over o.den o.y (coord exact es 1 u)
  pub z : Over o.den o.z (coord exact es 2 u)

-- ---- the exact limits, from the control cage in the words: at level 0, and at level 1

unfoldable pub exact0 : List ℕ → ℕ → ℕ → List ℤ → List Fraction
exact0 w n v xs = limits exact (mesh_in w 0 n v) (links (part 0 (3 * n) w)) (map of_whole xs)

unfoldable pub exact1 : List ℕ → ℕ → ℕ → List ℤ → List Fraction
exact1 w n v xs =
    let m = mesh_in w 0 n v in
    let ls = links (part 0 (3 * n) w) in
    limits exact (refined m ls) (links (refined m ls).faces) (new_positions exact m ls (map of_whole xs))

-- vertex u of the control cage in the words by its rule, with no rounding
abbrev pub moved_in : Stage → List ℕ → ℕ → ℕ → ℕ → List ℤ → ℕ → ℕ → Fraction
moved_in s w at n v xs u c = get_or (moved exact s (mesh_in w at n v) (links (part at (3 * n) w)) (map of_whole xs) u) c (of_whole (pos 0))

-- six times the point of the edge of s, and once each of the four round it; t is the side across
abbrev pub six_in : List ℤ → ℕ → List ℕ → ℕ → ℕ → ℕ → ℕ
six_in xs c w n s t = 6 * eight_in xs c w 0 n s + eight_in xs c w 0 n (onward s) + eight_in xs c w 0 n (backward t) + eight_in xs c w 0 n (onward t) + eight_in xs c w 0 n (backward s)

-- the refined ends u over 8 j and v over 8 k, worked out from the cage: a and b
pub record Refined2 (w : List ℕ) (n v : ℕ) (xs : List ℤ) (c u u' j k a b : ℕ) : Type 0 where
  pub one : Over (8 * j) a (moved_in refining w 0 n v xs u c)
  pub other : Over (8 * k) b (moved_in refining w 0 n v xs u' c)

-- the new vertex of a rim side s from its ends u and u', and of an inner edge with sides s and t
pub record RimOver (o : Over3) (w : List ℕ) (n v : ℕ) (xs : List ℤ) (s u u' : ℕ) : Type 0 where
  pub bounded : Bounded o
  pub j : ℕ
  pub k : ℕ
  pub den : o.den ≡ 48 * (j * k)
  pub p : Over3
  pub q : Over3
  pub ends0 : Refined2 w n v xs 0 u u' j k p.x q.x
  pub ends1 : Refined2 w n v xs 1 u u' j k p.y q.y
  pub ends2 : Refined2 w n v xs 2 u u' j k p.z q.z
  pub x : o.x ≡ 4 * (eight_in xs 0 w 0 n s * (j * k)) + (q.x * j + p.x * k)
  pub y : o.y ≡ 4 * (eight_in xs 1 w 0 n s * (j * k)) + (q.y * j + p.y * k)
  pub z : o.z ≡ 4 * (eight_in xs 2 w 0 n s * (j * k)) + (q.z * j + p.z * k)

pub record InnerOver (o : Over3) (w : List ℕ) (n v : ℕ) (xs : List ℤ) (s t u u' : ℕ) : Type 0 where
  pub bounded : Bounded o
  pub j : ℕ
  pub k : ℕ
  pub den : o.den ≡ 96 * (j * k)
  pub p : Over3
  pub q : Over3
  pub ends0 : Refined2 w n v xs 0 u u' j k p.x q.x
  pub ends1 : Refined2 w n v xs 1 u u' j k p.y q.y
  pub ends2 : Refined2 w n v xs 2 u u' j k p.z q.z
  pub x : o.x ≡ six_in xs 0 w n s t * (j * k) + p.x * k + q.x * j
  pub y : o.y ≡ six_in xs 1 w n s t * (j * k) + p.y * k + q.y * j
  pub z : o.z ≡ six_in xs 2 w n s t * (j * k) + p.z * k + q.z * j

-- ---- faces, and all coordinates

abbrev pub wrong_face : Option ℕ → Verdict
wrong_face none = Yes
wrong_face (some f) = No (Face f)

-- the claim has the coordinates of v vertices, and at level 1 of e more
pub record Claimed (l v e long : ℕ) : Type 0 where
  pub old : 3 * v ≤ long
  pub new : (l ≡ 0 → ⊥) → 3 * (v + e) ≤ long
  pub small : 3 * (v + e) < 4294967296

-- the cage's own vertices, and at level 1 the new ones after them
abbrev pub far_by : ℕ → List ℕ → ℕ → ℕ → List ℤ → List ℤ → ℕ → Verdict
far_by l w n v xs ys t =
    let old = far_from (needs_at (exact0 w n v xs) ys) t 0 (3 * v) in
    pick (eqb l 0) old (and_then old (far_from (needs_at (exact1 w n v xs) ys) t (3 * v) (3 * edges_in w 0 n)))
