-- Points gathered from lent coordinates, and what the f32 rules give of them.
use Prim.Native.Nat.{ℕ, ◌+◌, ◌*◌, ◌≤◌, ◌<◌}
use mathlib.Core.Path.{◌≡◌, sym, ap₂, ◌∙◌}
use mathlib.Core.Bool.{Bool, true, false}
use mathlib.Core.List.{List, map}
use native.Mathlib.Omega.{arith}
use native.Mathlib.Nat.{add-zero}
use lib.ListN.{length, get_or, set, take, replicate, length-map}
use lib.Seq.{sets, take_all}
use lib.Ieee.{Float}
use Rattle.lists.proofs.Places.{get_d_map, get_d_any, map-map}
use Rattle.lists.proofs.Stores.{copy_more}
use Rattle.vectors.specs.declared.Vec3.{Vec3}
use Rattle.vectors.specs.Vectors.{origin}
use Rattle.turns.specs.Turns.{most_valence}
use Rattle.rules.specs.Position.{Stage, weight, weighed, ring_rule, rim_rule, single}
use Rattle.rules.specs.Levels.{ends, coord, three}
use Rattle.weights.specs.Weights.{rule_of, carried, alike, nowhere}
use Rattle.weights.specs.Lent.{by_ring, listed, point_at, ringful, weighted_point}

-- ---- coordinate by coordinate
alike_is : (f : Float → List Float → Float) (l : List Float) (v : ℕ) (vs : List ℕ) → listed (alike f (point_at l v) (map (point_at l) vs)) ≡ three single (λ c. f (coord single l c v) (map (coord single l c) vs))
alike_is f l v vs = rw (map-map (point_at l) (λ q. q.x) vs, map-map (point_at l) (λ q. q.y) vs, map-map (point_at l) (λ q. q.z) vs)

pub vertex-single : (s : Stage) (l : List Float) (v : ℕ) (rim : Bool) (vs : List ℕ) → listed (weighted_point (carried (rule_of s rim (length vs))) l v vs) ≡ three single (by_ring single s l v rim vs)
vertex-single s l v true vs = alike_is (weighed (weight (rim_rule s))) l v (ends vs)
vertex-single s l v false vs = alike_is (weighed (weight (ring_rule s (length vs)))) l v vs

-- ---- as a loop stores them
module _ (l : List Float) (vs : List ℕ) where
  pub fill_more : (o : List Vec3) (i : ℕ) {out : List Vec3} {q : Vec3} → i < length vs → out ≡ sets o 0 (take i (map (point_at l) vs)) → q ≡ point_at l (get_or vs i 0) →
      set out i q ≡ sets o 0 (take (i + 1) (map (point_at l) vs))
  fill_more o i k e f =
      ap₂ (λ (x : List Vec3) (y : Vec3). set x i y) e (f ∙ sym (get_d_map (point_at l) vs i 0 nowhere k))
      ∙ copy_more o (map (point_at l) vs) i nowhere (rw (length-map vs (point_at l)) k)
