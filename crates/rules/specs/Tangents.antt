-- docs/RULES.md, Positions: tangents, of the limit positions of a vertex and its ring, in f32: each operation rounded once, in the written order.
use Rattle.std.specs.Prelude.{ℕ, ◌+◌, List, [], ◌∷◌, length, get_or, Float, map}
use Rattle.std.proofs.Math.Option.{Option}
use Rattle.std.specs.Float.{binary32}
use Rattle.std.specs.Float.Ieee.{mul, sub, neg}
use Rattle.lists.specs.Lists.{count, gather, last_of}
use Rattle.vectors.specs.declared.Vec3.{Vec3}
use Rattle.vectors.specs.Vectors.{plus, minus, negated, scaled, origin, cross}
use Rattle.turns.specs.Turns.{cosine, sine, half_cosine, half_sine}
use Rattle.rules.specs.Mesh.{links, Fan, inner, rim, endless, fan, ring, Mesh}
use Rattle.rules.specs.Position.{single, f32}
use Rattle.rules.specs.Levels.{coord, Level, positions}

abbrev pub point : List Float → ℕ → Vec3
point xs v = record { x = coord single xs 0 v; y = coord single xs 1 v; z = coord single xs 2 v }

-- t + r_i w_i + r_(i+1) w_(i+1) + ..
abbrev pub weighted : (ℕ → Float) → ℕ → Vec3 → List Vec3 → Vec3
weighted w i t [] = t
weighted w i t (r ∷ rs) = weighted w (i + 1) (plus t (scaled r (w i))) rs

-- the two tangents
pub record Pair : Type 0 where
  pub s : Vec3
  pub t : Vec3

-- "S and T begin at zero and add r_i times cos(2 pi i/n), sin(2 pi i/n), i from 0"
abbrev pub inner_tangents : List Vec3 → Pair
inner_tangents rs =
    let n = length rs in
    record { s = weighted (λ i. cosine i n) 0 origin rs; t = weighted (λ i. sine i n) 0 origin rs }

-- (2 cos theta - 2) sin(k theta), theta the half turn over m
abbrev pub rim_weight : ℕ → ℕ → Float
rim_weight m k = mul binary32 (sub binary32 (mul binary32 (f32 2) (half_cosine 1 m)) (f32 2)) (half_sine k m)

-- all but the last
abbrev pub all_but_last : List Vec3 → List Vec3
all_but_last [] = []
all_but_last (r ∷ []) = []
all_but_last (r ∷ q ∷ rs) = r ∷ all_but_last (q ∷ rs)

-- T at the rim point p of valence 2; 3; 4; and from 5 on
abbrev pub rim_tangent : Vec3 → List Vec3 → Vec3
rim_tangent p [] = origin
rim_tangent p (a ∷ []) = origin
rim_tangent p (a ∷ b ∷ []) = minus (plus a b) (scaled p (f32 2))
rim_tangent p (a ∷ b ∷ c ∷ []) = minus b p
rim_tangent p (a ∷ b ∷ c ∷ d ∷ []) =
    plus (plus (plus (plus (scaled a (neg (f32 1))) (scaled b (f32 2))) (scaled c (f32 2))) (scaled d (neg (f32 1)))) (scaled p (neg (f32 2)))
rim_tangent p (a ∷ b ∷ c ∷ d ∷ e ∷ rs) =
    let m = length rs + 4 in
    negated (weighted (rim_weight m) 1 (scaled (plus a (last_of e rs)) (half_sine 1 m)) (b ∷ c ∷ d ∷ all_but_last (e ∷ rs)))

abbrev pub rim_tangents : Vec3 → List Vec3 → Pair
rim_tangents p rs = record { s = minus (last_of origin rs) (get_or rs 0 origin); t = rim_tangent p rs }

-- "S cross T, not made unit", at vertex v, from the limit positions xs
abbrev pub tangents_at : List ℕ → List Float → ℕ → Fan → Pair
tangents_at fs xs v (inner cs) = inner_tangents (map (point xs) (ring fs (inner cs)))
tangents_at fs xs v (rim cs) = rim_tangents (point xs v) (map (point xs) (ring fs (rim cs)))
tangents_at fs xs v endless = record { s = origin; t = origin }

abbrev pub normal : Pair → Vec3
normal p = cross p.s p.t

abbrev pub three_of : Vec3 → List Float
three_of a = a.x ∷ a.y ∷ a.z ∷ []

unfoldable pub normal_at : Mesh → List (Option ℕ) → List Float → ℕ → List Float
normal_at m ls xs v = three_of (normal (tangents_at m.faces xs v (fan ls (get_or m.starts v 0))))

unfoldable pub normals : Level single → List Float
normals a =
    let ls = links a.mesh.faces in
    let xs = positions single a in
    gather (normal_at a.mesh ls xs) (count 0 a.mesh.verts)
