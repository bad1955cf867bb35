-- docs/RULES.md, Positions, on the mesh: one level, all levels, the limit, and what is counted. Three coordinates to a vertex.
use Rattle.std.specs.Prelude.{ℕ, zero, suc, ◌+◌, ◌*◌, ◌/◌, min, max, List, [], ◌∷◌, ◌++◌, map, length, get_or, ℤ}
use Rattle.std.proofs.Math.Option.{Option, none, some}
use Rattle.lists.specs.Lists.{count, gather, last_of}
use Rattle.whole.specs.Fraction.{Fraction, of_whole}
use Rattle.rules.specs.Mesh.{onward, backward, corner, links, Fan, inner, rim, endless, fan, ring, Mesh, cage, firsts, refined}
use Rattle.rules.specs.Position.{Stage, refining, limit, ring_rule, rim_rule, Numbers, exact}

-- the first and the last of a ring
abbrev pub ends : List ℕ → List ℕ
ends vs = get_or vs 0 0 ∷ last_of 0 vs ∷ []

module _ (𝓝 : Numbers) where
  -- coordinate c of vertex v
  abbrev pub coord : List 𝓝.N → ℕ → ℕ → 𝓝.N
  coord xs c v = get_or xs (3 * v + c) 𝓝.nought

  abbrev pub three : (ℕ → 𝓝.N) → List 𝓝.N
  three f = f 0 ∷ f 1 ∷ f 2 ∷ []

  -- coordinate c of vertex v by its rule, from its fan
  abbrev pub blended : Stage → List ℕ → List 𝓝.N → ℕ → Fan → ℕ → 𝓝.N
  blended p fs xs v (inner cs) c = 𝓝.blend (ring_rule p (length cs)) (coord xs c v) (map (coord xs c) (ring fs (inner cs)))
  blended p fs xs v (rim cs) c = 𝓝.blend (rim_rule p) (coord xs c v) (map (coord xs c) (ends (ring fs (rim cs))))
  blended p fs xs v endless c = coord xs c v

  unfoldable pub moved : Stage → Mesh → List (Option ℕ) → List 𝓝.N → ℕ → List 𝓝.N
  moved p m ls xs v = let f = fan ls (get_or m.starts v 0) in three (blended p m.faces xs v f)

  -- coordinate c of the new vertex of side s, by its link
  abbrev pub edge_at : List ℕ → List 𝓝.N → ℕ → Option ℕ → ℕ → 𝓝.N
  edge_at fs xs s none c =
      let a = corner fs s in let b = corner fs (onward s) in
      𝓝.halves (coord xs c (min a b)) (coord xs c (max a b))
  edge_at fs xs s (some t) c =
      let a = corner fs s in let b = corner fs (onward s) in
      𝓝.eighths (coord xs c (min a b)) (coord xs c (max a b)) (coord xs c (corner fs (backward s))) (coord xs c (corner fs (backward t)))

  unfoldable pub new_positions : Mesh → List (Option ℕ) → List 𝓝.N → List 𝓝.N
  new_positions m ls xs =
      gather (moved refining m ls xs) (count 0 m.verts) ++
      gather (λ s. three (edge_at m.faces xs s (get_or ls s none))) (firsts ls)

  unfoldable pub limits : Mesh → List (Option ℕ) → List 𝓝.N → List 𝓝.N
  limits m ls xs = gather (moved limit m ls xs) (count 0 m.verts)

  -- ---- levels

  pub record Level : Type 0 where
    pub mesh : Mesh
    pub points : List 𝓝.N

  -- the control cage
  abbrev pub first : List ℕ → List 𝓝.N → Level
  first fs xs = record { mesh = cage (length xs / 3) fs; points = xs }

  unfoldable pub finer : Level → Level
  finer a =
      let ls = links a.mesh.faces in
      record { mesh = refined a.mesh ls; points = new_positions a.mesh ls a.points }

  unfoldable pub levels : ℕ → Level → Level
  levels zero a = a
  levels (suc l) a = levels l (finer a)

  -- the last level, and the limit positions on it
  abbrev pub last : ℕ → List ℕ → List 𝓝.N → Level
  last l fs xs = levels l (first fs xs)

  unfoldable pub positions : Level → List 𝓝.N
  positions a = limits a.mesh (links a.mesh.faces) a.points

-- "The exact limit position at L levels": the same rules from the control points, with no rounding at all
abbrev pub exact_limits : ℕ → List ℕ → List ℤ → List Fraction
exact_limits l fs xs = positions exact (last exact l fs (map of_whole xs))

-- ---- "With E edges, one level gives 4F faces, V+E vertices, 2E+3F edges"

pub record Sizes : Type 0 where
  pub verts : ℕ
  pub faces : ℕ
  pub edges : ℕ

abbrev pub sizes : Mesh → Sizes
sizes m = record { verts = m.verts; faces = length m.faces / 3; edges = length (firsts (links m.faces)) }

-- after l levels
abbrev pub after : ℕ → Sizes → Sizes
after zero c = c
after (suc l) c = after l (record { verts = c.verts + c.edges; faces = 4 * c.faces; edges = 2 * c.edges + 3 * c.faces })
