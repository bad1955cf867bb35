-- Request 6: what the ring of a vertex says with the marks of sharp edges.
use Rattle.std.specs.Prelude.{ℕ, ◌+◌, ◌*◌, ◌≤◌, Bool, List, eqb, length, get_or}
use Rattle.lists.specs.Lists.{pick}
use Rattle.rules.specs.Mesh.{backward, Fan, ring}
use Rattle.rules.specs.Sharp.{sharp, creases}
use Rattle.rules.specs.Sound.{Both}
use Rattle.faces.specs.Words.{links_in}
use Rattle.faces.specs.Rings.{Ringable}
use Rattle.marks.specs.Marks.{marks_in}
use Rattle.creases.specs.declared.rings.Met.{Met}
use Rattle.creases.specs.declared.rings.SharpRing.{SharpRing}

-- whether the side that comes to the vertex of corner s is sharp
abbrev pub comes : List Bool → ℕ → Bool
comes ms s = sharp ms (backward s)

-- what a ring with its sharp edges asks: the words of the marks are there, a sharp edge is marked on both faces and no rim side is
pub record Sharpable (w : List ℕ) (corners links marks n s : ℕ) : Type 0 where
  pub ringable : Ringable w corners links n s
  pub room : marks + n ≤ length w
  pub both : Both n (links_in w links (3 * n)) (marks_in w marks n)

-- how many far ends there are, and the first two
abbrev pub met_of : List ℕ → Met
met_of vs = record { n = length vs; a = get_or vs 0 0; b = get_or vs 1 0 }

-- one far end more
abbrev pub noted : Met → ℕ → Met
noted m v =
    pick (eqb m.n 0) (record { n = 1; a = v; b = 0 })
    (pick (eqb m.n 1) (record { n = 2; a = m.a; b = v }) (record { n = m.n + 1; a = m.a; b = m.b }))

-- the size of a ring, with the sharp and rim edges in it: how many, and the far ends of the first two
abbrev pub sharp_ring_of : List ℕ → List Bool → Fan → SharpRing
sharp_ring_of fs ms f = record { n = length (ring fs f); creases = length (creases fs ms f); a = get_or (creases fs ms f) 0 0; b = get_or (creases fs ms f) 1 0 }
