-- How a mesh stands in lent words. With F faces and V vertices, from `at` on: 3 F corners, the face list; 3 F link words, one to a side; V start corners.
-- A link word is the side across plus one, and 0 where there is none.
use Rattle.std.specs.Prelude.{ℕ, zero, suc, ◌+◌, ◌*◌, ◌/◌, ◌≤◌, ◌≡◌, List, map, length}
use Rattle.std.proofs.Math.Option.{Option, none, some}
use Rattle.lists.specs.Lists.{part}
use Rattle.rules.specs.Mesh.{Mesh, links}

abbrev pub link_of : ℕ → Option ℕ
link_of zero = none
link_of (suc t) = some t

abbrev pub coded : Option ℕ → ℕ
coded none = 0
coded (some t) = suc t

-- the links of n sides, from their words
abbrev pub links_in : List ℕ → ℕ → ℕ → List (Option ℕ)
links_in w at n = map link_of (part at n w)

abbrev pub face_count : Mesh → ℕ
face_count m = length m.faces / 3

pub record Holds (w : List ℕ) (at : ℕ) (m : Mesh) : Type 0 where
  pub faces : part at (3 * face_count m) w ≡ m.faces
  pub links : links_in w (at + 3 * face_count m) (3 * face_count m) ≡ links m.faces
  pub starts : part (at + 6 * face_count m) m.verts w ≡ m.starts
  pub room : at + 6 * face_count m + m.verts ≤ length w
