-- One level over lent words: what a mesh in the words is, what each step of the level writes, and what stands there afterwards.
use Rattle.std.specs.Prelude.{ℕ, ◌+◌, ◌*◌, ◌≤◌, ◌<◌, ◌≡◌, ◌⊎◌, List, [], ◌∷◌, length, get_or, drop}
use Rattle.std.proofs.Math.Option.{Option, none, some}
use Rattle.lists.specs.Lists.{part}
use Rattle.rules.specs.Mesh.{onward, backward, corner, links, through, Mesh, firsts, four, restart, refined}
use Rattle.rules.specs.Sound.{Sound}
use Rattle.faces.specs.Words.{link_of, coded, links_in, Holds}

-- the mesh of n faces and v vertices that stands from `at` on
abbrev pub mesh_in : List ℕ → ℕ → ℕ → ℕ → Mesh
mesh_in w at n v = record { verts = v; faces = part at (3 * n) w; starts = part (at + 6 * n) v w }

-- each entry is below n
abbrev pub Below : List ℕ → ℕ → Type 0
Below l n = (k : ℕ) → k < length l → get_or l k 0 < n

-- "For every side of every face with a neighbour, the neighbour's link at that edge leads back."
pub record Mutual (ls : List (Option ℕ)) : Type 0 where
  pub back : (s t : ℕ) → s < length ls → get_or ls s none ≡ some t → get_or ls t none ≡ some s

-- the children of face f, by the numbers ms that the sides have
abbrev pub children_by : List ℕ → List ℕ → ℕ → List ℕ
children_by fs ms f =
    four (corner fs (3 * f)) (corner fs (3 * f + 1)) (corner fs (3 * f + 2))
    (corner ms (3 * f)) (corner ms (3 * f + 1)) (corner ms (3 * f + 2))

-- the link words of the first and the second half of a side, from the word w of the side across
abbrev pub first_half : ℕ → ℕ
first_half w = coded (through restart (link_of w))

abbrev pub second_half : ℕ → ℕ
second_half w = coded (through (λ t. backward (restart (onward t))) (link_of w))

-- the link words of the children of face f, whose sides have the words a, b and c: a half of a side lies across the other half of the side across it
abbrev pub twelve_words : ℕ → ℕ → ℕ → ℕ → List ℕ
twelve_words f a b c =
    second_half a ∷ (12 * f + 12) ∷ first_half c ∷
    first_half a ∷ second_half b ∷ (12 * f + 10) ∷
    (12 * f + 11) ∷ first_half b ∷ second_half c ∷
    (12 * f + 6) ∷ (12 * f + 7) ∷ (12 * f + 2) ∷ []

abbrev pub links_by : List ℕ → ℕ → List ℕ
links_by ws f = twelve_words f (get_or ws (3 * f) 0) (get_or ws (3 * f + 1) 0) (get_or ws (3 * f + 2) 0)

-- what a level asks of the words: a sound mesh with its links stands at `at`, with room for the numbers of its sides after it, and with room for the refined mesh
-- at `to`, apart from both. Every accepted cage meets it, at every level
pub record Ready (w : List ℕ) (at to n v : ℕ) : Type 0 where
  pub sound : Sound n (mesh_in w at n v)
  pub linked : links_in w (at + 3 * n) (3 * n) ≡ links (part at (3 * n) w)
  pub old : at + 9 * n + v ≤ length w
  pub new : to + 24 * n + (v + length (firsts (links (part at (3 * n) w)))) ≤ length w
  pub apart : (at + 9 * n + v ≤ to) ⊎ (to + 24 * n + (v + length (firsts (links (part at (3 * n) w)))) ≤ at)
  pub small : v + 12 * n + 16 < 4294967296

-- words w₀ in which a mesh stands at `at` have become w, in which the refined mesh stands at `to`; the numbers of its sides stand after the old mesh, and what
-- lies after both is as it was; so is every other part, be it of the old mesh, before or between
pub record Grown (w₀ w : List ℕ) (at to n v : ℕ) : Type 0 where
  pub holds : Holds w to (refined (mesh_in w₀ at n v) (links (mesh_in w₀ at n v).faces))
  pub long : length w ≡ length w₀
  pub rest : (k : ℕ) → at + 9 * n + v ≤ k → to + 24 * n + (v + length (firsts (links (mesh_in w₀ at n v).faces))) ≤ k → drop k w ≡ drop k w₀
  pub kept : (i k : ℕ) → (i + k ≤ at + 6 * n + v) ⊎ (at + 9 * n + v ≤ i) → (i + k ≤ to) ⊎ (to + 24 * n + (v + length (firsts (links (mesh_in w₀ at n v).faces))) ≤ i)
      → part i k w ≡ part i k w₀
