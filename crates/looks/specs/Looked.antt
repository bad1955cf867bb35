-- What a look reads: a face list in words, and nothing of links.
use Rattle.std.specs.Prelude.{ℕ, ◌+◌, ◌*◌, ◌%◌, ◌≤◌, ◌<◌, ◌≡◌, ◌≢◌, List, ◌++◌, map, length, Option, Some, None}
use Rattle.std.proofs.Math.Option as maybe
use Rattle.turns.specs.Turns.{most_valence}
use Rattle.rules.specs.Mesh.{links, endless, fan, valence}
use Rattle.faces.specs.declared.sides.VertNo.{VertNo}
use Rattle.faces.specs.declared.face.Corner.{Corner}
use Rattle.faces.specs.declared.face.Corner.TheVariants.{First, Second, Third}
use Rattle.faces.specs.declared.sides.FaceNo.{FaceNo}
use Rattle.faces.specs.declared.face.Face.{Face}
use Rattle.faces.specs.Faces.{vert_at, vnum_of}
use Rattle.lists.specs.Lists.{part}
use Rattle.cage.specs.Chains.{Apart}
use Rattle.faces.specs.Words.{coded}

-- the corners of whole faces, n in all, stand from `at` on
pub record Listed (w : List ℕ) (at n : ℕ) : Type 0 where
  pub room : at + n ≤ length w
  pub thirds : n % 3 ≡ 0
  pub small : n < 4294967295

-- a face list with the link words that the linked engine would keep beside it: what looking finds
abbrev pub looked : List ℕ → List ℕ
looked fs = fs ++ map coded (links fs)

-- what a look asks of the words: n faces stand from `at` on, and the corners of each differ. Nothing of links
pub record Seen (w : List ℕ) (at n : ℕ) : Type 0 where
  pub listed : Listed w at (3 * n)
  pub apart : Apart (part at (3 * n) w)

-- and what a ring asks: the walks round the vertex of corner s end, and the ring fits
pub record Ringed (w : List ℕ) (at n s : ℕ) : Type 0 where
  pub seen : Seen w at n
  pub start : s < 3 * n
  pub turns : fan (links (part at (3 * n) w)) s ≢ endless
  pub few : valence (fan (links (part at (3 * n) w)) s) ≤ most_valence

-- the corner of face g at that spot
abbrev pub spot_in : Option Corner → ℕ → ℕ
spot_in (Some First) g = 3 * g
spot_in (Some Second) g = 3 * g + 1
spot_in (Some Third) g = 3 * g + 2
spot_in None g = 3 * g

-- a face by value whose links are not asked
abbrev pub bare_at : List ℕ → ℕ → ℕ → Face
bare_at w i g = record { v0 = vert_at w (i + 3 * g); v1 = vert_at w (i + 3 * g + 1); v2 = vert_at w (i + 3 * g + 2); f0 = None; f1 = None; f2 = None }

-- the face across a side at a vertex stands in the words, where there is one
abbrev pub Within : ℕ → ℕ → Option (Option FaceNo) → Type 0
Within n i (Some (Some g)) = i + 3 * g.0 + 3 ≤ n
Within n i (Some None) = Unit {0}
Within n i None = Unit {0}

-- and the corner at which vertex v stands in it
abbrev pub stand_of : List ℕ → ℕ → VertNo → Option (Option FaceNo) → maybe.Option ℕ
stand_of w i v (Some (Some g)) = maybe.some (spot_in (vnum_of (bare_at w i g.0) v) g.0)
stand_of w i v (Some None) = maybe.none
stand_of w i v None = maybe.none

-- the number of a vertex
abbrev pub number_of : Option VertNo → ℕ
number_of (Some v) = v.0
number_of None = 0
