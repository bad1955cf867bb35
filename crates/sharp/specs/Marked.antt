-- Request 6: what the lent work buffers hold while a call with sharp edges runs. Level i stands where it stands without marks; the words of its marks, one to a face,
-- are the last ones of the part that holds it.
use Rattle.std.specs.Prelude.{ℕ, ◌+◌, ◌-◌, ◌*◌, ◌≡◌, List, [], ◌∷◌, ℤ}
use Rattle.std.proofs.Math.Option.{none}
use Rattle.lists.specs.Lists.{find, part}
use Rattle.rules.specs.Mesh.{links, Mesh}
use Rattle.rules.specs.Position.{whole}
use Rattle.rules.specs.Refusals.{refusal}
use Rattle.rules.specs.Sharp.{SharpLevel, marks_of, unlinked}
use Rattle.faces.specs.Words.{face_count, Holds}
use Rattle.room.specs.Held.{start_of, Kept}
use Rattle.marks.specs.Marks.{marks_in}

-- where the marks of the n faces of level i start, in parts of `half` words
abbrev pub marks_at : ℕ → ℕ → ℕ → ℕ
marks_at i half n = start_of i half + (half - n)

-- level i is a, in parts of `half` words and `third` coordinates
pub record SharpHeld (a : SharpLevel whole) (i half third : ℕ) (ws : List ℕ) (cs : List ℤ) : Type 0 where
  pub words : Holds ws (start_of i half) a.mesh
  pub marks : marks_in ws (marks_at i half (face_count a.mesh)) (face_count a.mesh) ≡ a.marks
  pub coords : part (start_of i third) (3 * a.mesh.verts) cs ≡ a.points

-- an accepted cage with an accepted list
pub record Listed (l : ℕ) (sharp fs : List ℕ) (xs : List ℤ) : Type 0 where
  pub passes : refusal whole l fs xs ≡ none
  pub linked : find (unlinked (links fs)) sharp ≡ none

-- a face with no mark
abbrev pub unmarked : ℕ → List ℕ
unmarked f = 0 ∷ []

-- words w₀ that held the control cage m have become w, in which its marks stand too
pub record MarksLoaded (sharp : List ℕ) (m : Mesh) (half : ℕ) (w₀ w : List ℕ) : Type 0 where
  pub held : Holds w 0 m
  pub marks : marks_in w (half - face_count m) (face_count m) ≡ marks_of (links m.faces) sharp
  pub kept : Kept (2 * half) w w₀
