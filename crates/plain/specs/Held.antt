-- Request 12: what the lent work buffers hold while the plain call runs: as in `sharp`, without links.
use Rattle.std.specs.Prelude.{ℕ, ◌-◌, ◌*◌, ◌≡◌, List, ℤ, length}
use Rattle.std.proofs.lemmas.List.Edits.{sets}
use Rattle.lists.specs.Lists.{part}
use Rattle.rules.specs.Mesh.{links, Mesh, cage}
use Rattle.rules.specs.Position.{whole}
use Rattle.rules.specs.Sharp.{SharpLevel, marks_of}
use Rattle.faces.specs.Words.{face_count}
use Rattle.room.specs.Held.{start_of, Kept}
use Rattle.marks.specs.Marks.{marks_in}
use Rattle.sharp.specs.Marked.{marks_at}
use Rattle.plain.specs.Level.{Stands}

-- level i is a, in parts of `half` words and `third` coordinates
pub record Held (a : SharpLevel whole) (i half third : ℕ) (ws : List ℕ) (cs : List ℤ) : Type 0 where
  pub words : Stands ws (start_of i half) a.mesh
  pub marks : marks_in ws (marks_at i half (face_count a.mesh)) (face_count a.mesh) ≡ a.marks
  pub coords : part (start_of i third) (3 * a.mesh.verts) cs ≡ a.points

-- the control cage in the words: its faces at the front, and its start corners where they would stand after links
abbrev pub loaded : ℕ → List ℕ → List ℕ → List ℕ
loaded v fs w = sets (sets w 0 fs) (2 * length fs) (cage v fs).starts

-- words w₀ that held the control cage m have become w, in which its marks stand too
pub record MarksLoaded (sharp : List ℕ) (m : Mesh) (half : ℕ) (w₀ w : List ℕ) : Type 0 where
  pub held : Stands w 0 m
  pub marks : marks_in w (half - face_count m) (face_count m) ≡ marks_of (links m.faces) sharp
  pub kept : Kept (2 * half) w w₀
