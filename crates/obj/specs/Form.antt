-- Request [13], the form: "lines `v x y z` and `f a b c`, vertex numbers from 1, decimal without leading zeros, a line feed after each; vertices first". Bytes of ASCII.
use Rattle.std.specs.Prelude.{ℕ, suc, ◌/◌, ◌%◌, Bool, true, not, ◌&&◌, ◌≡◌, List, ◌++◌, map, eqb, leb, ℤ, length}
use Rattle.lists.specs.Lists.{rows, find, found}
use Rattle.whole.specs.Whole.{in_range}
use Rattle.rules.specs.Refusals.{most_in_mesh}
use Rattle.listing.specs.Text.{vertex_line, face_line}

-- the text of three coordinates to a vertex, and of three vertex numbers from 0 to a face
unfoldable pub obj_text : List ℤ → List ℕ → List ℕ
obj_text xs fs = rows (vertex_line xs) (length xs / 3) ++ rows (face_line (map suc fs)) (length fs / 3)

-- "Coordinates lie in .. [the] whole range, corners between 1 and the number of `v` lines, and there are at most 32,768 lines of each kind"
unfoldable pub has_text : List ℤ → List ℕ → Bool
has_text xs fs =
    eqb (length xs % 3) 0 && eqb (length fs % 3) 0 && leb (length xs / 3) most_in_mesh && leb (length fs / 3) most_in_mesh
    && not (found (find (λ x. not (in_range x)) xs)) && not (found (find (λ c. leb (length xs / 3) c) fs))

-- a text of this form: that of some lists
pub record Allowed (b : List ℕ) : Type 0 where
  pub coords : List ℤ
  pub corners : List ℕ
  pub has : has_text coords corners ≡ true
  pub is : b ≡ obj_text coords corners
