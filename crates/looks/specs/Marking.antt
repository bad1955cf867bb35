-- What marking a list of sides asks where the side across each is found by looking.
use Rattle.std.specs.Prelude.{ℕ, ◌+◌, ◌*◌, ◌≤◌, ◌<◌, ◌≡◌, ◌≢◌, List, [], length, get_or}
use Rattle.std.proofs.Math.Option.{none, some}
use Rattle.lists.specs.Lists.{part}
use Rattle.rules.specs.Mesh.{links}
use Rattle.marks.specs.Marks.{Marking}
use Rattle.looks.specs.Looked.{Listed}

-- no side is marked yet, the marks stand after the face list, each listed side has one across, and links lead back
pub record Listable (w : List ℕ) (at marks n : ℕ) (l : List ℕ) : Type 0 where
  pub none_yet : Marking w (links (part at (3 * n) w)) marks n [] w
  pub listed : Listed w at (3 * n)
  pub after : at + 3 * n ≤ marks
  pub room : marks + n ≤ length w
  pub side : (i : ℕ) → i < length l → get_or l i 0 < 3 * n
  pub across : (i : ℕ) → i < length l → get_or (links (part at (3 * n) w)) (get_or l i 0) none ≢ none
  pub back : (x y : ℕ) → x < 3 * n → get_or (links (part at (3 * n) w)) x none ≡ some y → get_or (links (part at (3 * n) w)) y none ≡ some x
