-- What the code asks of a mesh that it is lent in words: what the checks leave of a cage, and every level keeps (proofs/Refine, Sound, Levels, Both, Range). The calls ask nothing of it, and promise nothing in its terms.
use Rattle.std.specs.Prelude.{◌≡◌, ◌≢◌, ℕ, zero, suc, ◌*◌, ◌≤◌, ◌<◌, Bool, false, List, length, get_or, ℤ, pos}
use Rattle.std.proofs.Math.Option.{Option, none, some}
use Rattle.lists.specs.Lists.{At}
use Rattle.whole.specs.Whole.{Near}
use Rattle.rules.specs.Mesh.{onward, backward, corner, links, fan, corners, valence, Mesh}
use Rattle.rules.specs.Sharp.{sharp}

-- side t runs the other way along side s
pub record Twins (fs : List ℕ) (s t : ℕ) : Type 0 where
  pub below : t < length fs
  pub from : corner fs t ≡ corner fs (onward s)
  pub to : corner fs (onward t) ≡ corner fs s

-- what the checks 2, 5, 6, 7 and 8 leave of a mesh of n faces and v vertices: `unfolded` is what is left of 8, two faces on one edge have other far corners
pub record Good (v n : ℕ) (fs : List ℕ) : Type 0 where
  pub size : length fs ≡ 3 * n
  pub below : (s : ℕ) → s < 3 * n → corner fs s < v
  pub apart : (s : ℕ) → s < 3 * n → corner fs s ≢ corner fs (onward s)
  pub unique : (s t : ℕ) → s < 3 * n → t < 3 * n → corner fs s ≡ corner fs t → corner fs (onward s) ≡ corner fs (onward t) → s ≡ t
  pub unfolded : (s t : ℕ) → s < 3 * n → Twins fs s t → corner fs (backward s) ≢ corner fs (backward t)

-- x is in the list
abbrev pub In : List ℕ → ℕ → Type 0
In cs x = At (λ i. get_or cs i 0) (length cs) x

-- every vertex starts at a corner of its own, and the fan from there has every corner of the vertex
pub record Sound (n : ℕ) (m : Mesh) : Type 0 where
  pub good : Good m.verts n m.faces
  pub sized : length m.starts ≡ m.verts
  pub below : (v : ℕ) → v < m.verts → get_or m.starts v 0 < 3 * n
  pub starts : (v : ℕ) → v < m.verts → corner m.faces (get_or m.starts v 0) ≡ v
  pub whole : (v x : ℕ) → v < m.verts → x < 3 * n → corner m.faces x ≡ v → In (corners (fan (links m.faces) (get_or m.starts v 0))) x

-- faces after l levels
abbrev pub faces_at : ℕ → ℕ → ℕ
faces_at zero n = n
faces_at (suc l) n = faces_at l (4 * n)

abbrev pub valence_at : Mesh → ℕ → ℕ
valence_at m v = valence (fan (links m.faces) (get_or m.starts v 0))

-- no valence is over b
unfoldable pub Small : ℕ → Mesh → Type 0
Small b m = (v : ℕ) → v < m.verts → valence_at m v ≤ b

-- a sharp edge is marked on both its faces, and no rim side is
pub record Both (n : ℕ) (ls : List (Option ℕ)) (ms : List Bool) : Type 0 where
  pub same : (s t : ℕ) → s < 3 * n → get_or ls s none ≡ some t → sharp ms s ≡ sharp ms t
  pub rim : (s : ℕ) → s < 3 * n → get_or ls s none ≡ none → sharp ms s ≡ false

-- every coordinate is in reach
pub record AllNear (xs : List ℤ) : Type 0 where
  pub at : (i : ℕ) → Near (get_or xs i (pos 0))
