-- Request 6: the new positions of one level with the marks of its sides.
use Rattle.std.specs.Prelude.{ℕ, ◌+◌, ◌*◌, ◌≤◌, List, length, get_or}
use Rattle.std.proofs.Math.Option.{none}
use Rattle.lists.specs.Lists.{count, gather, part}
use Rattle.rules.specs.Mesh.{links, firsts}
use Rattle.rules.specs.Position.{refining, Numbers}
use Rattle.rules.specs.Levels.{three}
use Rattle.rules.specs.Sharp.{sharp, sharp_moved, sharp_edge}
use Rattle.rules.specs.Sound.{Both}
use Rattle.levels.specs.Level.{mesh_in}
use Rattle.levels.specs.Moves.{Movable}
use Rattle.marks.specs.Marks.{marks_in}

-- what the moves with marks ask of the words: the marks of the n faces stand from `marks` on
pub record Markable (w : List ℕ) (at marks n v : ℕ) : Type 0 where
  pub movable : Movable w at n v
  pub room : marks + n ≤ length w
  pub both : Both n (links (part at (3 * n) w)) (marks_in w marks n)

module _ (𝓝 : Numbers) (w : List ℕ) (at marks n : ℕ) (xs : List 𝓝.N) where
  abbrev pub sharp_old : ℕ → ℕ → List 𝓝.N
  sharp_old v u = sharp_moved 𝓝 refining (mesh_in w at n v) (links (part at (3 * n) w)) (marks_in w marks n) xs u

  abbrev pub sharp_edge_at : ℕ → List 𝓝.N
  sharp_edge_at s = three 𝓝 (sharp_edge 𝓝 (part at (3 * n) w) xs s (sharp (marks_in w marks n) s) (get_or (links (part at (3 * n) w)) s none))

  abbrev pub sharp_olds : ℕ → List 𝓝.N
  sharp_olds v = gather (sharp_old v) (count 0 v)

  abbrev pub sharp_edges : List 𝓝.N
  sharp_edges = gather sharp_edge_at (firsts (links (part at (3 * n) w)))
