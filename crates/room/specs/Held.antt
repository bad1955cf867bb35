-- What the lent work buffers hold while a call runs. Level i stands in the first part of each buffer where i is even and in the second where it is odd.
use Rattle.std.specs.Prelude.{ℕ, ◌+◌, ◌*◌, ◌%◌, ◌≡◌, List, ◌++◌, map, eqb, length, drop}
use Rattle.std.proofs.Math.Option.{none}
use Rattle.lists.specs.Lists.{pick, part}
use Rattle.rules.specs.Position.{Numbers}
use Rattle.rules.specs.Levels.{Level, last}
use Rattle.rules.specs.Refusals.{refusal}
use Rattle.rules.specs.Answers.{counted}
use Rattle.rules.specs.Mesh.{links, cage}
use Rattle.faces.specs.Words.{coded, Holds}

-- where level i starts, in parts of n entries
abbrev pub start_of : ℕ → ℕ → ℕ
start_of i n = pick (eqb (i % 2) 0) 0 n

-- of a buffer only the first n entries have changed
pub record Kept {A : Type 0} (n : ℕ) (now before : List A) : Type 0 where
  pub long : length now ≡ length before
  pub rest : drop n now ≡ drop n before

-- level i is a, in parts of `half` words and `third` coordinates
pub record Held (𝓝 : Numbers) (a : Level 𝓝) (i half third : ℕ) (ws : List ℕ) (cs : List 𝓝.N) : Type 0 where
  pub words : Holds ws (start_of i half) a.mesh
  pub coords : part (start_of i third) (3 * a.mesh.verts) cs ≡ a.points

-- the words of a control cage: its faces, their links, its start corners
abbrev pub loaded : ℕ → List ℕ → List ℕ
loaded v fs = fs ++ (map coded (links fs) ++ (cage v fs).starts)

-- the two parts of the words and of the coordinates, each large enough for the last level: n faces, v vertices
abbrev pub half_of : ℕ → ℕ → ℕ
half_of n v = 8 * n + 4 * v

abbrev pub third_of : ℕ → ℕ
third_of v = 3 * v

pub record Parts (𝓝 : Numbers) (l : ℕ) (fs : List ℕ) (xs : List 𝓝.N) (half third : ℕ) : Type 0 where
  pub words : half ≡ half_of (counted (last 𝓝 l fs xs).mesh).faces (last 𝓝 l fs xs).mesh.verts
  pub coords : third ≡ third_of (last 𝓝 l fs xs).mesh.verts

-- an accepted cage, and the sizes of its last level
pub record Planned (𝓝 : Numbers) (l : ℕ) (fs : List ℕ) (xs : List 𝓝.N) (n v : ℕ) : Type 0 where
  pub passes : refusal 𝓝 l fs xs ≡ none
  pub faces : n ≡ (counted (last 𝓝 l fs xs).mesh).faces
  pub verts : v ≡ (counted (last 𝓝 l fs xs).mesh).vertices
