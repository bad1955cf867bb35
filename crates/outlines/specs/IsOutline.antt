-- Request [9] as a relation: what a list of loops is to a mesh.
use Rattle.std.specs.Prelude.{ℕ, ◌+◌, ◌%◌, ◌<◌, ◌≡◌, List, [], length, get_or}
use Rattle.std.proofs.Math.Option.{none}
use Rattle.rules.specs.Mesh.{onward, corner, links, Mesh}

-- a rim side that runs from a to b
pub record Runs (m : Mesh) (a b : ℕ) : Type 0 where
  pub side : ℕ
  pub below : side < length m.faces
  pub lone : get_or (links m.faces) side none ≡ none
  pub from : corner m.faces side ≡ a
  pub to : corner m.faces (onward side) ≡ b

-- vertex a stands in loop i, at place j
pub record Stood (rs : List (List ℕ)) (a : ℕ) : Type 0 where
  pub loop : ℕ
  pub place : ℕ
  pub among : loop < length rs
  pub below : place < length (get_or rs loop [])
  pub is : get_or (get_or rs loop []) place 0 ≡ a

pub record IsOutline (m : Mesh) (rs : List (List ℕ)) : Type 0 where
  pub filled : (i : ℕ) → i < length rs → 0 < length (get_or rs i [])
  -- "A loop follows rim sides in the faces' direction"
  pub follows : (i j : ℕ) → i < length rs → j < length (get_or rs i []) → Runs m (get_or (get_or rs i []) j 0) (get_or (get_or rs i []) ((j + 1) % length (get_or rs i [])) 0)
  -- "begins at its lowest vertex"
  pub lowest : (i j : ℕ) → i < length rs → 0 < j → j < length (get_or rs i []) → get_or (get_or rs i []) 0 0 < get_or (get_or rs i []) j 0
  -- "loops come in order of that vertex"
  pub order : (i k : ℕ) → i < k → k < length rs → get_or (get_or rs i []) 0 0 < get_or (get_or rs k []) 0 0
  -- "Every rim side stands in exactly one loop"
  pub each : (s : ℕ) → s < length m.faces → get_or (links m.faces) s none ≡ none → Stood rs (corner m.faces s)
  pub once : (a : ℕ) (p q : Stood rs a) → (p.loop ≡ q.loop) × (p.place ≡ q.place)
