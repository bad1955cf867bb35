-- What the functions that follow the rim promise each other: the pieces of a side, the rim side that leaves each vertex, marks.
use Rattle.std.specs.Prelude.{ℕ, zero, suc, ◌+◌, ◌*◌, ◌/◌, ◌<◌, ◌≤◌, ◌≡◌, ◌≢◌, Bool, ◌&&◌, List, [], ◌∷◌, map, eqb, T, length, get_or}
use Rattle.std.proofs.Math.Option.{Option, none, some}
use Rattle.lists.specs.Lists.{pick, gather}
use Rattle.rules.specs.Mesh.{onward, backward, corner, links, restart, Step, home, off, here}
use Rattle.rules.specs.Sound.{Sound}
use Rattle.rules.specs.Sound.{faces_at}
use Rattle.faces.specs.Words.{coded}
use Rattle.cage.specs.Chains.{last_below}
use Rattle.outlines.specs.Loops.{is_rim, leaving, around, begins}

-- ---- the halves of a side after a level, and its pieces after l levels, in order

abbrev pub first_half : ℕ → ℕ
first_half s = restart s

abbrev pub second_half : ℕ → ℕ
second_half s = backward (restart (onward s))

abbrev pub pieces : ℕ → ℕ → List ℕ
pieces zero s = s ∷ []
pieces (suc l) s = gather (pieces l) (first_half s ∷ second_half s ∷ [])

-- the sides of a loop
abbrev pub sides_of : List ℕ → List (Option ℕ) → Option ℕ → List ℕ
sides_of fs ls none = []
sides_of fs ls (some s) = around fs ls s

-- side s is one of a mesh that has n sides at most after l levels
pub record Within (n l s : ℕ) : Type 0 where
  pub faces : ℕ
  pub below : s < 3 * faces
  pub most : 3 * faces_at l faces ≤ n

-- ---- a face list with sound fans, on v vertices
pub record Traceable (v : ℕ) (fs : List ℕ) : Type 0 where
  pub starts : List ℕ
  pub sound : Sound (length fs / 3) (record { verts = v; faces = fs; starts = starts })

abbrev pub leaves_at : List ℕ → ℕ → ℕ → Bool
leaves_at fs u s = is_rim fs (links fs) s && eqb (corner fs s) u

-- of the first n sides, the rim side that leaves each vertex, plus one; 0 is none
pub record Leaving (fs : List ℕ) (n : ℕ) (ms : List ℕ) : Type 0 where
  pub word : (u : ℕ) → u < length ms → get_or ms u 0 ≡ last_below (leaves_at fs u) n

-- and of all
pub record Left (fs ms : List ℕ) : Type 0 where
  pub word : (u : ℕ) → u < length ms → get_or ms u 0 ≡ coded (leaving fs (links fs) u)

-- a step as a word: the side plus one, and 0 where the walk ends
abbrev pub step_word : Step → ℕ
step_word home = 0
step_word off = 0
step_word (here s) = suc s

-- ---- marks: k at each of the vertices f 0 to f (n - 1), the rest as it was
pub record Painted (f : ℕ → ℕ) (n k : ℕ) (new old : List ℕ) : Type 0 where
  pub long : length new ≡ length old
  pub on : (i : ℕ) → i < n → get_or new (f i) 0 ≡ k
  pub rest : (u : ℕ) → ((i : ℕ) → i < n → f i ≢ u) → get_or new u 0 ≡ get_or old u 0

-- vertex i of the loop from side s
abbrev pub vertex_of : List ℕ → ℕ → ℕ → ℕ
vertex_of fs s i = corner fs (get_or (around fs (links fs) s) i 0)

-- the loops that begin below k are marked with one past the vertex at which they begin, the others with 0
pub record Marked (v : ℕ) (fs : List ℕ) (k : ℕ) (ms : List ℕ) : Type 0 where
  pub long : v ≤ length ms
  pub on : (u i : ℕ) → u < k → T (begins fs (links fs) u) → i < length (sides_of fs (links fs) (leaving fs (links fs) u))
      → get_or ms (corner fs (get_or (sides_of fs (links fs) (leaving fs (links fs) u)) i 0)) 0 ≡ u + 1
  pub later : (u i : ℕ) → k ≤ u → T (begins fs (links fs) u) → i < length (sides_of fs (links fs) (leaving fs (links fs) u))
      → get_or ms (corner fs (get_or (sides_of fs (links fs) (leaving fs (links fs) u)) i 0)) 0 ≡ 0
  pub none-on : (u : ℕ) → u < v → leaving fs (links fs) u ≡ none → get_or ms u 0 ≡ 0

-- a mark tells where a loop begins
pub record Firsts (v : ℕ) (fs ms : List ℕ) : Type 0 where
  pub is : (u : ℕ) → u < v → eqb (get_or ms u 0) (u + 1) ≡ begins fs (links fs) u

-- ---- what is listed, from the sides of the control cage and the final face list

abbrev pub stored : ℕ → List ℕ → ℕ → List ℕ
stored l out s = map (corner out) (pieces l s)

-- a loop after its length
abbrev pub entry : List ℕ → List ℕ
entry r = length r ∷ r

-- what is listed at vertex u: the loop that begins there, or nothing
abbrev pub entry_at : ℕ → List ℕ → List ℕ → ℕ → List ℕ
entry_at l fs out u = pick (begins fs (links fs) u) (entry (gather (stored l out) (sides_of fs (links fs) (leaving fs (links fs) u)))) []

-- a final face list of a control cage's levels
pub record Final (l : ℕ) (fs out : List ℕ) : Type 0 where
  pub long : 3 * faces_at l (length fs / 3) ≤ length out
  pub few : length out ≤ 98304
