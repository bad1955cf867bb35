-- Request [9], "Rims as outlines": the rim loops of a mesh, what `rim_loops` answers and what it leaves.
use Rattle.std.specs.Prelude.{ℕ, ◌≡◌, Bool, not, ◌&&◌, List, [], ◌∷◌, map, eqb, ltb, length, get_or, ℤ, Result, Err, Ok}
use Rattle.std.proofs.Math.Option.{Option, none, some}
use Rattle.lists.specs.Lists.{pick, count, find, lowest, found, keep, gather}
use Rattle.rules.specs.Mesh.{onward, corner, links, here, walk, passed, step_to, Mesh}
use Rattle.rules.specs.Position.{whole}
use Rattle.rules.specs.Levels.{last}
use Rattle.rules.specs.Refusals.{Room}
use Rattle.rules.specs.Answers.{outcome, written}
use Rattle.rules.specs.Calls.{Lent, Buffers, final, Call, whole_room}
use Rattle.rules.specs.declared.Counts.{Counts}
use Rattle.rules.specs.Outcome.{Outcome}
use Rattle.outlines.specs.declared.Outline.{Outline}
use Rattle.rules.specs.declared.Refusal.{Refusal}

-- ---- "A loop follows rim sides in the faces' direction"

module _ (fs : List ℕ) (ls : List (Option ℕ)) where
  -- "A side with no neighbour is a rim side" (01)
  abbrev pub is_rim : ℕ → Bool
  is_rim s = not (found (get_or ls s none))

  -- the rim side that leaves v; absent where v is not on the rim
  abbrev pub leaving : ℕ → Option ℕ
  leaving v = lowest (λ s. is_rim s && eqb (corner fs s) v) (length fs)

  -- the rim side that leaves where side s ends
  abbrev pub next_rim : ℕ → Option ℕ
  next_rim s = leaving (corner fs (onward s))

  -- the sides of a loop: from side s along the rim until it is back
  unfoldable pub around : ℕ → List ℕ
  around s = passed (walk (λ t. step_to s (next_rim t)) (length fs) (here s))

  -- "as vertex numbers": the vertices that those sides leave
  abbrev pub loop_of : Option ℕ → List ℕ
  loop_of none = []
  loop_of (some s) = map (corner fs) (around s)

  abbrev pub loop_at : ℕ → List ℕ
  loop_at v = loop_of (leaving v)

  -- "begins at its lowest vertex": v is on the rim, and its loop has no lower one
  abbrev pub begins : ℕ → Bool
  begins v = let r = loop_at v in found (leaving v) && not (found (find (λ u. ltb u v) r))

-- "loops come in order of that vertex"
unfoldable pub outlines : Mesh → List (List ℕ)
outlines m = let ls = links m.faces in map (loop_at m.faces ls) (keep (begins m.faces ls) (count 0 m.verts))

-- "each loop's length stands before it"
abbrev pub listing : List (List ℕ) → List ℕ
listing rs = gather (λ r. length r ∷ r) rs

-- "The answer gives loops and vertices listed"
abbrev pub outline_of : List (List ℕ) → Outline
outline_of rs = record { loops = length rs; listed = length (gather (λ r. r) rs) }

-- ---- the refusals of the whole call "unchanged"; then 20, "list room short", of n entries

abbrev pub with_list : ℕ → ℕ → Outcome → Outcome
with_list n needed (Ok c) = pick (ltb n needed) (Err (record { number = 20; place = 0 })) (Ok c)
with_list n needed (Err r) = Err r

-- the loops of the last level
abbrev pub loops_of : ℕ → List ℕ → List ℤ → List (List ℕ)
loops_of l fs xs = outlines (last whole l fs xs).mesh

unfoldable pub outline_outcome : (Counts → List Room) → ℕ → ℕ → List ℕ → List ℤ → Outcome
outline_outcome rooms n l fs xs =
    let needed = length (listing (loops_of l fs xs)) in
    with_list n needed (outcome whole rooms l fs xs)

-- what the call answers
abbrev pub Traced : Type 0
Traced = Result Outline Refusal

abbrev pub traced : Outcome → List (List ℕ) → Traced
traced (Ok c) rs = Ok (outline_of rs)
traced (Err r) rs = Err r

-- ---- what the call promises: the buffers "as the whole call does", and the list

-- `rim_loops`: levels, face list, coordinates, the buffers, the list, the answer
pub record OutlineCall (l : ℕ) (fs : List ℕ) (xs : List ℤ) (b : Lent (Buffers ℤ)) (list : Lent (List ℕ)) (r : Traced) : Type 0 where
  pub outcome : Outcome
  pub call : Call whole (λ old. outline_outcome (whole_room old) (length list.old) l fs xs) (final whole (last whole l fs xs)) b outcome
  pub answer : r ≡ traced outcome (loops_of l fs xs)
  pub left : list.new ≡ written outcome (listing (loops_of l fs xs)) list.old

-- for C, the answer in four numbers: refusal number or 0, place, loops, vertices listed
abbrev pub traced_answer : Traced → List ℕ
traced_answer (Ok c) = 0 ∷ 0 ∷ c.loops ∷ c.listed ∷ []
traced_answer (Err r) = r.number ∷ r.place ∷ 0 ∷ 0 ∷ []

pub record OutlineTold (l : ℕ) (fs : List ℕ) (xs : List ℤ) (b : Lent (Buffers ℤ)) (list : Lent (List ℕ)) (told : List ℕ) : Type 0 where
  pub answer : Traced
  pub kept : OutlineCall l fs xs b list answer
  pub four : told ≡ traced_answer answer
