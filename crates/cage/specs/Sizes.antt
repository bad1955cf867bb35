-- The counts of a control cage, and the stages that are left after each check.
use Rattle.std.specs.Prelude.{ℕ, ◌*◌, ◌/◌, ◌≡◌, List, length, Ok}
use Rattle.std.proofs.Math.Option.{Option, none}
use Rattle.lists.specs.Lists.{find, lowest, found}
use Rattle.rules.specs.Sharp.{unlinked, told}
use Rattle.rules.specs.Mesh.{sides, links, rims, cage}
use Rattle.rules.specs.Levels.{sizes}
use Rattle.rules.specs.Refusals.{check, ◌or_else◌, same_set, used_before, list_refusal, fan_refusal, size_refusal}
use Rattle.rules.specs.Answers.{unless}
use Rattle.rules.specs.declared.Refusal.{Refusal}
use Rattle.rules.specs.declared.Counts.{Counts}
use Rattle.rules.specs.Outcome.{Outcome}
use Rattle.limits.specs.Sizes.{counts_after}
use Rattle.cage.specs.Chains.{Below, Apart, Once}

-- the counts of a control cage after l levels
abbrev pub cage_counts : ℕ → ℕ → List ℕ → Counts
cage_counts l v fs = counts_after l (sizes (cage v fs)) (rims (links fs))

-- what is left of the table from a check on, with the list sh of sharp sides: from 18, from 9, from 8, from 7, from 5
abbrev pub from_marks : ℕ → ℕ → List ℕ → List ℕ → Option Refusal
from_marks l v sh fs = check 18 (told (find (unlinked (links fs)) sh)) or_else size_refusal l v fs

abbrev pub from_nine : ℕ → ℕ → List ℕ → List ℕ → Option Refusal
from_nine l v sh fs = fan_refusal v fs or_else from_marks l v sh fs

abbrev pub from_eight : ℕ → ℕ → List ℕ → List ℕ → Option Refusal
from_eight l v sh fs = check 8 (lowest (λ f. found (lowest (same_set fs f) f)) (length fs / 3)) or_else from_nine l v sh fs

abbrev pub from_seven : ℕ → ℕ → List ℕ → List ℕ → Option Refusal
from_seven l v sh fs = check 7 (lowest (used_before (sides fs)) (3 * (length fs / 3))) or_else from_eight l v sh fs

abbrev pub from_five : ℕ → ℕ → List ℕ → List ℕ → Option Refusal
from_five l v sh fs = list_refusal v fs or_else from_nine l v sh fs

-- what is answered where such a rest is left
abbrev pub judged : Option Refusal → ℕ → ℕ → List ℕ → Outcome
judged rest l v fs = unless rest (Ok (cage_counts l v fs))

-- a face list after checks 5 to 8
pub record Listed (v : ℕ) (fs : List ℕ) : Type 0 where
  pub below : Below v fs
  pub apart : Apart fs
  pub once : Once fs
  pub sets : lowest (λ f. found (lowest (same_set fs f) f)) (length fs / 3) ≡ none
