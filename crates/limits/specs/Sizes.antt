-- What is counted ahead.
use Rattle.std.specs.Prelude.{ℕ, ◌*◌, ◌^◌, ◌||◌, ltb}
use Rattle.std.proofs.Math.Option.{Option}
use Rattle.rules.specs.Levels.{Sizes, after}
use Rattle.rules.specs.Refusals.{most_in_mesh, check, when}
use Rattle.rules.specs.declared.Refusal.{Refusal}
use Rattle.rules.specs.declared.Counts.{Counts}

-- the counts after l levels of a mesh of these sizes and r rim sides
abbrev pub counts_after : ℕ → Sizes → ℕ → Counts
counts_after l c r = record { vertices = (after l c).verts; faces = (after l c).faces; rims = 2 ^ l * r }

abbrev pub over_of : Counts → Option Refusal
over_of c = check 13 (when (ltb most_in_mesh c.faces || ltb most_in_mesh c.vertices))
