-- Request 8: no call answers 11, and C is never told it.
use mathlib.Core.Path.{sym, ap, ◌∙◌}
use mathlib.Core.Logic.{◌≢◌}
use Prim.Native.Nat.{ℕ}
use mathlib.Core.List.{List}
use lib.IntN.{ℤ}
use lib.Ieee.{Float}
use lib.ListN.{get_or}
use Rattle.rules.specs.Position.{Numbers, whole, single}
use Rattle.rules.specs.Answers.{answer}
use Rattle.rules.specs.Calls.{Lent, Buffers, Final, Call, whole_room, SharpCall, single_room, SingleCall, SheetCall, Told}
use Rattle.rules.specs.Outcome.{Outcome}
use Rattle.rules.proofs.Ends.{outcome-never-eleven, sharp-outcome-never-eleven, sheet-never-eleven}

-- an answer is told by its first number
as-asked : (𝓝 : Numbers) (o : Buffers 𝓝.N → Outcome) (m : Final 𝓝.N) (b : Lent (Buffers 𝓝.N)) (r : Outcome) → get_or (answer (o b.old)) 0 0 ≢ 11 → Call 𝓝 o m b r → get_or (answer r) 0 0 ≢ 11
as-asked 𝓝 o m b r h c e = h (ap (λ (x : Outcome). get_or (answer x) 0 0) (sym c.answer) ∙ e)

pub whole-never-eleven : (l : ℕ) (sharp fs : List ℕ) (xs : List ℤ) (b : Lent (Buffers ℤ)) (r : Outcome) → SharpCall l sharp fs xs b r → get_or (answer r) 0 0 ≢ 11
whole-never-eleven l sharp fs xs b r c = as-asked whole _ _ b r (sharp-outcome-never-eleven whole l fs xs (whole_room b.old) sharp) c

pub single-never-eleven : (l : ℕ) (fs : List ℕ) (xs : List Float) (b : Lent (Buffers Float)) (ns : Lent (List Float)) (r : Outcome) → SingleCall l fs xs b ns r → get_or (answer r) 0 0 ≢ 11
single-never-eleven l fs xs b ns r c = as-asked single _ _ b r (outcome-never-eleven single l fs xs (single_room ns.old b.old)) c.call

pub sheet-call-never-eleven : (bytes : List ℕ) (b : Lent (Buffers ℤ)) (r : Outcome) → SheetCall bytes b r → get_or (answer r) 0 0 ≢ 11
sheet-call-never-eleven bytes b r c = as-asked whole _ _ b r (sheet-never-eleven (whole_room b.old) bytes) c

pub told-never-eleven : (P : Outcome → Type 0) → ((r : Outcome) → P r → get_or (answer r) 0 0 ≢ 11) → (told : List ℕ) → Told P told → get_or told 0 0 ≢ 11
told-never-eleven P h told t e = h t.outcome t.kept (ap (λ (x : List ℕ). get_or x 0 0) (sym t.five) ∙ e)
