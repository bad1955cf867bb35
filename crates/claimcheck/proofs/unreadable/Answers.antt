use mathlib.Core.Logic.{⊎_elim}
use native.Mathlib.Omega.{arith}
use Rattle.claimcheck.specs.Output.{unreadable_text}
use Rattle.claimcheck.proofs.unreadable.Goals as goal

pub returns-in-Yes : goal.returns-in-Yes
unfolding unreadable_text
returns-in-Yes c =
    let w = c.word.ensures in
    ⊎_elim
    (λ e. record { put = rw e w; upper_bound = omega (arith, w.next-is) })
    (λ p. record { put = rw p.1 w; upper_bound = omega (arith, w.next-is) })
    c.in-Yes.is

pub returns-in-Refused : goal.returns-in-Refused
unfolding unreadable_text
returns-in-Refused c = record { put = rw c.in-Refused.is c.refused_text.ensures.put; upper_bound = c.refused_text.ensures.upper_bound }
