use native.Mathlib.Omega.{arith}
use Rattle.claimcheck.specs.Output.{verdict_text}
use Rattle.claimcheck.proofs.verdict_text.Goals as goal

pub returns-in-Yes : goal.returns-in-Yes
unfolding verdict_text
returns-in-Yes c = record { put = rw c.in-Yes.is c.word.ensures; upper_bound = omega (arith, c.word.ensures.next-is) }

pub returns-in-No : goal.returns-in-No
returns-in-No c = record { put = rw c.in-No.is c.no_text.ensures.put; upper_bound = c.no_text.ensures.upper_bound }

pub returns-in-Refused : goal.returns-in-Refused
unfolding verdict_text
returns-in-Refused c = record { put = rw c.in-Refused.is c.refused_text.ensures.put; upper_bound = c.refused_text.ensures.upper_bound }
