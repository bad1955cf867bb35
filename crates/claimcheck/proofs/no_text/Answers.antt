use native.Mathlib.Omega.{arith}
use Rattle.listing.proofs.Laws.{put-put}
use Rattle.claimcheck.specs.Output.{verdict_text}
use Rattle.claimcheck.proofs.no_text.Goals as goal

pub returns-in-Counts : goal.returns-in-Counts
unfolding verdict_text
returns-in-Counts c = record { put = rw c.in-Counts.is c.word.ensures; upper_bound = omega (arith, c.word.ensures.next-is) }

pub returns-in-Face : goal.returns-in-Face
unfolding verdict_text
returns-in-Face c = record { put = rw c.in-Face.is (put-put c.word-first.ensures (put-put c.spaced_number-end.ensures.put c.byte.ensures)); upper_bound = omega (arith, c.word-first.ensures.next-is, c.spaced_number-end.ensures.upper_bound, c.byte.ensures.next-is) }

pub returns-in-Far : goal.returns-in-Far
unfolding verdict_text
returns-in-Far c = record { put = rw c.in-Far.is (put-put c.word-first-in-Far.ensures (put-put c.spaced_number-second.ensures.put (put-put c.word-third.ensures (put-put c.spaced_number-end-in-Far.ensures.put c.byte-in-Far.ensures)))); upper_bound = omega (arith, c.word-first-in-Far.ensures.next-is, c.spaced_number-second.ensures.upper_bound, c.word-third.ensures.next-is, c.spaced_number-end-in-Far.ensures.upper_bound, c.byte-in-Far.ensures.next-is) }
