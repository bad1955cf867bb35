use Rattle.std.proofs.Common.{◌≡◌, length}
use Rattle.replay.proofs.numbers_of.Given as goal

abbrev pub invariant-loop-k : goal.invariant-loop-k
invariant-loop-k g l = length l.out ≡ 3072
