use Rattle.std.proofs.Common.{sym, arith, length-append, length-take-le, rules}
use Rattle.replay.proofs.body.Goals as goal

pub slice_bounds-read_full-end-2 : goal.slice_bounds-read_full-end-2
slice_bounds-read_full-end-2 c = sym (length-take-le _ _ (omega arith))

pub slice_bounds-replayed-end-2 : goal.slice_bounds-replayed-end-2
slice_bounds-replayed-end-2 c = sym (length-take-le _ _ (simp length-append (omega (arith, c.requires, c.read_full.auto.buf, length-take-le c.args.m c.args.bytes.now c.requires))))
