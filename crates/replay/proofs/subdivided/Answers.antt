use Rattle.std.proofs.Common.{sym, arith, length-take-le, rules}
use Rattle.replay.proofs.subdivided.Goals as goal

pub slice_bounds-loop_subdivide-end : goal.slice_bounds-loop_subdivide-end
slice_bounds-loop_subdivide-end c = sym (length-take-le _ _ (omega (arith, c.requires, c.numbers_of-indices.ensures)))

pub slice_bounds-loop_subdivide-end-2 : goal.slice_bounds-loop_subdivide-end-2
slice_bounds-loop_subdivide-end-2 c = sym (length-take-le _ _ (omega (arith, c.requires, c.numbers_of-coords.ensures)))

pub same_mesh-requires : goal.same_mesh-requires
same_mesh-requires c = omega (arith, c.requires, c.loop_subdivide-o.auto.positions, c.loop_subdivide-o.auto.normals, c.loop_subdivide-o.auto.out)
