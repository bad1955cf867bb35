use borrow.Author.Rules.{rules}
use Rattle.station.proofs.Points.{limit-exactly}
use Rattle.station.proofs.fractions.limit_over.Goals as goal

pub returns : goal.returns
returns c = limit-exactly c.vertex_over.result c.args.words.now c.args.nf c.args.nv c.args.xs.now c.args.u c.requires.mesh.1 c.vertex_over.ensures.point
