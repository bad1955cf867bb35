use Rattle.cage.proofs.Marking.{marked-none}
use Rattle.cage.proofs.sides.link.Goals as goal

pub put_vertices-requires : goal.put_vertices-requires
put_vertices-requires c = record { sizes = c.requires.sizes; chains = c.requires.chains; marks = marked-none c.args.indices.now 4096 }
