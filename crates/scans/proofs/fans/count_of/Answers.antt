use borrow.Author.Rules.{rules}
use mathlib.Core.Path.{◌≡◌, ◌∙◌}
use lib.Dec.{eqb}
use Rattle.std.specs.Prelude.{count_by}
use Rattle.std.proofs.iter.runs.Made.{chains}
use Rattle.scans.proofs.Scans.{tally_counted}
use Rattle.scans.proofs.fans.count_of.Goals as goal

pub returns : goal.returns
returns c = let e : c.count.result ≡ count_by (λ x. eqb c.args.u x) c.args.indices.now = search (rules, chains) in e ∙ tally_counted (eqb c.args.u) c.args.indices.now
