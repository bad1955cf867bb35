use mathlib.Core.Path.{◌≡◌, sym, ◌∙◌}
use lib.ListN.{take}
use borrow.Author.Rules.{rules}
use Rattle.claimcheck.proofs.Laws.{put_front}
use Rattle.claimcheck.proofs.again.Goals as goal

pub returns : goal.returns
returns c = λ e. let h = sym c.eq.ensures ∙ e in
    let q : c.args.text.now ≡ take c.mesh_text-k.result c.mesh_text-k.new.text = search rules in
    q ∙ put_front c.mesh_text-k.ensures.put c.mesh_text-k.ensures.upper_bound
