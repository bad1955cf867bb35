use native.Mathlib.Omega.{arith}
use mathlib.Core.Path.{◌≡◌}
use lib.ListN.{length}
use Rattle.cage.proofs.Chains.{heads-none, chained-none}
use Rattle.cage.proofs.Across.{words-stored}
use Rattle.outlines.proofs.rim.put_links.Goals as goal

pub chain-requires : goal.chain-requires
chain-requires c = let fs = c.args.indices.now in
    record { sizes = (c.requires.0, c.requires.1); empty = (heads-none fs 4096, chained-none fs 12288 c.requires.0.few) }

pub put_links-requires : goal.put_links-requires
put_links-requires c = let p = c.requires in
    let n : length c.chain.new.heads ≡ 4096 = c.chain.auto.heads in
    record { sizes = (p.0, rw n p.1, omega (arith, p.3)); chains = (c.chain.ensures.heads, c.chain.ensures.nexts); once = p.2 }

pub returns : goal.returns
returns c = words-stored c.args.indices.now c.args.links.now _ c.requires.3 c.put_links.ensures
