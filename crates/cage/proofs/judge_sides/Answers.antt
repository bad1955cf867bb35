use native.Mathlib.Omega.{arith}
use mathlib.Core.Path.{◌≡◌, sym, ◌∙◌}
use lib.ListN.{length, replicate}
use Rattle.cage.proofs.Chains.{heads-none, chained-none}
use Rattle.cage.proofs.Across.{words-stored}
use Rattle.cage.proofs.Stages.{below_more, once-of}
use Rattle.cage.proofs.judge_sides.Goals as goal

pub chain-requires : goal.chain-requires
chain-requires c = let fs = c.args.indices.now in
    record { sizes = (c.requires.2, below_more c.args.v 4096 fs c.requires.1 c.requires.3); empty = (heads-none fs 4096, chained-none fs 12288 c.requires.2.few) }

pub link-low-requires : goal.link-low-requires
link-low-requires c = let fs = c.args.indices.now in
    let n : length c.chain.new.heads ≡ 4096 = c.chain.auto.heads in
    let few = c.requires.2.few in
    let small = below_more c.args.v 4096 fs c.requires.1 c.requires.3 in
    record { sizes = (c.requires.2, rw n small, small, omega arith); chains = (c.chain.ensures.heads, c.chain.ensures.nexts) }

pub judge_links-requires : goal.judge_links-requires
judge_links-requires c = let fs = c.args.indices.now in
    let n : length c.chain.new.heads ≡ 4096 = c.chain.auto.heads in
    let m : length c.link-low.new.words ≡ 12288 = c.link-low.auto.words in
    let few = c.requires.2.few in
    let once = once-of fs c.requires.2 (sym c.reused.ensures ∙ c.in_ok-reused.was) in record { sizes = (c.requires.0, c.requires.1, n); list = (c.requires.3, c.requires.4, once); tables = record { faces = c.requires.2; heads = c.chain.ensures.heads; room = rw m few; words = words-stored fs (replicate 12288 0) c.link-low.new.words few (c.link-low.ensures.links once) } }
