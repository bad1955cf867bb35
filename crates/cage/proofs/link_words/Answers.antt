use mathlib.Core.Path.{◌≡◌, ap₂, ◌∙◌}
use mathlib.Core.List.{List}
use Prim.Native.Nat.{ℕ, ◌+◌}
use lib.ListN.{length}
use lib.Seq.{sets}
use Rattle.cage.proofs.Chains.{heads-none, chained-none}
use Rattle.cage.proofs.Rounds.{starts-are}
use Rattle.cage.proofs.link_words.Goals as goal

pub chain-requires : goal.chain-requires
chain-requires c = let fs = c.args.indices.now in
    let p = c.requires.sizes in
    record { sizes = (p.0, p.1); empty = (heads-none fs 4096, chained-none fs 12288 p.0.few) }

pub returns : goal.returns
returns c = let fs = c.args.indices.now in
    let n : length c.chain.new.heads ≡ 4096 = c.chain.auto.heads in
    c.put_starts.ensures
    ∙ ap₂ (λ (x y : List ℕ). sets x (c.args.at + length fs) y) c.put_links.ensures (starts-are c.args.v fs c.chain.new.heads (rw n c.requires.sizes.2) c.chain.ensures.heads)
