use mathlib.Core.Path.{sym, ap, ◌∙◌}
use lib.ListN.{replicate}
use lib.Seq.{length-take-le}
use Rattle.vectors.specs.Vectors.{cross}
use Rattle.turns.specs.Turns.{most_valence}
use Rattle.rules.specs.Tangents.{three_of}
use Rattle.tangents.specs.Normals.{normal_in}
use Rattle.tangents.specs.declared.Tangents.{Tangents}
use Rattle.tangents.proofs.Rings.{Ringed, ring-asks, ring-left}
use borrow.Author.Rules.{rules}
use Rattle.tangents.proofs.normal_at.Lts
use Rattle.tangents.proofs.normal_at.Reads
use Rattle.tangents.proofs.normal_at.Tie
use Rattle.tangents.proofs.normal_at.Goals as goal

abbrev After-one_ring-ring : Type 0
After-one_ring-ring = Lts.After-one_ring Tie.the-claims Reads.Pre Reads.Post Tie.handed_clauses

pub one_ring-ring-requires : goal.one_ring-ring-requires
one_ring-ring-requires c = let a = c.args in
    (ring-asks a.words.now a.at a.nf a.nv a.xs.now c.requires.smooth.0 a.v.0 c.requires.smooth.1, search rules)

ring : (c : After-one_ring-ring) →
    (let a = c.args in Ringed a.xs.now a.v.0 c.one_ring-ring.result c.one_ring-ring.new.out (normal_in a.words.now a.at a.nf a.nv a.xs.now a.v.0))
ring c =
    let a = c.args in
    ring-left a.words.now a.at a.nf a.nv a.xs.now c.requires.smooth.0 a.v.0 c.requires.smooth.1 c.one_ring-ring.result (replicate most_valence 0) c.one_ring-ring.new.out (search rules)
    (c.one_ring-ring.ensures.ring, c.one_ring-ring.ensures.out)

pub slice_bounds-vs-end : goal.slice_bounds-vs-end
slice_bounds-vs-end c = (ring c.before.before).room

pub slice_bounds-tangents_at-end : goal.slice_bounds-tangents_at-end
slice_bounds-tangents_at-end c = sym (length-take-le _ _ (ring c.before.before.before).room)

pub tangents_at-requires : goal.tangents_at-requires
tangents_at-requires c = record { there = (ring c.before.before.before).asks }

pub returns : goal.returns
returns c = ap three_of (c.normal.ensures ∙ ap (λ (p : Tangents). cross p.s p.t) c.tangents_at.ensures)
    ∙ (ring c.before.before.before.before.before).gives
