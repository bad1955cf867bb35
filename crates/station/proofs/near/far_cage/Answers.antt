use Prim.Native.Nat.{ℕ, ◌/◌}
use mathlib.Core.Path.{ap, ◌∙◌}
use mathlib.Core.List.{List}
use native.Mathlib.Omega.{arith}
use lib.ListN.{length, replicate}
use borrow.Author.Rules.{rules}
use Rattle.rules.proofs.Range.{near-cage}
use Rattle.station.specs.Far.{far_by}
use Rattle.station.proofs.Stand.{cage-loads, cage-sizes, cage-movable, cage-claimed, cage-far}
use Rattle.station.proofs.near.far_cage.Goals as goal

pub load_words-requires : goal.load_words-requires
load_words-requires c = let a = c.args in
    let z = cage-sizes a.levels a.indices.now a.coords.now c.requires.cage.0 in
    record { cage = cage-loads a.levels a.indices.now a.coords.now c.requires.cage.0; room = omega (arith, z.0, z.2, z.3) }

pub too_far-requires : goal.too_far-requires
too_far-requires c = let a = c.args in
    let fs = a.indices.now in
    let xs = a.coords.now in
    let e = c.requires.cage.0 in
    let z = cage-sizes a.levels fs xs e in
    rw c.load_words.ensures (
    record {
      mesh = cage-movable a.levels fs xs e (replicate 28672 0) (omega (arith, z.0, z.2, z.3));
      coords = (omega (arith, z.1), near-cage a.levels fs xs e);
      claim = cage-claimed a.levels fs xs e (replicate 28672 0) (omega (arith, z.0, z.2, z.3)) a.levels (length a.ys.now) c.requires.cage.1 c.requires.claim;
    }
    )

pub returns : goal.returns
returns c = let a = c.args in
    let fs = a.indices.now in
    let xs = a.coords.now in
    let e = c.requires.cage.0 in
    let z = cage-sizes a.levels fs xs e in
    c.too_far.ensures
    ∙ ap (λ (w : List ℕ). far_by a.levels w (length fs / 3) (length xs / 3) xs a.ys.now a.t) c.load_words.ensures
    ∙ cage-far a.levels fs xs e (replicate 28672 0) (omega (arith, z.0, z.2, z.3)) a.levels a.t a.ys.now c.requires.cage.1
