use native.Mathlib.Omega.{arith}
use Prim.Native.Nat.{ℕ, ◌+◌, ◌-◌, ◌*◌}
use mathlib.Core.Path.{◌≡◌, ap, ◌∙◌}
use mathlib.Core.List.{List}
use lib.IntN.{ℤ}
use lib.Seq.{sets}
use Rattle.lists.specs.Lists.{part}
use Rattle.rules.specs.Mesh.{links}
use Rattle.rules.specs.Position.{whole}
use Rattle.rules.specs.Sharp.{sharp_last, sharp_limits}
use Rattle.rules.proofs.Marked.{near-sharp-at}
use Rattle.levels.specs.Level.{mesh_in}
use Rattle.levels.proofs.Moves.{lent_is}
use Rattle.room.specs.Held.{half_of}
use Rattle.room.proofs.Last.{last-faces}
use Rattle.marks.specs.Marks.{marks_in}
use Rattle.sharp.proofs.Last.{plain-words, last-markable, last-sharp, sharp-points, sharp-long}
use Rattle.sharp.proofs.finish.Lts
use Rattle.sharp.proofs.finish.Reads
use Rattle.sharp.proofs.finish.Tie
use Rattle.sharp.proofs.finish.Goals as goal

abbrev After-front-xs : Type 0
After-front-xs = Lts.After-front Tie.the-claims Reads.Pre Reads.Post Tie.handed_clauses

front : (k : After-front-xs) → k.front-xs.result.now ≡ (sharp_last whole k.args.levels k.args.sharp.now k.args.indices.now k.args.coords.now).points
front k =
    sharp-points k.args.levels k.args.sharp.now k.args.indices.now k.args.coords.now k.args.nf k.args.nv k.requires.planned.0 k.requires.planned.1 k.args.words.now k.args.work.now k.requires.held k.requires.room.0 k.requires.room.1.0 k.front-xs.result.now k.front-xs.ensures

pub limit-requires : goal.limit-requires
limit-requires c = let f = front c.before.before in record {
  mesh = rw c.start-at.ensures (last-markable c.args.levels c.args.sharp.now c.args.indices.now c.args.coords.now c.args.nf c.args.nv c.requires.planned.0 c.requires.planned.1 c.args.words.now c.args.work.now c.requires.held c.requires.room.0 c.requires.room.1.0);
  coords = (
    rw f (omega (arith, sharp-long c.args.levels c.args.sharp.now c.args.indices.now c.args.coords.now c.args.nf c.args.nv c.requires.planned.0 c.requires.planned.1 c.args.words.now c.args.work.now c.requires.held c.requires.room.0 c.requires.room.1.0)),
    rw f (near-sharp-at c.args.levels c.args.levels c.args.sharp.now c.args.indices.now c.args.coords.now c.requires.planned.1.passes).0,
  );
  room = c.requires.room.1.1.0;
}

pub returns : goal.returns
returns c = let w = c.args.words.now in
    let half = half_of c.args.nf c.args.nv in
    let t = c.start-at.ensures in record {
      positions = c.limit.ensures ∙ ap (λ (zs : List ℤ). sets c.args.positions.now 0 zs)
          (ap (λ (at : ℕ). sharp_limits whole (mesh_in w at c.args.nf c.args.nv) (links (part at (3 * c.args.nf) w)) (marks_in w (at + (half - c.args.nf)) c.args.nf) c.front-xs.result.now) t
          ∙ last-sharp c.args.levels c.args.sharp.now c.args.indices.now c.args.coords.now c.args.nf c.args.nv c.requires.planned.0 c.requires.planned.1 c.args.words.now c.args.work.now c.requires.held c.requires.room.0 c.requires.room.1.0 c.front-xs.result.now (front c.before.before.before.before));
      out = c.copy.ensures ∙ ap (λ (zs : List ℕ). sets c.args.out.now 0 zs)
          (lent_is w c.start-at.result (3 * c.args.nf) ∙ ap (λ (at : ℕ). part at (3 * c.args.nf) w) t ∙ last-faces whole c.args.levels c.args.indices.now c.args.coords.now c.args.nf c.args.nv c.requires.planned.0 c.args.words.now (plain-words c.args.levels c.args.sharp.now c.args.indices.now c.args.coords.now c.args.nf c.args.nv c.requires.planned.0 c.requires.planned.1 c.args.words.now c.args.work.now c.requires.held c.requires.room.0 c.requires.room.1.0));
    }
