use native.Mathlib.Omega.{arith}
use Prim.Native.Nat.{ℕ, ◌*◌}
use mathlib.Core.Path.{ap, ◌∙◌}
use mathlib.Core.List.{List}
use lib.Seq.{sets}
use Rattle.lists.specs.Lists.{part}
use Rattle.rules.specs.Mesh.{links}
use Rattle.rules.specs.Position.{Numbers, numbers_of}
use Rattle.rules.specs.Levels.{limits}
use Rattle.levels.specs.Level.{mesh_in}
use Rattle.levels.proofs.Moves.{lent_is}
use Rattle.room.proofs.Last.{last-movable, last-faces, last-limits, last-points, last-long}
use Rattle.loopsubdiv.proofs.engine.finish.Goals as goal

pub limit-requires : goal.limit-requires
limit-requires g c = let a = c.args in
    let r = c.requires in
    let front = last-points (numbers_of g.N.Number.on) a.levels a.indices.now a.coords.now a.nf a.nv r.planned a.words.now a.work.now r.held r.room.1.0 c.front-xs.result.now c.front-xs.ensures in record {
      mesh = rw c.start-at.ensures (last-movable (numbers_of g.N.Number.on) a.levels a.indices.now a.coords.now a.nf a.nv r.planned a.words.now r.held.words);
      coords = (rw front (omega (arith, last-long (numbers_of g.N.Number.on) a.levels a.indices.now a.coords.now a.nf a.nv r.planned a.words.now a.work.now r.held r.room.1.0)), rw front (r.near a.levels));
      room = r.room.1.1.0;
    }

pub returns : goal.returns
returns g c = let 𝓝 : Numbers = numbers_of g.N.Number.on in
    let a = c.args in
    let r = c.requires in
    let w = a.words.now in
    let t = c.start-at.ensures in
    let front = last-points (numbers_of g.N.Number.on) a.levels a.indices.now a.coords.now a.nf a.nv r.planned a.words.now a.work.now r.held r.room.1.0 c.front-xs.result.now c.front-xs.ensures in record {
      positions = c.limit.ensures ∙ ap (λ (zs : List 𝓝.N). sets a.positions.now 0 zs)
          (ap (λ (at : ℕ). limits 𝓝 (mesh_in w at a.nf a.nv) (links (part at (3 * a.nf) w)) c.front-xs.result.now) t
          ∙ last-limits (numbers_of g.N.Number.on) a.levels a.indices.now a.coords.now a.nf a.nv r.planned w r.held.words c.front-xs.result.now front);
      out = c.copy.ensures ∙ ap (λ (zs : List ℕ). sets a.out.now 0 zs)
          (lent_is w c.start-at.result (3 * a.nf) ∙ ap (λ (at : ℕ). part at (3 * a.nf) w) t ∙ last-faces (numbers_of g.N.Number.on) a.levels a.indices.now a.coords.now a.nf a.nv r.planned w r.held.words);
    }
