use mathlib.Core.Option.{Option}
use native.Mathlib.Omega.{arith}
use Prim.Native.Nat.{ℕ, ◌+◌, ◌*◌, ◌/◌}
use mathlib.Core.Path.{◌≡◌, sym, ap, ◌∙◌}
use mathlib.Core.List.{List}
use lib.ListN.{length}
use Rattle.rules.specs.Mesh.{links, fan}
use Rattle.faces.specs.Rings.{turn_of}
use Rattle.cage.specs.Chains.{leaves, before}
use Rattle.cage.proofs.Chains.{last-le}
use Rattle.cage.proofs.Across.{word-le}
use Rattle.cage.proofs.Rounds.{links-in, corner-at}
use Rattle.cage.proofs.fans.turn_at.Goals as goal

pub turn_round-requires : goal.turn_round-requires
turn_round-requires c = let fs = c.args.indices.now in
    let w = c.requires.tables in
    let t = w.faces.thirds in
    let h = w.heads.head c.args.u c.requires.used.0 in
    let m = last-le (leaves fs c.args.u) (length fs) in
    record {
      room = omega (arith, w.room);
      start = rw c.side_of-s.ensures (omega (arith, c.requires.used.1));
      linked = λ i k.
          let z : 0 + i ≡ i = omega arith in
          let q : 3 * (length fs / 3) ≡ length fs = omega arith in
          rw (z, q) (word-le fs c.args.words.now w.words i (omega arith));
    }

pub returns : goal.returns
returns c = let fs = c.args.indices.now in
    let w = c.requires.tables in
    let h = w.heads.head c.args.u c.requires.used.0 in
    let e = links-in fs c.args.words.now w.faces.thirds w.words in
    let x = c.side_of-s.ensures ∙ ap before h ∙ sym (corner-at fs c.args.u) in
    c.turn_round.ensures ∙ ap (λ (ls : List (Option ℕ)). turn_of (fan ls c.side_of-s.result)) e ∙ ap (λ (y : ℕ). turn_of (fan (links fs) y)) x
