-- Turning the plate: two whole calls, on a cage and on that cage turned, with one list of sharp sides.
use Rattle.std.specs.Prelude.{Ok}
use mathlib.Core.Path.{◌≡◌, sym, ap, ◌∙◌}
use Prim.Native.Nat.{ℕ, ◌*◌}
use mathlib.Core.List.{List}
use lib.IntN.{ℤ}
use lib.ListN.{take}
use Rattle.rules.specs.Position.{whole}
use Rattle.rules.specs.Refusals.{Room}
use Rattle.rules.specs.Axes.{Turn, turned}
use Rattle.rules.specs.Sharp.{sharp_outcome}
use Rattle.rules.specs.Calls.{Lent, Buffers, whole_room, SharpCall}
use Rattle.rules.specs.declared.Counts.{Counts}
use Rattle.rules.specs.Outcome.{Outcome}
use Rattle.rules.proofs.Axes.{turning}
use Rattle.promises.proofs.Marks.{accepted-list, sharp-faces, sharp-positions}

module _ (l : ℕ) (sharp fs : List ℕ) (xs : List ℤ) (b : Lent (Buffers ℤ)) (c : Counts) (call : SharpCall l sharp fs xs b (Ok c)) where
  -- the answer is the same, the faces keep their order, and the positions are those of the plate turned
  pub record TurnedCall (t : Turn) (d : Lent (Buffers ℤ)) (r : Outcome) : Type 0 where
    pub answer : r ≡ Ok c
    pub faces : take (3 * c.faces) d.new.indices ≡ take (3 * c.faces) b.new.indices
    pub positions : take (3 * c.vertices) d.new.positions ≡ turned t (take (3 * c.vertices) b.new.positions)

  -- as much room is lent
  pub turning-of-the-calls : (t : Turn) (d : Lent (Buffers ℤ)) (r : Outcome) → whole_room d.old ≡ whole_room b.old → SharpCall l sharp fs (turned t xs) d r → TurnedCall t d r
  turning-of-the-calls t d r room again =
      let w = turning t l sharp fs xs (accepted-list l sharp fs xs b c call).listed.passes (whole_room d.old) in
      let a : r ≡ Ok c = again.answer ∙ w.answer ∙ ap {B = Outcome} (λ (f : Counts → List Room). sharp_outcome whole f l sharp fs xs) room ∙ sym call.answer in
      let other : SharpCall l sharp fs (turned t xs) d (Ok c) = rw a at again in
      record {
        answer = a;
        faces = sharp-faces l sharp fs (turned t xs) d c other ∙ w.faces ∙ sym (sharp-faces l sharp fs xs b c call);
        positions = sharp-positions l sharp fs (turned t xs) d c other ∙ w.positions ∙ ap {B = List ℤ} (turned t) (sym (sharp-positions l sharp fs xs b c call));
      }
