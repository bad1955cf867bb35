use Prim.Native.Nat.{ℕ, ◌+◌, ◌≤◌}
use mathlib.Core.Path.{◌≡◌, ap, ◌∙◌}
use mathlib.Core.List.{List, append_assoc}
use native.Mathlib.Omega.{arith}
use lib.ListN.{length}
use lib.Seq.{sets, sets-eq, drop-drop}
use borrow.Rule.Slice.PartMut.{put_mid}
use Rattle.rules.specs.Sheets.{bytes_of}
use Rattle.writer.proofs.put_word.Goals as goal

-- a part of a buffer copied over is a run of stores
copied : (l w ys : List ℕ) (at k : ℕ) → ys ≡ w → k ≡ length w → at + length w ≤ length l → put_mid at k l ys ≡ sets l at w
copied l w ys at k e n h = rw (e, n, drop-drop, sets-eq w l at h, append_assoc)

-- the four bytes are those of w where the number that they are made of is w
spelt : (ys : List ℕ) (x w : ℕ) → ys ≡ bytes_of x → x ≡ w → ys ≡ bytes_of w
spelt ys x w e h = e ∙ ap bytes_of h

pub returns : goal.returns
returns c = copied c.args.bytes.now (bytes_of c.args.w) c.copy_from_slice.new.self c.args.at _ (spelt _ _ c.args.w (c.copy_from_slice.ensures.after ∙ c.to_le_bytes.ensures) (omega arith)) (omega arith) c.requires
