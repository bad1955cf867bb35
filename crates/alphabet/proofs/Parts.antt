-- A call that was lent the rest of a buffer from p on, said of the whole buffer.
use Prim.Native.Nat.{ℕ, ◌-◌}
use mathlib.Core.Path.{◌≡◌, refl}
use mathlib.Core.List.{List, [], ◌++◌, append-nil}
use native.Mathlib.Omega.{arith}
use lib.IntN.{ℤ}
use lib.ListN.{length, take, drop, length-drop, drop_of_length-le}
use lib.Seq.{take_all}
use Rattle.rules.specs.Outcome.{Outcome}
use Rattle.rules.specs.Calls.{SheetCall}
use Rattle.alphabet.specs.Sheets.{four, alone, leaves, free, One}

rest : {A : Type 0} (l : List A) (p : ℕ) → take (length l - p) (drop p l) ≡ drop p l
rest l p = take_all (length l - p) (drop p l) (rw (length-drop p l) (omega arith))

no_more : {A : Type 0} (l : List A) (p : ℕ) → drop (length l - p) (drop p l) ≡ []
no_more l p = drop_of_length-le (drop p l) {i = length l - p} (rw (length-drop p l) (omega arith))

pub one_of : (ps : List ℤ) (is ws : List ℕ) (cs : List ℤ) (p q : ℕ) (b : List ℕ) (r : Outcome) (ps' : List ℤ) (is' ws' : List ℕ) (cs' : List ℤ)
    → SheetCall b (record { old = four (take (length ps - p) (drop p ps)) (take (length is - q) (drop q is)) ws cs; new = four ps' is' ws' cs' }) r
    → One (record { old = four ps is ws cs; new = four (take p ps ++ (ps' ++ drop (length ps - p) (drop p ps))) (take q is ++ (is' ++ drop (length is - q) (drop q is))) ws' cs' }) p q b r
unfolding alone leaves
one_of ps is ws cs p q b r ps' is' ws' cs' d =
    let e = rw (rest ps p, rest is q) at d in
    let a : r ≡ alone (free p q (four ps is ws cs)) b = e.answer in
    record {
      answer = a;
      room = rw (no_more ps p, no_more is q, append-nil ps', append-nil is', e.positions, e.indices, e.words, e.work, a) refl;
    }
