-- From what the reader saw to what it answers.
use Prim.Native.Nat.{ℕ, zero, suc, ◌-◌, ◌/◌, ◌≤◌, ◌<◌}
use mathlib.Core.Path.{◌≡◌, refl}
use mathlib.Core.Bool.{true}
use mathlib.Core.List.{List}
use native.Mathlib.Omega.{arith}
use lib.IntN.{ℤ, pos, ◌-ℤ◌}
use lib.ListN.{length}
use Rattle.std.proofs.Common.{Ok, Err}
use borrow.Author.Tests.{lt-ltb, le-ltb}
use mir.Syntax.{w32}
use mir.Val.{SFits}
use Rattle.whole.specs.Whole.{reach}
use Rattle.obj.specs.Reading.{Reading, lists, wrong, minus, read_obj}
use Rattle.obj.specs.Inside.{seen_of, is_whole}
use Rattle.obj.specs.Calls.{lists_by, lists_of}
use Rattle.obj.specs.declared.Counted.{Counted}
use Rattle.rules.specs.declared.Refusal.{Refusal}

-- ---- a coordinate below zero

pub zero_minus : (n : ℕ) → pos 0 -ℤ pos n ≡ minus n
zero_minus zero = refl
zero_minus (suc n) = let e : suc n - 1 ≡ n = omega arith in rw (lt-ltb 0 (suc n) (omega arith), e)

pub minus-fits : (n : ℕ) → n ≤ reach → SFits w32 (minus n)
minus-fits zero h = record { sfits = omega arith }
minus-fits (suc n) h = record { sfits = omega arith }

-- ---- 23

pub refused-23 : (b : List ℕ) (x f : ℕ) (e : Refusal) → seen_of (read_obj b) ≡ Err e → Err e ≡ lists_of x f b
unfolding lists_of
refused-23 b x f e h = go (read_obj b) h
  where
    go : (r : Reading) → seen_of r ≡ Err e → Err e ≡ lists_by x f r
    go (lists xs fs) h = cc
    go (wrong n) h = cc

-- ---- read whole: 24, or the lists

pub record Whole (r : Reading) (n m : ℕ) : Type 0 where
  pub coords : List ℤ
  pub corners : List ℕ
  pub is : r ≡ lists coords corners
  pub coords-are : length coords ≡ n
  pub corners-are : length corners ≡ m

pub whole_is : (r : Reading) (n : Counted) → seen_of r ≡ Ok n → Whole r n.coords n.corners
whole_is (lists xs fs) n e = let a : length xs ≡ n.coords = cc in let b : length fs ≡ n.corners = cc in record { coords = xs; corners = fs; is = refl; coords-are = a; corners-are = b }
whole_is (wrong k) n e = cc

module _ (b : List ℕ) (x f n m : ℕ) (w : Whole (read_obj b) n m) where
  pub no-coords : x < n → Err (record { number = 24; place = 0 }) ≡ lists_of x f b
  unfolding lists_of
  no-coords h = rw (w.is, w.coords-are, lt-ltb x n h)

  pub no-corners : n ≤ x → f < m → Err (record { number = 24; place = 0 }) ≡ lists_of x f b
  unfolding lists_of
  no-corners h k = rw (w.is, w.coords-are, w.corners-are, le-ltb x n h, lt-ltb f m k)

  pub both-fit : n ≤ x → m ≤ f → Ok (record { vertices = n / 3; faces = m / 3 }) ≡ lists_of x f b
  unfolding lists_of
  both-fit h k = rw (w.is, w.coords-are, w.corners-are, le-ltb x n h, le-ltb f m k)

  pub is-whole : is_whole (read_obj b) ≡ true
  is-whole = rw w.is
