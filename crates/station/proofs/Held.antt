-- A coordinate of the claim, three of them, and a vertex: what the code works out is what the definition says.
use mathlib.Core.Path.{◌≡◌, refl}
use Prim.Native.Nat.{ℕ, ◌+◌, ◌-◌, ◌*◌, ◌<◌, ◌≤◌}
use native.Mathlib.Omega.{arith}
use native.Mathlib.Nat.{mul-le-mul_right}
use mathlib.Core.Bool.{Bool, true, false}
use mathlib.Core.List.{List}
use lib.Dec.{ltb}
use lib.ListN.{get_or}
use lib.IntN.{ℤ, pos, negsuc}
use borrow.Author.Tests.{lt-ltb, le-ltb}
use mir.Syntax.{w32}
use mir.Val.{SFits}
use Rattle.lists.specs.Lists.{pick}
use Rattle.whole.specs.Fraction.{Fraction, of_whole}
use Rattle.station.specs.Acceptance.{needs_at}
use Rattle.station.specs.Lift.{lift, between, need_over}
use Rattle.station.specs.Far.{held_vertex, held_over, Small3, Exactly}
use Rattle.station.specs.declared.Fault.TheVariants.{Far}
use Rattle.station.specs.declared.Verdict.TheVariants.{Yes, No}
use Rattle.station.specs.declared.fractions.Over3.{Over3}
use Rattle.station.proofs.Needs.{up_least}
use Rattle.station.proofs.Lift.{need-is}

-- ---- bounds

pub lift-most : {z : ℤ} → SFits w32 z → lift z < 4294967296
unfolding lift
lift-most {z = pos n} f = let s : n < 2147483648 = f.sfits in omega arith
lift-most {z = negsuc n} f = omega arith

between-below : (a b m : ℕ) → a ≤ m → b ≤ m → between a b ≤ m
between-below a b m p q = go (ltb a b)
  where
    go : (t : Bool) → pick t (b - a) (a - b) ≤ m
    go true = omega arith
    go false = omega arith

pub need-most : (y num den : ℕ) → 0 < den → y < 4294967296 → num ≤ den * 2000000000 → need_over y num den < 4294967296
need-most y num den p h k =
    let b : y ≤ 4294967295 = omega arith in
    let a = up_least (between (y * den) (num + 1147483648 * den)) den 4294967295 p
    (between-below (y * den) (num + 1147483648 * den) (4294967295 * den) (mul-le-mul_right den b) (omega arith)) in
    omega (arith, a)

-- ---- three coordinates

module _ (o : Over3) (ys : List ℤ) (i t : ℕ) where
  abbrev ax : ℕ
  ax = need_over (lift (get_or ys i (pos 0))) o.x o.den

  abbrev ay : ℕ
  ay = need_over (lift (get_or ys (i + 1) (pos 0))) o.y o.den

  abbrev az : ℕ
  az = need_over (lift (get_or ys (i + 2) (pos 0))) o.z o.den

  pub held_x : (a : ℕ) → a ≡ ax → t < a → No (Far i a) ≡ held_over o ys i t
  held_x a e h = rw (← e) (rw (lt-ltb t a h) refl)

  pub held-y : (a b : ℕ) → a ≡ ax → b ≡ ay → a ≤ t → t < b → No (Far (i + 1) b) ≡ held_over o ys i t
  held-y a b e f h k = rw (← e, ← f) (rw (le-ltb t a h, lt-ltb t b k) refl)

  pub held-z : (a b c : ℕ) → a ≡ ax → b ≡ ay → c ≡ az → a ≤ t → b ≤ t → t < c → No (Far (i + 2) c) ≡ held_over o ys i t
  held-z a b c e f g h k l = rw (← e, ← f, ← g) (rw (le-ltb t a h, le-ltb t b k, lt-ltb t c l) refl)

  pub held_none : (a b c : ℕ) → a ≡ ax → b ≡ ay → c ≡ az → a ≤ t → b ≤ t → c ≤ t → Yes ≡ held_over o ys i t
  held_none a b c e f g h k l = rw (← e, ← f, ← g) (rw (le-ltb t a h, le-ltb t b k, le-ltb t c l) refl)

-- ---- a vertex, from its exact point over any denominator

pub vertex-held : (o : Over3) (es : List Fraction) (ys : List ℤ) (t u : ℕ) → Small3 ys (3 * u) → Exactly o es u → held_over o ys (3 * u) t ≡ held_vertex es ys t u
vertex-held o es ys t u f w =
    let d = o.den in
    let h = w.bounded.above in
    let z : 3 * u + 0 ≡ 3 * u = omega arith in
    let a : need_over (lift (get_or ys (3 * u) (pos 0))) o.x d ≡ needs_at es ys (3 * u) = need-is d o.x (get_or ys (3 * u) (pos 0)) (get_or es (3 * u) (of_whole (pos 0))) h f.x (rw z at w.x) in
    let b : need_over (lift (get_or ys (3 * u + 1) (pos 0))) o.y d ≡ needs_at es ys (3 * u + 1) = need-is d o.y (get_or ys (3 * u + 1) (pos 0)) (get_or es (3 * u + 1) (of_whole (pos 0))) h f.y w.y in
    let c : need_over (lift (get_or ys (3 * u + 2) (pos 0))) o.z d ≡ needs_at es ys (3 * u + 2) = need-is d o.z (get_or ys (3 * u + 2) (pos 0)) (get_or es (3 * u + 2) (of_whole (pos 0))) h f.z w.z in
    rw (a, b, c) refl
