-- The rule of the table: each of its numbers is the one that the series gives. Proved by one computed test over all of them for each of the two lists.
use mathlib.Core.Path.{◌≡◌, refl, sym, ap, subst}
use mathlib.Core.Bool.{Bool, true, false}
use mathlib.Core.List.{List}
use mathlib.Core.Logic.{inl, inr}
use Prim.Native.Nat.{ℕ, zero, suc, ◌+◌, ◌-◌, ◌*◌, ◌/◌, ◌≤◌, ◌<◌}
use native.Mathlib.Nat.{not-suc-le-zero, le_of_suc-le-suc, eq-or-lt_of_le}
use native.Mathlib.Omega.{arith}
use lib.IntN.{ℤ, pos, negsuc}
use lib.Dec.{T, eqb, leb, ltb, eqb→eq, leb→le, ltb→lt}
use lib.ListN.{length, get_or}
use lib.Ieee.{binary32, in_float, of_bits, of_int}
use Rattle.turns.specs.Turns.{most_valence, cos_number, sin_number}
use Rattle.turns.specs.Table.{place, cos_table, sin_table, Has}

-- ---- a test over all k / m
abbrev both : Bool → Bool → Bool
both true b = b
both false b = false

both_left : (a b : Bool) → T (both a b) → T a
both_left true b t = tt
both_left false b t = t

both_right : (a b : Bool) → T (both a b) → T b
both_right true b t = t
both_right false b t = absurd t

-- it passes below n
abbrev all : (ℕ → Bool) → ℕ → Bool
all f zero = true
all f (suc n) = both (f n) (all f n)

under : (f : ℕ → Bool) (n : ℕ) → T (all f n) → (k : ℕ) → k < n → T (f k)
under f zero t k h = absurd (not-suc-le-zero h)
under f (suc n) t k h = elim (eq-or-lt_of_le (le_of_suc-le-suc h)) [
  | inl e ↦ subst (λ (j : ℕ). T (f j)) (sym e) (both_left (f n) (all f n) t)
  | inr l ↦ under f n (both_right (f n) (all f n) t) k l
]

-- it passes at each m from 3 to the largest valence and each k up to m
abbrev each : (ℕ → ℕ → Bool) → Bool
each f = all (λ (j : ℕ). all (λ (k : ℕ). f k (3 + j)) (4 + j)) (most_valence - 2)

pub at : (f : ℕ → ℕ → Bool) → T (each f) → (k m : ℕ) → 3 ≤ m → m ≤ most_valence → k ≤ m → T (f k m)
at f t k m lo hi h =
    subst (λ (j : ℕ). T (f k j)) (is m lo) (under (λ (i : ℕ). f i (3 + (m - 3))) (4 + (m - 3)) (under (λ (j : ℕ). all (λ (i : ℕ). f i (3 + j)) (4 + j)) (most_valence - 2) t (m - 3) (less m lo hi)) k (in_row k m lo h))
  where
    is : (m : ℕ) → 3 ≤ m → 3 + (m - 3) ≡ m
    is m h = omega arith

    less : (m : ℕ) → 3 ≤ m → m ≤ most_valence → m - 3 < most_valence - 2
    less m a b = omega arith

    in_row : (k m : ℕ) → 3 ≤ m → k ≤ m → k < 4 + (m - 3)
    in_row k m a b = omega arith

-- ---- the numbers
abbrev same : ℤ → ℤ → Bool
same (pos a) (pos b) = eqb a b
same (pos a) (negsuc b) = false
same (negsuc a) (pos b) = false
same (negsuc a) (negsuc b) = eqb a b

same-is : (a b : ℤ) → T (same a b) → a ≡ b
same-is (pos a) (pos b) t = ap pos (eqb→eq a b t)
same-is (pos a) (negsuc b) t = absurd t
same-is (negsuc a) (pos b) t = absurd t
same-is (negsuc a) (negsuc b) t = ap negsuc (eqb→eq a b t)

-- at most 2 ^ 24, either way
abbrev small : ℤ → Bool
small (pos a) = leb a 16777216
small (negsuc a) = ltb a 16777216

-- what the list has for k / m is the rule's number, and small
abbrev right : List ℤ → (ℕ → ℕ → ℤ) → ℕ → ℕ → Bool
right xs f k m = both (same (get_or xs (place k m) (pos 0)) (f k m)) (small (get_or xs (place k m) (pos 0)))

cos-test : T (each (right cos_table cos_number))
unfolding cos_number cos_table
cos-test = tt

sin-test : T (each (right sin_table sin_number))
unfolding sin_number sin_table
sin-test = tt

cos-long : length cos_table ≡ place 0 (most_valence + 1)
unfolding cos_table
cos-long = refl

sin-long : length sin_table ≡ place 0 (most_valence + 1)
unfolding sin_table
sin-long = refl

module _ (xs : List ℤ) (f : ℕ → ℕ → ℤ) (t : T (each (right xs f))) (k m : ℕ) (lo : 3 ≤ m) (hi : m ≤ most_valence) (h : k ≤ m) where
  abbrev z : ℤ
  z = get_or xs (place k m) (pos 0)

  rule : z ≡ f k m
  rule = same-is z (f k m) (both_left (same z (f k m)) (small z) (at (right xs f) t k m lo hi h))

  bounded : T (small z)
  bounded = both_right (same z (f k m)) (small z) (at (right xs f) t k m lo hi h)

pub cos-rule : (k m : ℕ) → 3 ≤ m → m ≤ most_valence → k ≤ m → get_or cos_table (place k m) (pos 0) ≡ cos_number k m
cos-rule = rule cos_table cos_number cos-test

pub sin-rule : (k m : ℕ) → 3 ≤ m → m ≤ most_valence → k ≤ m → get_or sin_table (place k m) (pos 0) ≡ sin_number k m
sin-rule = rule sin_table sin_number sin-test

-- the code's 2 ^ 24, which MIR has by its pattern
pub unit : of_bits binary32 0x4b80_0000 ≡ of_int binary32 (pos 16777216)
unfolding of_bits of_int
unit = refl

-- ---- the places
abbrev sound : ℕ → ℕ → Bool
sound k m = both (leb 6 (m * (m + 1) / 2)) (both (leb (m * (m + 1)) 4096) (ltb (place k m) (place 0 (most_valence + 1))))

sound-test : T (each sound)
sound-test = tt

pub placed : (k m : ℕ) → 3 ≤ m → m ≤ most_valence → k ≤ m → (6 ≤ m * (m + 1) / 2) × (m * (m + 1) ≤ 4096) × (place k m < place 0 (most_valence + 1))
placed k m lo hi h =
    let a = leb 6 (m * (m + 1) / 2) in
    let b = leb (m * (m + 1)) 4096 in
    let c = ltb (place k m) (place 0 (most_valence + 1)) in
    let z : T (sound k m) = at sound sound-test k m lo hi h in
    (leb→le 6 (m * (m + 1) / 2) (both_left a (both b c) z), leb→le (m * (m + 1)) 4096 (both_left b c (both_right a (both b c) z)), ltb→lt (place k m) (place 0 (most_valence + 1)) (both_right b c (both_right a (both b c) z)))

-- ---- a lent table
small-in : (z : ℤ) → T (small z) → T (in_float binary32 z)
unfolding in_float
small-in (pos a) t = t
small-in (negsuc a) t = t

-- it has k / m, and there the rule's number
abbrev pub Serves : List ℤ → (ℕ → ℕ → ℤ) → ℕ → ℕ → Type 0
Serves xs f k m = Has xs k m × (get_or xs (place k m) (pos 0) ≡ f k m)

serves : (xs : List ℤ) (f : ℕ → ℕ → ℤ) → length xs ≡ place 0 (most_valence + 1) → T (each (right xs f)) → (k m : ℕ) → 3 ≤ m → m ≤ most_valence → k ≤ m → Serves xs f k m
serves xs f l t k m lo hi h = (record { there = rw l (placed k m lo hi h).2; held = small-in _ (bounded xs f t k m lo hi h) }, rule xs f t k m lo hi h)

pub cos-serves : (xs : List ℤ) → xs ≡ cos_table → (k m : ℕ) → 3 ≤ m → m ≤ most_valence → k ≤ m → Serves xs cos_number k m
cos-serves xs e k m lo hi h = rw e (serves cos_table cos_number cos-long cos-test k m lo hi h)

pub sin-serves : (xs : List ℤ) → xs ≡ sin_table → (k m : ℕ) → 3 ≤ m → m ≤ most_valence → k ≤ m → Serves xs sin_number k m
sin-serves xs e k m lo hi h = rw e (serves sin_table sin_number sin-long sin-test k m lo hi h)
