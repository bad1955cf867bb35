-- What the proof of `narrow::narrow` cites: the pattern b of an f64 x that is no NaN, and the pattern that the sign's bit and a magnitude make.
use Rattle.std.proofs.Common.{◌≡◌, ℕ, zero, suc, ◌+◌, ◌*◌, ◌/◌, ◌^◌, ◌<◌, ◌≤◌, Bool, true, false, cond, not, T, ltb, leb, sym, refl, ap, ◌∙◌, subst, true≢false, arith, leb→le}
use lib.Dec.{nleb→lt}
use lib.Ieee.{Float, nan, inf, fin, Format, binary32, binary64, prec, emax, low, odd, units, up, down, ne, div, is_nan, fits, of_bits, to_bits, nan_bits}
use lib.Ieee.Fits.{round_is, round-fits, nan-fits, inf-fits}
use lib.Ieee.Bits.{of_bits-to_bits, to_bits-lt, nan_bits_is}
use lib.Ieee.Compare.{differs_from_itself}
use Rattle.vectors.specs.Narrow.{narrowed, sign}

pub no_nan : (x : Float) → ne x x ≡ false → T (not (is_nan x))
unfolding ne is_nan
no_nan nan h = absurd (true≢false h)
no_nan (inf s) h = tt
no_nan (fin s m e) h = tt

zero_by_zero : div binary32 (of_bits binary32 0) (of_bits binary32 0) ≡ nan
unfolding div of_bits
zero_by_zero = refl

nan-narrowed : narrowed nan ≡ nan
unfolding narrowed
nan-narrowed = refl

nan_pattern : 2143289344 ≡ to_bits binary32 nan
unfolding to_bits
nan_pattern = refl

pub nan-bits : (x : Float) → ne x x ≡ true → 0x7fc0_0000 ≡ to_bits binary32 (narrowed x)
nan-bits x h = nan_pattern ∙ ap (to_bits binary32) (sym nan-narrowed ∙ ap narrowed (sym (differs_from_itself x (subst T (sym h) tt))))

pub of_nan : (x : Float) → ne x x ≡ true → div binary32 (of_bits binary32 0) (of_bits binary32 0) ≡ narrowed x
of_nan x h = zero_by_zero ∙ sym nan-narrowed ∙ ap narrowed (sym (differs_from_itself x (subst T (sym h) tt)))

pub narrowed-fits : (x : Float) → T (fits binary32 (narrowed x))
unfolding narrowed
narrowed-fits nan = nan-fits binary32
narrowed-fits (inf s) = inf-fits binary32 s
narrowed-fits (fin s m e) = round-fits binary32 s (m * up e) (down e)

sign-is : (b : ℕ) → b < 2 ^ 64 → b / 2 ^ 63 * 2 ^ 31 ≡ sign (leb (2 ^ 63) b)
sign-is b h = go (leb (2 ^ 63) b) (leb→le (2 ^ 63) b) (nleb→lt (2 ^ 63) b)
  where
    go : (t : Bool) → (T t → 2 ^ 63 ≤ b) → (T (not t) → b < 2 ^ 63) → b / 2 ^ 63 * 2 ^ 31 ≡ sign t
    go true y n = let k = y tt in omega arith
    go false y n = let k = n tt in omega arith

module _ (x : Float) (F : T (fits binary64 x)) where
  abbrev b : ℕ
  b = to_bits binary64 x

  pub wide : b < 2 ^ 64
  wide = to_bits-lt binary64 x F

  pub pattern-no-nan : T (not (is_nan x)) → T (not (nan_bits binary64 b))
  pattern-no-nan n = subst (λ (t : Bool). T (not t)) (sym (nan_bits_is binary64 b ∙ ap is_nan (of_bits-to_bits binary64 x F))) n

  pub made : (r : ℕ) → sign (leb (2 ^ 63) b) + r ≡ to_bits binary32 (narrowed (of_bits binary64 b)) → b / 2 ^ 63 * 2 ^ 31 + r ≡ to_bits binary32 (narrowed x)
  made r e = ap (λ (k : ℕ). k + r) (sign-is b wide) ∙ e ∙ ap (λ (v : Float). to_bits binary32 (narrowed v)) (of_bits-to_bits binary64 x F)

-- a rounded fraction is no NaN
odd_no_nan : (d : ℕ) (s : Bool) (q k l : ℕ) → T (not (is_nan (odd d s q k l)))
unfolding odd is_nan
odd_no_nan d s zero k l = tt
odd_no_nan d s (suc q) k l = tt

units-no-nan : (f : Format) (s : Bool) (q k : ℕ) → T (not (is_nan (units f s q k)))
unfolding units
units-no-nan f s q k = go (ltb (q * 2 ^ k) (2 ^ (low f + suc (emax f))))
  where
    go : (b : Bool) → T (not (is_nan (cond b (odd (suc (prec f)) s q k (low f)) (inf s))))
    go true = odd_no_nan (suc (prec f)) s q k (low f)
    go false = unfold is_nan in tt

narrowed-no-nan : (x : Float) → T (not (is_nan x)) → T (not (is_nan (narrowed x)))
unfolding narrowed is_nan
narrowed-no-nan nan h = absurd h
narrowed-no-nan (inf s) h = tt
narrowed-no-nan (fin s m e) h = subst (λ (v : Float). T (not (is_nan v))) (sym (round_is binary32 s (m * up e) (down e))) (units-no-nan binary32 s _ _)

pub written-no-nan : (x : Float) → T (not (is_nan x)) → (r : ℕ) → r ≡ to_bits binary32 (narrowed x) → T (not (nan_bits binary32 r))
written-no-nan x h r e =
    subst (λ (t : Bool). T (not t)) (sym (ap (nan_bits binary32) e ∙ nan_bits_is binary32 (to_bits binary32 (narrowed x)) ∙ ap is_nan (of_bits-to_bits binary32 (narrowed x) (narrowed-fits x)))) (narrowed-no-nan x h)
