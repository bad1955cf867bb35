-- Every walk round a vertex ends within the faces at that vertex.
use mathlib.Core.Path.{◌≡◌, refl, sym, ap, ◌∙◌}
use mathlib.Core.Logic.{◌≢◌}
use Prim.Native.Nat.{ℕ, zero, suc, ◌<◌, ◌≤◌}
use native.Mathlib.Nat.{le_of_suc-le-suc, not-suc-le-zero}
use native.Mathlib.Omega.{arith}
use mathlib.Core.List.{List}
use lib.ListN.{length, get_or}
use Rattle.lists.specs.Lists.{last_of}
use Rattle.rules.specs.Mesh.{Step, home, off, here, Stop, closed, ended, long, walk, passed, stop_of}
use Rattle.rules.proofs.Fans.{walk-home, walk-rim}

-- ---- walks of any kind

module _ (next : ℕ → Step) where
  abbrev pub trail : ℕ → Step → List ℕ
  trail n st = passed (walk next n st)

  trail-zero : (st : Step) → length (trail zero st) ≡ 0
  trail-zero home = refl
  trail-zero off = refl
  trail-zero (here s) = refl

  trail-head : (n : ℕ) (st : Step) → 0 < length (trail n st) → st ≡ here (get_or (trail n st) 0 0)
  trail-head zero home h = absurd (not-suc-le-zero h)
  trail-head zero off h = absurd (not-suc-le-zero h)
  trail-head zero (here s) h = absurd (not-suc-le-zero h)
  trail-head (suc n) home h = absurd (not-suc-le-zero h)
  trail-head (suc n) off h = absurd (not-suc-le-zero h)
  trail-head (suc n) (here s) h = refl

  -- each corner follows on the one before
  pub chain : (n : ℕ) (st : Step) (k : ℕ) → suc k < length (trail n st) → next (get_or (trail n st) k 0) ≡ here (get_or (trail n st) (suc k) 0)
  chain zero home k h = absurd (not-suc-le-zero h)
  chain zero off k h = absurd (not-suc-le-zero h)
  chain zero (here s) k h = absurd (not-suc-le-zero h)
  chain (suc n) home k h = absurd (not-suc-le-zero h)
  chain (suc n) off k h = absurd (not-suc-le-zero h)
  chain (suc n) (here s) zero h = trail-head n (next s) (le_of_suc-le-suc h)
  chain (suc n) (here s) (suc k) h = chain n (next s) k (le_of_suc-le-suc h)

  -- a walk that is cut short has passed as many as it may, and one more is in sight
  pub long-more : (n : ℕ) (st : Step) → stop_of (walk next n st) ≡ long → length (trail (suc n) st) ≡ suc n
  long-more zero home e = absurd (let z : ◌≡◌ {A = ℕ} 0 1 = cc in omega arith)
  long-more zero off e = absurd (let z : ◌≡◌ {A = ℕ} 0 1 = cc in omega arith)
  long-more zero (here s) e = ap suc (trail-zero (next s))
  long-more (suc n) home e = absurd (let z : ◌≡◌ {A = ℕ} 0 1 = cc in omega arith)
  long-more (suc n) off e = absurd (let z : ◌≡◌ {A = ℕ} 0 1 = cc in omega arith)
  long-more (suc n) (here s) e = ap suc (long-more n (next s) e)

  pub not-long : (b : ℕ) (st : Step) → ((n : ℕ) → length (trail n st) ≤ b) → stop_of (walk next b st) ≢ long
  not-long b st h e = omega (arith, long-more b st e, h (suc b))

  -- why it stopped, at the last corner
  abbrev pub Stopped : ℕ → Stop → Type 0
  Stopped s closed = next s ≡ home
  Stopped s ended = next s ≡ off
  Stopped s long = Unit {0}

  pub last-stop : (n s d : ℕ) → Stopped (last_of d (trail n (here s))) (stop_of (walk next n (here s)))
  last-stop zero s d = tt
  last-stop (suc n) s d = go (next s) refl (λ t d. last-stop n t d)
    where
      go : (st : Step) → next s ≡ st → ((t d : ℕ) → Stopped (last_of d (trail n (here t))) (stop_of (walk next n (here t)))) → Stopped (last_of s (trail n st)) (stop_of (walk next n st))
      go home e rec = rw (walk-home next n) e
      go off e rec = rw (walk-rim next n) e
      go (here t) e rec = rec t s

  module _ (P : ℕ → Type 0) (stay : (s t : ℕ) → P s → next s ≡ here t → P t) where
    pub all_of : (n s k : ℕ) → P s → k < length (trail n (here s)) → P (get_or (trail n (here s)) k 0)
    all_of zero s k p h = absurd (not-suc-le-zero h)
    all_of (suc n) s zero p h = p
    all_of (suc n) s (suc k) p h = stay (get_or (trail (suc n) (here s)) k 0) _ (all_of (suc n) s k p (omega arith)) (chain (suc n) (here s) k h)

    module _ (s : ℕ) (start : P s) (never : (t : ℕ) → P t → next t ≢ here s)
        (one : (a b t : ℕ) → P a → P b → next a ≡ here t → next b ≡ here t → a ≡ b) where
      -- no corner is passed twice
      pub once : (n i j : ℕ) → i < j → j < length (trail n (here s)) → get_or (trail n (here s)) i 0 ≢ get_or (trail n (here s)) j 0
      once zero i j h k e = not-suc-le-zero k
      once (suc n) i zero h k e = not-suc-le-zero h
      once (suc n) zero (suc j) h k e =
          never (get_or (trail (suc n) (here s)) j 0) (all_of (suc n) s j start (omega arith))
          (chain (suc n) (here s) j k ∙ ap here (sym e))
      once (suc n) (suc i) (suc j) h k e =
          once (suc n) i j (le_of_suc-le-suc h) (omega arith)
          (one (get_or (trail (suc n) (here s)) i 0) (get_or (trail (suc n) (here s)) j 0) (get_or (trail (suc n) (here s)) (suc j) 0)
          (all_of (suc n) s i start (omega arith)) (all_of (suc n) s j start (omega arith))
          (chain (suc n) (here s) i (omega arith) ∙ ap here e) (chain (suc n) (here s) j k))
