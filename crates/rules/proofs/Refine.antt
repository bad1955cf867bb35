-- One level keeps what the checks established, and its links are known from the old ones.
use mathlib.Core.Path.{◌≡◌, refl, sym, ap, ◌∙◌}
use mathlib.Core.Logic.{◌≢◌}
use Prim.Native.Nat.{ℕ, zero, suc, ◌+◌, ◌*◌, ◌/◌, ◌%◌, ◌<◌, min}
use native.Mathlib.Nat.{min_comm}
use native.Mathlib.Omega.{arith}
use mathlib.Core.Bool.{Bool, true, false}
use mathlib.Core.List.{List}
use mathlib.Core.Option.{Option, none, some}
use lib.Dec.{T, leb, leb→le, le→leb, nleb→lt}
use lib.ListN.{length, get_or}
use Rattle.lists.specs.Lists.{count, tally, gather}
pub use Rattle.rules.specs.Sound.{Good}
use Rattle.rules.specs.Mesh.{firsts, onward, backward, corner, links, first_of, first_met, meeting, middle, children, restart, fourth}
use Rattle.lists.proofs.Places.{length-count, get_or-count, rank-inj, rank_lt, length-keep, length-gather, get_or-gather}
use Rattle.rules.proofs.Sides.{length-links, back_on, on-back, on-twice, on_below, Twins, Unique, twin-some, twin-is, twin-back}

-- a side is the first, the second or the third of its face
pub data Third (s : ℕ) : Type 0 where
  k0 : (f : ℕ) → s ≡ 3 * f → Third s
  k1 : (f : ℕ) → s ≡ 3 * f + 1 → Third s
  k2 : (f : ℕ) → s ≡ 3 * f + 2 → Third s

pub third : (s : ℕ) → Third s
third s = go (s % 3) refl
  where
    go : (k : ℕ) → s % 3 ≡ k → Third s
    go zero e = k0 (s / 3) (omega arith)
    go (suc zero) e = k1 (s / 3) (omega arith)
    go (suc (suc zero)) e = k2 (s / 3) (omega arith)
    go (suc (suc (suc k))) e = absurd (omega arith)

pub back-twice : (s : ℕ) → backward (backward s) ≡ onward s
back-twice s = omega arith

pub back_below : (s n : ℕ) → s < 3 * n → backward s < 3 * n
back_below s n h = omega arith

on-not-back : (s : ℕ) → onward s ≡ backward s → ⊥
on-not-back s e = omega arith

on-not-self : (s : ℕ) → onward s ≡ s → ⊥
on-not-self s e = omega arith

back-not-self : (s : ℕ) → backward s ≡ s → ⊥
back-not-self s e = omega arith

pub on-at : (x y : ℕ) → x ≡ y → onward x ≡ onward y
on-at x y e = ap onward e

pub back_at : (x y : ℕ) → x ≡ y → backward x ≡ backward y
back_at x y e = ap backward e

via : (step : ℕ → ℕ) (s a b c : ℕ) → fourth s ≡ a → step a ≡ b → step s ≡ c → fourth c ≡ b → step (fourth s) ≡ fourth (step s)
via step s a b c p q r t = ap step p ∙ q ∙ sym (ap fourth r ∙ t)

pub on-fourth : (s : ℕ) → onward (fourth s) ≡ fourth (onward s)
on-fourth s = go (third s)
  where
    go : Third s → onward (fourth s) ≡ fourth (onward s)
    go (k0 f e) = via onward s (12 * f + 9) (12 * f + 10) (3 * f + 1) (omega arith) (omega arith) (omega arith) (omega arith)
    go (k1 f e) = via onward s (12 * f + 10) (12 * f + 11) (3 * f + 2) (omega arith) (omega arith) (omega arith) (omega arith)
    go (k2 f e) = via onward s (12 * f + 11) (12 * f + 9) (3 * f) (omega arith) (omega arith) (omega arith) (omega arith)

pub back-fourth : (s : ℕ) → backward (fourth s) ≡ fourth (backward s)
back-fourth s = go (third s)
  where
    go : Third s → backward (fourth s) ≡ fourth (backward s)
    go (k0 f e) = via backward s (12 * f + 9) (12 * f + 11) (3 * f + 2) (omega arith) (omega arith) (omega arith) (omega arith)
    go (k1 f e) = via backward s (12 * f + 10) (12 * f + 9) (3 * f) (omega arith) (omega arith) (omega arith) (omega arith)
    go (k2 f e) = via backward s (12 * f + 11) (12 * f + 10) (3 * f + 1) (omega arith) (omega arith) (omega arith) (omega arith)

-- the place of the second half of side s, by steps
pub step3 : (s a b c : ℕ) → onward s ≡ a → restart a ≡ b → backward b ≡ c → c ≡ backward (restart (onward s))
step3 s a b c p q r = sym (ap (λ (y : ℕ). backward (restart y)) p ∙ ap backward q ∙ r)

-- s and t lie on one edge
pub data Shares (fs : List ℕ) (s t : ℕ) : Type 0 where
  itself : t ≡ s → Shares fs s t
  across : Twins fs s t → Shares fs s t

abbrev pub finer_of : ℕ → ℕ → List ℕ → List ℕ
finer_of v n fs = gather (children v fs (links fs)) (count 0 n)

abbrev pub mid_of : ℕ → List ℕ → ℕ → ℕ
mid_of v fs s = middle v (links fs) s

module _ (v n : ℕ) (fs : List ℕ) (g : Good v n fs) where
  pub inside : {s : ℕ} → s < 3 * n → s < length fs
  inside h = omega (arith, g.size)

  pub outside : {s : ℕ} → s < length fs → s < 3 * n
  outside h = omega (arith, g.size)

  pub uniq : Unique fs
  uniq s t hs ht = g.unique s t (outside hs) (outside ht)

  pub twins-sym : (s t : ℕ) → s < 3 * n → Twins fs s t → Twins fs t s
  twins-sym s t h w = record { below = inside h; from = sym w.to; to = sym w.from }

  pub link-is : (s t : ℕ) → s < 3 * n → Twins fs s t → get_or (links fs) s none ≡ some t
  link-is s t h w = twin-is fs uniq s t (inside h) w

  -- ---- the first side of an edge

  first_of-shares : (s : ℕ) → s < 3 * n → (o : Option ℕ) → get_or (links fs) s none ≡ o → Shares fs s (first_of s o)
  first_of-shares s h none e = itself refl
  first_of-shares s h (some t) e = go (leb s t) refl
    where
      w : Twins fs s t
      w = twin-some fs s t (inside h) e

      go : (b : Bool) → leb s t ≡ b → Shares fs s (min s t)
      go true q = itself (omega (arith, leb→le s t (rw q tt)))
      go false q =
          let l : t < s = nleb→lt s t (rw q tt) in
          let m : min s t ≡ t = omega arith in
          across (rw m w)

  pub meeting-shares : (s : ℕ) → s < 3 * n → Shares fs s (meeting (links fs) s)
  meeting-shares s h = first_of-shares s h (get_or (links fs) s none) refl

  first_of-first : (s : ℕ) → s < 3 * n → (o : Option ℕ) → get_or (links fs) s none ≡ o → T (first_met (links fs) (first_of s o))
  first_of-first s h none e = rw e tt
  first_of-first s h (some t) e = go (leb s t) refl
    where
      go : (b : Bool) → leb s t ≡ b → T (first_met (links fs) (min s t))
      go true q =
          let m : min s t ≡ s = omega (arith, leb→le s t (rw q tt)) in
          rw (m, e, q) tt
      go false q =
          let l : t < s = nleb→lt s t (rw q tt) in
          let m : min s t ≡ t = omega arith in
          let b : get_or (links fs) t none ≡ some s = twin-back fs uniq s t (inside h) e in
          rw (m, b) (le→leb t s (omega arith))

  pub meeting-first : (s : ℕ) → s < 3 * n → T (first_met (links fs) (meeting (links fs) s))
  meeting-first s h = first_of-first s h (get_or (links fs) s none) refl

  pub middle-twin : (s t : ℕ) → s < 3 * n → Twins fs s t → middle v (links fs) s ≡ middle v (links fs) t
  middle-twin s t h w =
      let a = link-is s t h w in
      let b = link-is t s (outside w.below) (twins-sym s t h w) in
      rw (a, b, min_comm s t)

  shares-same : (s t m : ℕ) → s < 3 * n → t < 3 * n → Shares fs s m → Shares fs t m → Shares fs s t
  shares-same s t m hs ht (itself p) (itself q) = itself (sym q ∙ p)
  shares-same s t m hs ht (itself p) (across w) = across (twins-sym t s ht (rw p at w))
  shares-same s t m hs ht (across w) (itself q) = across (rw q at w)
  shares-same s t m hs ht (across w) (across x) =
      itself (g.unique t s ht hs (sym x.to ∙ w.to) (sym x.from ∙ w.from))

  pub middle-shares : (s t : ℕ) → s < 3 * n → t < 3 * n → middle v (links fs) s ≡ middle v (links fs) t → Shares fs s t
  middle-shares s t hs ht e =
      let m : meeting (links fs) s ≡ meeting (links fs) t =
      rank-inj (first_met (links fs)) (meeting (links fs) s) (meeting (links fs) t) (meeting-first s hs) (meeting-first t ht) (omega arith) in
      shares-same s t (meeting (links fs) s) hs ht (meeting-shares s hs) (rw m (meeting-shares t ht))

  -- ---- two sides of one edge, and their neighbours in their faces

  -- the three corners of a face differ
  pub ab : (s : ℕ) → s < 3 * n → corner fs s ≡ corner fs (onward s) → ⊥
  ab s h e = g.apart s h e

  pub bc : (s : ℕ) → s < 3 * n → corner fs (onward s) ≡ corner fs (backward s) → ⊥
  bc s h e = g.apart (onward s) (on_below s n h) (e ∙ ap (corner fs) (sym (on-twice s)))

  pub ca : (s : ℕ) → s < 3 * n → corner fs s ≡ corner fs (backward s) → ⊥
  ca s h e = g.apart (backward s) (back_below s n h) (sym e ∙ ap (corner fs) (sym (on-back s)))

  cut-cut : (s t : ℕ) → s < 3 * n → Shares fs s t → Shares fs (backward s) (backward t) → s ≡ t
  cut-cut s t h (itself p) y = sym p
  cut-cut s t h (across w) (itself q) = sym (sym (on-back t) ∙ ap onward q ∙ on-back s)
  cut-cut s t h (across w) (across x) = absurd (bc s h (sym w.from ∙ ap (corner fs) (sym (on-back t)) ∙ x.to))

  core-core : (s t : ℕ) → s < 3 * n → Shares fs s t → Shares fs (onward s) (onward t) → s ≡ t
  core-core s t h (itself p) y = sym p
  core-core s t h (across w) (itself q) = sym (sym (back_on t) ∙ ap backward q ∙ back_on s)
  core-core s t h (across w) (across x) = absurd (ca s h (sym w.to ∙ x.from ∙ ap (corner fs) (on-twice s)))

  cut-core : (s t : ℕ) → s < 3 * n → Shares fs s t → Shares fs (backward s) (onward t) → ⊥
  cut-core s t h (itself p) (itself q) = on-not-back s (ap onward (sym p) ∙ q)
  cut-core s t h (itself p) (across x) = ab s h (ap (corner fs) (sym (on-back s)) ∙ sym x.from ∙ ap (λ (y : ℕ). corner fs (onward y)) p)
  cut-core s t h (across w) (itself q) = ca s h (sym w.to ∙ ap (corner fs) q)
  cut-core s t h (across w) (across x) = g.unfolded s t h w (sym x.to ∙ ap (corner fs) (on-twice t))

  cut-flip : (s t : ℕ) → s < 3 * n → Shares fs s (backward t) → Shares fs (backward s) t → ⊥
  cut-flip s t h (itself p) (itself q) = on-not-self s (sym (back-twice s) ∙ ap backward (sym q) ∙ p)
  cut-flip s t h (itself p) (across x) = ab s h (ap (corner fs) (sym (on-back s)) ∙ sym x.from ∙ ap (corner fs) (sym (on-back t) ∙ ap onward p))
  cut-flip s t h (across w) (itself q) = ca s h (sym w.to ∙ ap (corner fs) (on-back t ∙ q))
  cut-flip s t h (across w) (across x) = g.unfolded (backward s) t (back_below s n h) x (ap (corner fs) (back-twice s) ∙ sym w.from)

  core-flip : (s t : ℕ) → s < 3 * n → Shares fs s (onward t) → Shares fs (onward s) t → ⊥
  core-flip s t h (itself p) (itself q) = back-not-self s (sym (on-twice s) ∙ ap onward (sym q) ∙ p)
  core-flip s t h (itself p) (across x) = ab s h (ap (corner fs) (sym p) ∙ x.to)
  core-flip s t h (across w) (itself q) = bc s h (sym w.from ∙ ap (corner fs) (ap onward q ∙ on-twice s))
  core-flip s t h (across w) (across x) = g.unfolded s (onward t) h w (ap (corner fs) (sym (on-twice s)) ∙ sym x.from ∙ ap (corner fs) (sym (back_on t)))

  -- ---- the corners of the refined mesh

  pub length-finer : length (finer_of v n fs) ≡ 3 * (4 * n)
  length-finer = length-gather (children v fs (links fs)) 12 (λ f. refl) (count 0 n) ∙ omega (arith, length-count 0 n)

  pub corner-finer : (f r : ℕ) → f < n → r < 12 → corner (finer_of v n fs) (12 * f + r) ≡ get_or (children v fs (links fs) f) r 0
  corner-finer f r hf hr =
      get_or-gather (children v fs (links fs)) 12 (λ f. refl) (count 0 n) f r 0 0 (rw (length-count 0 n) hf) hr
      ∙ ap (λ (k : ℕ). get_or (children v fs (links fs) k) r 0) (get_or-count 0 n f 0 hf ∙ omega arith)

  piece : (x f r : ℕ) → x ≡ 12 * f + r → f < n → r < 12 → corner (finer_of v n fs) x ≡ get_or (children v fs (links fs) f) r 0
  piece x f r e hf hr = ap (corner (finer_of v n fs)) e ∙ corner-finer f r hf hr

  pub at-restart : (s : ℕ) → s < 3 * n → corner (finer_of v n fs) (restart s) ≡ corner fs s
  at-restart s h = go (third s)
    where
      go : Third s → corner (finer_of v n fs) (restart s) ≡ corner fs s
      go (k0 f e) = piece (restart s) f 0 (omega arith) (omega arith) (omega arith) ∙ sym (ap (corner fs) e)
      go (k1 f e) = piece (restart s) f 4 (omega arith) (omega arith) (omega arith) ∙ sym (ap (corner fs) e)
      go (k2 f e) = piece (restart s) f 8 (omega arith) (omega arith) (omega arith) ∙ sym (ap (corner fs) e)

  pub at_onward : (s : ℕ) → s < 3 * n → corner (finer_of v n fs) (onward (restart s)) ≡ mid_of v fs s
  at_onward s h = go (third s)
    where
      go : Third s → corner (finer_of v n fs) (onward (restart s)) ≡ mid_of v fs s
      go (k0 f e) = piece (onward (restart s)) f 1 (on-at (restart s) (12 * f) (omega arith) ∙ omega arith) (omega arith) (omega arith) ∙ sym (ap (mid_of v fs) e)
      go (k1 f e) = piece (onward (restart s)) f 5 (on-at (restart s) (12 * f + 4) (omega arith) ∙ omega arith) (omega arith) (omega arith) ∙ sym (ap (mid_of v fs) e)
      go (k2 f e) = piece (onward (restart s)) f 6 (on-at (restart s) (12 * f + 8) (omega arith) ∙ omega arith) (omega arith) (omega arith) ∙ sym (ap (mid_of v fs) e)

  pub at-backward : (s : ℕ) → s < 3 * n → corner (finer_of v n fs) (backward (restart s)) ≡ mid_of v fs (backward s)
  at-backward s h = go (third s)
    where
      go : Third s → corner (finer_of v n fs) (backward (restart s)) ≡ mid_of v fs (backward s)
      go (k0 f e) = let q : 3 * f + 2 ≡ backward s = omega arith in piece (backward (restart s)) f 2 (back_at (restart s) (12 * f) (omega arith) ∙ omega arith) (omega arith) (omega arith) ∙ ap (mid_of v fs) q
      go (k1 f e) = let q : 3 * f ≡ backward s = omega arith in piece (backward (restart s)) f 3 (back_at (restart s) (12 * f + 4) (omega arith) ∙ omega arith) (omega arith) (omega arith) ∙ ap (mid_of v fs) q
      go (k2 f e) = let q : 3 * f + 1 ≡ backward s = omega arith in piece (backward (restart s)) f 7 (back_at (restart s) (12 * f + 8) (omega arith) ∙ omega arith) (omega arith) (omega arith) ∙ ap (mid_of v fs) q

  pub at-fourth : (s : ℕ) → s < 3 * n → corner (finer_of v n fs) (fourth s) ≡ mid_of v fs s
  at-fourth s h = go (third s)
    where
      go : Third s → corner (finer_of v n fs) (fourth s) ≡ mid_of v fs s
      go (k0 f e) = piece (fourth s) f 9 (omega arith) (omega arith) (omega arith) ∙ sym (ap (mid_of v fs) e)
      go (k1 f e) = piece (fourth s) f 10 (omega arith) (omega arith) (omega arith) ∙ sym (ap (mid_of v fs) e)
      go (k2 f e) = piece (fourth s) f 11 (omega arith) (omega arith) (omega arith) ∙ sym (ap (mid_of v fs) e)

  -- ---- the sides of the refined mesh: the halves of a side, what cuts off a corner, and the sides of the fourth child

  pub record Ends (x a b c : ℕ) : Type 0 where
    pub from : corner (finer_of v n fs) x ≡ a
    pub to : corner (finer_of v n fs) (onward x) ≡ b
    pub far : corner (finer_of v n fs) (backward x) ≡ c

  pub data Kind (x : ℕ) : Type 0 where
    first : (s : ℕ) → s < 3 * n → x ≡ restart s → Ends x (corner fs s) (mid_of v fs s) (mid_of v fs (backward s)) → Kind x
    second : (s : ℕ) → s < 3 * n → x ≡ backward (restart (onward s)) → Ends x (mid_of v fs s) (corner fs (onward s)) (mid_of v fs (onward s)) → Kind x
    cut : (s : ℕ) → s < 3 * n → x ≡ onward (restart s) → Ends x (mid_of v fs s) (mid_of v fs (backward s)) (corner fs s) → Kind x
    core : (s : ℕ) → s < 3 * n → x ≡ fourth s → Ends x (mid_of v fs s) (mid_of v fs (onward s)) (mid_of v fs (backward s)) → Kind x

  pub a_first : (x s : ℕ) → s < 3 * n → x ≡ restart s → Kind x
  a_first x s h e = first s h e (record {
    from = ap (corner (finer_of v n fs)) e ∙ at-restart s h;
    to = ap (λ (y : ℕ). corner (finer_of v n fs) (onward y)) e ∙ at_onward s h;
    far = ap (λ (y : ℕ). corner (finer_of v n fs) (backward y)) e ∙ at-backward s h;
  })

  pub a_second : (x s : ℕ) → s < 3 * n → x ≡ backward (restart (onward s)) → Kind x
  a_second x s h e =
      let o = on_below s n h in
      second s h e (record {
        from = ap (corner (finer_of v n fs)) e ∙ at-backward (onward s) o ∙ ap (mid_of v fs) (back_on s);
        to = ap (λ (y : ℕ). corner (finer_of v n fs) (onward y)) e ∙ ap (corner (finer_of v n fs)) (on-back (restart (onward s))) ∙ at-restart (onward s) o;
        far = ap (λ (y : ℕ). corner (finer_of v n fs) (backward y)) e ∙ ap (corner (finer_of v n fs)) (back-twice (restart (onward s))) ∙ at_onward (onward s) o;
      })

  pub a-cut : (x s : ℕ) → s < 3 * n → x ≡ onward (restart s) → Kind x
  a-cut x s h e = cut s h e (record {
    from = ap (corner (finer_of v n fs)) e ∙ at_onward s h;
    to = ap (λ (y : ℕ). corner (finer_of v n fs) (onward y)) e ∙ ap (corner (finer_of v n fs)) (on-twice (restart s)) ∙ at-backward s h;
    far = ap (λ (y : ℕ). corner (finer_of v n fs) (backward y)) e ∙ ap (corner (finer_of v n fs)) (back_on (restart s)) ∙ at-restart s h;
  })

  pub a-core : (x s : ℕ) → s < 3 * n → x ≡ fourth s → Kind x
  a-core x s h e = core s h e (record {
    from = ap (corner (finer_of v n fs)) e ∙ at-fourth s h;
    to = ap (λ (y : ℕ). corner (finer_of v n fs) (onward y)) e ∙ ap (corner (finer_of v n fs)) (on-fourth s) ∙ at-fourth (onward s) (on_below s n h);
    far = ap (λ (y : ℕ). corner (finer_of v n fs) (backward y)) e ∙ ap (corner (finer_of v n fs)) (back-fourth s) ∙ at-fourth (backward s) (back_below s n h);
  })

  pub kind : (x : ℕ) → x < 3 * (4 * n) → Kind x
  kind x h = go (x / 3 / 4) (x / 3 % 4) (x % 3) (omega arith) (omega arith) (omega arith)
    where
      go : (f j k : ℕ) → x ≡ 12 * f + 3 * j + k → j < 4 → k < 3 → Kind x
      go f zero zero e hj hk = a_first x (3 * f) (omega arith) (omega arith)
      go f zero (suc zero) e hj hk = a-cut x (3 * f) (omega arith) (e ∙ sym (on-at (restart (3 * f)) (12 * f) (omega arith) ∙ omega arith))
      go f zero (suc (suc zero)) e hj hk =
          a_second x (3 * f + 2) (omega arith) (e ∙ step3 (3 * f + 2) (3 * f) (12 * f) (12 * f + 3 * 0 + 2) (omega arith) (omega arith) (omega arith))
      go f (suc zero) zero e hj hk =
          a_second x (3 * f) (omega arith) (e ∙ step3 (3 * f) (3 * f + 1) (12 * f + 4) (12 * f + 3 * 1 + 0) (omega arith) (omega arith) (omega arith))
      go f (suc zero) (suc zero) e hj hk = a_first x (3 * f + 1) (omega arith) (omega arith)
      go f (suc zero) (suc (suc zero)) e hj hk = a-cut x (3 * f + 1) (omega arith) (e ∙ sym (on-at (restart (3 * f + 1)) (12 * f + 4) (omega arith) ∙ omega arith))
      go f (suc (suc zero)) zero e hj hk = a-cut x (3 * f + 2) (omega arith) (e ∙ sym (on-at (restart (3 * f + 2)) (12 * f + 8) (omega arith) ∙ omega arith))
      go f (suc (suc zero)) (suc zero) e hj hk =
          a_second x (3 * f + 1) (omega arith) (e ∙ step3 (3 * f + 1) (3 * f + 2) (12 * f + 8) (12 * f + 3 * 2 + 1) (omega arith) (omega arith) (omega arith))
      go f (suc (suc zero)) (suc (suc zero)) e hj hk = a_first x (3 * f + 2) (omega arith) (omega arith)
      go f (suc (suc (suc zero))) zero e hj hk = a-core x (3 * f) (omega arith) (omega arith)
      go f (suc (suc (suc zero))) (suc zero) e hj hk = a-core x (3 * f + 1) (omega arith) (omega arith)
      go f (suc (suc (suc zero))) (suc (suc zero)) e hj hk = a-core x (3 * f + 2) (omega arith) (omega arith)
      go f (suc (suc (suc (suc j)))) k e hj hk = absurd (omega arith)
      go f zero (suc (suc (suc k))) e hj hk = absurd (omega arith)
      go f (suc zero) (suc (suc (suc k))) e hj hk = absurd (omega arith)
      go f (suc (suc zero)) (suc (suc (suc k))) e hj hk = absurd (omega arith)
      go f (suc (suc (suc zero))) (suc (suc (suc k))) e hj hk = absurd (omega arith)

  -- ---- no directed side of the refined mesh is used twice

  -- an old vertex is below v, and a new one is not
  pub old-new : (s t : ℕ) → s < 3 * n → corner fs s ≡ mid_of v fs t → ⊥
  old-new s t h e = omega (arith, g.below s h)

  pub b3 : {s : ℕ} → s < 3 * n → backward s < 3 * n
  b3 {s} h = back_below s n h

  pub o3 : {s : ℕ} → s < 3 * n → onward s < 3 * n
  o3 {s} h = on_below s n h

  same_first : (s t : ℕ) → s < 3 * n → corner fs s ≡ corner fs t → Shares fs s t → s ≡ t
  same_first s t h e (itself p) = sym p
  same_first s t h e (across w) = absurd (ab s h (e ∙ w.from))

  same_second : (s t : ℕ) → s < 3 * n → corner fs (onward s) ≡ corner fs (onward t) → Shares fs s t → s ≡ t
  same_second s t h e (itself p) = sym p
  same_second s t h e (across w) = absurd (ab s h (sym (e ∙ w.to)))

  pub unique-finer : (x y : ℕ) → Kind x → Kind y → corner (finer_of v n fs) x ≡ corner (finer_of v n fs) y → corner (finer_of v n fs) (onward x) ≡ corner (finer_of v n fs) (onward y) → x ≡ y
  unique-finer x y (first s h e p) (first t k f q) a b =
      e ∙ ap restart (same_first s t h (cc) (middle-shares s t h k (cc))) ∙ sym f
  unique-finer x y (first s h e p) (second t k f q) a b = absurd (old-new s t h (cc))
  unique-finer x y (first s h e p) (cut t k f q) a b = absurd (old-new s t h (cc))
  unique-finer x y (first s h e p) (core t k f q) a b = absurd (old-new s t h (cc))
  unique-finer x y (second s h e p) (first t k f q) a b = absurd (old-new t s k (cc))
  unique-finer x y (second s h e p) (second t k f q) a b =
      e ∙ ap (λ (z : ℕ). backward (restart (onward z))) (same_second s t h (cc) (middle-shares s t h k (cc))) ∙ sym f
  unique-finer x y (second s h e p) (cut t k f q) a b = absurd (old-new (onward s) (backward t) (o3 h) (cc))
  unique-finer x y (second s h e p) (core t k f q) a b = absurd (old-new (onward s) (onward t) (o3 h) (cc))
  unique-finer x y (cut s h e p) (first t k f q) a b = absurd (old-new t s k (cc))
  unique-finer x y (cut s h e p) (second t k f q) a b = absurd (old-new (onward t) (backward s) (o3 k) (cc))
  unique-finer x y (cut s h e p) (cut t k f q) a b =
      e ∙ ap (λ (z : ℕ). onward (restart z)) (cut-cut s t h (middle-shares s t h k (cc)) (middle-shares (backward s) (backward t) (b3 h) (b3 k) (cc))) ∙ sym f
  unique-finer x y (cut s h e p) (core t k f q) a b =
      absurd (cut-core s t h (middle-shares s t h k (cc)) (middle-shares (backward s) (onward t) (b3 h) (o3 k) (cc)))
  unique-finer x y (core s h e p) (first t k f q) a b = absurd (old-new t s k (cc))
  unique-finer x y (core s h e p) (second t k f q) a b = absurd (old-new (onward t) (onward s) (o3 k) (cc))
  unique-finer x y (core s h e p) (cut t k f q) a b =
      absurd (cut-core t s k (middle-shares t s k h (cc)) (middle-shares (backward t) (onward s) (b3 k) (o3 h) (cc)))
  unique-finer x y (core s h e p) (core t k f q) a b =
      e ∙ ap fourth (core-core s t h (middle-shares s t h k (cc)) (middle-shares (onward s) (onward t) (o3 h) (o3 k) (cc))) ∙ sym f

  -- ---- the rest of what the checks established

  -- how many edges
  abbrev pub edges : ℕ
  edges = length (firsts (links fs))

  pub shares-below : (s t : ℕ) → s < 3 * n → Shares fs s t → t < 3 * n
  shares-below s t h (itself p) = omega arith
  shares-below s t h (across w) = outside w.below

  pub mid-below : (s : ℕ) → s < 3 * n → mid_of v fs s < v + edges
  mid-below s h =
      let m = meeting (links fs) s in
      let b : m < 3 * n = shares-below s m h (meeting-shares s h) in
      let l : length (links fs) ≡ 3 * n = length-links fs ∙ g.size in
      let k : edges ≡ tally (first_met (links fs)) (count 0 (3 * n)) = length-keep (first_met (links fs)) (count 0 (length (links fs))) ∙ ap (λ (z : ℕ). tally (first_met (links fs)) (count 0 z)) l in
      omega (arith, rank_lt (first_met (links fs)) m (3 * n) (meeting-first s h) b)

  below-finer : (x : ℕ) → Kind x → corner (finer_of v n fs) x < v + edges
  below-finer x (first s h e p) = omega (arith, g.below s h, p.from)
  below-finer x (second s h e p) = rw p.from (mid-below s h)
  below-finer x (cut s h e p) = rw p.from (mid-below s h)
  below-finer x (core s h e p) = rw p.from (mid-below s h)

  not_back : (s : ℕ) → s < 3 * n → Shares fs s (backward s) → ⊥
  not_back s h (itself p) = back-not-self s p
  not_back s h (across w) = bc s h (sym w.from)

  not_on : (s : ℕ) → s < 3 * n → Shares fs s (onward s) → ⊥
  not_on s h (itself p) = on-not-self s p
  not_on s h (across w) = ca s h (sym w.to ∙ ap (corner fs) (on-twice s))

  apart-finer : (x : ℕ) → Kind x → corner (finer_of v n fs) x ≢ corner (finer_of v n fs) (onward x)
  apart-finer x (first s h e p) q = old-new s s h (cc)
  apart-finer x (second s h e p) q = old-new (onward s) s (o3 h) (cc)
  apart-finer x (cut s h e p) q = not_back s h (middle-shares s (backward s) h (b3 h) (cc))
  apart-finer x (core s h e p) q = not_on s h (middle-shares s (onward s) h (o3 h) (cc))

  unfolded-finer : (x y : ℕ) → Kind x → Kind y → Twins (finer_of v n fs) x y → corner (finer_of v n fs) (backward x) ≢ corner (finer_of v n fs) (backward y)
  unfolded-finer x y (first s h e p) (first t k f q) w z = old-new s t h (cc)
  unfolded-finer x y (first s h e p) (second t k f q) w z =
      cut-core s t h (middle-shares s t h k (cc)) (middle-shares (backward s) (onward t) (b3 h) (o3 k) (cc))
  unfolded-finer x y (first s h e p) (cut t k f q) w z = old-new s (backward t) h (cc)
  unfolded-finer x y (first s h e p) (core t k f q) w z = old-new s (onward t) h (cc)
  unfolded-finer x y (second s h e p) (first t k f q) w z =
      cut-core t s k (middle-shares t s k h (cc)) (middle-shares (backward t) (onward s) (b3 k) (o3 h) (cc))
  unfolded-finer x y (second s h e p) (second t k f q) w z = old-new (onward s) t (o3 h) (cc)
  unfolded-finer x y (second s h e p) (cut t k f q) w z = old-new (onward s) t (o3 h) (cc)
  unfolded-finer x y (second s h e p) (core t k f q) w z = old-new (onward s) t (o3 h) (cc)
  unfolded-finer x y (cut s h e p) (first t k f q) w z = old-new t (backward s) k (cc)
  unfolded-finer x y (cut s h e p) (second t k f q) w z = old-new (onward t) s (o3 k) (cc)
  unfolded-finer x y (cut s h e p) (cut t k f q) w z =
      cut-flip s t h (middle-shares s (backward t) h (b3 k) (cc)) (middle-shares (backward s) t (b3 h) k (cc))
  unfolded-finer x y (cut s h e p) (core t k f q) w z = old-new s (backward t) h (cc)
  unfolded-finer x y (core s h e p) (first t k f q) w z = old-new t (onward s) k (cc)
  unfolded-finer x y (core s h e p) (second t k f q) w z = old-new (onward t) s (o3 k) (cc)
  unfolded-finer x y (core s h e p) (cut t k f q) w z = old-new t (backward s) k (cc)
  unfolded-finer x y (core s h e p) (core t k f q) w z =
      core-flip s t h (middle-shares s (onward t) h (o3 k) (cc)) (middle-shares (onward s) t (o3 h) k (cc))

  pub good-finer : Good (v + edges) (4 * n) (finer_of v n fs)
  good-finer =
      record {
        size = length-finer;
        below = λ x h. below-finer x (kind x h);
        apart = λ x h. apart-finer x (kind x h);
        unique = λ x y h k. unique-finer x y (kind x h) (kind y k);
        unfolded = λ x y h w. unfolded-finer x y (kind x h) (kind y (omega (arith, w.below, length-finer))) w;
      }
