-- What a scan of a list that has come so far says.
use Rattle.std.specs.Prelude.{Ok}
use mathlib.Core.Path.{◌≡◌, refl, sym, ap, ap₂, ◌∙◌}
use Prim.Native.Nat.{ℕ, zero, suc, ◌+◌, ◌-◌, ◌*◌, ◌/◌, ◌≤◌, ◌<◌}
use native.Mathlib.Omega.{arith}
use mathlib.Core.Bool.{Bool, true, false, not, ◌||◌}
use Rattle.std.specs.Prelude.{cond, count_by}
use Rattle.std.specs.List.{list_any}
use Rattle.std.proofs.lemmas.List.Sums.{sum_by-cons}
use Rattle.cage.proofs.Chains.{eqb-sym}
use mathlib.Core.List.{List, [], ◌∷◌, ◌++◌, append-nil, map}
use mathlib.Core.Option.{Option, none, some}
use lib.Dec.{T, T_not, eqb}
use lib.ListN.{length, get_or, set, take, length-map}
use lib.Seq.{sets, get_or-take, length-take-le, take-length}
use Rattle.lists.specs.Lists.{pick, later, bit, count, find, found, lowest, keep, tally, last_of, part}
use Rattle.lists.proofs.Places.{length-count, get_or-count, Look, nowhere, there, look, count_next, keep-next, tally-next, lowest-none}
use Rattle.lists.proofs.Stores.{sets-map}
use Rattle.lists.proofs.Counting.{tally-places}
use Rattle.rules.specs.Mesh.{onward, corner, Side, side, sides, links, rims, last_corner}
use Rattle.rules.specs.Refusals.{check, same, used_before}
use Rattle.rules.proofs.Checks.{check-none}
use Rattle.rules.proofs.Sides.{length-sides, get_or-sides, length-links}
use Rattle.faces.specs.Words.{coded}
use Rattle.limits.specs.Verdicts.{verdict_of}
use Rattle.cage.specs.Chains.{Faces, Apart}
use Rattle.limits.proofs.Search.{passed, failed, passes}
use Rattle.cage.proofs.Rounds.{last-append}
use Rattle.cage.proofs.SharpList.{zero_word}
use Rattle.looks.specs.Looked.{Seen}
use Rattle.scans.specs.Starts.{Started}

-- ---- whether one passes

module _ {A : Type 0} (p : A → Bool) (d : A) (l : List A) where
  pub found-one : (i : ℕ) → i < length l → p (get_or l i d) ≡ true → found (find p l) ≡ true
  found-one i h e = go (find p l) (look p d l)
    where
      go : (o : Option ℕ) → Look p l d o → found o ≡ true
      go _ (nowhere n) = absurd (T_not (p (get_or l i d)) (n i h) (passed _ e))
      go _ (there j f) = refl

  pub found_none : ((j : ℕ) → j < length l → p (get_or l j d) ≡ false) → found (find p l) ≡ false
  found_none b = go (find p l) (look p d l)
    where
      go : (o : Option ℕ) → Look p l d o → found o ≡ false
      go _ (nowhere n) = refl
      go _ (there j f) = absurd (T_not (p (get_or l j d)) (failed _ (b j f.below)) f.passes)

-- as the library says it
pub any_found : (u : ℕ) (l : List ℕ) → list_any (λ x. eqb x u) l ≡ found (find (eqb u) l)
any_found u [] = refl
any_found u (x ∷ l) = go (eqb u x) (eqb-sym x u) (find (eqb u) l) (any_found u l)
  where
    go : (b : Bool) → eqb x u ≡ b → (o : Option ℕ) → list_any (λ x. eqb x u) l ≡ found o → (eqb x u || list_any (λ x. eqb x u) l) ≡ found (pick b (some 0) (later o))
    go true e o h = rw e
    go false e none h = rw e h
    go false e (some i) h = rw e h

pub tally_counted : (p : ℕ → Bool) (l : List ℕ) → count_by p l ≡ tally p l
tally_counted p [] = refl
tally_counted p (x ∷ l) = sum_by-cons (λ y. cond (p y) 1 0) x l ∙ ap₂ (λ (a b : ℕ). a + b) (go (p x)) (tally_counted p l)
  where
    go : (b : Bool) → ◌≡◌ {A = ℕ} (cond b 1 0) (bit b)
    go true = refl
    go false = refl

module _ (p : ℕ → Bool) (n : ℕ) where
  at : (j : ℕ) → j < n → get_or (count 0 n) j 0 ≡ j
  at j h = get_or-count 0 n j 0 h ∙ omega arith

  pub low-one : (i : ℕ) → i < n → p i ≡ true → found (lowest p n) ≡ true
  low-one i h e = found-one p 0 (count 0 n) i (rw (length-count 0 n) h) (rw (at i h) e)

  pub low-none : ((j : ℕ) → j < n → p j ≡ false) → found (lowest p n) ≡ false
  low-none b = found_none p 0 (count 0 n) (λ j h. let k : j < n = rw (length-count 0 n) at h in rw (at j k) (b j k))

-- ---- sides that run alike

abbrev off : Side
off = record { from = 0; to = 0 }

module _ (fs : List ℕ) (s : ℕ) (h : s < length fs) (a b : ℕ) (A : a ≡ corner fs s) (B : b ≡ corner fs (onward s)) where
  abbrev ss : List Side
  ss = sides fs

  abbrev like : Side → Bool
  like = same (get_or ss s off)

  long : length (take s ss) ≡ s
  long = length-take-le s ss (rw (length-sides fs) (omega arith))

  like_is : (t : ℕ) → t < s → like (get_or (take s ss) t off) ≡ same (record { from = a; to = b }) (side fs t)
  like_is t k = rw (get_or-take s ss t off k, get_or-sides fs t off (omega arith), get_or-sides fs s off h, A, B) refl

  pub before-one : (t : ℕ) → t < s → same (record { from = a; to = b }) (side fs t) ≡ true → used_before ss s ≡ true
  before-one t k e = found-one like off (take s ss) t (rw long k) (like_is t k ∙ e)

  pub before-none : ((t : ℕ) → t < s → same (record { from = a; to = b }) (side fs t) ≡ false) → used_before ss s ≡ false
  before-none n = found_none like off (take s ss) (λ j k. let i : j < s = rw long at k in like_is j i ∙ n j i)

-- ---- the last of a list, and how many

module _ (p : ℕ → Bool) (t : ℕ) where
  pub last-here : p t ≡ true → t ≡ last_of 0 (keep p (count 0 (t + 1)))
  last-here e = sym (ap (last_of 0) (keep-next p t ∙ ap (λ (b : Bool). keep p (count 0 t) ++ pick b (t ∷ []) []) e) ∙ last-append 0 t (keep p (count 0 t)))

  pub last-same : p t ≡ false → last_of 0 (keep p (count 0 t)) ≡ last_of 0 (keep p (count 0 (t + 1)))
  last-same e = sym (ap (last_of 0) (keep-next p t ∙ ap (λ (b : Bool). keep p (count 0 t) ++ pick b (t ∷ []) []) e ∙ append-nil (keep p (count 0 t))))

  pub tally-one : p t ≡ true → tally p (count 0 t) + 1 ≡ tally p (count 0 (t + 1))
  tally-one e = sym (tally-next p t ∙ ap (λ (b : Bool). tally p (count 0 t) + bit b) e)

  pub tally-stays : p t ≡ false → tally p (count 0 t) ≡ tally p (count 0 (t + 1))
  tally-stays e = sym (tally-next p t ∙ ap (λ (b : Bool). tally p (count 0 t) + bit b) e ∙ omega arith)

-- ---- rim sides

module _ (fs : List ℕ) where
  -- a whole list as a part of itself
  part-all : part 0 (length fs) fs ≡ fs
  part-all = take-length fs

  pub rims-are : tally (λ s. not (found (get_or (links fs) s none))) (count 0 (length fs)) ≡ rims (links fs)
  rims-are =
      ap (λ (z : ℕ). tally (λ s. not (found (get_or (links fs) s none))) (count 0 z)) (sym (length-links fs))
      ∙ sym (tally-places (λ l. not (found l)) none (links fs) 0 (λ s. not (found (get_or (links fs) s none))) (λ k h. ap (λ (z : ℕ). not (found (get_or (links fs) z none))) (omega arith)))

  -- ---- all faces of a list

  module _ (w : Faces fs) where
    thrice : 3 * (length fs / 3) ≡ length fs
    thrice = let t = w.thirds in omega arith

    faces-all : part 0 (3 * (length fs / 3)) fs ≡ fs
    faces-all = ap (λ (z : ℕ). part 0 z fs) thrice ∙ part-all

-- ---- after check 9

last-le : (p : ℕ → Bool) (n : ℕ) → last_of 0 (keep p (count 0 (n + 1))) ≤ n
last-le p zero = go (p 0) refl
  where
    go : (b : Bool) → p 0 ≡ b → last_of 0 (keep p (count 0 (0 + 1))) ≤ 0
    go true e = rw (← last-here p 0 e) (omega arith)
    go false e = rw (← last-same p 0 e) (omega arith)
last-le p (suc n) = go (last-le p n) (p (suc n)) refl
  where
    go : last_of 0 (keep p (count 0 (n + 1))) ≤ n → (b : Bool) → p (suc n) ≡ b → last_of 0 (keep p (count 0 (suc n + 1))) ≤ suc n
    go h true e = rw (← last-here p (suc n) e) (omega arith)
    go h false e =
        let q : n + 1 ≡ suc n = omega arith in
        let i : last_of 0 (keep p (count 0 (suc n))) ≤ n = rw q at h in
        rw (← last-same p (suc n) e) (omega arith)

some-there : (fs : List ℕ) (u : ℕ) → T (found (find (eqb u) fs)) → 0 < length fs
some-there [] u t = absurd t
some-there (x ∷ fs) u t = omega arith

twice-not : (b : Bool) → T (not (not b)) → T b
twice-not true t = tt
twice-not false t = absurd t

pub started_of : (v : ℕ) (fs : List ℕ) → verdict_of (check 9 (lowest (λ u. not (found (find (eqb u) fs))) v)) ≡ (Ok tt) → Started v fs
started_of v fs e = record {
  each = λ u h.
      let b : 0 < length fs = some-there fs u (twice-not (found (find (eqb u) fs)) (lowest-none (λ u. not (found (find (eqb u) fs))) v (check-none 9 _ (passes _ e)) u h)) in
      let q : length fs - 1 + 1 ≡ length fs = omega arith in
      let m : last_corner fs u ≤ length fs - 1 = rw q at (last-le (λ s. eqb (corner fs s) u) (length fs - 1)) in
      omega arith;
}

-- ---- the start corners, one more

pub start-few : (p : ℕ → Bool) (n : ℕ) → last_of 0 (keep p (count 0 n)) ≤ n
start-few p zero = omega arith
start-few p (suc n) =
    let q : n + 1 ≡ suc n = omega arith in
    let i : last_of 0 (keep p (count 0 (suc n))) ≤ n = rw q at (last-le p n) in
    omega arith

pub starts_more : (fs w : List ℕ) (at u : ℕ) (x : List ℕ) → x ≡ sets w at (map (last_corner fs) (count 0 u)) → (s : ℕ) → s ≡ last_corner fs u → set x (at + u) s ≡ sets w at (map (last_corner fs) (count 0 (u + 1)))
starts_more fs w at u x e s S =
    ap₂ (λ (y : List ℕ) (z : ℕ). set y (at + u) z) e S
    ∙ sets-map (last_corner fs) (count 0 u) u w at (at + u) (ap (λ (z : ℕ). at + z) (length-map (count 0 u) (last_corner fs) ∙ length-count 0 u))
    ∙ sym (ap (λ (xs : List ℕ). sets w at (map (last_corner fs) xs)) (count_next u))
