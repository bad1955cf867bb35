-- Starts, corner counts and turns, from the chains and the link words.
use Rattle.std.specs.Prelude.{Ok}
use mathlib.Core.Path.{◌≡◌, refl, sym, ap, ◌∙◌}
use Prim.Native.Nat.{ℕ, zero, suc, ◌+◌, ◌-◌, ◌*◌, ◌/◌, ◌%◌, ◌≤◌, ◌<◌}
use native.Mathlib.Omega.{arith}
use native.Mathlib.Numerals.{add-one}
use mathlib.Core.Bool.{Bool, true, false, not}
use mathlib.Core.List.{List, [], ◌∷◌, ◌++◌, map}
use mathlib.Core.Option.{Option}
use lib.Dec.{T, eqb, ltb}
use lib.ListN.{length, get_or, set, take, replicate, length-map, length-set, length-replicate, get_or-replicate}
use lib.Seq.{ext_get_or, get_or-take, length-take-le, take-suc, get_or-set_same, get_or-set_other}
use borrow.Author.Tests.{ne_eqb, eqb-true, eqb-false, lt-ltb}
use Rattle.lists.specs.Lists.{pick, count, bit, find, lowest, found, keep, tally, last_of}
use Rattle.lists.proofs.Places.{length-count, get_or-count, get_d_map, keep-suc, lowest-none}
use Rattle.lists.proofs.Counting.{tally-append}
use Rattle.turns.specs.Turns.{most_valence}
use Rattle.rules.specs.Mesh.{corner, links, rims, Fan, inner, rim, endless, fan, corners, valence, last_corner, cage}
use Rattle.rules.specs.Refusals.{check, fans_of}
use Rattle.rules.proofs.Sides.{length-links}
use Rattle.rules.proofs.Checks.{check-none}
use Rattle.faces.specs.Words.{link_of, coded, links_in}
use Rattle.faces.specs.Rings.{turn_of, valence_of}
use Rattle.cage.specs.Chains.{last_below, leaves, before, Heads}
use Rattle.cage.specs.Fans.{Tallied, Used, short_of}
use Rattle.limits.specs.Verdicts.{verdict_of}
use Rattle.limits.proofs.Search.{passes}
use Rattle.cage.proofs.Chains.{found-last, eqb-sym}
use Rattle.cage.proofs.Across.{link-coded}

-- ---- starts

pub last-append : (d x : ℕ) (l : List ℕ) → last_of d (l ++ (x ∷ [])) ≡ x
last-append d x [] = refl
last-append d x (y ∷ l) = last-append y x l

append-none : (l : List ℕ) → l ++ [] ≡ l
append-none [] = refl
append-none (x ∷ l) = ap {B = List ℕ} (λ m. x ∷ m) (append-none l)

-- the last that passes, whether found by the list or by the chain
pub last-kept : (p : ℕ → Bool) (n : ℕ) → last_of 0 (keep p (count 0 n)) ≡ last_below p n - 1
unfolding last_below
last-kept p zero = refl
last-kept p (suc n) = ap (last_of 0) (keep-suc p 0 n) ∙ go (p n) refl (last-kept p n)
  where
    z : 0 + n ≡ n
    z = omega arith

    go : (b : Bool) → p n ≡ b → last_of 0 (keep p (count 0 n)) ≡ last_below p n - 1 → last_of 0 (keep p (count 0 n) ++ pick (p (0 + n)) ((0 + n) ∷ []) []) ≡ pick (p n) (suc n) (last_below p n) - 1
    go true e r = rw (z, e) (last-append 0 n (keep p (count 0 n)) ∙ omega arith)
    go false e r = rw (z, e) (ap (last_of 0) (append-none (keep p (count 0 n))) ∙ r)

pub corner-at : (fs : List ℕ) (u : ℕ) → last_corner fs u ≡ before (last_below (leaves fs u) (length fs))
corner-at fs u = last-kept (leaves fs u) (length fs)

pub start-at : (v : ℕ) (fs : List ℕ) (u : ℕ) → u < v → get_or (cage v fs).starts u 0 ≡ last_corner fs u
unfolding cage
start-at v fs u h = get_d_map (last_corner fs) (count 0 v) u 0 0 (rw (length-count 0 v) h) ∙ ap (last_corner fs) (get_or-count 0 v u 0 h ∙ omega arith)

pub length-starts : (v : ℕ) (fs : List ℕ) → length (cage v fs).starts ≡ v
unfolding cage
length-starts v fs = length-map (count 0 v) (last_corner fs) ∙ length-count 0 v

pub starts-are : (v : ℕ) (fs heads : List ℕ) → v ≤ length heads → Heads fs (length fs) heads → map before (take v heads) ≡ (cage v fs).starts
starts-are v fs heads h w =
    let n : length (take v heads) ≡ v = length-take-le v heads h in
    ext_get_or 0 (map before (take v heads)) (cage v fs).starts (length-map (take v heads) before ∙ n ∙ sym (length-starts v fs)) (λ u k.
    let l : u < v = rw (length-map (take v heads) before, n) at k in
    get_d_map before (take v heads) u 0 0 (rw n l)
    ∙ ap before (get_or-take v heads u 0 l ∙ w.head u (omega arith))
    ∙ sym (start-at v fs u l ∙ corner-at fs u))

pub fan-at : (v : ℕ) (fs : List ℕ) (u : ℕ) → u < v → fans_of v fs u ≡ fan (links fs) (last_corner fs u)
fan-at v fs u h = ap (fan (links fs)) (start-at v fs u h)

-- ---- links

decoded : (ls : List (Option ℕ)) → map link_of (map coded ls) ≡ ls
decoded [] = refl
decoded (o ∷ ls) = rw (link-coded o, decoded ls)

pub links-all : (fs w : List ℕ) → take (length fs) w ≡ map coded (links fs) → links_in w 0 (length fs) ≡ links fs
links-all fs w e = ap (map link_of) e ∙ decoded (links fs)

pub links-in : (fs w : List ℕ) → length fs % 3 ≡ 0 → take (length fs) w ≡ map coded (links fs) → links_in w 0 (3 * (length fs / 3)) ≡ links fs
links-in fs w t e =
    let n : 3 * (length fs / 3) ≡ length fs = omega arith in
    ap (links_in w 0) n ∙ links-all fs w e

-- ---- corner counts

tally-le : {A : Type 0} (p : A → Bool) (l : List A) → tally p l ≤ length l
tally-le p [] = omega arith
tally-le p (x ∷ l) = let h = tally-le p l in go (p x) h
  where
    go : (b : Bool) → tally p l ≤ length l → bit b + tally p l ≤ suc (length l)
    go true h = omega arith
    go false h = omega arith

tally-more : (fs : List ℕ) (s a : ℕ) → s < length fs → tally (eqb a) (take (s + 1) fs) ≡ tally (eqb a) (take s fs) + bit (eqb a (corner fs s))
tally-more fs s a h = rw (add-one, take-suc fs s 0 h, tally-append (eqb a) (take s fs) (get_or fs s 0 ∷ [])) (omega arith)

pub rims-few : (fs : List ℕ) → rims (links fs) ≤ length fs
rims-few fs = rw (← (length-links fs)) (tally-le (λ l. not (found l)) (links fs))

pub counted_none : (fs : List ℕ) (n : ℕ) → Tallied fs 0 (replicate n 0)
counted_none fs n = record { each = λ a h. get_or-replicate n a 0 0 (rw (length-replicate {A = ℕ} n 0) at h) }

module _ (fs : List ℕ) (s : ℕ) (h : s < length fs) (counts : List ℕ) where
  pub counted-few : (a : ℕ) → a < length counts → Tallied fs s counts → get_or counts a 0 ≤ s
  counted-few a l w = rw (w.each a l) (omega (arith, tally-le (eqb a) (take s fs), length-take-le s fs (omega arith)))

  pub counted-more : corner fs s < length counts → Tallied fs s counts → Tallied fs (s + 1) (set counts (corner fs s) (get_or counts (corner fs s) 0 + 1))
  counted-more l w = record { each = λ a k. go a (rw (length-set counts (corner fs s) (get_or counts (corner fs s) 0 + 1)) at k) (eqb a (corner fs s)) refl }
    where
      go : (a : ℕ) → a < length counts → (b : Bool) → eqb a (corner fs s) ≡ b
          → get_or (set counts (corner fs s) (get_or counts (corner fs s) 0 + 1)) a 0 ≡ tally (eqb a) (take (s + 1) fs)
      go a k true e =
          let z : a ≡ corner fs s = eqb-true a (corner fs s) e in
          ap (λ (x : ℕ). get_or (set counts (corner fs s) (get_or counts (corner fs s) 0 + 1)) x 0) z
          ∙ get_or-set_same counts (corner fs s) (get_or counts (corner fs s) 0 + 1) 0 l
          ∙ ap (λ (x : ℕ). get_or counts x 0 + 1) (sym z)
          ∙ sym (tally-more fs s a h ∙ rw (e, w.each a k))
      go a k false e =
          get_or-set_other counts (corner fs s) a (get_or counts (corner fs s) 0 + 1) 0 (eqb-false a (corner fs s) e)
          ∙ sym (tally-more fs s a h ∙ rw (e, w.each a k) (omega arith))

-- ---- check 9

pub unused-is : (fs : List ℕ) (u : ℕ) → not (found (find (eqb u) fs)) ≡ eqb (last_below (leaves fs u) (length fs)) 0
unused-is fs u =
    ap not (found-last (eqb u) 0 fs (leaves fs u) (λ k h. eqb-sym (corner fs k) u)) ∙ none_below (last_below (leaves fs u) (length fs))
  where
    none_below : (n : ℕ) → not (ltb 0 n) ≡ eqb n 0
    none_below zero = refl
    none_below (suc n) = rw (lt-ltb 0 (suc n) (omega arith), ne_eqb (suc n) 0 (λ e. omega arith))

pub used-of : (v : ℕ) (fs heads : List ℕ) → v ≤ length heads → Heads fs (length fs) heads → verdict_of (check 9 (lowest (λ u. not (found (find (eqb u) fs))) v)) ≡ (Ok tt) → Used v heads
used-of v fs heads h w e = record {
  room = h;
  each = λ u l.
      let n = lowest-none (λ u. not (found (find (eqb u) fs))) v (check-none 9 _ (passes _ e)) u l in
      rw (w.head u (omega arith)) (above (last_below (leaves fs u) (length fs)) (rw (unused-is fs u) at n));
}
  where
    above : (m : ℕ) → T (not (eqb m 0)) → 0 < m
    above zero t = absurd t
    above (suc m) t = omega arith

-- ---- what a turn says of its fan

pub short-is : (f : Fan) (n : ℕ) → short_of (turn_of f) n ≡ ltb (length (corners f)) n
short-is (inner cs) n = refl
short-is (rim cs) n = refl
short-is endless n = refl

pub wide_is : (f : Fan) → ltb most_valence (valence_of (turn_of f)) ≡ ltb most_valence (valence f)
wide_is (inner cs) = refl
wide_is (rim cs) = refl
wide_is endless = refl
