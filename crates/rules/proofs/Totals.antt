-- With E edges, R rim sides and F faces: 2 E = 3 F + R, and one level has 2 E + 3 F edges and 2 R rim sides.
use mathlib.Core.Path.{◌≡◌, refl, sym, ap, ◌∙◌}
use mathlib.Core.Logic.{◌≢◌}
use Prim.Native.Nat.{ℕ, zero, suc, ◌+◌, ◌*◌, ◌/◌, ◌%◌, ◌<◌, ◌≤◌}
use native.Mathlib.Omega.{arith}
use mathlib.Core.Bool.{Bool, true, false, not, ◌&&◌}
use mathlib.Core.List.{List, [], ◌∷◌}
use mathlib.Core.Option.{Option, none, some}
use lib.Dec.{T, not_T, leb, leb→le, le→leb, nleb→lt}
use lib.Ieee.Fits.{and_i, and_l, and_r}
use lib.ListN.{length, get_or}
use lib.Seq.{ext_get_or}
use Rattle.lists.specs.Lists.{count, found, tally, gather}
use Rattle.rules.specs.Mesh.{links, rims, through, is_first, first_met, firsts}
use Rattle.lists.proofs.Places.{length-count, get_or-count, length-gather, get_or-gather, length-keep}
use Rattle.lists.proofs.Counting.{all_pass, tally-same, tally-places, tally-split, tally-into, tally-append}
use Rattle.rules.proofs.Sides.{length-links}
use Rattle.rules.proofs.Refine.{Good, finer_of, good-finer, edges}
use Rattle.rules.proofs.Faces.{link-link, link-below, link-twins, no_self}
use Rattle.rules.proofs.Grown.{twelve, links-grown}

-- ---- edges and rim sides

abbrev pub link_of : List ℕ → ℕ → Option ℕ
link_of fs s = get_or (links fs) s none

-- the other side, of a side that has one
abbrev other : ℕ → Option ℕ → ℕ
other s none = s
other s (some t) = t

found_some : (o : Option ℕ) → T (found o) → (t : ℕ) × (o ≡ some t)
found_some none h = absurd h
found_some (some t) h = (t, refl)

later-linked : (s : ℕ) (o : Option ℕ) → T (not (is_first s o)) → (t : ℕ) × (o ≡ some t) × (t < s)
later-linked s none h = absurd h
later-linked s (some t) h = (t, refl, nleb→lt s t h)

module _ (v n : ℕ) (fs : List ℕ) (g : Good v n fs) where
  abbrev is_f : ℕ → Bool
  is_f s = first_met (links fs) s

  abbrev is_l : ℕ → Bool
  is_l s = found (link_of fs s)

  rim-places : rims (links fs) ≡ tally (λ s. not (is_l s)) (count 0 (3 * n))
  rim-places =
      tally-places (λ l. not (found l)) none (links fs) 0 (λ s. not (is_l s)) (λ k h. ap (λ (z : ℕ). not (found (link_of fs z))) (omega arith))
      ∙ ap (λ (z : ℕ). tally (λ s. not (is_l s)) (count 0 z)) (length-links fs ∙ g.size)

  edge_places : edges v n fs g ≡ tally is_f (count 0 (3 * n))
  edge_places = length-keep is_f (count 0 (length (links fs))) ∙ ap (λ (z : ℕ). tally is_f (count 0 z)) (length-links fs ∙ g.size)

  rim-first : (o : Option ℕ) (s : ℕ) → (is_first s o && not (found o)) ≡ not (found o)
  rim-first none s = refl
  rim-first (some t) s = go (leb s t)
    where
      go : (b : Bool) → (b && false) ≡ false
      go true = refl
      go false = refl

  -- of the two sides of an inner edge one is the first
  pairs-le : tally (λ s. not (is_f s)) (count 0 (3 * n)) ≤ tally (λ s. is_f s && is_l s) (count 0 (3 * n))
  pairs-le = tally-into (λ s. not (is_f s)) (λ s. is_f s && is_l s) (λ s. other s (link_of fs s)) (3 * n)
      (λ s h q.
      let w = later-linked s (link_of fs s) q in
      let b = link-link v n fs g s w.0 h w.1 in
      rw w.1 (link-below v n fs g s w.0 h w.1, rw b (and_i (leb w.0 s) true (le→leb w.0 s (let z = w.2 in omega arith)) tt)))
      (λ s t h k p q e.
      let a = later-linked s (link_of fs s) p in
      let b = later-linked t (link_of fs t) q in
      let z : a.0 ≡ b.0 = sym (ap (other s) a.1) ∙ e ∙ ap (other t) b.1 in
      let x = link-link v n fs g s a.0 h a.1 in
      let y = link-link v n fs g t b.0 k b.1 in
      let y' = rw (← z) at y in
      some_inj (sym x ∙ y'))
    where
      some_inj : {a b : ℕ} → some a ≡ some b → a ≡ b
      some_inj e = cc

  pairs-ge : tally (λ s. is_f s && is_l s) (count 0 (3 * n)) ≤ tally (λ s. not (is_f s)) (count 0 (3 * n))
  pairs-ge = tally-into (λ s. is_f s && is_l s) (λ s. not (is_f s)) (λ s. other s (link_of fs s)) (3 * n)
      (λ s h q.
      let w = found_some (link_of fs s) (and_r (is_f s) (is_l s) q) in
      let b = link-link v n fs g s w.0 h w.1 in
      let l = leb→le s w.0 (rw w.1 at (and_l (is_f s) (is_l s) q)) in
      let d : w.0 ≢ s = λ e. no_self v n fs g s w.0 h (link-twins v n fs g s w.0 h w.1) (ap (λ (z : ℕ). z / 3) e) in
      rw w.1 (link-below v n fs g s w.0 h w.1, rw b (not_T (leb w.0 s) (λ z. let y = leb→le w.0 s z in d (omega arith)))))
      (λ s t h k p q e.
      let a = found_some (link_of fs s) (and_r (is_f s) (is_l s) p) in
      let b = found_some (link_of fs t) (and_r (is_f t) (is_l t) q) in
      let z : a.0 ≡ b.0 = sym (ap (other s) a.1) ∙ e ∙ ap (other t) b.1 in
      let x = link-link v n fs g s a.0 h a.1 in
      let y = link-link v n fs g t b.0 k b.1 in
      let y' = rw (← z) at y in
      some_inj (sym x ∙ y'))
    where
      some_inj : {a b : ℕ} → some a ≡ some b → a ≡ b
      some_inj e = cc

  pub edges-twice : 2 * edges v n fs g ≡ 3 * n + rims (links fs)
  edges-twice =
      let N = count 0 (3 * n) in
      let a = tally-split is_f is_l (3 * n) in
      let b = tally-same (λ s. is_f s && not (is_l s)) (λ s. not (is_l s)) (3 * n) (λ s h. rim-first (link_of fs s) s) in
      let c = tally-split (λ s. true) is_f (3 * n) in
      let d = all_pass (3 * n) in
      omega (arith, edge_places, rim-places, a, b, c, d, pairs-le, pairs-ge)

-- ---- one level

three : List (Option ℕ) → ℕ → List (Option ℕ)
three ls f = get_or ls (3 * f) none ∷ get_or ls (3 * f + 1) none ∷ get_or ls (3 * f + 2) none ∷ []

by_three : (ls : List (Option ℕ)) (n : ℕ) → length ls ≡ 3 * n → ls ≡ gather (three ls) (count 0 n)
unfolding three
by_three ls n e =
    let lg : length (gather (three ls) (count 0 n)) ≡ 3 * n = length-gather (three ls) 3 (λ f. refl) (count 0 n) ∙ omega (arith, length-count 0 n) in
    ext_get_or none ls (gather (three ls) (count 0 n)) (e ∙ sym lg) (λ x h.
    let q : x ≡ 3 * (x / 3) + x % 3 = omega arith in
    let hf : x / 3 < n = omega arith in
    let hr : x % 3 < 3 = omega arith in
    ap (λ (z : ℕ). get_or ls z none) q
    ∙ at (x / 3) (x % 3) hr
    ∙ sym (ap (λ (z : ℕ). get_or (gather (three ls) (count 0 n)) z none) q
    ∙ get_or-gather (three ls) 3 (λ f. refl) (count 0 n) (x / 3) (x % 3) 0 none (rw (length-count 0 n) hf) hr
    ∙ ap (λ (k : ℕ). get_or (three ls k) (x % 3) none) (get_or-count 0 n (x / 3) 0 hf ∙ omega arith)))
  where
    at : (f r : ℕ) → r < 3 → get_or ls (3 * f + r) none ≡ get_or (three ls f) r none
    at f zero h = ap (λ (z : ℕ). get_or ls z none) (omega arith)
    at f (suc zero) h = refl
    at f (suc (suc zero)) h = refl
    at f (suc (suc (suc r))) h = absurd (omega arith)

tally-twice : {A B : Type 0} (p : A → Bool) (f h : B → List A) (l : List B) → ((x : B) → tally p (f x) ≡ 2 * tally p (h x)) → tally p (gather f l) ≡ 2 * tally p (gather h l)
tally-twice p f h [] e = refl
tally-twice p f h (x ∷ l) e = rw (tally-append p (f x) (gather f l), tally-append p (h x) (gather h l)) (omega (arith, e x, tally-twice p f h l e))

found-through : (r : ℕ → ℕ) (o : Option ℕ) → found (through r o) ≡ found o
found-through r none = refl
found-through r (some t) = refl

rim-twelve : (ls : List (Option ℕ)) (f : ℕ) → tally (λ l. not (found l)) (twelve ls f) ≡ 2 * tally (λ l. not (found l)) (three ls f)
unfolding three
rim-twelve ls f = simp found-through (omega arith)

module _ (v n : ℕ) (fs : List ℕ) (g : Good v n fs) where
  pub rims-finer : rims (links (finer_of v n fs)) ≡ 2 * rims (links fs)
  rims-finer =
      ap rims (links-grown v n fs g)
      ∙ tally-twice (λ l. not (found l)) (twelve (links fs)) (three (links fs)) (count 0 n) (rim-twelve (links fs))
      ∙ ap (λ (l : List (Option ℕ)). 2 * rims l) (sym (by_three (links fs) n (length-links fs ∙ g.size)))

  pub edges-finer : length (firsts (links (finer_of v n fs))) ≡ 2 * edges v n fs g + 3 * n
  edges-finer = omega (arith, edges-twice v n fs g, edges-twice (v + edges v n fs g) (4 * n) (finer_of v n fs) (good-finer v n fs g), rims-finer)
