-- The loops over the coordinates of a claim, three at a time.
use mathlib.Core.Path.{◌≡◌, refl, sym, ap, ◌∙◌}
use Prim.Native.Nat.{ℕ, suc, ◌+◌, ◌-◌, ◌*◌, ◌<◌}
use native.Mathlib.Omega.{arith}
use mathlib.Core.Bool.{Bool, true, false, not}
use mathlib.Core.List.{List}
use lib.Dec.{ltb}
use lib.ListN.{length, get_or}
use lib.IntN.{ℤ}
use Rattle.lists.specs.Lists.{pick, tally, count, bit}
use Rattle.lists.proofs.Places.{rank_lt, length-keep}
use Rattle.lists.specs.Lists.{part}
use Rattle.whole.specs.Fraction.{Fraction}
use Rattle.rules.specs.Mesh.{links, is_first, first_met, middle}
use Rattle.rules.proofs.Number.{middle-first}
use Rattle.faces.specs.Words.{link_of}
use Rattle.levels.specs.Moves.{Movable, edges_in}
use Rattle.levels.proofs.Moves.{sides-long, test-is}
use Rattle.station.specs.Acceptance.{needs_at}
use Rattle.station.specs.Far.{far_from, first3, is_yes, and_then, held_vertex}
use Rattle.station.specs.declared.Fault.TheVariants.{Far}
use Rattle.station.specs.declared.Verdict.{Verdict}
use Rattle.station.specs.declared.Verdict.TheVariants.{Yes, No, Refused}

pub far-turn : (g : ℕ → ℕ) (t i n : ℕ) → far_from g t i (suc n) ≡ pick (ltb t (g i)) (No (Far i (g i))) (far_from g t (i + 1) n)
unfolding far_from
far-turn g t i n = refl

pub far-done : (g : ℕ → ℕ) (t i : ℕ) → far_from g t i 0 ≡ Yes
unfolding far_from
far-done g t i = refl

pub far-three : (g : ℕ → ℕ) (t i n : ℕ) → far_from g t i (suc (suc (suc n))) ≡ and_then (first3 t i (g i) (g (i + 1)) (g (i + 2))) (far_from g t (i + 3) n)
far-three g t i n =
    far-turn g t i (suc (suc n))
    ∙ ap (λ (r : Verdict). pick (ltb t (g i)) (No (Far i (g i))) r)
    (far-turn g t (i + 1) (suc n) ∙ ap (λ (r : Verdict). pick (ltb t (g (i + 1))) (No (Far (i + 1) (g (i + 1)))) r)
    (rw p (far-turn g t (i + 2) n ∙ rw q refl)))
    ∙ go (ltb t (g i)) (ltb t (g (i + 1))) (ltb t (g (i + 2)))
  where
    p : i + 1 + 1 ≡ i + 2
    p = omega arith

    q : i + 2 + 1 ≡ i + 3
    q = omega arith

    go : (a b c : Bool) → pick a (No (Far i (g i))) (pick b (No (Far (i + 1) (g (i + 1)))) (pick c (No (Far (i + 2) (g (i + 2)))) (far_from g t (i + 3) n)))
        ≡ and_then (pick a (No (Far i (g i))) (pick b (No (Far (i + 1) (g (i + 1)))) (pick c (No (Far (i + 2) (g (i + 2)))) Yes))) (far_from g t (i + 3) n)
    go true b c = refl
    go false true c = refl
    go false false true = refl
    go false false false = refl

pub yes-then : (v r : Verdict) → is_yes v ≡ true → and_then v r ≡ r
yes-then Yes r e = refl
yes-then (No x) r e = absurd (let z : ◌≡◌ {A = ℕ} 0 1 = ap bit e in omega arith)
yes-then (Refused x) r e = absurd (let z : ◌≡◌ {A = ℕ} 0 1 = ap bit e in omega arith)

pub no-then : (v r : Verdict) → is_yes v ≡ false → and_then v r ≡ v
no-then Yes r e = absurd (let z : ◌≡◌ {A = ℕ} 1 0 = ap bit e in omega arith)
no-then (No x) r e = refl
no-then (Refused x) r e = refl

-- ---- one vertex more, of those from a on, n in all

module _ (es : List Fraction) (ys : List ℤ) (t : ℕ) where
  -- how far it is still, k of them passed
  abbrev pub rest : ℕ → ℕ → ℕ → Verdict
  rest a n k = far_from (needs_at es ys) t (3 * (a + k)) (3 * (n - k))

  one_more : (a n k : ℕ) → k < n → rest a n k ≡ and_then (held_vertex es ys t (a + k)) (rest a n (k + 1))
  one_more a n k h =
      let p : 3 * (n - k) ≡ suc (suc (suc (3 * (n - (k + 1))))) = omega arith in
      let q : 3 * (a + k) + 3 ≡ 3 * (a + (k + 1)) = omega arith in
      rw p (far-three (needs_at es ys) t (3 * (a + k)) (3 * (n - (k + 1))) ∙ rw q refl)

  pub vertex-passes : (a n k : ℕ) (v : Verdict) → k < n → v ≡ held_vertex es ys t (a + k) → is_yes v ≡ true → rest a n k ≡ rest a n (k + 1)
  vertex-passes a n k v h e y = one_more a n k h ∙ ap (λ (x : Verdict). and_then x (rest a n (k + 1))) (sym e) ∙ yes-then v (rest a n (k + 1)) y

  pub vertex-far : (a n k : ℕ) (v : Verdict) → k < n → v ≡ held_vertex es ys t (a + k) → is_yes v ≡ false → rest a n k ≡ v
  vertex-far a n k v h e y = one_more a n k h ∙ ap (λ (x : Verdict). and_then x (rest a n (k + 1))) (sym e) ∙ no-then v (rest a n (k + 1)) y

  pub all-passed : (a n k : ℕ) → k ≡ n → rest a n k ≡ Yes
  all-passed a n k e = let z : 3 * (n - k) ≡ 0 = omega arith in rw z (far-done (needs_at es ys) t (3 * (a + k)))

  pub rest-starts : (a n : ℕ) → far_from (needs_at es ys) t (3 * a) (3 * n) ≡ rest a n 0
  rest-starts a n = let p : 3 * (a + 0) ≡ 3 * a = omega arith in let q : 3 * (n - 0) ≡ 3 * n = omega arith in rw (p, q) refl

  -- where a vertex is looked at only if `met`
  pub met-passes : (met : Bool) (a n k : ℕ) (v : Verdict) → (met ≡ true → k < n) → v ≡ pick met (held_vertex es ys t (a + k)) Yes → is_yes v ≡ true → rest a n k ≡ rest a n (k + bit met)
  met-passes true a n k v h e y = vertex-passes a n k v (h refl) e y
  met-passes false a n k v h e y = let z : k + 0 ≡ k = omega arith in rw z refl

  pub met-far : (met : Bool) (a n k : ℕ) (v : Verdict) → (met ≡ true → k < n) → v ≡ pick met (held_vertex es ys t (a + k)) Yes → is_yes v ≡ false → rest a n k ≡ v
  met-far true a n k v h e y = vertex-far a n k v (h refl) e y
  met-far false a n k v h e y = absurd (let z : ◌≡◌ {A = ℕ} 1 0 = sym (ap (λ (x : Verdict). bit (is_yes x)) e) ∙ ap bit y in omega arith)

pub not-true : (b : Bool) → not b ≡ true → b ≡ false
not-true true e = absurd (let z : ◌≡◌ {A = ℕ} 0 1 = ap bit e in omega arith)
not-true false e = refl

-- ---- the sides of the control cage in the words, in order

module _ (w : List ℕ) (n v : ℕ) (r : Movable w 0 n v) where
  abbrev pub met : ℕ → Bool
  met = first_met (links (part 0 (3 * n) w))

  pub met-test : (s : ℕ) → s < 3 * n → is_first s (link_of (get_or w (3 * n + s) 0)) ≡ met s
  met-test s h =
      let z : 3 * n + s ≡ 0 + 3 * n + s = omega arith in
      ap (λ (x : ℕ). is_first s (link_of (get_or w x 0))) z ∙ test-is w 0 n v r s h

  pub edges_are : edges_in w 0 n ≡ tally met (count 0 (3 * n))
  edges_are = length-keep met (count 0 (length (links (part 0 (3 * n) w)))) ∙ ap (λ (z : ℕ). tally met (count 0 z)) (sides-long w 0 n v r)

  -- a first side has the next number, and it is one of the edges'
  pub met-number : (s : ℕ) → met s ≡ true → middle v (links (part 0 (3 * n) w)) s ≡ v + tally met (count 0 s)
  met-number s e = middle-first v n (part 0 (3 * n) w) r.sound.good s (rw e tt)

  pub met-below : (s : ℕ) → s < 3 * n → met s ≡ true → tally met (count 0 s) < edges_in w 0 n
  met-below s h e = rw edges_are (rank_lt met s (3 * n) (rw e tt) h)
