-- All coordinates of a claim at levels 0 and 1: the search of the definition is the loops' work, and the words hold the cage.
use mathlib.Core.Path.{◌≡◌, refl, sym, ap, ◌∙◌}
use Prim.Native.Nat.{ℕ, zero, suc, ◌+◌, ◌*◌, ◌/◌, ◌%◌, ◌<◌}
use native.Mathlib.Omega.{arith}
use mathlib.Core.Bool.{Bool, true, false}
use mathlib.Core.List.{List, map}
use mathlib.Core.Option.{Option, none, some}
use lib.Dec.{ltb}
use lib.ListN.{length, get_or, length-map}
use lib.IntN.{ℤ, pos}
use Rattle.lists.specs.Lists.{pick, lowest, find, later, count}
use Rattle.whole.specs.Fraction.{Fraction, of_whole, ◌≈F◌}
use Rattle.whole.proofs.Reading.{up, dn, is-self}
use Rattle.whole.proofs.Value.{val-self}
use Rattle.rules.specs.Mesh.{links, Mesh, cage, refined}
use Rattle.rules.specs.Position.{exact}
use Rattle.rules.specs.Levels.{limits, new_positions, positions, levels, finer, exact_limits}
use Rattle.rules.proofs.Sound.{Sound}
use Rattle.rules.proofs.Settled.{exact-stays}
use Rattle.levels.specs.Level.{mesh_in}
use Rattle.station.specs.Acceptance.{needs, needs_at, far_at}
use Rattle.station.specs.Far.{far_from, and_then, exact0, exact1}
use Rattle.station.specs.declared.Fault.TheVariants.{Far}
use Rattle.station.specs.declared.Verdict.{Verdict}
use Rattle.station.specs.declared.Verdict.TheVariants.{Yes, No}
use Rattle.station.proofs.Needs.{needs-over}
use Rattle.station.proofs.Over.{val-carry}
use Rattle.station.proofs.Far.{far-turn, far-done}

-- ---- the lowest index, by search and by loop

abbrev told : (ℕ → ℕ) → ℕ → Option ℕ → Verdict
told g i none = Yes
told g i (some j) = No (Far (i + j) (g (i + j)))

far-told : (g : ℕ → ℕ) (t i n : ℕ) → far_from g t i n ≡ told g i (find (λ x. ltb t (g x)) (count i n))
far-told g t i zero = far-done g t i
far-told g t i (suc n) = far-turn g t i n ∙ go (ltb t (g i)) (find (λ x. ltb t (g x)) (count (suc i) n)) (let z : i + 1 ≡ suc i = omega arith in rw z (far-told g t (suc i) n))
  where
    go : (b : Bool) (r : Option ℕ) → far_from g t (i + 1) n ≡ told g (suc i) r → pick b (No (Far i (g i))) (far_from g t (i + 1) n) ≡ told g i (pick b (some 0) (later r))
    go true r e = let z : i + 0 ≡ i = omega arith in rw z refl
    go false none e = e
    go false (some j) e = let z : suc i + j ≡ i + suc j = omega arith in rw z at e

pub far-is : (t : ℕ) (fs : List ℕ) (es : List Fraction) (cs : List ℕ) (ys : List ℤ)
    → far_from (needs_at es ys) t 0 (length es) ≡ far_at t fs es cs ys (lowest (λ i. ltb t (needs_at es ys i)) (length es))
far-is t fs es cs ys = far-told (needs_at es ys) t 0 (length es) ∙ go (lowest (λ i. ltb t (needs_at es ys i)) (length es))
  where
    go : (o : Option ℕ) → told (needs_at es ys) 0 o ≡ far_at t fs es cs ys o
    go none = refl
    go (some j) = let z : 0 + j ≡ j = omega arith in rw z refl

-- ---- one run after another

pub far-append : (g : ℕ → ℕ) (t i a b : ℕ) → far_from g t i (a + b) ≡ and_then (far_from g t i a) (far_from g t (i + a) b)
far-append g t i zero b = let z : 0 + b ≡ b = omega arith in let y : i + 0 ≡ i = omega arith in rw (z, y, far-done g t i) refl
far-append g t i (suc a) b =
    let z : suc a + b ≡ suc (a + b) = omega arith in
    let y : i + 1 + a ≡ i + suc a = omega arith in
    rw z (far-turn g t i (a + b) ∙ go (ltb t (g i)) (rw y at (far-append g t (i + 1) a b)) ∙ ap (λ (v : Verdict). and_then v (far_from g t (i + suc a) b)) (sym (far-turn g t i a)))
  where
    go : (c : Bool) → far_from g t (i + 1) (a + b) ≡ and_then (far_from g t (i + 1) a) (far_from g t (i + suc a) b)
        → pick c (No (Far i (g i))) (far_from g t (i + 1) (a + b)) ≡ and_then (pick c (No (Far i (g i))) (far_from g t (i + 1) a)) (far_from g t (i + suc a) b)
    go true e = refl
    go false e = e

pub far-same : (g h : ℕ → ℕ) (t i n : ℕ) → ((j : ℕ) → j < i + n → g j ≡ h j) → far_from g t i n ≡ far_from h t i n
far-same g h t i zero e = far-done g t i ∙ sym (far-done h t i)
far-same g h t i (suc n) e =
    far-turn g t i n
    ∙ ap (λ (x : ℕ). pick (ltb t x) (No (Far i x)) (far_from g t (i + 1) n)) (e i (omega arith))
    ∙ ap (λ (r : Verdict). pick (ltb t (h i)) (No (Far i (h i))) r) (far-same g h t (i + 1) n (λ j k. e j (omega arith)))
    ∙ sym (far-turn h t i n)

-- ---- equal fractions need the same

pub needs-eq : (y : ℤ) (e f : Fraction) → e ≈F f → needs y e ≡ needs y f
needs-eq y e f h =
    let v = val-self e in
    needs-over e.den (up e.num) (dn e.num) (up y) (dn y) y e e.above (is-self y) v
    ∙ sym (needs-over e.den (up e.num) (dn e.num) (up y) (dn y) y f e.above (is-self y) (val-carry v h))

-- ---- the cage in the words

module _ (w : List ℕ) (n : ℕ) (fs : List ℕ) (xs : List ℤ) (read : mesh_in w 0 n (length xs / 3) ≡ cage (length xs / 3) fs) where
  mesh-is : mesh_in w 0 n (length xs / 3) ≡ cage (length (map of_whole xs) / 3) fs
  mesh-is = read ∙ ap (λ (z : ℕ). cage (z / 3) fs) (sym (length-map xs of_whole))

  pub exact0-is : exact0 w n (length xs / 3) xs ≡ exact_limits 0 fs xs
  unfolding exact0 positions levels
  exact0-is = ap (λ (m : Mesh). limits exact m (links m.faces) (map of_whole xs)) mesh-is

  pub exact1-is : exact1 w n (length xs / 3) xs ≡ exact_limits 1 fs xs
  unfolding exact1 positions levels finer
  exact1-is =
      ap (λ (m : Mesh). limits exact (refined m (links m.faces)) (links (refined m (links m.faces)).faces) (new_positions exact m (links m.faces) (map of_whole xs))) mesh-is

  -- old vertices at level 1: a level does not move them
  module _ (sound : Sound (length fs / 3) (cage (length xs / 3) fs)) (ys : List ℤ) where
    pub old-needs : (j : ℕ) → j < 3 * (length xs / 3) → needs_at (exact1 w n (length xs / 3) xs) ys j ≡ needs_at (exact0 w n (length xs / 3) xs) ys j
    old-needs j h =
        let z : 3 * (j / 3) + j % 3 ≡ j = omega arith in
        let e = exact-stays 1 fs xs sound (j / 3) (j % 3) (omega arith) (omega arith) in
        rw (exact0-is, exact1-is)
        (needs-eq (get_or ys j (pos 0)) (get_or (exact_limits 1 fs xs) j (of_whole (pos 0))) (get_or (exact_limits 0 fs xs) j (of_whole (pos 0))) (rw z at e))

    -- both loops together
    pub far-both : (t b : ℕ)
        → and_then (far_from (needs_at (exact0 w n (length xs / 3) xs) ys) t 0 (3 * (length xs / 3))) (far_from (needs_at (exact1 w n (length xs / 3) xs) ys) t (3 * (length xs / 3)) b)
        ≡ far_from (needs_at (exact1 w n (length xs / 3) xs) ys) t 0 (3 * (length xs / 3) + b)
    far-both t b =
        let v = 3 * (length xs / 3) in
        let g = needs_at (exact1 w n (length xs / 3) xs) ys in
        let z : 0 + v ≡ v = omega arith in
        ap (λ (r : Verdict). and_then r (far_from g t v b)) (sym (far-same g (needs_at (exact0 w n (length xs / 3) xs) ys) t 0 v (λ j h. old-needs j (omega arith))))
        ∙ sym (rw z at (far-append g t 0 v b))
