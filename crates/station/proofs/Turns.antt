-- The faces of a claim, and all its coordinates: what the code answers.
use mathlib.Core.Path.{◌≡◌, refl, sym, ap, ◌∙◌}
use Prim.Native.Nat.{ℕ, ◌+◌, ◌*◌}
use native.Mathlib.Omega.{arith}
use mathlib.Core.Bool.{Bool, true, false, ◌&&◌, ◌||◌}
use mathlib.Core.List.{List}
use lib.Dec.{eqb}
use borrow.Author.Tests.{eq-eqb, ne_eqb}
use Rattle.lists.specs.Lists.{pick, bit}
use Rattle.rules.specs.Mesh.{corner}
use Rattle.station.specs.Acceptance.{turned, same_face}
use Rattle.station.specs.Far.{is_yes, and_then}
use Rattle.station.specs.declared.Verdict.{Verdict}
use Rattle.station.proofs.Far.{yes-then, no-then}

-- ---- tests

pub no-first : (a b c : Bool) → a ≡ false → false ≡ (a && b && c)
no-first false true true e = refl
no-first false true false e = refl
no-first false false c e = refl
no-first true b c e = absurd (let z : ◌≡◌ {A = ℕ} 1 0 = ap bit e in omega arith)

pub no_second : (a b c : Bool) → b ≡ false → false ≡ (a && b && c)
no_second true false true e = refl
no_second true false false e = refl
no_second false false true e = refl
no_second false false false e = refl
no_second a true c e = absurd (let z : ◌≡◌ {A = ℕ} 1 0 = ap bit e in omega arith)

pub to-third : (a b c : Bool) → a ≡ true → b ≡ true → c ≡ (a && b && c)
to-third a b true p q = rw (p, q) refl
to-third a b false p q = rw (p, q) refl

or-one : (p q r : Bool) → p ≡ true → true ≡ (p || q || r)
or-one p q r e = rw e refl

or-two : (p q r : Bool) → q ≡ true → true ≡ (p || q || r)
or-two true q r e = refl
or-two false q r e = rw e refl

or-three : (p q r x : Bool) → p ≡ false → q ≡ false → x ≡ r → x ≡ (p || q || r)
or-three p q r x d e f = rw (d, e) f

-- ---- a face begun at any of its corners

module _ (fs cs : List ℕ) (f : ℕ) where
  first-at : 3 * f ≡ 3 * f + 0
  first-at = omega arith

  abbrev pub as0 : Bool
  as0 = eqb (corner cs (3 * f)) (corner fs (3 * f)) && eqb (corner cs (3 * f + 1)) (corner fs (3 * f + 1)) && eqb (corner cs (3 * f + 2)) (corner fs (3 * f + 2))

  abbrev pub as1 : Bool
  as1 = eqb (corner cs (3 * f)) (corner fs (3 * f + 1)) && eqb (corner cs (3 * f + 1)) (corner fs (3 * f + 2)) && eqb (corner cs (3 * f + 2)) (corner fs (3 * f))

  abbrev pub as2 : Bool
  as2 = eqb (corner cs (3 * f)) (corner fs (3 * f + 2)) && eqb (corner cs (3 * f + 1)) (corner fs (3 * f)) && eqb (corner cs (3 * f + 2)) (corner fs (3 * f + 1))

  turn0 : as0 ≡ turned fs cs f 0
  turn0 = ap (λ (x : ℕ). eqb (corner cs (3 * f)) (corner fs x) && eqb (corner cs (3 * f + 1)) (corner fs (3 * f + 1)) && eqb (corner cs (3 * f + 2)) (corner fs (3 * f + 2))) first-at

  turn1 : as1 ≡ turned fs cs f 1
  turn1 = ap (λ (x : ℕ). eqb (corner cs (3 * f)) (corner fs (3 * f + 1)) && eqb (corner cs (3 * f + 1)) (corner fs (3 * f + 2)) && eqb (corner cs (3 * f + 2)) (corner fs x)) first-at

  turn2 : as2 ≡ turned fs cs f 2
  turn2 = ap (λ (x : ℕ). eqb (corner cs (3 * f)) (corner fs (3 * f + 2)) && eqb (corner cs (3 * f + 1)) (corner fs x) && eqb (corner cs (3 * f + 2)) (corner fs (3 * f + 1))) first-at

  pub same-0 : (x : Bool) → x ≡ as0 → x ≡ true → true ≡ same_face fs cs f
  same-0 x e t = or-one (turned fs cs f 0) (turned fs cs f 1) (turned fs cs f 2) (sym turn0 ∙ sym e ∙ t)

  pub same-1 : (x : Bool) → x ≡ as1 → x ≡ true → true ≡ same_face fs cs f
  same-1 x e t = or-two (turned fs cs f 0) (turned fs cs f 1) (turned fs cs f 2) (sym turn1 ∙ sym e ∙ t)

  pub same-2 : (x y z : Bool) → x ≡ as0 → y ≡ as1 → z ≡ as2 → x ≡ false → y ≡ false → z ≡ same_face fs cs f
  same-2 x y z d e g p q = or-three (turned fs cs f 0) (turned fs cs f 1) (turned fs cs f 2) z (sym turn0 ∙ sym d ∙ p) (sym turn1 ∙ sym e ∙ q) (g ∙ turn2)

-- ---- by level

module _ (l : ℕ) (old new x : Verdict) (e : x ≡ old) where
  pub at-level-0 : l ≡ 0 → x ≡ pick (eqb l 0) old (and_then old new)
  at-level-0 h = rw (eq-eqb l 0 h) e

  pub old-far-first : (l ≡ 0 → ⊥) → is_yes x ≡ false → x ≡ pick (eqb l 0) old (and_then old new)
  old-far-first h y = rw (ne_eqb l 0 h) (sym (ap (λ (v : Verdict). and_then v new) (sym e) ∙ no-then x new y))

  pub then-new : (r : Verdict) → (l ≡ 0 → ⊥) → is_yes x ≡ true → r ≡ new → r ≡ pick (eqb l 0) old (and_then old new)
  then-new r h y g = rw (ne_eqb l 0 h) (g ∙ sym (ap (λ (v : Verdict). and_then v new) (sym e) ∙ yes-then x new y))
