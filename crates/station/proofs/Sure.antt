-- What is asked of every verdict: a face turned over is never taken, at tolerance 0 only whole values pass, our own answer passes at 1, and a no names what is really first.
use mathlib.Core.Path.{◌≡◌, refl, sym, ap, ◌∙◌}
use mathlib.Core.Logic.{◌≢◌}
use Prim.Native.Nat.{ℕ, ◌+◌, ◌*◌, ◌/◌, ◌%◌, ◌≤◌}
use native.Mathlib.Omega.{arith}
use native.Mathlib.Nat.{mul-le-mul_right}
use mathlib.Core.Bool.{Bool, true, false, ◌&&◌, ◌||◌}
use mathlib.Core.List.{List, map}
use lib.Dec.{T, eqb, eqb_refl}
use lib.ListN.{length, get_or, length-map}
use lib.IntN.{ℤ, pos}
use borrow.Author.Tests.{ne_eqb}
use Rattle.lists.specs.Lists.{bit}
use Rattle.whole.specs.Fraction.{Fraction, of_whole, ◌≈F◌, Within}
use Rattle.whole.proofs.Reading.{up, dn}
use Rattle.whole.proofs.Nearness.{within, near_of}
use Rattle.whole.proofs.Value.{Val, val-self, val-scale, val-as, val-eq}
use Rattle.rules.specs.Mesh.{corner, Mesh, links}
use Rattle.rules.specs.Position.{whole, exact}
use Rattle.rules.specs.Levels.{last, positions, exact_limits}
use Rattle.rules.proofs.Demand.{demand-3}
use Rattle.rules.proofs.Related.{same-mesh}
use Rattle.rules.proofs.Spokes.{length-limits}
use Rattle.station.specs.Acceptance.{turned, same_face, Passes}

-- ---- a face turned over

pub reversed-no : (fs cs : List ℕ) (f : ℕ)
    → corner fs (3 * f) ≢ corner fs (3 * f + 1) → corner fs (3 * f + 1) ≢ corner fs (3 * f + 2) → corner fs (3 * f + 2) ≢ corner fs (3 * f)
    → corner cs (3 * f) ≡ corner fs (3 * f + 2) → corner cs (3 * f + 1) ≡ corner fs (3 * f + 1) → corner cs (3 * f + 2) ≡ corner fs (3 * f)
    → same_face fs cs f ≡ false
reversed-no fs cs f ab bc ca p q r =
    let z : 3 * f + 0 ≡ 3 * f = omega arith in
    let x : turned fs cs f 0 ≡ false =
    no-first (eqb (corner cs (3 * f)) (corner fs (3 * f + 0))) (eqb (corner cs (3 * f + 1)) (corner fs (3 * f + (0 + 1) % 3))) (eqb (corner cs (3 * f + 2)) (corner fs (3 * f + (0 + 2) % 3)))
    (ne_eqb (corner cs (3 * f)) (corner fs (3 * f + 0)) (λ e. ca (sym p ∙ e ∙ ap (corner fs) z))) in
    let y : turned fs cs f 1 ≡ false =
    no-first (eqb (corner cs (3 * f)) (corner fs (3 * f + 1))) (eqb (corner cs (3 * f + 1)) (corner fs (3 * f + (1 + 1) % 3))) (eqb (corner cs (3 * f + 2)) (corner fs (3 * f + (1 + 2) % 3)))
    (ne_eqb (corner cs (3 * f)) (corner fs (3 * f + 1)) (λ e. bc (sym (sym p ∙ e)))) in
    let w : turned fs cs f 2 ≡ false =
    no_second (eqb (corner cs (3 * f)) (corner fs (3 * f + 2))) (eqb (corner cs (3 * f + 1)) (corner fs (3 * f + (2 + 1) % 3))) (eqb (corner cs (3 * f + 2)) (corner fs (3 * f + (2 + 2) % 3)))
    (ne_eqb (corner cs (3 * f + 1)) (corner fs (3 * f + (2 + 1) % 3)) (λ e. ab (sym (sym q ∙ e ∙ ap (corner fs) z)))) in
    none_of (turned fs cs f 0) (turned fs cs f 1) (turned fs cs f 2) x y w
  where
    no-first : (a b c : Bool) → a ≡ false → a && b && c ≡ false
    no-first false true true e = refl
    no-first false true false e = refl
    no-first false false c e = refl
    no-first true b c e = absurd (let z : ◌≡◌ {A = ℕ} 1 0 = ap bit e in omega arith)

    no_second : (a b c : Bool) → b ≡ false → a && b && c ≡ false
    no_second true false true e = refl
    no_second true false false e = refl
    no_second false false true e = refl
    no_second false false false e = refl
    no_second a true c e = absurd (let z : ◌≡◌ {A = ℕ} 1 0 = ap bit e in omega arith)

    none_of : (a b c : Bool) → a ≡ false → b ≡ false → c ≡ false → a || b || c ≡ false
    none_of a b c x y z = rw (x, y, z) refl

-- ---- at tolerance 0

one-val : (y : ℤ) → Val 1 (up y) (dn y) (of_whole y)
unfolding of_whole
one-val y = record { same = omega arith }

-- a coordinate passes only if the exact value is that whole number
pub exact-at-0 : (y : ℤ) (e : Fraction) → Within (2 * 0) y e → e ≈F of_whole y
exact-at-0 y e w =
    let c = near_of w in
    let v : Val e.den (up y * e.den) (dn y * e.den) (of_whole y) = val-as (omega arith) refl refl (val-scale e.den (one-val y)) in
    val-eq {D = e.den} e.above (val-self e) v (omega (arith, c.near.hi, c.near.lo))

-- ---- our own answer at tolerance 1

abbrev ours : ℕ → List ℕ → List ℤ → List ℤ
ours l fs xs = positions whole (last whole l fs xs)

ours-long : (l : ℕ) (fs : List ℕ) (xs : List ℤ) → length (ours l fs xs) ≡ length (exact_limits l fs xs)
unfolding positions
ours-long l fs xs =
    let a = last whole l fs xs in
    let b = last exact l fs (map of_whole xs) in
    length-limits whole a.mesh (links a.mesh.faces) a.points
    ∙ ap (λ (m : Mesh). 3 * m.verts) (same-mesh whole exact l fs xs (map of_whole xs) (sym (length-map xs of_whole)))
    ∙ sym (length-limits exact b.mesh (links b.mesh.faces) b.points)

or-first : (a b : Bool) → T a → T (a || b)
or-first true b t = tt
or-first false b t = absurd t

ours-turn : (fs : List ℕ) (f : ℕ) → T (same_face fs fs f)
ours-turn fs f =
    let z : 3 * f + 0 ≡ 3 * f = omega arith in
    rw z (go (eqb (corner fs (3 * f)) (corner fs (3 * f))) (eqb (corner fs (3 * f + 1)) (corner fs (3 * f + 1))) (eqb (corner fs (3 * f + 2)) (corner fs (3 * f + 2))) _ _
    (eqb_refl (corner fs (3 * f))) (eqb_refl (corner fs (3 * f + 1))) (eqb_refl (corner fs (3 * f + 2))))
  where
    go : (a b c d e : Bool) → T a → T b → T c → T (a && b && c || d || e)
    go true true true d e p q r = tt
    go true true false d e p q r = absurd r
    go true false c d e p q r = absurd q
    go false b c d e p q r = absurd p

within_more : {a b : ℕ} (y : ℤ) (e : Fraction) → a ≤ b → Within a y e → Within b y e
within_more {a} {b} y e h w =
    let c = near_of w in
    let m = mul-le-mul_right e.den h in
    within (record { near = record { hi = omega (arith, c.near.hi, m); lo = omega (arith, c.near.lo, m) } })

pub ours-passes-at-1 : (l : ℕ) (fs : List ℕ) (xs : List ℤ) → l ≤ 1
    → Passes 1 (last whole l fs xs).mesh.faces (exact_limits l fs xs) (last whole l fs xs).mesh.faces (ours l fs xs)
ours-passes-at-1 l fs xs h =
    record {
      faces = refl;
      points = ours-long l fs xs;
      turns = λ f k. ours-turn (last whole l fs xs).mesh.faces f;
      near = λ i k.
          let z : 3 * (i / 3) + i % 3 ≡ i = omega arith in
          within_more (get_or (ours l fs xs) i (pos 0)) (get_or (exact_limits l fs xs) i (of_whole (pos 0))) (omega arith) (rw z at (demand-3 l fs xs (i % 3) (i / 3)));
    }
