-- One level: each side of a loop becomes its two halves, in place.
use mathlib.Core.Path.{◌≡◌, refl, sym, ap, ◌∙◌}
use mathlib.Core.Logic.{◌≢◌}
use Prim.Native.Nat.{ℕ, zero, suc, ◌+◌, ◌*◌, ◌/◌}
use native.Mathlib.Omega.{arith}
use mathlib.Core.Bool.{Bool, true, false}
use mathlib.Core.List.{List, [], ◌∷◌}
use mathlib.Core.Option.{Option, none, some}
use lib.Dec.{eqb, eqb→eq}
use lib.Ieee.Fits.{eq→eqb}
use lib.ListN.{length, get_or}
use Rattle.lists.specs.Lists.{pick, count, gather}
use Rattle.rules.specs.Mesh.{onward, corner, links, through, Step, home, off, here, long, Walk, stop, past, walk, passed, stop_of, step_to, restart, children, Mesh, refined}
use Rattle.rules.proofs.Refine.{Good, finer_of, at-restart, at_onward, length-finer, old-new}
use Rattle.rules.proofs.Links.{half1, half2, restart-below, half2-below, half2-from, half2-to, link-half1, link-half2}
use Rattle.rules.proofs.Fans.{map_step, walk-home, walk-rim, eqb-false, T_true}
use Rattle.rules.proofs.Sound.{Sound, sound-refined}
use Rattle.outlines.specs.Loops.{leaving, next_rim, around}
use Rattle.outlines.proofs.Rims.{Rim, leaving-is, next-is, step, closes, stay}

-- ---- walks whose every step becomes two

abbrev pub halves : ℕ → List ℕ
halves s = half1 s ∷ half2 s ∷ []

abbrev halved : Walk → Walk
halved (stop e) = stop e
halved (past s w) = past (half1 s) (past (half2 s) (halved w))

passed-halved : (w : Walk) → passed (halved w) ≡ gather halves (passed w)
passed-halved (stop e) = refl
passed-halved (past s w) = ap {B = List ℕ} (λ l. half1 s ∷ half2 s ∷ l) (passed-halved w)

module _ (P : ℕ → Type 0) where
  abbrev Ok : Step → Type 0
  Ok home = Unit {0}
  Ok off = Unit {0}
  Ok (here s) = P s

  module _ (next next' : ℕ → Step) (keeps : (s : ℕ) → P s → Ok (next s))
      (one : (s : ℕ) → P s → next' (half1 s) ≡ here (half2 s)) (two : (s : ℕ) → P s → next' (half2 s) ≡ map_step half1 (next s)) where
    walk-halves : (k j : ℕ) (st : Step) → Ok st → (stop_of (walk next k st) ≡ long → ⊥) → walk next' (2 * k + j) (map_step half1 st) ≡ halved (walk next k st)
    walk-halves zero j home h l = walk-home next' (2 * 0 + j)
    walk-halves zero j off h l = walk-rim next' (2 * 0 + j)
    walk-halves zero j (here s) h l = absurd (l refl)
    walk-halves (suc k) j home h l = walk-home next' (2 * suc k + j)
    walk-halves (suc k) j off h l = walk-rim next' (2 * suc k + j)
    walk-halves (suc k) j (here s) h l =
        let e : 2 * suc k + j ≡ suc (suc (2 * k + j)) = omega arith in
        rw (e, one s h, two s h) (ap (λ (w : Walk). past (half1 s) (past (half2 s) w)) (walk-halves k j (next s) (keeps s h) l))

-- ---- the refined mesh

restart-inj : (a b : ℕ) → restart a ≡ restart b → a ≡ b
restart-inj a b e = omega arith

step-half : (h t : ℕ) → step_to (half1 h) (some (half1 t)) ≡ map_step half1 (step_to h (some t))
step-half h t = go (eqb t h) refl
  where
    go : (c : Bool) → eqb t h ≡ c → step_to (half1 h) (some (half1 t)) ≡ map_step half1 (pick c home (here t))
    go true e = rw (T_true (eqb (restart t) (restart h)) (eq→eqb (ap restart (eqb→eq t h (rw e tt)))))
    go false e = rw (eqb-false (restart t) (restart h) (λ q. rw e at (eq→eqb {a = t} {b = h} (restart-inj t h q))))

module _ (n : ℕ) (m : Mesh) (w : Sound n m) where
  abbrev pub m' : Mesh
  m' = refined m (links m.faces)

  abbrev w' : Sound (4 * n) m'
  w' = sound-refined n m w

  abbrev v : ℕ
  v = m.verts

  abbrev fs : List ℕ
  fs = m.faces

  abbrev g : Good v n fs
  g = w.good

  pub faces-are : m'.faces ≡ finer_of v n fs
  unfolding refined
  faces-are = let e : length fs / 3 ≡ n = omega (arith, g.size) in ap (λ (k : ℕ). gather (children v fs (links fs)) (count 0 k)) e

  pub corner-as : (x y : ℕ) → corner (finer_of v n fs) x ≡ y → corner m'.faces x ≡ y
  corner-as x y e = ap (λ (l : List ℕ). corner l x) faces-are ∙ e

  pub rim1 : (s : ℕ) → Rim n m w s → Rim (4 * n) m' w' (half1 s)
  rim1 s r = record {
    below = restart-below s n r.below;
    lone = ap (λ (l : List ℕ). get_or (links l) (half1 s) none) faces-are ∙ link-half1 v n fs g s r.below ∙ ap (through half2) r.lone;
  }

  pub rim2 : (s : ℕ) → Rim n m w s → Rim (4 * n) m' w' (half2 s)
  rim2 s r = record {
    below = half2-below v n fs g s r.below;
    lone = ap (λ (l : List ℕ). get_or (links l) (half2 s) none) faces-are ∙ link-half2 v n fs g s r.below ∙ ap (through half1) r.lone;
  }

  pub next1 : (s : ℕ) → Rim n m w s → next_rim m'.faces (links m'.faces) (half1 s) ≡ some (half2 s)
  next1 s r =
      ap (leaving m'.faces (links m'.faces))
      (corner-as (onward (half1 s)) _ (at_onward v n fs g s r.below) ∙ sym (corner-as (half2 s) _ (half2-from v n fs g s r.below)))
      ∙ leaving-is (4 * n) m' w' (half2 s) (rim2 s r)

  pub next2 : (s t : ℕ) → Rim n m w s → Rim n m w t → corner fs t ≡ corner fs (onward s) → next_rim m'.faces (links m'.faces) (half2 s) ≡ some (half1 t)
  next2 s t r q e =
      ap (leaving m'.faces (links m'.faces))
      (corner-as (onward (half2 s)) _ (half2-to v n fs g s r.below) ∙ sym e ∙ sym (corner-as (half1 t) _ (at-restart v n fs g t q.below)))
      ∙ leaving-is (4 * n) m' w' (half1 t) (rim1 t q)

  module _ (s : ℕ) (r : Rim n m w s) where
    abbrev go : ℕ → Step
    go = step n m w s r

    abbrev go' : ℕ → Step
    go' = step (4 * n) m' w' (half1 s) (rim1 s r)

    apart-half : (a : ℕ) → Rim n m w a → half2 a ≢ half1 s
    apart-half a q e =
        old-new v n fs g s a r.below
        (sym (at-restart v n fs g s r.below) ∙ ap (corner (finer_of v n fs)) (sym e) ∙ half2-from v n fs g a q.below)

    one : (a : ℕ) → Rim n m w a → go' (half1 a) ≡ here (half2 a)
    one a q = ap (step_to (half1 s)) (next1 a q) ∙ rw (eqb-false (half2 a) (half1 s) (apart-half a q))

    two : (a : ℕ) → Rim n m w a → go' (half2 a) ≡ map_step half1 (go a)
    two a q =
        let x = next-is n m w a q in
        ap (step_to (half1 s)) (next2 a x.0 q x.1 x.3) ∙ step-half s x.0 ∙ ap (λ (o : Option ℕ). map_step half1 (step_to s o)) (sym x.2)

    keeps : (a : ℕ) → Rim n m w a → Ok (Rim n m w) (go a)
    keeps a q = at (go a) refl
      where
        at : (st : Step) → go a ≡ st → Ok (Rim n m w) st
        at home e = tt
        at off e = tt
        at (here b) e = stay n m w s r a b q e

    -- the loop of the first half is the old loop, each side in its two halves
    pub around-finer : around m'.faces (links m'.faces) (half1 s) ≡ gather halves (around fs (links fs) s)
    unfolding around
    around-finer =
        let a : length m'.faces ≡ 2 * (3 * n) + 6 * n = ap (λ (l : List ℕ). length l) faces-are ∙ length-finer v n fs g ∙ omega arith in
        let c = closes n m w s r in
        let z = walk-halves (Rim n m w) go go' keeps one two (3 * n) (6 * n) (here s) r (λ e. absurd (let q : ◌≡◌ {A = ℕ} 0 1 = cc in omega arith)) in
        ap (λ (k : ℕ). passed (walk go' k (here (half1 s)))) a ∙ ap passed z ∙ passed-halved (walk go (3 * n) (here s)) ∙ ap (λ (k : ℕ). gather halves (passed (walk go k (here s)))) (sym g.size)
