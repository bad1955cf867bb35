-- Levels: what holds of a cage holds at every level, with links carried along and counts known ahead.
use mathlib.Core.Path.{◌≡◌, refl, sym, ap, ◌∙◌}
use Prim.Native.Nat.{ℕ, zero, suc, ◌+◌, ◌-◌, ◌*◌, ◌/◌, ◌^◌, ◌<◌, ◌≤◌}
use native.Mathlib.Omega.{arith}
use native.Mathlib.Decide.{dec_lt}
use mathlib.Core.List.{List, ◌++◌, map}
use mathlib.Core.Option.{Option, none, some}
use lib.ListN.{length, get_or}
pub use Rattle.rules.specs.Sound.{faces_at, valence_at}
unfoldable pub use Rattle.rules.specs.Sound.{Small}
use Rattle.rules.specs.Mesh.{links, rims, restart, fourth, firsts, fan, valence, Mesh, refined}
use Rattle.rules.specs.Position.{Numbers}
use Rattle.rules.specs.Levels.{Sizes, after, Level, finer, levels}
use Rattle.rules.proofs.Refine.{Good, finer_of, length-finer}
use Rattle.rules.proofs.Grown.{grown, links-grown}
use Rattle.rules.proofs.Number.{first-at}
use Rattle.rules.proofs.Rings.{old-valence, new-valence-inner, new-valence-rim}
use Rattle.rules.proofs.Sound.{Sound, sound-refined, old-start, new-start}
use Rattle.rules.proofs.Totals.{rims-finer, edges-finer}

unfoldable pub level : ℕ → Mesh → Mesh
level zero m = m
level (suc l) m = level l (refined m (links m.faces))

pub sound-level : (l n : ℕ) (m : Mesh) → Sound n m → Sound (faces_at l n) (level l m)
unfolding level
sound-level zero n m w = w
sound-level (suc l) n m w = sound-level l (4 * n) (refined m (links m.faces)) (sound-refined n m w)

-- the mesh of the specification's levels
pub mesh-levels : (𝓝 : Numbers) (l : ℕ) (a : Level 𝓝) → (levels 𝓝 l a).mesh ≡ level l a.mesh
unfolding level levels finer
mesh-levels 𝓝 zero a = refl
mesh-levels 𝓝 (suc l) a = mesh-levels 𝓝 l (finer 𝓝 a)

-- ---- links carried along

pub record Linked : Type 0 where
  pub mesh : Mesh
  pub links : List (Option ℕ)

unfoldable pub carried : ℕ → ℕ → Linked → Linked
carried zero n a = a
carried (suc l) n a = carried l (4 * n) (record { mesh = refined a.mesh a.links; links = grown n a.links })

pub refined-faces : (n : ℕ) (m : Mesh) → Sound n m → (refined m (links m.faces)).faces ≡ finer_of m.verts n m.faces
unfolding refined
refined-faces n m w =
    let a : length m.faces / 3 ≡ n = omega (arith, w.good.size) in
    rw a

refined-links : (n : ℕ) (m : Mesh) → Sound n m → links (refined m (links m.faces)).faces ≡ grown n (links m.faces)
refined-links n m w = ap links (refined-faces n m w) ∙ links-grown m.verts n m.faces w.good

-- links carried along are the links that a search would find, at every level
pub carried-is : (l n : ℕ) (m : Mesh) → Sound n m → carried l n (record { mesh = m; links = links m.faces }) ≡ record { mesh = level l m; links = links (level l m).faces }
unfolding carried level
carried-is zero n m w = refl
carried-is (suc l) n m w =
    ap (λ (ls : List (Option ℕ)). carried l (4 * n) (record { mesh = refined m (links m.faces); links = ls })) (sym (refined-links n m w))
    ∙ carried-is l (4 * n) (refined m (links m.faces)) (sound-refined n m w)

-- ---- counts

abbrev pub counts_of : Mesh → Sizes
counts_of m = record { verts = m.verts; faces = length m.faces / 3; edges = length (firsts (links m.faces)) }

counts-refined : (n : ℕ) (m : Mesh) → Sound n m
    → counts_of (refined m (links m.faces)) ≡ record { verts = (counts_of m).verts + (counts_of m).edges; faces = 4 * (counts_of m).faces; edges = 2 * (counts_of m).edges + 3 * (counts_of m).faces }
unfolding refined
counts-refined n m w =
    let g = w.good in
    let a : length m.faces / 3 ≡ n = omega (arith, g.size) in
    let b : length (finer_of m.verts n m.faces) / 3 ≡ 4 * n = omega (arith, length-finer m.verts n m.faces g) in
    rw (a, b, edges-finer m.verts n m.faces g)

pub counts-level : (l n : ℕ) (m : Mesh) → Sound n m → counts_of (level l m) ≡ after l (counts_of m)
unfolding level
counts-level zero n m w = refl
counts-level (suc l) n m w = counts-level l (4 * n) (refined m (links m.faces)) (sound-refined n m w) ∙ ap (after l) (counts-refined n m w)

pub rims-level : (l n : ℕ) (m : Mesh) → Sound n m → rims (links (level l m).faces) ≡ 2 ^ l * rims (links m.faces)
unfolding level
rims-level zero n m w = omega arith
rims-level (suc l) n m w =
    rims-level l (4 * n) (refined m (links m.faces)) (sound-refined n m w)
    ∙ ap (λ (fs : List ℕ). 2 ^ l * rims (links fs)) (refined-faces n m w)
    ∙ ap (λ (r : ℕ). 2 ^ l * r) (rims-finer m.verts n m.faces w.good)
    ∙ (let p : 2 ^ suc l ≡ 2 * 2 ^ l = omega arith in rw p (omega arith))

-- ---- valences: those of the cage stay, and the others are 6 and 4

pub small-refined : (b n : ℕ) (m : Mesh) → 6 ≤ b → Sound n m → Small b m → Small b (refined m (links m.faces))
unfolding Small refined
small-refined b n m six w h u k = rw a (go (dec_lt u v))
  where
    v : ℕ
    v = m.verts

    fs : List ℕ
    fs = m.faces

    g : Good v n fs
    g = w.good

    a : length fs / 3 ≡ n
    a = omega (arith, g.size)

    go : Dec (u < v) → valence (fan (links (finer_of v n fs)) (get_or (map restart m.starts ++ map fourth (firsts (links fs))) u 0)) ≤ b
    go (yes l) = rw (old-start v n fs g m.starts w.sized u l, old-valence v n fs g (get_or m.starts u 0) (w.below u l)) (h u l)
    go (no l) =
        let i = u - v in
        let e : v + i ≡ u = omega arith in
        let f = first-at v n fs g i (omega arith) in
        rw (rw e at (new-start v n fs g m.starts w.sized i (omega arith))) (by (get_or (links fs) (get_or (firsts (links fs)) i 0) none) refl)
      where
        s : ℕ
        s = get_or (firsts (links fs)) (u - v) 0

        below : s < 3 * n
        below = (first-at v n fs g (u - v) (omega arith)).below

        by : (o : Option ℕ) → get_or (links fs) s none ≡ o → valence (fan (links (finer_of v n fs)) (fourth s)) ≤ b
        by none e = rw (new-valence-rim v n fs g s below e) (omega arith)
        by (some t) e = rw (new-valence-inner v n fs g s t below e) six

pub small-level : (b l n : ℕ) (m : Mesh) → 6 ≤ b → Sound n m → Small b m → Small b (level l m)
unfolding level
small-level b zero n m six w h = h
small-level b (suc l) n m six w h = small-level b l (4 * n) (refined m (links m.faces)) six (sound-refined n m w) (small-refined b n m six w h)
