-- The limit of an edge's new vertex at level 1, from its ring there.
use mathlib.Core.Path.{◌≡◌, refl, sym, ap, ◌∙◌}
use Prim.Native.Nat.{ℕ, ◌+◌, ◌/◌, ◌<◌}
use native.Mathlib.Omega.{arith}
use mathlib.Core.List.{List, [], ◌∷◌, map}
use mathlib.Core.Option.{none, some}
use lib.ListN.{length, get_or}
use Rattle.lists.specs.Lists.{count, gather}
use Rattle.rules.specs.Mesh.{onward, backward, corner, links, fourth, firsts, children, Fan, fan, ring, Mesh, refined}
use Rattle.rules.specs.Position.{Numbers, limit, ring_rule, rim_rule}
use Rattle.rules.specs.Levels.{ends, coord, blended, limits}
use Rattle.rules.proofs.Refine.{finer_of, mid_of, edges}
use Rattle.rules.proofs.Edges.{fan-inner, fan-rim}
use Rattle.rules.proofs.Rings.{new-ring-inner, new-ring-rim}
use Rattle.rules.proofs.Sound.{Sound, new-start}
use Rattle.rules.proofs.Spokes.{limit-at}
use Rattle.rules.proofs.Number.{first-at}

module _ (𝓝 : Numbers) (n : ℕ) (m : Mesh) (w : Sound n m) where
  abbrev v : ℕ
  v = m.verts

  abbrev fs : List ℕ
  fs = m.faces

  abbrev m' : Mesh
  m' = refined m (links fs)

  faces-are : m'.faces ≡ finer_of v n fs
  unfolding refined
  faces-are = let e : length fs / 3 ≡ n = omega (arith, w.good.size) in ap (λ (k : ℕ). gather (children v fs (links fs)) (count 0 k)) e

  start_is : (i : ℕ) → i < edges v n fs w.good → get_or m'.starts (v + i) 0 ≡ fourth (get_or (firsts (links fs)) i 0)
  unfolding refined
  start_is i h = new-start v n fs w.good m.starts w.sized i h

  verts-are : m'.verts ≡ v + edges v n fs w.good
  unfolding refined
  verts-are = refl

  pub new-limit-inner : (pts : List 𝓝.N) (i t c : ℕ) → i < edges v n fs w.good → c < 3 → get_or (links fs) (get_or (firsts (links fs)) i 0) none ≡ some t
      → coord 𝓝 (limits 𝓝 m' (links m'.faces) pts) c (v + i)
      ≡ 𝓝.blend (ring_rule limit 6) (coord 𝓝 pts c (v + i)) (map (coord 𝓝 pts c)
      (mid_of v fs (onward (get_or (firsts (links fs)) i 0)) ∷ corner fs (onward (get_or (firsts (links fs)) i 0)) ∷ mid_of v fs (backward t) ∷ mid_of v fs (onward t) ∷ corner fs (onward t) ∷ mid_of v fs (backward (get_or (firsts (links fs)) i 0)) ∷ []))
  new-limit-inner pts i t c h k e =
      let s = get_or (firsts (links fs)) i 0 in
      let b = (first-at v n fs w.good i h).below in
      limit-at 𝓝 m' (links m'.faces) pts (v + i) c (rw verts-are (omega arith)) k
      ∙ ap (λ (l : List ℕ). blended 𝓝 limit l pts (v + i) (fan (links l) (get_or m'.starts (v + i) 0)) c) faces-are
      ∙ ap (λ (x : ℕ). blended 𝓝 limit (finer_of v n fs) pts (v + i) (fan (links (finer_of v n fs)) x) c) (start_is i h)
      ∙ six (fan (links (finer_of v n fs)) (fourth s)) (fan-inner v n fs w.good s t b e) (new-ring-inner v n fs w.good s t b e)
    where
      six : {a1 a2 a3 a4 a5 a6 : ℕ} {vs : List ℕ} (f : Fan) → f ≡ Fan.inner (a1 ∷ a2 ∷ a3 ∷ a4 ∷ a5 ∷ a6 ∷ []) → ring (finer_of v n fs) f ≡ vs
          → blended 𝓝 limit (finer_of v n fs) pts (v + i) f c ≡ 𝓝.blend (ring_rule limit 6) (coord 𝓝 pts c (v + i)) (map (coord 𝓝 pts c) vs)
      six {a1} {a2} {a3} {a4} {a5} {a6} f q r =
          let x : ring (finer_of v n fs) (Fan.inner (a1 ∷ a2 ∷ a3 ∷ a4 ∷ a5 ∷ a6 ∷ [])) ≡ _ = sym (ap (ring (finer_of v n fs)) q) ∙ r in
          ap (λ (z : Fan). blended 𝓝 limit (finer_of v n fs) pts (v + i) z c) q
          ∙ ap (λ (us : List ℕ). 𝓝.blend (ring_rule limit 6) (coord 𝓝 pts c (v + i)) (map (coord 𝓝 pts c) us)) x

  pub new-limit-rim : (pts : List 𝓝.N) (i c : ℕ) → i < edges v n fs w.good → c < 3 → get_or (links fs) (get_or (firsts (links fs)) i 0) none ≡ none
      → coord 𝓝 (limits 𝓝 m' (links m'.faces) pts) c (v + i)
      ≡ 𝓝.blend (rim_rule limit) (coord 𝓝 pts c (v + i)) (coord 𝓝 pts c (corner fs (onward (get_or (firsts (links fs)) i 0))) ∷ coord 𝓝 pts c (corner fs (get_or (firsts (links fs)) i 0)) ∷ [])
  new-limit-rim pts i c h k e =
      let s = get_or (firsts (links fs)) i 0 in
      let b = (first-at v n fs w.good i h).below in
      limit-at 𝓝 m' (links m'.faces) pts (v + i) c (rw verts-are (omega arith)) k
      ∙ ap (λ (l : List ℕ). blended 𝓝 limit l pts (v + i) (fan (links l) (get_or m'.starts (v + i) 0)) c) faces-are
      ∙ ap (λ (x : ℕ). blended 𝓝 limit (finer_of v n fs) pts (v + i) (fan (links (finer_of v n fs)) x) c) (start_is i h)
      ∙ four (fan (links (finer_of v n fs)) (fourth s)) (fan-rim v n fs w.good s b e) (new-ring-rim v n fs w.good s b e)
    where
      four : {a1 a2 a3 b1 b2 b3 b4 : ℕ} (f : Fan) → f ≡ Fan.rim (a1 ∷ a2 ∷ a3 ∷ []) → ring (finer_of v n fs) f ≡ (b1 ∷ b2 ∷ b3 ∷ b4 ∷ [])
          → blended 𝓝 limit (finer_of v n fs) pts (v + i) f c ≡ 𝓝.blend (rim_rule limit) (coord 𝓝 pts c (v + i)) (coord 𝓝 pts c b1 ∷ coord 𝓝 pts c b4 ∷ [])
      four {a1} {a2} {a3} f q r =
          let x : ring (finer_of v n fs) (Fan.rim (a1 ∷ a2 ∷ a3 ∷ [])) ≡ _ = sym (ap (ring (finer_of v n fs)) q) ∙ r in
          ap (λ (z : Fan). blended 𝓝 limit (finer_of v n fs) pts (v + i) z c) q
          ∙ ap (λ (us : List ℕ). 𝓝.blend (rim_rule limit) (coord 𝓝 pts c (v + i)) (map (coord 𝓝 pts c) (ends us))) x
