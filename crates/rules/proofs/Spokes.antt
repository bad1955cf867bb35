-- The rule of a spoke's new vertex, as the level writes it down at the first side of the edge: its ends and its far corners. And where a level puts the coordinates.
use mathlib.Core.Path.{◌≡◌, refl, ap, ◌∙◌}
use Prim.Native.Nat.{ℕ, zero, suc, ◌+◌, ◌-◌, ◌*◌, ◌<◌, min}
use native.Mathlib.Omega.{arith}
use mathlib.Core.Bool.{Bool, true, false}
use mathlib.Core.List.{List, ◌++◌}
use mathlib.Core.Option.{Option, none, some}
use lib.Dec.{leb, leb→le, nleb→lt}
use lib.ListN.{length, get_or, length-append, get_or-append}
use lib.Seq.{get_or-append-add}
use Rattle.lists.specs.Lists.{count, gather}
use Rattle.rules.specs.Mesh.{onward, backward, corner, links, firsts, first_of, fan, Mesh, refined}
use Rattle.rules.specs.Position.{Numbers, refining, limit, Stage}
use Rattle.rules.specs.Levels.{coord, three, blended, moved, edge_at, new_positions, limits, Level, finer, levels, positions}
use Rattle.lists.proofs.Places.{length-count, get_or-count, length-gather, get_or-gather}
use Rattle.rules.proofs.Refine.{Good, mid_of}
use Rattle.rules.proofs.Faces.{link-link, link-twins}
use Rattle.rules.proofs.Number.{first-of}

-- x, with the side `other` across it, lies on the edge of s and t: the same ends and the same far corners
pub record SameEdge (fs : List ℕ) (s t x : ℕ) : Type 0 where
  pub other : ℕ
  pub link : get_or (links fs) x none ≡ some other
  pub ends : (w : ℕ → ℕ) → w (corner fs x) + w (corner fs (onward x)) ≡ w (corner fs s) + w (corner fs (onward s))
  pub fars : (w : ℕ → ℕ) → w (corner fs (backward x)) + w (corner fs (backward other)) ≡ w (corner fs (backward s)) + w (corner fs (backward t))

module _ (v n : ℕ) (fs : List ℕ) (g : Good v n fs) where
  pub edge-inner : (s t : ℕ) → s < 3 * n → get_or (links fs) s none ≡ some t → SameEdge fs s t (get_or (firsts (links fs)) (mid_of v fs s - v) 0)
  edge-inner s t h e = rw (first-of v n fs g s h, ap (first_of s) e) (go (leb s t) refl)
    where
      go : (b : Bool) → leb s t ≡ b → SameEdge fs s t (min s t)
      go true q =
          let m : min s t ≡ s = omega (arith, leb→le s t (rw q tt)) in
          rw m (record { other = t; link = e; ends = λ w. refl; fars = λ w. refl })
      go false q =
          let m : min s t ≡ t = omega (arith, nleb→lt s t (rw q tt)) in
          let w = link-twins v n fs g s t h e in
          rw m (record {
            other = s;
            link = link-link v n fs g s t h e;
            ends = λ k. omega (arith, ap k w.from, ap k w.to);
            fars = λ k. omega arith;
          })

  pub edge-rim : (s : ℕ) → s < 3 * n → get_or (links fs) s none ≡ none → get_or (firsts (links fs)) (mid_of v fs s - v) 0 ≡ s
  edge-rim s h e = first-of v n fs g s h ∙ ap (first_of s) e

-- ---- coordinates after a level, by vertex and axis

pub three-at : (𝓝 : Numbers) (f : ℕ → 𝓝.N) (c : ℕ) → c < 3 → get_or (three 𝓝 f) c 𝓝.nought ≡ f c
three-at 𝓝 f zero h = refl
three-at 𝓝 f (suc zero) h = refl
three-at 𝓝 f (suc (suc zero)) h = refl
three-at 𝓝 f (suc (suc (suc c))) h = absurd (omega arith)

module _ (𝓝 : Numbers) (m : Mesh) (ls : List (Option ℕ)) (xs : List 𝓝.N) where
  vertex-at : (p : Stage) (u c : ℕ) → u < m.verts → c < 3
      → get_or (gather (moved 𝓝 p m ls xs) (count 0 m.verts)) (3 * u + c) 𝓝.nought ≡ blended 𝓝 p m.faces xs u (fan ls (get_or m.starts u 0)) c
  unfolding moved
  vertex-at p u c h k =
      get_or-gather (moved 𝓝 p m ls xs) 3 (λ a. refl) (count 0 m.verts) u c 0 𝓝.nought (rw (length-count 0 m.verts) h) k
      ∙ ap (λ (z : ℕ). get_or (moved 𝓝 p m ls xs z) c 𝓝.nought) (get_or-count 0 m.verts u 0 h ∙ omega arith)
      ∙ three-at 𝓝 (blended 𝓝 p m.faces xs u (fan ls (get_or m.starts u 0))) c k

  pub limit-at : (u c : ℕ) → u < m.verts → c < 3 → coord 𝓝 (limits 𝓝 m ls xs) c u ≡ blended 𝓝 limit m.faces xs u (fan ls (get_or m.starts u 0)) c
  unfolding limits
  limit-at u c h k = vertex-at limit u c h k

  old-length : length (gather (moved 𝓝 refining m ls xs) (count 0 m.verts)) ≡ 3 * m.verts
  unfolding moved
  old-length = length-gather (moved 𝓝 refining m ls xs) 3 (λ a. refl) (count 0 m.verts) ∙ ap (λ (z : ℕ). 3 * z) (length-count 0 m.verts)

  pub length-limits : length (limits 𝓝 m ls xs) ≡ 3 * m.verts
  unfolding limits moved
  length-limits = length-gather (moved 𝓝 limit m ls xs) 3 (λ a. refl) (count 0 m.verts) ∙ ap (λ (z : ℕ). 3 * z) (length-count 0 m.verts)

  pub length-new : length (new_positions 𝓝 m ls xs) ≡ 3 * (m.verts + length (firsts ls))
  unfolding new_positions
  length-new =
      let f : ℕ → List 𝓝.N = λ s. three 𝓝 (edge_at 𝓝 m.faces xs s (get_or ls s none)) in
      length-append (gather (moved 𝓝 refining m ls xs) (count 0 m.verts)) (gather f (firsts ls))
      ∙ omega (arith, old-length, length-gather f 3 (λ s. refl) (firsts ls))

  pub old-at : (u c : ℕ) → u < m.verts → c < 3 → coord 𝓝 (new_positions 𝓝 m ls xs) c u ≡ blended 𝓝 refining m.faces xs u (fan ls (get_or m.starts u 0)) c
  unfolding new_positions
  old-at u c h k =
      get_or-append (gather (moved 𝓝 refining m ls xs) (count 0 m.verts)) _ 𝓝.nought (3 * u + c) (omega (arith, old-length))
      ∙ vertex-at refining u c h k

  pub new-at : (i c : ℕ) → i < length (firsts ls) → c < 3
      → coord 𝓝 (new_positions 𝓝 m ls xs) c (m.verts + i) ≡ edge_at 𝓝 m.faces xs (get_or (firsts ls) i 0) (get_or ls (get_or (firsts ls) i 0) none) c
  unfolding new_positions
  new-at i c h k =
      let a = gather (moved 𝓝 refining m ls xs) (count 0 m.verts) in
      let f : ℕ → List 𝓝.N = λ s. three 𝓝 (edge_at 𝓝 m.faces xs s (get_or ls s none)) in
      let e : 3 * (m.verts + i) + c ≡ length a + (3 * i + c) = omega (arith, old-length) in
      ap (λ (z : ℕ). get_or (a ++ gather f (firsts ls)) z 𝓝.nought) e
      ∙ get_or-append-add a (gather f (firsts ls)) (3 * i + c) 𝓝.nought
      ∙ get_or-gather f 3 (λ s. refl) (firsts ls) i c 0 𝓝.nought h k
      ∙ three-at 𝓝 (edge_at 𝓝 m.faces xs (get_or (firsts ls) i 0) (get_or ls (get_or (firsts ls) i 0) none)) c k

-- three coordinates to a vertex, at every level and at the limit
pub length-levels : (𝓝 : Numbers) (l : ℕ) (a : Level 𝓝) → length a.points ≡ 3 * a.mesh.verts → length (levels 𝓝 l a).points ≡ 3 * (levels 𝓝 l a).mesh.verts
unfolding levels finer refined
length-levels 𝓝 zero a e = e
length-levels 𝓝 (suc l) a e = length-levels 𝓝 l (finer 𝓝 a) (length-new 𝓝 a.mesh (links a.mesh.faces) a.points)

pub length-positions : (𝓝 : Numbers) (a : Level 𝓝) → length (positions 𝓝 a) ≡ 3 * a.mesh.verts
unfolding positions
length-positions 𝓝 a = length-limits 𝓝 a.mesh (links a.mesh.faces) a.points
