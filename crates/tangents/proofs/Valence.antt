-- The fewest in a ring of a good mesh: three round an inner vertex, two on the rim.
use mathlib.Core.Path.{◌≡◌, refl}
use mathlib.Core.Logic.{◌≢◌}
use Prim.Native.Nat.{ℕ, ◌*◌, ◌/◌, ◌≤◌, ◌<◌}
use native.Mathlib.Omega.{arith}
use mathlib.Core.List.{List, [], ◌∷◌}
use mathlib.Core.Option.{some}
use lib.ListN.{length}
use Rattle.rules.specs.Mesh.{backward, links, Fan, fan, valence}
use Rattle.rules.proofs.Refine.{Good, back_below}
use Rattle.rules.proofs.Faces.{no_self, one-edge, link-link, link-twins}
use Rattle.rules.proofs.Turns.{after, Round, Turned, round, fringe, after-before, turned}
use Rattle.faces.specs.Rings.{is_rim}
use Rattle.tangents.specs.Normals.{fewest}

module _ (v n : ℕ) (fs : List ℕ) (g : Good v n fs) where
  -- a step by `next_face` leads into another face
  leaves : (s t : ℕ) → s < 3 * n → t < 3 * n → after fs s ≡ some t → t / 3 ≢ s / 3
  leaves s t h k e q =
      let l = after-before v n fs g s t h e in
      no_self v n fs g (backward t) s (back_below t n k) (link-twins v n fs g (backward t) s (back_below t n k) l) (omega arith)

  -- and two steps do not lead back
  no_return : (s t : ℕ) → s < 3 * n → t < 3 * n → after fs s ≡ some t → after fs t ≡ some s → ⊥
  no_return s t h k e f =
      let a = after-before v n fs g s t h e in
      let b = after-before v n fs g t s k f in
      let c = link-twins v n fs g s (backward t) h (link-link v n fs g (backward t) s (back_below t n k) a) in
      let d = link-twins v n fs g (backward s) t (back_below s n h) b in
      let q : backward s ≡ s = one-edge v n fs g s (backward t) (backward s) t h c d (omega arith) (omega arith) in
      absurd (omega arith)

  pub inner-three : (s : ℕ) (cs : List ℕ) → Round n fs s cs → 3 ≤ length cs
  inner-three s [] r = absurd (omega (arith, r.filled))
  inner-three s (c ∷ []) r = absurd (leaves c c (r.corners.below 0 (omega arith)) (r.corners.below 0 (omega arith)) r.closes refl)
  inner-three s (c ∷ d ∷ []) r = absurd (no_return c d (r.corners.below 0 (omega arith)) (r.corners.below 1 (omega arith)) (r.next 0 (omega arith)) r.closes)
  inner-three s (c ∷ d ∷ e ∷ cs) r = omega arith

  at_least : (s : ℕ) (f : Fan) → Turned n fs s f → fewest (is_rim f) ≤ valence f
  at_least s _ (round cs r) = inner-three s cs r
  at_least s _ (fringe cs r) = omega (arith, r.filled)

  pub ring-fewest : (s : ℕ) → s < 3 * n → fewest (is_rim (fan (links fs) s)) ≤ valence (fan (links fs) s)
  ring-fewest s h = at_least s (fan (links fs) s) (turned v n fs g s h)
