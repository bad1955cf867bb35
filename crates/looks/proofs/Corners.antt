-- The Rust's own questions to a face whose links are looked up: where a vertex stands in it, and what lies across the side that leaves it.
use mathlib.Core.Path.{◌≡◌, refl, sym, ap, ◌∙◌}
use mathlib.Core.Logic.{◌≢◌}
use Prim.Native.Nat.{ℕ, ◌+◌, ◌*◌, ◌/◌, ◌%◌, ◌≤◌, ◌<◌}
use native.Mathlib.Omega.{arith}
use mathlib.Core.List.{List}
use mathlib.Core.Option.{Option, none, some}
use lib.ListN.{length, get_or}
use borrow.Author.Tests.{eq-eqb, ne_eqb}
use Rattle.rules.specs.Mesh.{onward, backward, corner, links, through, next_corner, prev_corner, step_to}
use Rattle.lists.specs.Lists.{part}
use Rattle.lists.proofs.Stores.{get_d_part, length_part}
use Rattle.rules.proofs.Refine.{Third, third, k0, k1, k2}
use Rattle.rules.proofs.Sides.{on-back, twin-some}
use Rattle.faces.specs.Words.{link_of}
use Rattle.faces.specs.Rings.{vert, step_of}
use Rattle.faces.proofs.Held.{link-coded}
use Rattle.faces.specs.Faces.{vnum_of, at, face_link, face_at, next_face_of, prev_face_of}
use Rattle.faces.specs.declared.face.Face.{Face}
use Rattle.faces.specs.declared.sides.FaceNo.{FaceNo}
use Rattle.faces.specs.declared.sides.VertNo.{VertNo}
use Rattle.std.specs.Prelude as std
use Rattle.std.specs.Prelude.{Some, None, option_map}
use Rattle.faces.specs.declared.face.Corner.{Corner}
use Rattle.faces.specs.declared.face.Corner.TheVariants as spot
use Rattle.cage.specs.Chains.{Apart}
use Rattle.faces.specs.declared.walks.Step.{Step}
use Rattle.faces.specs.declared.walks.Step.TheVariants as step
use Rattle.looks.specs.Looked.{Listed, looked, bare_at, spot_in, Within, stand_of}
use Rattle.looks.proofs.Found.{corner-word, link-word, word-is}

pub goes-off : (o : Option ℕ) → face_link o ≡ None → o ≡ none
goes-off none q = refl
goes-off (some t) q = absurd (let z : ◌≡◌ {A = ℕ} 0 1 = cc in omega arith)

module _ (fs : List ℕ) (n : ℕ) (size : length fs ≡ n) (thirds : n % 3 ≡ 0) (apart : (s : ℕ) → s < length fs → corner fs s ≢ corner fs (onward s)) where
  abbrev face_of : ℕ → Face
  face_of f = face_at (looked fs) 0 n f

  link : (x y : ℕ) → x < n → n + x ≡ y → Some (face_link (link_of (get_or (looked fs) y 0))) ≡ Some (face_link (get_or (links fs) x none))
  link x y h e = ap (λ (o : Option ℕ). Some (face_link o)) (ap link_of (link-word fs n size x y h e) ∙ link-coded (get_or (links fs) x none))

  differ : (s t : ℕ) → s < n → onward s ≡ t → corner fs s ≢ corner fs t
  differ s t h e q = apart s (rw size h) (q ∙ ap (corner fs) (sym e))

  -- the vertex of corner s stands there in face s / 3, and the side that leaves it is side s
  pub record Stands (s : ℕ) : Type 0 where
    pub place : spot_in (vnum_of (face_of (s / 3)) (vert (corner fs s))) (s / 3) ≡ s
    pub next : next_face_of (face_of (s / 3)) (vert (corner fs s)) ≡ Some (face_link (get_or (links fs) s none))
    pub prev : prev_face_of (face_of (s / 3)) (vert (corner fs s)) ≡ Some (face_link (get_or (links fs) (backward s) none))

  pub stands : (s : ℕ) → s < n → Stands s
  stands s h = go (third s)
    where
      f : Face
      f = face_of (s / 3)

      as-spot : {k : std.Option Corner} → vnum_of f (vert (corner fs s)) ≡ k → spot_in (vnum_of f (vert (corner fs s))) (s / 3) ≡ spot_in k (s / 3)
      as-spot e = ap (λ (k : std.Option Corner). spot_in k (s / 3)) e

      as-next : {k : Corner} → vnum_of f (vert (corner fs s)) ≡ Some k → next_face_of f (vert (corner fs s)) ≡ Some (at k f.f0 f.f1 f.f2)
      as-next e = ap (option_map (λ (k : Corner). at k f.f0 f.f1 f.f2)) e

      as-prev : {k : Corner} → vnum_of f (vert (corner fs s)) ≡ Some k → prev_face_of f (vert (corner fs s)) ≡ Some (at k f.f2 f.f0 f.f1)
      as-prev e = ap (option_map (λ (k : Corner). at k f.f2 f.f0 f.f1)) e

      go : Third s → Stands s
      go (k0 g q) =
          let a : f.v0.0 ≡ corner fs s = corner-word fs n size s (0 + 3 * (s / 3)) h (omega arith) in
          let e : vnum_of f (vert (corner fs s)) ≡ Some spot.First = simp (eq-eqb _ _ a) in
          record { place = as-spot e ∙ omega arith; next = as-next e ∙ link s (n + 3 * (s / 3)) h (omega arith); prev = as-prev e ∙ link (backward s) (n + 3 * (s / 3) + 2) (omega arith) (omega arith) }
      go (k1 g q) =
          let a : f.v0.0 ≡ corner fs (3 * g) = corner-word fs n size (3 * g) (0 + 3 * (s / 3)) (omega arith) (omega arith) in
          let b : f.v1.0 ≡ corner fs s = corner-word fs n size s (0 + 3 * (s / 3) + 1) h (omega arith) in
          let d : f.v0.0 ≢ corner fs s = λ z. differ (3 * g) s (omega arith) (omega arith) (sym a ∙ z) in
          let e : vnum_of f (vert (corner fs s)) ≡ Some spot.Second = simp (ne_eqb _ _ d, eq-eqb _ _ b) in
          record { place = as-spot e ∙ omega arith; next = as-next e ∙ link s (n + 3 * (s / 3) + 1) h (omega arith); prev = as-prev e ∙ link (backward s) (n + 3 * (s / 3)) (omega arith) (omega arith) }
      go (k2 g q) =
          let a : f.v0.0 ≡ corner fs (3 * g) = corner-word fs n size (3 * g) (0 + 3 * (s / 3)) (omega arith) (omega arith) in
          let b : f.v1.0 ≡ corner fs (3 * g + 1) = corner-word fs n size (3 * g + 1) (0 + 3 * (s / 3) + 1) (omega arith) (omega arith) in
          let c : f.v2.0 ≡ corner fs s = corner-word fs n size s (0 + 3 * (s / 3) + 2) h (omega arith) in
          let d : f.v0.0 ≢ corner fs s = λ z. differ s (3 * g) h (omega arith) (sym z ∙ a) in
          let i : f.v1.0 ≢ corner fs s = λ z. differ (3 * g + 1) s (omega arith) (omega arith) (sym b ∙ z) in
          let e : vnum_of f (vert (corner fs s)) ≡ Some spot.Third = simp (ne_eqb _ _ d, ne_eqb _ _ i, eq-eqb _ _ c) in
          record { place = as-spot e ∙ omega arith; next = as-next e ∙ link s (n + 3 * (s / 3) + 2) h (omega arith); prev = as-prev e ∙ link (backward s) (n + 3 * (s / 3) + 1) (omega arith) (omega arith) }

  -- what a face says of the side k at a vertex, and where the walk goes on: to the corner `to t` of the face across, at which the vertex stands
  module _ (s k : ℕ) (h : s < n) (to : ℕ → ℕ) (met : (t : ℕ) → get_or (links fs) k none ≡ some t → (t < n) × (to t < n) × (to t / 3 ≡ t / 3) × (corner fs (to t) ≡ corner fs s)) where
    pub goes_on : (g : FaceNo) → Some (face_link (get_or (links fs) k none)) ≡ Some (Some g)
        → (3 * g.0 + 3 ≤ n) × (through to (get_or (links fs) k none) ≡ some (spot_in (vnum_of (face_of g.0) (vert (corner fs s))) g.0))
    goes_on g e = go (get_or (links fs) k none) refl e
      where
        go : (o : Option ℕ) → get_or (links fs) k none ≡ o → Some (face_link o) ≡ Some (Some g)
            → (3 * g.0 + 3 ≤ n) × (through to o ≡ some (spot_in (vnum_of (face_of g.0) (vert (corner fs s))) g.0))
        go none l q = absurd (let z : ◌≡◌ {A = ℕ} 0 1 = cc in omega arith)
        go (some t) l q =
            let m = met t l in
            let b : t < n = m.0 in
            let r : g.0 ≡ t / 3 = to_is q in
            let u : to t / 3 ≡ t / 3 = m.2 in
            let b : spot_in (vnum_of (face_of (t / 3)) (vert (corner fs s))) (t / 3) ≡ to t =
            ap (λ (z : ℕ). spot_in (vnum_of (face_of (t / 3)) (vert z)) (t / 3)) (sym m.3)
            ∙ ap (λ (z : ℕ). spot_in (vnum_of (face_of z) (vert (corner fs (to t)))) z) (sym u) ∙ (stands (to t) m.1).place in
            (omega arith, ap some (sym (ap (λ (z : ℕ). spot_in (vnum_of (face_of z) (vert (corner fs s))) z) r ∙ b)))
          where
            to_is : Some (face_link (some t)) ≡ Some (Some g) → g.0 ≡ t / 3
            to_is e = let z : ◌≡◌ {A = FaceNo} (record { 0 = t / 3 }) g = cc in ap (λ (x : FaceNo). x.0) (sym z)

  -- the side across the one that leaves the vertex, and across the one that comes to it
  pub met_next : (s : ℕ) → s < n → (t : ℕ) → get_or (links fs) s none ≡ some t → (t < n) × (onward t < n) × (onward t / 3 ≡ t / 3) × (corner fs (onward t) ≡ corner fs s)
  met_next s h t e =
      let w = twin-some fs s t (rw size h) e in
      let k : t < n = omega (arith, w.below) in
      (k, omega arith, omega arith, w.to)

  pub met-prev : (s : ℕ) → s < n → (t : ℕ) → get_or (links fs) (backward s) none ≡ some t → (t < n) × (t < n) × (t / 3 ≡ t / 3) × (corner fs t ≡ corner fs s)
  met-prev s h t e =
      let w = twin-some fs (backward s) t (rw size (let b : backward s < n = omega arith in b)) e in
      let k : t < n = omega (arith, w.below) in
      (k, k, refl, w.from ∙ ap (corner fs) (on-back s))

pub as-it-is : (o : Option ℕ) → through (λ t. t) o ≡ o
as-it-is none = refl
as-it-is (some t) = refl

-- ---- one step, over the words: by a question `ask` to the face, which answers with the link of side k

module _ (w : List ℕ) (at n : ℕ) (l : Listed w at n) (p : Apart (part at n w)) (home s : ℕ) (h : s < n) (f : Face) (F : f ≡ face_at (looked (part at n w)) 0 n (s / 3)) where
  abbrev fs : List ℕ
  fs = part at n w

  size : length fs ≡ n
  size = length_part w at n l.room

  next-is : next_face_of f (vert (get_or w (at + s) 0)) ≡ Some (face_link (get_or (links fs) s none))
  next-is =
      ap (λ (x : Face). next_face_of x (vert (get_or w (at + s) 0))) F
      ∙ ap (λ (x : ℕ). next_face_of (face_at (looked fs) 0 n (s / 3)) (vert x)) (sym (get_d_part w at n s 0 h)) ∙ (stands fs n size l.thirds p.each s h).next

  prev-is : prev_face_of f (vert (get_or w (at + s) 0)) ≡ Some (face_link (get_or (links fs) (backward s) none))
  prev-is =
      ap (λ (x : Face). prev_face_of x (vert (get_or w (at + s) 0))) F
      ∙ ap (λ (x : ℕ). prev_face_of (face_at (looked fs) 0 n (s / 3)) (vert x)) (sym (get_d_part w at n s 0 h)) ∙ (stands fs n size l.thirds p.each s h).prev

  -- where a vertex stands in a face does not ask for its links
  bare-spot : (g : ℕ) → 3 * g + 3 ≤ n → (v : VertNo) → vnum_of (bare_at w at g) v ≡ vnum_of (face_at (looked fs) 0 n g) v
  bare-spot g h v =
      rw (
        word-is w at n l.room (3 * g) (at + 3 * g) (0 + 3 * g) (omega arith) refl (omega arith),
        word-is w at n l.room (3 * g + 1) (at + 3 * g + 1) (0 + 3 * g + 1) (omega arith) (omega arith) (omega arith),
        word-is w at n l.room (3 * g + 2) (at + 3 * g + 2) (0 + 3 * g + 2) (omega arith) (omega arith) (omega arith),
      )

  -- where the vertex stands in the face that was named
  module _ (g : FaceNo) (y : Face) (Y : y ≡ bare_at w at g.0) (k : std.Option Corner) (K : k ≡ vnum_of y (vert (get_or w (at + s) 0))) (u : ℕ) (U : u ≡ spot_in k g.0) where
    spot_is : 3 * g.0 + 3 ≤ n → some u ≡ some (spot_in (vnum_of (face_at (looked fs) 0 n g.0) (vert (corner fs s))) g.0)
    spot_is h' =
        ap some (U ∙ ap (λ (x : std.Option Corner). spot_in x g.0) (K ∙ ap (λ (x : Face). vnum_of x (vert (get_or w (at + s) 0))) Y ∙ bare-spot g.0 h' (vert (get_or w (at + s) 0))
        ∙ ap (λ (x : ℕ). vnum_of (face_at (looked fs) 0 n g.0) (vert x)) (sym (get_d_part w at n s 0 h))))

    pub next-on : next_face_of f (vert (get_or w (at + s) 0)) ≡ Some (Some g) → (r : Step) → r ≡ step_of (step_to home (some u)) → r ≡ step_of (next_corner (links fs) home s)
    next-on e r R =
        let q = goes_on fs n size l.thirds p.each s s h onward (met_next fs n size l.thirds p.each s h) g (sym next-is ∙ e) in
        R ∙ ap (λ (o : Option ℕ). step_of (step_to home o)) (spot_is q.0 ∙ sym q.1)

    pub prev-on : prev_face_of f (vert (get_or w (at + s) 0)) ≡ Some (Some g) → (r : Step) → r ≡ step_of (step_to home (some u)) → r ≡ step_of (prev_corner (links fs) home s)
    prev-on e r R =
        let q = goes_on fs n size l.thirds p.each s (backward s) h (λ t. t) (met-prev fs n size l.thirds p.each s h) g (sym prev-is ∙ e) in
        R ∙ ap (λ (o : Option ℕ). step_of (step_to home o)) (spot_is q.0 ∙ sym q.1 ∙ as-it-is (get_or (links fs) (backward s) none))

  pub next-face-below : (g : FaceNo) → next_face_of f (vert (get_or w (at + s) 0)) ≡ Some (Some g) → 3 * g.0 + 3 ≤ n
  next-face-below g e = (goes_on fs n size l.thirds p.each s s h onward (met_next fs n size l.thirds p.each s h) g (sym next-is ∙ e)).0

  pub prev-face-below : (g : FaceNo) → prev_face_of f (vert (get_or w (at + s) 0)) ≡ Some (Some g) → 3 * g.0 + 3 ≤ n
  prev-face-below g e = (goes_on fs n size l.thirds p.each s (backward s) h (λ t. t) (met-prev fs n size l.thirds p.each s h) g (sym prev-is ∙ e)).0

  pub next-off : next_face_of f (vert (get_or w (at + s) 0)) ≡ Some None → step.Off ≡ step_of (next_corner (links fs) home s)
  next-off e = rw (goes-off (get_or (links fs) s none) (let q = sym next-is ∙ e in cc))

  pub prev-off : prev_face_of f (vert (get_or w (at + s) 0)) ≡ Some None → step.Off ≡ step_of (prev_corner (links fs) home s)
  prev-off e = rw (goes-off (get_or (links fs) (backward s) none) (let q = sym prev-is ∙ e in cc))

  pub next-none : {X : Type 0} → next_face_of f (vert (get_or w (at + s) 0)) ≡ None → X
  next-none e = absurd (let q = sym next-is ∙ e in let z : ◌≡◌ {A = ℕ} 0 1 = cc in omega arith)

  pub prev-none : {X : Type 0} → prev_face_of f (vert (get_or w (at + s) 0)) ≡ None → X
  prev-none e = absurd (let q = sym prev-is ∙ e in let z : ◌≡◌ {A = ℕ} 0 1 = cc in omega arith)

  -- so of whatever the face answers
  module _ (r : std.Option (std.Option FaceNo)) where
    pub next-within : next_face_of f (vert (get_or w (at + s) 0)) ≡ r → Within (length w) at r
    next-within e = go r e
      where
        go : (r : std.Option (std.Option FaceNo)) → next_face_of f (vert (get_or w (at + s) 0)) ≡ r → Within (length w) at r
        go (Some (Some g)) e = omega (arith, next-face-below g e, l.room)
        go (Some None) e = tt
        go None e = tt

    pub next-stands : next_face_of f (vert (get_or w (at + s) 0)) ≡ r → step_of (step_to home (stand_of w at (vert (get_or w (at + s) 0)) r)) ≡ step_of (next_corner (links fs) home s)
    next-stands e = go r e
      where
        go : (r : std.Option (std.Option FaceNo)) → next_face_of f (vert (get_or w (at + s) 0)) ≡ r → step_of (step_to home (stand_of w at (vert (get_or w (at + s) 0)) r)) ≡ step_of (next_corner (links fs) home s)
        go (Some (Some g)) e = next-on g (bare_at w at g.0) refl (vnum_of (bare_at w at g.0) (vert (get_or w (at + s) 0))) refl (spot_in (vnum_of (bare_at w at g.0) (vert (get_or w (at + s) 0))) g.0) refl e _ refl
        go (Some None) e = next-off e
        go None e = next-none e

    pub prev-within : prev_face_of f (vert (get_or w (at + s) 0)) ≡ r → Within (length w) at r
    prev-within e = go r e
      where
        go : (r : std.Option (std.Option FaceNo)) → prev_face_of f (vert (get_or w (at + s) 0)) ≡ r → Within (length w) at r
        go (Some (Some g)) e = omega (arith, prev-face-below g e, l.room)
        go (Some None) e = tt
        go None e = tt

    pub prev-stands : prev_face_of f (vert (get_or w (at + s) 0)) ≡ r → step_of (step_to home (stand_of w at (vert (get_or w (at + s) 0)) r)) ≡ step_of (prev_corner (links fs) home s)
    prev-stands e = go r e
      where
        go : (r : std.Option (std.Option FaceNo)) → prev_face_of f (vert (get_or w (at + s) 0)) ≡ r → step_of (step_to home (stand_of w at (vert (get_or w (at + s) 0)) r)) ≡ step_of (prev_corner (links fs) home s)
        go (Some (Some g)) e = prev-on g (bare_at w at g.0) refl (vnum_of (bare_at w at g.0) (vert (get_or w (at + s) 0))) refl (spot_in (vnum_of (bare_at w at g.0) (vert (get_or w (at + s) 0))) g.0) refl e _ refl
        go (Some None) e = prev-off e
        go None e = prev-none e
