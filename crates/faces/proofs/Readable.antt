-- A side number says what the Rust asks of a face: at corner s of face s / 3, whose corners differ, `next_face` and `prev_face` go where the walks go, `next_vert`
-- and `prev_vert` are what the rings take, and `other_vert` of the two ends of side s is the corner that it does not touch.
use mathlib.Core.Path.{◌≡◌, refl, sym, ap, ap₂, ◌∙◌}
use mathlib.Core.Logic.{◌≢◌}
use Prim.Native.Nat.{ℕ, ◌+◌, ◌*◌, ◌/◌, ◌≤◌, ◌<◌}
use native.Mathlib.Omega.{arith}
use mathlib.Core.Bool.{Bool, true, false}
use mathlib.Core.List.{List}
use mathlib.Core.Option.{Option, none}
use lib.Dec.{eqb}
use lib.ListN.{length, get_or}
use borrow.Author.Tests.{eq-eqb, ne_eqb}
use Rattle.std.specs.Prelude as std
use Rattle.std.specs.Prelude.{Some, None, option_map}
use Rattle.lists.specs.Lists.{pick, part}
use Rattle.lists.proofs.Stores.{get_d_part}
use Rattle.rules.specs.Mesh.{onward, backward, corner}
use Rattle.rules.proofs.Refine.{Third, third, k0, k1, k2}
use Rattle.faces.specs.Words.{link_of, links_in}
use Rattle.faces.specs.Rings.{vert}
use Rattle.faces.specs.Faces.{vnum_of, at, face_link, face_at, next_face_of, prev_face_of, next_vert_of, prev_vert_of, unless, other_vert_of}
use Rattle.faces.specs.declared.sides.VertNo.{VertNo}
use Rattle.faces.specs.declared.face.Face.{Face}
use Rattle.faces.specs.declared.face.Corner.{Corner}
use Rattle.faces.specs.declared.face.Corner.TheVariants as spot
use Rattle.faces.proofs.Links.{get_or-links_in}

-- which corner a vertex is, where the corners differ
first-is : (f : Face) (v : VertNo) → f.v0.0 ≡ v.0 → vnum_of f v ≡ Some spot.First
first-is f v e = simp (eq-eqb _ _ e)

second_is : (f : Face) (v : VertNo) → f.v0.0 ≢ v.0 → f.v1.0 ≡ v.0 → vnum_of f v ≡ Some spot.Second
second_is f v d e = simp (ne_eqb _ _ d, eq-eqb _ _ e)

third-is : (f : Face) (v : VertNo) → f.v0.0 ≢ v.0 → f.v1.0 ≢ v.0 → f.v2.0 ≡ v.0 → vnum_of f v ≡ Some spot.Third
third-is f v c d e = simp (ne_eqb _ _ c, ne_eqb _ _ d, eq-eqb _ _ e)

-- `other_vert`, on a face with three different corners: of the ends of a side it is the third
module _ (f : Face) (p : f.v0.0 ≢ f.v1.0) (q : f.v1.0 ≢ f.v2.0) (r : f.v2.0 ≢ f.v0.0) where
  pub other-of-first : other_vert_of f f.v0 f.v1 ≡ Some f.v2
  other-of-first =
      simp (eq-eqb f.v0.0 f.v0.0 refl, eq-eqb f.v1.0 f.v1.0 refl, ne_eqb f.v1.0 f.v0.0 (λ e. p (sym e)), ne_eqb f.v2.0 f.v0.0 r, ne_eqb f.v2.0 f.v1.0 (λ e. q (sym e)))

  pub other-of-second : other_vert_of f f.v1 f.v2 ≡ Some f.v0
  other-of-second = simp (ne_eqb f.v0.0 f.v1.0 p, ne_eqb f.v0.0 f.v2.0 (λ e. r (sym e)))

  pub other-of-third : other_vert_of f f.v2 f.v0 ≡ Some f.v1
  other-of-third =
      simp (eq-eqb f.v0.0 f.v0.0 refl, ne_eqb f.v0.0 f.v2.0 (λ e. r (sym e)), ne_eqb f.v1.0 f.v2.0 q, ne_eqb f.v1.0 f.v0.0 (λ e. p (sym e)))

-- and whichever way round they are asked
pub other-either-way : (f : Face) (a b : VertNo) → other_vert_of f a b ≡ other_vert_of f b a
other-either-way f a b =
    either f.v0 (unless f.v1 a b (unless f.v2 a b None))
    ∙ ap (unless f.v0 b a) (either f.v1 (unless f.v2 a b None) ∙ ap (unless f.v1 b a) (either f.v2 None))
  where
    by : (x y : Bool) (d e : std.Option VertNo) → pick x d (pick y d e) ≡ pick y d (pick x d e)
    by true true d e = refl
    by true false d e = refl
    by false true d e = refl
    by false false d e = refl

    either : (c : VertNo) (d : std.Option VertNo) → unless c a b d ≡ unless c b a d
    either c d = by (eqb c.0 a.0) (eqb c.0 b.0) d (Some c)

pub record Reads (w : List ℕ) (i j n s : ℕ) : Type 0 where
  pub next-face : next_face_of (face_at w i j (s / 3)) (vert (get_or w (i + s) 0)) ≡ Some (face_link (get_or (links_in w j (3 * n)) s none))
  pub prev-face : prev_face_of (face_at w i j (s / 3)) (vert (get_or w (i + s) 0)) ≡ Some (face_link (get_or (links_in w j (3 * n)) (backward s) none))
  pub next-vert : next_vert_of (face_at w i j (s / 3)) (vert (get_or w (i + s) 0)) ≡ Some (vert (corner (part i (3 * n) w) (onward s)))
  pub prev-vert : prev_vert_of (face_at w i j (s / 3)) (vert (get_or w (i + s) 0)) ≡ Some (vert (corner (part i (3 * n) w) (backward s)))
  pub other-vert : other_vert_of (face_at w i j (s / 3)) (vert (get_or w (i + s) 0)) (vert (get_or w (i + onward s) 0)) ≡ Some (vert (corner (part i (3 * n) w) (backward s)))

module _ (w : List ℕ) (i j n : ℕ) (room : j + 3 * n ≤ length w)
    (apart : (s : ℕ) → s < 3 * n → corner (part i (3 * n) w) s ≢ corner (part i (3 * n) w) (onward s)) where
  -- the words of the corner and of the link at side x
  vert-at : (x y : ℕ) → x < 3 * n → i + x ≡ y → Some (vert (get_or w y 0)) ≡ Some (vert (corner (part i (3 * n) w) x))
  vert-at x y h e = ap (λ (v : ℕ). Some (vert v)) (ap (λ (z : ℕ). get_or w z 0) (sym e) ∙ sym (get_d_part w i (3 * n) x 0 h))

  link_at : (x y : ℕ) → x < 3 * n → j + x ≡ y → Some (face_link (link_of (get_or w y 0))) ≡ Some (face_link (get_or (links_in w j (3 * n)) x none))
  link_at x y h e = ap (λ (o : Option ℕ). Some (face_link o)) (ap (λ (z : ℕ). link_of (get_or w z 0)) (sym e) ∙ sym (get_or-links_in w j (3 * n) room x h))

  differ : (s t : ℕ) → s < 3 * n → t < 3 * n → onward s ≡ t → get_or w (i + s) 0 ≢ get_or w (i + t) 0
  differ s t h k e q =
      apart s h (get_d_part w i (3 * n) s 0 h ∙ q ∙ sym (get_d_part w i (3 * n) t 0 k) ∙ ap (corner (part i (3 * n) w)) (sym e))

  -- the corners of face s / 3 differ, since its sides do
  apart_in : (x y s t : ℕ) → s < 3 * n → t < 3 * n → onward s ≡ t → i + s ≡ x → i + t ≡ y → get_or w x 0 ≢ get_or w y 0
  apart_in x y s t h k e a b = rw (sym a, sym b) (differ s t h k e)

  pub reads : (s : ℕ) → s < 3 * n → Reads w i j n s
  reads s h = go (third s)
    where
      face : Face
      face = face_at w i j (s / 3)

      v : VertNo
      v = vert (get_or w (i + s) 0)

      as-next : {k : Corner} → vnum_of face v ≡ Some k → next_face_of face v ≡ Some (at k face.f0 face.f1 face.f2)
      as-next e = ap (option_map (λ (k : Corner). at k face.f0 face.f1 face.f2)) e

      as-prev : {k : Corner} → vnum_of face v ≡ Some k → prev_face_of face v ≡ Some (at k face.f2 face.f0 face.f1)
      as-prev e = ap (option_map (λ (k : Corner). at k face.f2 face.f0 face.f1)) e

      to-next : {k : Corner} → vnum_of face v ≡ Some k → next_vert_of face v ≡ Some (at k face.v1 face.v2 face.v0)
      to-next e = ap (option_map (λ (k : Corner). at k face.v1 face.v2 face.v0)) e

      to-prev : {k : Corner} → vnum_of face v ≡ Some k → prev_vert_of face v ≡ Some (at k face.v2 face.v0 face.v1)
      to-prev e = ap (option_map (λ (k : Corner). at k face.v2 face.v0 face.v1)) e

      word : (x : ℕ) → i + s ≡ x → get_or w x 0 ≡ get_or w (i + s) 0
      word x e = ap (λ (z : ℕ). get_or w z 0) (sym e)

      u : VertNo
      u = vert (get_or w (i + onward s) 0)

      of_two : (x y z : ℕ) → i + s ≡ x → i + onward s ≡ y → i + backward s ≡ z → backward s < 3 * n
          → other_vert_of face (vert (get_or w x 0)) (vert (get_or w y 0)) ≡ Some (vert (get_or w z 0)) → other_vert_of face v u ≡ Some (vert (corner (part i (3 * n) w) (backward s)))
      of_two x y z a b c k e =
          ap₂ (λ (p q : ℕ). other_vert_of face (vert (get_or w p 0)) (vert (get_or w q 0))) a b ∙ e ∙ vert-at (backward s) z k c

      first : get_or w (i + 3 * (s / 3)) 0 ≢ get_or w (i + 3 * (s / 3) + 1) 0
      first = apart_in (i + 3 * (s / 3)) (i + 3 * (s / 3) + 1) (3 * (s / 3)) (3 * (s / 3) + 1) (omega arith) (omega arith) (omega arith) (omega arith) (omega arith)

      second : get_or w (i + 3 * (s / 3) + 1) 0 ≢ get_or w (i + 3 * (s / 3) + 2) 0
      second = apart_in (i + 3 * (s / 3) + 1) (i + 3 * (s / 3) + 2) (3 * (s / 3) + 1) (3 * (s / 3) + 2) (omega arith) (omega arith) (omega arith) (omega arith) (omega arith)

      last : get_or w (i + 3 * (s / 3) + 2) 0 ≢ get_or w (i + 3 * (s / 3)) 0
      last = apart_in (i + 3 * (s / 3) + 2) (i + 3 * (s / 3)) (3 * (s / 3) + 2) (3 * (s / 3)) (omega arith) (omega arith) (omega arith) (omega arith) (omega arith)

      go : Third s → Reads w i j n s
      go (k0 f q) =
          let e : vnum_of face v ≡ Some spot.First = first-is face v (word (i + 3 * (s / 3)) (omega arith)) in
          record {
            next-face = as-next e ∙ link_at s (j + 3 * (s / 3)) h (omega arith);
            prev-face = as-prev e ∙ link_at (backward s) (j + 3 * (s / 3) + 2) (omega arith) (omega arith);
            next-vert = to-next e ∙ vert-at (onward s) (i + 3 * (s / 3) + 1) (omega arith) (omega arith);
            prev-vert = to-prev e ∙ vert-at (backward s) (i + 3 * (s / 3) + 2) (omega arith) (omega arith);
            other-vert = of_two (i + 3 * (s / 3)) (i + 3 * (s / 3) + 1) (i + 3 * (s / 3) + 2) (omega arith) (omega arith) (omega arith) (omega arith) (other-of-first face first second last);
          }
      go (k1 f q) =
          let a : i + 3 * (s / 3) ≡ i + 3 * f = omega arith in
          let d : face.v0.0 ≢ v.0 = rw a (differ (3 * f) s (omega arith) h (omega arith)) in
          let e : vnum_of face v ≡ Some spot.Second = second_is face v d (word (i + 3 * (s / 3) + 1) (omega arith)) in
          record {
            next-face = as-next e ∙ link_at s (j + 3 * (s / 3) + 1) h (omega arith);
            prev-face = as-prev e ∙ link_at (backward s) (j + 3 * (s / 3)) (omega arith) (omega arith);
            next-vert = to-next e ∙ vert-at (onward s) (i + 3 * (s / 3) + 2) (omega arith) (omega arith);
            prev-vert = to-prev e ∙ vert-at (backward s) (i + 3 * (s / 3)) (omega arith) (omega arith);
            other-vert = of_two (i + 3 * (s / 3) + 1) (i + 3 * (s / 3) + 2) (i + 3 * (s / 3)) (omega arith) (omega arith) (omega arith) (omega arith) (other-of-second face first second last);
          }
      go (k2 f q) =
          let a : i + 3 * (s / 3) ≡ i + 3 * f = omega arith in
          let b : i + 3 * (s / 3) + 1 ≡ i + (3 * f + 1) = omega arith in
          let c : face.v0.0 ≢ v.0 = rw a (λ z. differ s (3 * f) h (omega arith) (omega arith) (sym z)) in
          let d : face.v1.0 ≢ v.0 = rw b (differ (3 * f + 1) s (omega arith) h (omega arith)) in
          let e : vnum_of face v ≡ Some spot.Third = third-is face v c d (word (i + 3 * (s / 3) + 2) (omega arith)) in
          record {
            next-face = as-next e ∙ link_at s (j + 3 * (s / 3) + 2) h (omega arith);
            prev-face = as-prev e ∙ link_at (backward s) (j + 3 * (s / 3) + 1) (omega arith) (omega arith);
            next-vert = to-next e ∙ vert-at (onward s) (i + 3 * (s / 3)) (omega arith) (omega arith);
            prev-vert = to-prev e ∙ vert-at (backward s) (i + 3 * (s / 3) + 1) (omega arith) (omega arith);
            other-vert = of_two (i + 3 * (s / 3) + 2) (i + 3 * (s / 3)) (i + 3 * (s / 3) + 1) (omega arith) (omega arith) (omega arith) (omega arith) (other-of-third face first second last);
          }
