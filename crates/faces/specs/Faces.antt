-- The Rust's face, by value (docs/RULES.md, What is carried over). Where the Rust panics, the answer is absent.
use Rattle.std.specs.Prelude.{ℕ, ◌+◌, ◌*◌, ◌/◌, List, get_or, eqb, Option, Some, None, option_map}
use Rattle.std.proofs.Math.Option as maybe
use Rattle.lists.specs.Lists.{pick}
use Rattle.faces.specs.Words.{link_of}
use Rattle.faces.specs.declared.sides.VertNo.{VertNo}
use Rattle.faces.specs.declared.sides.FaceNo.{FaceNo}
use Rattle.faces.specs.declared.face.Face.{Face}
use Rattle.faces.specs.declared.face.Corner.{Corner}
use Rattle.faces.specs.declared.face.Corner.TheVariants.{First, Second, Third}

-- the first corner that is the vertex
abbrev pub vnum_of : Face → VertNo → Option Corner
vnum_of f v =
    pick (eqb f.v0.0 v.0) (Some First)
    (pick (eqb f.v1.0 v.0) (Some Second)
    (pick (eqb f.v2.0 v.0) (Some Third) None))

-- what stands at a corner
abbrev pub at {ℓ} : {A : Type ℓ} → Corner → A → A → A → A
at First a b c = a
at Second a b c = b
at Third a b c = c

-- what lies across the side that leaves the vertex, and across the side that comes to it
abbrev pub next_face_of : Face → VertNo → Option (Option FaceNo)
next_face_of f v = option_map (λ k. at k f.f0 f.f1 f.f2) (vnum_of f v)

abbrev pub prev_face_of : Face → VertNo → Option (Option FaceNo)
prev_face_of f v = option_map (λ k. at k f.f2 f.f0 f.f1) (vnum_of f v)

abbrev pub next_vert_of : Face → VertNo → Option VertNo
next_vert_of f v = option_map (λ k. at k f.v1 f.v2 f.v0) (vnum_of f v)

abbrev pub prev_vert_of : Face → VertNo → Option VertNo
prev_vert_of f v = option_map (λ k. at k f.v2 f.v0 f.v1) (vnum_of f v)

-- the vertex c, unless it is a or b: then d
abbrev pub unless : VertNo → VertNo → VertNo → Option VertNo → Option VertNo
unless c a b d = pick (eqb c.0 a.0) d (pick (eqb c.0 b.0) d (Some c))

-- the first corner that is neither
abbrev pub other_vert_of : Face → VertNo → VertNo → Option VertNo
other_vert_of f a b = unless f.v0 a b (unless f.v1 a b (unless f.v2 a b None))

-- the face of the side across
abbrev pub face_link : maybe.Option ℕ → Option FaceNo
face_link maybe.none = None
face_link (maybe.some t) = Some (record { 0 = t / 3 })

abbrev pub vert_at : List ℕ → ℕ → VertNo
vert_at w i = record { 0 = get_or w i 0 }

abbrev pub link_at : List ℕ → ℕ → Option FaceNo
link_at w i = face_link (link_of (get_or w i 0))

-- face f of those whose corners stand from i on, and whose link words from j on
abbrev pub face_at : List ℕ → ℕ → ℕ → ℕ → Face
face_at w i j f =
    record {
      v0 = vert_at w (i + 3 * f);
      v1 = vert_at w (i + 3 * f + 1);
      v2 = vert_at w (i + 3 * f + 2);
      f0 = link_at w (j + 3 * f);
      f1 = link_at w (j + 3 * f + 1);
      f2 = link_at w (j + 3 * f + 2);
    }
