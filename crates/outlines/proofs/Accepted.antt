-- An accepted cage: what the functions ask of it, and what goes into the list and how long that is.
use Rattle.std.specs.Prelude.{Err, Ok}
use mathlib.Core.Path.{◌≡◌, refl, sym, ap, ◌∙◌}
use Prim.Native.Nat.{ℕ, zero, suc, ◌+◌, ◌*◌, ◌/◌, ◌<◌, ◌≤◌}
use native.Mathlib.Omega.{arith}
use mathlib.Core.List.{List, [], ◌∷◌, ◌++◌, map}
use mathlib.Core.Option.{none}
use lib.IntN.{ℤ}
use lib.Dec.{ltb, nltb→le}
use lib.ListN.{length, get_or, take, replicate, length-map, get_or-replicate, length-replicate}
use lib.Seq.{sets}
use borrow.Author.Tests.{lt-ltb, le-ltb}
use Rattle.lists.specs.Lists.{count, keep, tally, gather}
use Rattle.lists.proofs.Places.{tally-below, length-keep, map-gather}
use Rattle.lists.proofs.Stores.{part_of}
use Rattle.rules.specs.Mesh.{corner, links, Mesh, cage}
use Rattle.rules.specs.Position.{whole}
use Rattle.rules.specs.Levels.{first, last, Sizes, sizes, after}
use Rattle.rules.specs.Refusals.{most_in_mesh, too_large, size_refusal, refusal, Room}
use Rattle.rules.specs.Answers.{counted, outcome}
use Rattle.rules.specs.declared.Refusal.{Refusal}
use Rattle.rules.specs.declared.Counts.{Counts}
use Rattle.rules.proofs.Sound.{Sound}
use Rattle.rules.proofs.Levels.{level, faces_at, mesh-levels, sound-level, counts-level}
use Rattle.rules.proofs.Growth.{faces-counted}
use Rattle.rules.proofs.Checks.{check-none, when-none, nor-l}
use Rattle.rules.proofs.Cage.{Accepted, accepted}
use Rattle.cage.specs.Chains.{Faces, Below, Once}
use Rattle.cage.proofs.Chains.{last_none}
use Rattle.cage.proofs.Stages.{faces-of}
use Rattle.outlines.specs.Loops.{Traced, is_rim, leaving, begins, outlines, listing, outline_of, with_list, outline_outcome}
use Rattle.outlines.specs.Pieces.{pieces, sides_of, Traceable, Leaving, leaves_at, Marked, stored, entry, entry_at, Final}
use Rattle.outlines.proofs.Levels.{pieces_at, outlines-level}
use Rattle.outlines.proofs.Counted.{rims-are, listed-is-rims, length-listing}
use Rattle.outlines.proofs.Marks.{marked-none}
use Rattle.outlines.proofs.Listing.{gather-keep}

-- ---- tables not filled yet

pub leaving-none : (fs : List ℕ) (n : ℕ) → Leaving fs 0 (replicate n 0)
leaving-none fs n = record { word = λ u h. get_or-replicate n u 0 0 (rw (length-replicate {A = ℕ} n 0) at h) ∙ sym (last_none (leaves_at fs u)) }

zeros : (n i : ℕ) → ◌≡◌ {A = ℕ} (get_or (replicate n 0) i 0) 0
zeros zero i = refl
zeros (suc n) zero = refl
zeros (suc n) (suc i) = zeros n i

pub marks-none : (v : ℕ) (fs : List ℕ) (n : ℕ) → v ≤ n → Marked v fs 0 (replicate n 0)
marks-none v fs n h = marked-none v fs (replicate n 0) (rw (length-replicate {A = ℕ} n 0) h) (zeros n)

-- ---- lists

gather-map : {A : Type 0} (g : A → List ℕ) (q : ℕ → A) (us : List ℕ) → gather g (map q us) ≡ gather (λ u. g (q u)) us
gather-map g q [] = refl
gather-map g q (u ∷ us) = ap (λ (z : List ℕ). g (q u) ++ z) (gather-map g q us)

gather-as : (g h : ℕ → List ℕ) → ((u : ℕ) → g u ≡ h u) → (us : List ℕ) → gather g us ≡ gather h us
gather-as g h e [] = refl
gather-as g h e (u ∷ us) = rw (e u) (ap (λ (z : List ℕ). h u ++ z) (gather-as g h e us))

pub take-front : (f l : List ℕ) (n : ℕ) → length f ≡ n → n ≤ length l → take n (sets l 0 f) ≡ f
take-front f l n e h = part_of f l 0 n e (omega arith)

-- ---- an accepted cage

module _ (l : ℕ) (fs : List ℕ) (xs : List ℤ) (e : refusal whole l fs xs ≡ none) where
  abbrev v : ℕ
  v = length xs / 3

  abbrev final : Mesh
  final = (last whole l fs xs).mesh

  ok : Accepted whole l fs xs
  ok = accepted whole l fs xs e

  pub traceable : Traceable v fs
  unfolding cage
  traceable = record { starts = (cage v fs).starts; sound = ok.sound }

  pub cage-facts : Faces fs × Below 4096 fs × Once fs × (v ≤ 4096)
  unfolding cage
  cage-facts =
      let s = ok.shape in
      let g = ok.sound.good in (
        faces-of l (length xs) fs s,
        record { each = λ k h. omega (arith, g.below k (omega (arith, g.size)), s.verts) },
        record { each = λ a b h k. g.unique a b (omega (arith, g.size)) (omega (arith, g.size)) },
        s.verts,
      )

  pub levels-few : l ≤ 7
  levels-few = ok.shape.levels

  mesh-is : final ≡ level l (cage v fs)
  mesh-is = mesh-levels whole l (first whole fs xs)

  pub final-sound : Sound (faces_at l (length fs / 3)) final
  final-sound = rw mesh-is (sound-level l (length fs / 3) (cage v fs) ok.sound)

  -- check 13
  faces-few : faces_at l (length fs / 3) ≤ most_in_mesh
  unfolding size_refusal
  faces-few =
      let m = cage v fs in
      let c = after l (sizes m) in
      let t = when-none (too_large c) (check-none 13 _ ok.size) in
      omega (
        arith,
        nltb→le most_in_mesh c.faces (nor-l (ltb most_in_mesh c.faces) (ltb most_in_mesh c.verts) t),
        faces-counted l (length fs / 3) m ok.sound,
        ap (λ (z : Sizes). z.faces) (counts-level l (length fs / 3) m ok.sound),
      )

  pub final-is : Final l fs final.faces
  final-is = record { long = omega (arith, final-sound.good.size); few = omega (arith, final-sound.good.size, faces-few) }

  pub faces-long : length final.faces ≡ 3 * (counted final).faces
  faces-long = omega (arith, final-sound.good.size)

  loops-at : outlines final ≡ map (λ u. map (corner final.faces) (pieces_at l fs (links fs) u)) (keep (begins fs (links fs)) (count 0 v))
  unfolding cage
  loops-at =
      ap outlines mesh-is ∙ outlines-level l (length fs / 3) (cage v fs) ok.sound
      ∙ ap (λ (g : Mesh). map (λ u. map (corner g.faces) (pieces_at l fs (links fs) u)) (keep (begins fs (links fs)) (count 0 v))) (sym mesh-is)

  pub listing-is : gather (entry_at l fs final.faces) (count 0 v) ≡ listing (outlines final)
  listing-is =
      gather-keep (begins fs (links fs)) (λ u. entry (gather (stored l final.faces) (sides_of fs (links fs) (leaving fs (links fs) u)))) (count 0 v)
      ∙ gather-as (λ u. entry (gather (stored l final.faces) (sides_of fs (links fs) (leaving fs (links fs) u)))) (λ u. entry (map (corner final.faces) (pieces_at l fs (links fs) u)))
      (λ u. ap entry (sym (map-gather (corner final.faces) (pieces l) (sides_of fs (links fs) (leaving fs (links fs) u))))) (keep (begins fs (links fs)) (count 0 v))
      ∙ sym (ap listing loops-at ∙ gather-map entry (λ u. map (corner final.faces) (pieces_at l fs (links fs) u)) (keep (begins fs (links fs)) (count 0 v)))

  -- "loops": as many as the control cage has
  pub loops-count : length (outlines final) ≡ tally (begins fs (links fs)) (count 0 v)
  loops-count =
      ap (λ (z : List (List ℕ)). length z) loops-at
      ∙ length-map (keep (begins fs (links fs)) (count 0 v)) (λ u. map (corner final.faces) (pieces_at l fs (links fs) u))
      ∙ length-keep (begins fs (links fs)) (count 0 v)

  pub listed-count : length (gather (λ r. r) (outlines final)) ≡ (counted final).rims
  listed-count = listed-is-rims (faces_at l (length fs / 3)) final final-sound

  -- the room that the list needs, known before anything is written
  pub room-needed : length (listing (outlines final)) ≡ (counted final).rims + tally (begins fs (links fs)) (count 0 v)
  room-needed = length-listing (outlines final) ∙ omega (arith, listed-count, loops-count)

  pub rims-few : (counted final).rims ≤ 98304
  rims-few =
      omega (arith, rims-are (faces_at l (length fs / 3)) final final-sound, tally-below (is_rim final.faces (links final.faces)) (3 * faces_at l (length fs / 3)), faces-few)

-- ---- one outcome

module _ (rooms : Counts → List Room) (n l : ℕ) (fs : List ℕ) (xs : List ℤ) where
  abbrev needed : ℕ
  needed = length (listing (outlines (last whole l fs xs).mesh))

  pub outcome-refused : (r : Refusal) → outcome whole rooms l fs xs ≡ Err r → outline_outcome rooms n l fs xs ≡ Err r
  unfolding outline_outcome
  outcome-refused r e = ap (with_list n needed) e

  pub outcome-short : (c : Counts) → outcome whole rooms l fs xs ≡ Ok c → n < needed → outline_outcome rooms n l fs xs ≡ Err (record { number = 20; place = 0 })
  unfolding outline_outcome
  outcome-short c e h = ap (with_list n needed) e ∙ rw (lt-ltb n needed h) refl

  pub outcome-done : (c : Counts) → outcome whole rooms l fs xs ≡ Ok c → needed ≤ n → outline_outcome rooms n l fs xs ≡ Ok c
  unfolding outline_outcome
  outcome-done c e h = ap (with_list n needed) e ∙ rw (le-ltb n needed h) refl

pub outline-is : (rs : List (List ℕ)) (a b : ℕ) → a ≡ length rs → b ≡ length (gather (λ r. r) rs) → ◌≡◌ {A = Traced} (Ok (record { loops = a; listed = b })) (Ok (outline_of rs))
outline-is rs a b p q = rw (p, q) refl
