-- The control cage, loaded into words: what the loops ask, and that they give the definition's search.
use mathlib.Core.Path.{◌≡◌, refl, sym, ap, ◌∙◌}
use Prim.Native.Nat.{ℕ, zero, suc, ◌+◌, ◌*◌, ◌/◌, ◌≤◌}
use native.Mathlib.Omega.{arith}
use mathlib.Core.List.{List, map}
use mathlib.Core.Option.{none}
use lib.ListN.{length}
use lib.Seq.{sets}
use lib.IntN.{ℤ}
use Rattle.lists.specs.Lists.{part}
use Rattle.lists.proofs.Places.{tally-below}
use Rattle.whole.specs.Fraction.{Fraction, of_whole}
use Rattle.turns.specs.Turns.{most_valence}
use Rattle.rules.specs.Mesh.{links, cage, refined}
use Rattle.rules.specs.Position.{whole, exact}
use Rattle.rules.specs.Levels.{levels, new_positions, exact_limits}
use Rattle.rules.specs.Refusals.{refusal}
use Rattle.rules.proofs.Cage.{Accepted, accepted}
use Rattle.rules.proofs.Levels.{Small}
use Rattle.rules.proofs.Spokes.{length-limits}
use Rattle.faces.specs.Words.{Holds}
use Rattle.cage.specs.Chains.{Faces, Below, Once}
use Rattle.levels.specs.Level.{mesh_in}
use Rattle.levels.specs.Moves.{Movable, edges_in}
use Rattle.room.specs.Held.{loaded}
use Rattle.room.proofs.Sizes.{fits}
use Rattle.room.proofs.Held.{mesh-read}
use Rattle.room.proofs.Loaded.{loaded-held}
use Rattle.room.proofs.First.{loads}
use Rattle.station.specs.Acceptance.{needs_at}
use Rattle.station.specs.Far.{far_from, exact0, exact1, Claimed, far_by}
use Rattle.station.proofs.Far.{met, edges_are}
use Rattle.station.proofs.Gather.{exact0-is, exact1-is, far-both}

module _ (l : ℕ) (fs : List ℕ) (xs : List ℤ) (e : refusal whole l fs xs ≡ none) where
  ok : Accepted whole l fs xs
  ok = accepted whole l fs xs e

  pub cage-loads : Faces fs × Below 4096 fs × Once fs × (length xs / 3 ≤ 4096)
  cage-loads = loads whole l fs xs _ _ (record { passes = e; faces = refl; verts = refl })

  pub cage-sizes : (length fs ≡ 3 * (length fs / 3)) × (length xs ≡ 3 * (length xs / 3)) × (length fs / 3 ≤ 4096) × (length xs / 3 ≤ 4096)
  cage-sizes = let s = ok.shape in (omega (arith, s.indices), omega (arith, s.coords), s.faces, s.verts)

  small-cage : Small most_valence (cage (length xs / 3) fs)
  unfolding levels
  small-cage = (fits whole fs xs l ok 0 (omega arith)).small

  module _ (w₀ : List ℕ) (room : 2 * length fs + length xs / 3 ≤ length w₀) where
    abbrev words : List ℕ
    words = sets w₀ 0 (loaded (length xs / 3) fs)

    holds : Holds words 0 (cage (length xs / 3) fs)
    holds = loaded-held (length xs / 3) (length fs / 3) fs w₀ cage-sizes.0 room

    pub cage-read : mesh_in words 0 (length fs / 3) (length xs / 3) ≡ cage (length xs / 3) fs
    unfolding cage
    cage-read = mesh-read words 0 (length fs / 3) (cage (length xs / 3) fs) holds refl

    pub cage-movable : Movable words 0 (length fs / 3) (length xs / 3)
    cage-movable = record {
      holds = rw cage-read holds;
      sound = rw cage-read ok.sound;
      few = rw cage-read small-cage;
      small = omega (arith, cage-sizes.2, cage-sizes.3);
    }

    long0 : length (exact0 words (length fs / 3) (length xs / 3) xs) ≡ 3 * (length xs / 3)
    unfolding exact0
    long0 = length-limits exact (mesh_in words 0 (length fs / 3) (length xs / 3)) (links (part 0 (3 * (length fs / 3)) words)) (map of_whole xs)

    long1 : length (exact1 words (length fs / 3) (length xs / 3) xs) ≡ 3 * (length xs / 3) + 3 * edges_in words 0 (length fs / 3)
    unfolding exact1 refined
    long1 =
        let m = mesh_in words 0 (length fs / 3) (length xs / 3) in
        let ls = links (part 0 (3 * (length fs / 3)) words) in
        length-limits exact (refined m ls) (links (refined m ls).faces) (new_positions exact m ls (map of_whole xs)) ∙ omega arith

    edges_few : edges_in words 0 (length fs / 3) ≤ 3 * (length fs / 3)
    edges_few = rw (edges_are words (length fs / 3) (length xs / 3) cage-movable) (tally-below (met words (length fs / 3) (length xs / 3) cage-movable) (3 * (length fs / 3)))

    -- ---- at level 0 and at level 1

    pub cage-claimed : (k n : ℕ) → k ≤ 1 → n ≡ length (exact_limits k fs xs) → Claimed k (length xs / 3) (edges_in words 0 (length fs / 3)) n
    cage-claimed zero n h q =
        let a = q ∙ sym (ap (λ (es : List Fraction). length es) (exact0-is words (length fs / 3) fs xs cage-read)) ∙ long0 in
        record { old = omega (arith, a); new = λ f. absurd (f refl); small = omega (arith, edges_few, cage-sizes.2, cage-sizes.3) }
    cage-claimed (suc zero) n h q =
        let a = q ∙ sym (ap (λ (es : List Fraction). length es) (exact1-is words (length fs / 3) fs xs cage-read)) ∙ long1 in
        record { old = omega (arith, a); new = λ f. omega (arith, a); small = omega (arith, edges_few, cage-sizes.2, cage-sizes.3) }
    cage-claimed (suc (suc k)) n h q = absurd (omega arith)

    pub cage-far : (k t : ℕ) (ys : List ℤ) → k ≤ 1 → far_by k words (length fs / 3) (length xs / 3) xs ys t ≡ far_from (needs_at (exact_limits k fs xs) ys) t 0 (length (exact_limits k fs xs))
    cage-far zero t ys h =
        ap (λ (z : ℕ). far_from (needs_at (exact0 words (length fs / 3) (length xs / 3) xs) ys) t 0 z) (sym long0)
        ∙ ap (λ (es : List Fraction). far_from (needs_at es ys) t 0 (length es)) (exact0-is words (length fs / 3) fs xs cage-read)
    cage-far (suc zero) t ys h =
        far-both words (length fs / 3) fs xs cage-read ok.sound ys t (3 * edges_in words 0 (length fs / 3))
        ∙ ap (λ (z : ℕ). far_from (needs_at (exact1 words (length fs / 3) (length xs / 3) xs) ys) t 0 z) (sym long1)
        ∙ ap (λ (es : List Fraction). far_from (needs_at es ys) t 0 (length es)) (exact1-is words (length fs / 3) fs xs cage-read)
    cage-far (suc (suc k)) t ys h = absurd (omega arith)
