-- Rows of twelve words, a face at a time: the corners of the children, and their links.
use Prim.Native.Nat.{ℕ, ◌+◌, ◌*◌, ◌≤◌, ◌<◌}
use mathlib.Core.Path.{◌≡◌, refl, ◌∙◌}
use mathlib.Core.Logic.{◌⊎◌}
use mathlib.Core.List.{List}
use native.Mathlib.Omega.{arith}
use lib.ListN.{length, get_or}
use lib.Seq.{sets}
use Rattle.lists.specs.Lists.{count, gather, part}
use Rattle.lists.proofs.Stores.{length_part, piece-read, piece-more}
use Rattle.rules.specs.Mesh.{four}
use Rattle.levels.specs.Level.{Below, children_by, twelve_words, links_by}

module _ (l : List ℕ) (at to n f : ℕ) (h : f < n) (apart : (at + 3 * n ≤ to) ⊎ (to + 12 * n ≤ at)) where
  -- the children of one face more
  module _ (mids : ℕ) (clear : (mids + 3 * n ≤ to) ⊎ (to + 12 * n ≤ mids)) where
    abbrev kids : ℕ → List ℕ
    kids = children_by (part at (3 * n) l) (part mids (3 * n) l)

    pub children-more : (w x : List ℕ) → w ≡ sets l to (gather kids (count 0 f)) →
        x ≡ sets w (to + 12 * f) (four (get_or w (at + 3 * f) 0) (get_or w (at + (3 * f + 1)) 0) (get_or w (at + (3 * f + 2)) 0) (get_or w (mids + 3 * f) 0) (get_or w (mids + (3 * f + 1)) 0) (get_or w (mids + (3 * f + 2)) 0)) →
        x ≡ sets l to (gather kids (count 0 (f + 1)))
    children-more w x e q =
        let old : (k : ℕ) → k < 3 * n → get_or (sets l to (gather kids (count 0 f))) (at + k) 0 ≡ get_or (part at (3 * n) l) k 0 =
        λ k b. piece-read kids 12 (λ _. refl) l to n f h at (3 * n) k 0 b apart in
        let new : (k : ℕ) → k < 3 * n → get_or (sets l to (gather kids (count 0 f))) (mids + k) 0 ≡ get_or (part mids (3 * n) l) k 0 =
        λ k b. piece-read kids 12 (λ _. refl) l to n f h mids (3 * n) k 0 b clear in
        q ∙ rw (e, old (3 * f) (omega arith), old (3 * f + 1) (omega arith), old (3 * f + 2) (omega arith), new (3 * f) (omega arith), new (3 * f + 1) (omega arith), new (3 * f + 2) (omega arith))
        (piece-more kids 12 (λ _. refl) l to n f h (to + 12 * f) refl)

  -- and their links
  abbrev wires : ℕ → List ℕ
  wires = links_by (part at (3 * n) l)

  pub links-more : (w x : List ℕ) → w ≡ sets l to (gather wires (count 0 f)) →
      x ≡ sets w (to + 12 * f) (twelve_words f (get_or w (at + 3 * f) 0) (get_or w (at + (3 * f + 1)) 0) (get_or w (at + (3 * f + 2)) 0)) →
      x ≡ sets l to (gather wires (count 0 (f + 1)))
  links-more w x e q =
      let old : (k : ℕ) → k < 3 * n → get_or (sets l to (gather wires (count 0 f))) (at + k) 0 ≡ get_or (part at (3 * n) l) k 0 =
      λ k b. piece-read wires 12 (λ _. refl) l to n f h at (3 * n) k 0 b apart in
      q ∙ rw (e, old (3 * f) (omega arith), old (3 * f + 1) (omega arith), old (3 * f + 2) (omega arith))
      (piece-more wires 12 (λ _. refl) l to n f h (to + 12 * f) refl)

  -- every link word that is read is small
  pub links-small : at + 3 * n ≤ length l → Below (part at (3 * n) l) (3 * n + 1) → (k : ℕ) → k < 3 * n → get_or (sets l to (gather wires (count 0 f))) (at + k) 0 ≤ 3 * n
  links-small room small k b =
      let e = piece-read wires 12 (λ _. refl) l to n f h at (3 * n) k 0 b apart in
      rw e (omega (arith, small k (rw (length_part l at (3 * n) room) b)))
