-- Request 12: one level over words without links, step by step: what each step leaves, and that the refined mesh stands there in the end.
use Prim.Native.Nat.{ℕ, ◌+◌, ◌*◌, ◌/◌, ◌≤◌}
use mathlib.Core.Path.{◌≡◌, ap, ap₂, ◌∙◌}
use mathlib.Core.Logic.{◌⊎◌, ⊎_elim, inl, inr}
use mathlib.Core.List.{List, ◌++◌, map}
use native.Mathlib.Omega.{arith}
use lib.ListN.{length, drop, length-map}
use lib.Seq.{sets, length-sets}
use Rattle.lists.specs.Lists.{count, gather, part}
use Rattle.lists.proofs.Places.{length-count}
use Rattle.lists.proofs.Stores.{drop-after, part_of, part-outside, part-add, length_part}
use Rattle.rules.specs.Mesh.{links, firsts, middle, restart, fourth}
use Rattle.rules.proofs.Refine.{Good, finer_of, length-finer}
use Rattle.levels.specs.Level.{mesh_in, Below, Mutual, children_by}
use Rattle.levels.proofs.Growth.{links-mutual, children-are, refined-is}
use Rattle.looks.specs.Looked.{Listed}
use Rattle.plain.specs.Level.{Stands, Ready, Grown}

stands_by : (w : List ℕ) (at f v : ℕ) (fs ss : List ℕ) → part at (3 * f) w ≡ fs → part (at + 6 * f) v w ≡ ss →
    at + 6 * f + v ≤ length w → length fs / 3 ≡ f → Stands w at (record { verts = v; faces = fs; starts = ss })
stands_by w at f v fs ss a c d e = record { faces = rw e a; starts = rw e c; room = rw e d }

module _ (w : List ℕ) (at to n v : ℕ) (r : Ready w at to n v) where
  abbrev fs : List ℕ
  fs = part at (3 * n) w

  abbrev edges : ℕ
  edges = length (firsts (links fs))

  -- what each step writes
  abbrev ms : List ℕ
  ms = map (middle v (links fs)) (count 0 (3 * n))

  abbrev kids : List ℕ
  kids = finer_of v n fs

  abbrev olds : List ℕ
  olds = map restart (part (at + 6 * n) v w)

  abbrev news : List ℕ
  news = map fourth (firsts (links fs))

  good : Good v n fs
  good = r.sound.good

  ms-long : length ms ≡ 3 * n
  ms-long = length-map (count 0 (3 * n)) (middle v (links fs)) ∙ length-count 0 (3 * n)

  kids-long : length kids ≡ 12 * n
  kids-long = length-finer v n fs good ∙ omega arith

  olds-long : length olds ≡ v
  olds-long = length-map (part (at + 6 * n) v w) restart ∙ length_part w (at + 6 * n) v (omega (arith, r.old))

  news-long : length news ≡ edges
  news-long = length-map (firsts (links fs)) fourth

  -- the words after each
  abbrev pub w₁ : List ℕ
  w₁ = sets w (at + 6 * n + v) ms

  abbrev pub w₂ : List ℕ
  w₂ = sets w₁ to kids

  abbrev pub w₃ : List ℕ
  w₃ = sets w₂ (to + 24 * n) olds

  abbrev pub w₄ : List ℕ
  w₄ = sets w₃ (to + 24 * n + v) news

  -- a part of the old mesh lies outside all of them
  module _ (i k : ℕ) (above : at ≤ i) (below : i + k ≤ at + 6 * n + v) where
    kept₁ : part i k w₁ ≡ part i k w
    kept₁ = part-outside ms w (at + 6 * n + v) i k (inl below)

    away : (a : ℕ) (xs : List ℕ) → to ≤ a → a + length xs ≤ to + 24 * n + (v + edges) → (l : List ℕ) → part i k (sets l a xs) ≡ part i k l
    away a xs b e l = part-outside xs l a i k (⊎_elim (λ p. inl (omega arith)) (λ p. inr (omega arith)) r.apart)

    kept₂ : part i k w₂ ≡ part i k w
    kept₂ = away to kids (omega arith) (omega (arith, kids-long)) w₁ ∙ kept₁

    kept₃ : part i k w₃ ≡ part i k w
    kept₃ = away (to + 24 * n) olds (omega arith) (omega (arith, olds-long)) w₂ ∙ kept₂

  -- a part of the old mesh and of the numbers, and one of the new mesh
  pub apart-at : (i k j m : ℕ) → at ≤ i → i + k ≤ at + 9 * n + v → to ≤ j → j + m ≤ to + 24 * n + (v + edges) → (i + k ≤ j) ⊎ (j + m ≤ i)
  apart-at i k j m a b c d = ⊎_elim (λ p. inl (omega arith)) (λ p. inr (omega arith)) r.apart

  numbers-in : part (at + 6 * n + v) (3 * n) w₁ ≡ ms
  numbers-in = part_of ms w (at + 6 * n + v) (3 * n) ms-long (omega (arith, r.old))

  -- what the steps ask
  pub listed : (x : List ℕ) → length x ≡ length w → Listed x at (3 * n)
  listed x e = record { room = omega (arith, r.old); thirds = omega arith; small = omega (arith, r.small) }

  pub mutual-in : Mutual (links fs)
  mutual-in = links-mutual v n fs good

  pub below₂ : Below (part (at + 6 * n) v w₂) (3 * n)
  below₂ = rw (kept₂ (at + 6 * n) v (omega arith) (omega arith)) (λ k h. r.sound.below k (omega (arith, length_part w (at + 6 * n) v (omega (arith, r.old)))))

  pub list₃ : part at (3 * n) w₃ ≡ fs
  list₃ = kept₃ at (3 * n) (omega arith) (omega arith)

  -- and what they give
  pub step₂ : (x : List ℕ) → x ≡ sets w₁ to (gather (children_by (part at (3 * n) w₁) (part (at + 6 * n + v) (3 * n) w₁)) (count 0 n)) → x ≡ w₂
  step₂ x e =
      e ∙ ap (λ (gs : List ℕ). sets w₁ to (gather (children_by gs (part (at + 6 * n + v) (3 * n) w₁)) (count 0 n))) (kept₁ at (3 * n) (omega arith) (omega arith))
      ∙ ap (sets w₁ to) (children-are v n fs good (part (at + 6 * n + v) (3 * n) w₁) numbers-in)

  pub step₃ : (x : List ℕ) → x ≡ sets w₂ (to + 24 * n) (map restart (part (at + 6 * n) v w₂)) → x ≡ w₃
  step₃ x e = e ∙ ap (λ (ss : List ℕ). sets w₂ (to + 24 * n) (map restart ss)) (kept₂ (at + 6 * n) v (omega arith) (omega arith))

  pub step₄ : (x : List ℕ) → x ≡ sets w₃ (to + 24 * n + v) (map fourth (firsts (links (part at (3 * n) w₃)))) → x ≡ w₄
  step₄ x e = e ∙ ap (λ (gs : List ℕ). sets w₃ (to + 24 * n + v) (map fourth (firsts (links gs)))) list₃

  -- ---- where the refined mesh stands then

  long₄ : length w₄ ≡ length w
  long₄ = simp length-sets

  faces-in : part to (12 * n) w₄ ≡ kids
  faces-in =
      part-outside news w₃ (to + 24 * n + v) to (12 * n) (inl (omega arith))
      ∙ part-outside olds w₂ (to + 24 * n) to (12 * n) (inl (omega arith))
      ∙ part_of kids w₁ to (12 * n) kids-long (simp length-sets (omega (arith, r.new)))

  starts-in : part (to + 24 * n) (v + edges) w₄ ≡ olds ++ news
  starts-in =
      part-add w₄ (to + 24 * n) v edges
      ∙ ap₂ {C = List ℕ} (λ a b. a ++ b)
      (part-outside news w₃ (to + 24 * n + v) (to + 24 * n) v (inl (omega arith))
      ∙ part_of olds w₂ (to + 24 * n) v olds-long (simp length-sets (omega (arith, r.new))))
      (part_of news w₃ (to + 24 * n + v) edges news-long (simp length-sets (omega (arith, r.new))))

  pub grown-by : Grown w w₄ at to n v
  grown-by = record {
    stands =
        rw (refined-is n (mesh_in w at n v) (links fs) (omega (arith, good.size)))
        (stands_by w₄ to (4 * n) (v + edges) kids (olds ++ news)
        (ap (λ (z : ℕ). part to z w₄) twelve-fold ∙ faces-in)
        (ap (λ (z : ℕ). part (to + z) (v + edges) w₄) twice ∙ starts-in)
        (rw long₄ (omega (arith, r.new)))
        (omega (arith, kids-long)));
    long = long₄;
    rest = λ k h e. rest₄ k h e;
    kept = λ i k a b. kept₄ i k a b;
  }
    where
      twelve-fold : 3 * (4 * n) ≡ 12 * n
      twelve-fold = omega arith

      twice : 6 * (4 * n) ≡ 24 * n
      twice = omega arith

      rest₄ : (k : ℕ) → at + 9 * n + v ≤ k → to + 24 * n + (v + edges) ≤ k → drop k w₄ ≡ drop k w
      rest₄ k h e =
          drop-after news w₃ (to + 24 * n + v) k (omega (arith, news-long))
          ∙ drop-after olds w₂ (to + 24 * n) k (omega (arith, olds-long))
          ∙ drop-after kids w₁ to k (omega (arith, kids-long))
          ∙ drop-after ms w (at + 6 * n + v) k (omega (arith, ms-long))

      kept₄ : (i k : ℕ) → (i + k ≤ at + 6 * n + v) ⊎ (at + 9 * n + v ≤ i) → (i + k ≤ to) ⊎ (to + 24 * n + (v + edges) ≤ i) → part i k w₄ ≡ part i k w
      kept₄ i k a b =
          part-outside news w₃ (to + 24 * n + v) i k (⊎_elim (λ p. inl (omega arith)) (λ p. inr (omega (arith, news-long))) b)
          ∙ part-outside olds w₂ (to + 24 * n) i k (⊎_elim (λ p. inl (omega arith)) (λ p. inr (omega (arith, olds-long))) b)
          ∙ part-outside kids w₁ to i k (⊎_elim (λ p. inl (omega arith)) (λ p. inr (omega (arith, kids-long))) b)
          ∙ part-outside ms w (at + 6 * n + v) i k (⊎_elim (λ p. inl (omega arith)) (λ p. inr (omega (arith, ms-long))) a)
