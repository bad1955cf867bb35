-- One level over words, step by step: what each step leaves, and that the refined mesh stands there in the end.
use Prim.Native.Nat.{ℕ, zero, suc, ◌+◌, ◌*◌, ◌/◌, ◌≤◌, ◌<◌}
use mathlib.Core.Path.{◌≡◌, refl, sym, ap, ap₂, ◌∙◌}
use mathlib.Core.Logic.{◌⊎◌, ⊎_elim, inl, inr}
use mathlib.Core.List.{List, [], ◌∷◌, ◌++◌, map}
use mathlib.Core.Option.{Option, none, some}
use native.Mathlib.Nat.{zero-add}
use native.Mathlib.Omega.{arith}
use lib.ListN.{length, get_or, drop, length-map}
use lib.Seq.{sets, length-sets}
use Rattle.lists.specs.Lists.{count, gather, part}
use Rattle.lists.proofs.Places.{length-count, get_or-count, get_d_map, length-gather, gather-same, map-gather}
use Rattle.lists.proofs.Stores.{drop-after, part_of, part-outside, part-add, length_part}
use Rattle.rules.specs.Mesh.{onward, links, Mesh, firsts, middle, children, restart, fourth, refined}
use Rattle.rules.proofs.Sides.{length-links}
use Rattle.rules.proofs.Refine.{Good, finer_of, length-finer}
use Rattle.rules.proofs.Faces.{link-link, link-below}
use Rattle.rules.proofs.Grown.{twelve, grown, links-grown}
use Rattle.faces.specs.Words.{link_of, coded, links_in, Holds}
use Rattle.faces.proofs.Held.{link-coded}
use Rattle.levels.specs.Level.{mesh_in, Below, Mutual, children_by, links_by, Ready, Grown}

pub decoded : (os : List (Option ℕ)) → map link_of (map coded os) ≡ os
decoded [] = refl
decoded (o ∷ os) = ap₂ {C = List (Option ℕ)} (λ a l. a ∷ l) (link-coded o) (decoded os)

word_below : (n w : ℕ) (o : Option ℕ) → link_of w ≡ o → ((t : ℕ) → o ≡ some t → t < n) → w < n + 1
word_below n zero o e h = omega arith
word_below n (suc t) o e h = omega (arith, h t (sym e))

-- ---- what the laws of the mesh say of links in words

module _ (v n : ℕ) (fs : List ℕ) (g : Good v n fs) where
  links-long : length (links fs) ≡ 3 * n
  links-long = length-links fs ∙ g.size

  pub links-mutual : Mutual (links fs)
  links-mutual = record { back = λ s t h e. link-link v n fs g s t (omega (arith, links-long)) e }

  -- the children by the numbers of the sides
  pub children-are : (ms : List ℕ) → ms ≡ map (middle v (links fs)) (count 0 (3 * n)) → gather (children_by fs ms) (count 0 n) ≡ finer_of v n fs
  children-are ms e = gather-same (children_by fs ms) (children v fs (links fs)) n (λ f h.
      rw (at (3 * f) (omega arith), at (3 * f + 1) (omega arith), at (3 * f + 2) (omega arith)))
    where
      at : (s : ℕ) → s < 3 * n → get_or ms s 0 ≡ middle v (links fs) s
      at s h =
          rw e (get_d_map (middle v (links fs)) (count 0 (3 * n)) s 0 0 (rw (length-count 0 (3 * n)) h)
          ∙ ap (middle v (links fs)) (get_or-count 0 (3 * n) s 0 h ∙ zero-add s))

  -- the links of the children, from words that hold the links
  module _ (ws : List ℕ) (e : map link_of ws ≡ links fs) where
    ws-long : length ws ≡ 3 * n
    ws-long = sym (length-map ws link_of) ∙ ap (λ (l : List (Option ℕ)). length l) e ∙ links-long

    word-at : (s : ℕ) → s < 3 * n → get_or (links fs) s none ≡ link_of (get_or ws s 0)
    word-at s h = ap (λ (l : List (Option ℕ)). get_or l s none) (sym e) ∙ get_d_map link_of ws s 0 none (omega (arith, ws-long))

    pub words-below : Below ws (3 * n + 1)
    words-below s h =
        let b : s < 3 * n = omega (arith, ws-long) in
        word_below (3 * n) (get_or ws s 0) (get_or (links fs) s none) (sym (word-at s b)) (λ t q. link-below v n fs g s t b q)

    twelve-are : (f : ℕ) → f < n → links_by ws f ≡ map coded (twelve (links fs) f)
    twelve-are f h =
        let f₀ : fourth (3 * f) ≡ 12 * f + 9 = omega arith in
        let f₁ : fourth (3 * f + 1) ≡ 12 * f + 10 = omega arith in
        let f₂ : fourth (3 * f + 2) ≡ 12 * f + 11 = omega arith in
        let r₀ : restart (3 * f) ≡ 12 * f = omega arith in
        let r₁ : restart (3 * f + 1) ≡ 12 * f + 4 = omega arith in
        let r₂ : restart (3 * f + 2) ≡ 12 * f + 8 = omega arith in
        let o₀ : onward (12 * f) ≡ 12 * f + 1 = omega arith in
        let o₁ : onward (12 * f + 4) ≡ 12 * f + 5 = omega arith in
        let o₂ : onward (12 * f + 8) ≡ 12 * f + 6 = omega arith in
        let a : suc (fourth (3 * f)) ≡ 12 * f + 10 = omega arith in
        let b : suc (fourth (3 * f + 1)) ≡ 12 * f + 11 = omega arith in
        let c : suc (fourth (3 * f + 2)) ≡ 12 * f + 12 = omega arith in
        let i : suc (onward (restart (3 * f))) ≡ 12 * f + 2 = ap (λ (z : ℕ). suc (onward z)) r₀ ∙ omega arith in
        let j : suc (onward (restart (3 * f + 1))) ≡ 12 * f + 6 = ap (λ (z : ℕ). suc (onward z)) r₁ ∙ omega arith in
        let k : suc (onward (restart (3 * f + 2))) ≡ 12 * f + 7 = ap (λ (z : ℕ). suc (onward z)) r₂ ∙ omega arith in
        rw (word-at (3 * f) (omega arith), word-at (3 * f + 1) (omega arith), word-at (3 * f + 2) (omega arith)) (cc)

    pub links-are : gather (links_by ws) (count 0 n) ≡ map coded (grown n (links fs))
    links-are =
        gather-same (links_by ws) (λ f. map coded (twelve (links fs) f)) n twelve-are
        ∙ sym (map-gather coded (twelve (links fs)) (count 0 n))

-- a mesh stands in words whose parts are its lists
holds_by : (w : List ℕ) (at f v : ℕ) (fs ss : List ℕ) → part at (3 * f) w ≡ fs → links_in w (at + 3 * f) (3 * f) ≡ links fs → part (at + 6 * f) v w ≡ ss →
    at + 6 * f + v ≤ length w → length fs / 3 ≡ f → Holds w at (record { verts = v; faces = fs; starts = ss })
holds_by w at f v fs ss a b c d e = record { faces = rw e a; links = rw e b; starts = rw e c; room = rw e d }

pub refined-is : (n : ℕ) (m : Mesh) (ls : List (Option ℕ)) → length m.faces / 3 ≡ n
    → refined m ls ≡ record { verts = m.verts + length (firsts ls); faces = gather (children m.verts m.faces ls) (count 0 n); starts = map restart m.starts ++ map fourth (firsts ls) }
unfolding refined
refined-is n m ls e = rw e

-- ---- the steps

module _ (w : List ℕ) (at to n v : ℕ) (r : Ready w at to n v) where
  abbrev fs : List ℕ
  fs = part at (3 * n) w

  abbrev edges : ℕ
  edges = length (firsts (links fs))

  -- what each step writes
  abbrev ms : List ℕ
  ms = map (middle v (links fs)) (count 0 (3 * n))

  abbrev kids : List ℕ
  kids = finer_of v n fs

  abbrev wires : List ℕ
  wires = map coded (grown n (links fs))

  abbrev olds : List ℕ
  olds = map restart (part (at + 6 * n) v w)

  abbrev news : List ℕ
  news = map fourth (firsts (links fs))

  good : Good v n fs
  good = r.sound.good

  ms-long : length ms ≡ 3 * n
  ms-long = length-map (count 0 (3 * n)) (middle v (links fs)) ∙ length-count 0 (3 * n)

  kids-long : length kids ≡ 12 * n
  kids-long = length-finer v n fs good ∙ omega arith

  wires-long : length wires ≡ 12 * n
  wires-long = length-map (grown n (links fs)) coded ∙ length-gather (twelve (links fs)) 12 (λ _. refl) (count 0 n) ∙ ap (λ (z : ℕ). 12 * z) (length-count 0 n)

  olds-long : length olds ≡ v
  olds-long = length-map (part (at + 6 * n) v w) restart ∙ length_part w (at + 6 * n) v (omega (arith, r.old))

  news-long : length news ≡ edges
  news-long = length-map (firsts (links fs)) fourth

  -- the words after each
  abbrev pub w₁ : List ℕ
  w₁ = sets w (at + 6 * n + v) ms

  abbrev pub w₂ : List ℕ
  w₂ = sets w₁ to kids

  abbrev pub w₃ : List ℕ
  w₃ = sets w₂ (to + 12 * n) wires

  abbrev pub w₄ : List ℕ
  w₄ = sets w₃ (to + 24 * n) olds

  abbrev pub w₅ : List ℕ
  w₅ = sets w₄ (to + 24 * n + v) news

  -- a part of the old mesh lies outside all of them
  module _ (i k : ℕ) (above : at ≤ i) (below : i + k ≤ at + 6 * n + v) where
    pub kept₁ : part i k w₁ ≡ part i k w
    kept₁ = part-outside ms w (at + 6 * n + v) i k (inl below)

    away : (a : ℕ) (xs : List ℕ) → to ≤ a → a + length xs ≤ to + 24 * n + (v + edges) → (l : List ℕ) → part i k (sets l a xs) ≡ part i k l
    away a xs b e l = part-outside xs l a i k (⊎_elim (λ p. inl (omega arith)) (λ p. inr (omega arith)) r.apart)

    pub kept₂ : part i k w₂ ≡ part i k w
    kept₂ = away to kids (omega arith) (omega (arith, kids-long)) w₁ ∙ kept₁

    pub kept₃ : part i k w₃ ≡ part i k w
    kept₃ = away (to + 12 * n) wires (omega arith) (omega (arith, wires-long)) w₂ ∙ kept₂

    pub kept₄ : part i k w₄ ≡ part i k w
    kept₄ = away (to + 24 * n) olds (omega arith) (omega (arith, olds-long)) w₃ ∙ kept₃

  -- a part of the old mesh and of the numbers, and one of the new mesh
  pub apart-at : (i k j m : ℕ) → at ≤ i → i + k ≤ at + 9 * n + v → to ≤ j → j + m ≤ to + 24 * n + (v + edges) → (i + k ≤ j) ⊎ (j + m ≤ i)
  apart-at i k j m a b c d = ⊎_elim (λ p. inl (omega arith)) (λ p. inr (omega arith)) r.apart

  numbers-in : part (at + 6 * n + v) (3 * n) w₁ ≡ ms
  numbers-in = part_of ms w (at + 6 * n + v) (3 * n) ms-long (omega (arith, r.old))

  -- what the steps ask
  pub mutual-in : Mutual (links_in w (at + 3 * n) (3 * n))
  mutual-in = rw r.linked (links-mutual v n fs good)

  pub below₂ : Below (part (at + 3 * n) (3 * n) w₂) (3 * n + 1)
  below₂ = rw (kept₂ (at + 3 * n) (3 * n) (omega arith) (omega arith)) (words-below v n fs good (part (at + 3 * n) (3 * n) w) r.linked)

  pub below₃ : Below (part (at + 6 * n) v w₃) (3 * n)
  below₃ = rw (kept₃ (at + 6 * n) v (omega arith) (omega arith)) (λ k h. r.sound.below k (omega (arith, length_part w (at + 6 * n) v (omega (arith, r.old)))))

  pub linked₄ : links_in w₄ (at + 3 * n) (3 * n) ≡ links fs
  linked₄ = ap (map link_of) (kept₄ (at + 3 * n) (3 * n) (omega arith) (omega arith)) ∙ r.linked

  -- and what they give
  pub step₁ : (x : List ℕ) → x ≡ sets w (at + 6 * n + v) (map (middle v (links_in w (at + 3 * n) (3 * n))) (count 0 (3 * n))) → x ≡ w₁
  step₁ x e = e ∙ ap (λ (ls : List (Option ℕ)). sets w (at + 6 * n + v) (map (middle v ls) (count 0 (3 * n)))) r.linked

  pub step₂ : (x : List ℕ) → x ≡ sets w₁ to (gather (children_by (part at (3 * n) w₁) (part (at + 6 * n + v) (3 * n) w₁)) (count 0 n)) → x ≡ w₂
  step₂ x e =
      e ∙ ap (λ (gs : List ℕ). sets w₁ to (gather (children_by gs (part (at + 6 * n + v) (3 * n) w₁)) (count 0 n))) (kept₁ at (3 * n) (omega arith) (omega arith))
      ∙ ap (sets w₁ to) (children-are v n fs good (part (at + 6 * n + v) (3 * n) w₁) numbers-in)

  pub step₃ : (x : List ℕ) → x ≡ sets w₂ (to + 12 * n) (gather (links_by (part (at + 3 * n) (3 * n) w₂)) (count 0 n)) → x ≡ w₃
  step₃ x e =
      e ∙ ap (λ (ws : List ℕ). sets w₂ (to + 12 * n) (gather (links_by ws) (count 0 n))) (kept₂ (at + 3 * n) (3 * n) (omega arith) (omega arith))
      ∙ ap (sets w₂ (to + 12 * n)) (links-are v n fs good (part (at + 3 * n) (3 * n) w) r.linked)

  pub step₄ : (x : List ℕ) → x ≡ sets w₃ (to + 24 * n) (map restart (part (at + 6 * n) v w₃)) → x ≡ w₄
  step₄ x e = e ∙ ap (λ (ss : List ℕ). sets w₃ (to + 24 * n) (map restart ss)) (kept₃ (at + 6 * n) v (omega arith) (omega arith))

  pub step₅ : (x : List ℕ) → x ≡ sets w₄ (to + 24 * n + v) (map fourth (firsts (links_in w₄ (at + 3 * n) (3 * n)))) → x ≡ w₅
  step₅ x e = e ∙ ap (λ (ls : List (Option ℕ)). sets w₄ (to + 24 * n + v) (map fourth (firsts ls))) linked₄

  -- ---- where the refined mesh stands then

  long₅ : length w₅ ≡ length w
  long₅ = simp length-sets

  faces-in : part to (12 * n) w₅ ≡ kids
  faces-in =
      part-outside news w₄ (to + 24 * n + v) to (12 * n) (inl (omega arith))
      ∙ part-outside olds w₃ (to + 24 * n) to (12 * n) (inl (omega arith))
      ∙ part-outside wires w₂ (to + 12 * n) to (12 * n) (inl (omega arith))
      ∙ part_of kids w₁ to (12 * n) kids-long (simp length-sets (omega (arith, r.new)))

  links-in : part (to + 12 * n) (12 * n) w₅ ≡ wires
  links-in =
      part-outside news w₄ (to + 24 * n + v) (to + 12 * n) (12 * n) (inl (omega arith))
      ∙ part-outside olds w₃ (to + 24 * n) (to + 12 * n) (12 * n) (inl (omega arith))
      ∙ part_of wires w₂ (to + 12 * n) (12 * n) wires-long (simp length-sets (omega (arith, r.new)))

  starts-in : part (to + 24 * n) (v + edges) w₅ ≡ olds ++ news
  starts-in =
      part-add w₅ (to + 24 * n) v edges
      ∙ ap₂ {C = List ℕ} (λ a b. a ++ b)
      (part-outside news w₄ (to + 24 * n + v) (to + 24 * n) v (inl (omega arith))
      ∙ part_of olds w₃ (to + 24 * n) v olds-long (simp length-sets (omega (arith, r.new))))
      (part_of news w₄ (to + 24 * n + v) edges news-long (simp length-sets (omega (arith, r.new))))

  new-links : map link_of wires ≡ links kids
  new-links = decoded (grown n (links fs)) ∙ sym (links-grown v n fs good)

  pub grown-by : Grown w w₅ at to n v
  grown-by = record {
    holds =
        rw (refined-is n (mesh_in w at n v) (links fs) (omega (arith, good.size)))
        (holds_by w₅ to (4 * n) (v + edges) kids (olds ++ news)
        (ap (λ (z : ℕ). part to z w₅) twelve-fold ∙ faces-in)
        (ap₂ (λ (a b : ℕ). links_in w₅ (to + a) b) twelve-fold twelve-fold ∙ ap (map link_of) links-in ∙ new-links)
        (ap (λ (z : ℕ). part (to + z) (v + edges) w₅) twice ∙ starts-in)
        (rw long₅ (omega (arith, r.new)))
        (omega (arith, kids-long)));
    long = long₅;
    rest = λ k h e. rest₅ k h e;
    kept = λ i k a b. kept₅ i k a b;
  }
    where
      twelve-fold : 3 * (4 * n) ≡ 12 * n
      twelve-fold = omega arith

      twice : 6 * (4 * n) ≡ 24 * n
      twice = omega arith

      rest₅ : (k : ℕ) → at + 9 * n + v ≤ k → to + 24 * n + (v + edges) ≤ k → drop k w₅ ≡ drop k w
      rest₅ k h e =
          drop-after news w₄ (to + 24 * n + v) k (omega (arith, news-long))
          ∙ drop-after olds w₃ (to + 24 * n) k (omega (arith, olds-long))
          ∙ drop-after wires w₂ (to + 12 * n) k (omega (arith, wires-long))
          ∙ drop-after kids w₁ to k (omega (arith, kids-long))
          ∙ drop-after ms w (at + 6 * n + v) k (omega (arith, ms-long))

      -- no step writes there
      kept₅ : (i k : ℕ) → (i + k ≤ at + 6 * n + v) ⊎ (at + 9 * n + v ≤ i) → (i + k ≤ to) ⊎ (to + 24 * n + (v + edges) ≤ i) → part i k w₅ ≡ part i k w
      kept₅ i k a b =
          part-outside news w₄ (to + 24 * n + v) i k (⊎_elim (λ p. inl (omega arith)) (λ p. inr (omega (arith, news-long))) b)
          ∙ part-outside olds w₃ (to + 24 * n) i k (⊎_elim (λ p. inl (omega arith)) (λ p. inr (omega (arith, olds-long))) b)
          ∙ part-outside wires w₂ (to + 12 * n) i k (⊎_elim (λ p. inl (omega arith)) (λ p. inr (omega (arith, wires-long))) b)
          ∙ part-outside kids w₁ to i k (⊎_elim (λ p. inl (omega arith)) (λ p. inr (omega (arith, kids-long))) b)
          ∙ part-outside ms w (at + 6 * n + v) i k (⊎_elim (λ p. inl (omega arith)) (λ p. inr (omega (arith, ms-long))) a)
