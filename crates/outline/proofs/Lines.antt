-- A listing as text, entry by entry.
use Prim.Native.Nat.{ℕ, zero, suc, ◌+◌, ◌-◌, ◌*◌, ◌≤◌, ◌<◌}
use mathlib.Core.Path.{◌≡◌, refl, sym, ap, ap₂, ◌∙◌, subst}
use mathlib.Core.Logic.{◌≢◌}
use mathlib.Core.List.{List, [], ◌∷◌, ◌++◌, append_assoc, append-nil}
use native.Mathlib.Omega.{arith}
use lib.IntN.{ℤ, pos}
use lib.ListN.{length, get_or, drop}
use lib.Seq.{sets, drop-cons, drop-length}
use borrow.Author.Tests.{ne_eqb}
use Rattle.lists.specs.Lists.{gather}
use Rattle.lists.proofs.Stores.{get_or-within}
use Rattle.listing.specs.Text.{Put, vertex_line}
use Rattle.listing.proofs.Laws.{put-put}
use Rattle.outlines.specs.Loops.{listing}
use Rattle.outline.specs.Output.{loop_line, loop_text, entry_text, left_after, entry_texts, Vertices, done, next}

left_less : (n e : ℕ) → left_after (suc n) e ≡ n
left_less n e = let q : suc n - 1 ≡ n = omega arith in rw (ne_eqb (suc n) 0 (λ z. omega arith)) q

pub put_as : {text more p q : List ℕ} {at r : ℕ} → p ≡ q → Put text at p more r → Put text at q more r
put_as {text} {more} {p} {q} {at} {r} e d = subst (λ (l : List ℕ). Put text at l more r) e d

-- ---- a listing's text is that of its loops

module _ (ps : List ℤ) where
  vertex-first : (n e : ℕ) (es : List ℕ) → entry_texts ps (suc n) (e ∷ es) ≡ vertex_line ps e ++ entry_texts ps n es
  unfolding entry_texts
  vertex-first n e es = rw (left_less n e, ne_eqb (suc n) 0 (λ z. omega arith)) refl

  loop-first : (r es : List ℕ) → entry_texts ps (length r) (r ++ es) ≡ gather (vertex_line ps) r ++ entry_texts ps 0 es
  loop-first [] es = refl
  loop-first (a ∷ r) es =
      vertex-first (length r) a (r ++ es) ∙ ap (λ (z : List ℕ). vertex_line ps a ++ z) (loop-first r es)
      ∙ sym (append_assoc (vertex_line ps a) (gather (vertex_line ps) r) (entry_texts ps 0 es))

  pub listing-text : (rs : List (List ℕ)) → entry_texts ps 0 (listing rs) ≡ gather (loop_text ps) rs
  unfolding entry_texts loop_text
  listing-text [] = refl
  listing-text (r ∷ rs) =
      ap (λ (z : List ℕ). loop_line (length r) ++ z) (loop-first r (listing rs) ∙ ap (λ (z : List ℕ). gather (vertex_line ps) r ++ z) (listing-text rs))
      ∙ sym (append_assoc (loop_line (length r)) (gather (vertex_line ps) r) (gather (loop_text ps) rs))

-- ---- its vertices are those of the loops

module _ (v : ℕ) where
  loop-vertices : (r es : List ℕ) → ((j : ℕ) → j < length r → get_or r j 0 < v) → Vertices v 0 es → Vertices v (length r) (r ++ es)
  loop-vertices [] es h d = d
  loop-vertices (a ∷ r) es h d =
      let p : 0 < length (a ∷ r) = omega arith in
      next (λ z. h 0 p) (subst (λ (k : ℕ). Vertices v k (r ++ es)) (sym (left_less (length r) a)) (loop-vertices r es (λ j k. h (suc j) (omega (arith, k))) d))

  pub listing-vertices : (rs : List (List ℕ)) → ((i j : ℕ) → i < length rs → j < length (get_or rs i []) → get_or (get_or rs i []) j 0 < v) → Vertices v 0 (listing rs)
  listing-vertices [] h = done
  listing-vertices (r ∷ rs) h =
      next (λ z. absurd (z refl)) (loop-vertices r (listing rs) (λ j k. h 0 j (omega arith) k) (listing-vertices rs (λ i j p q. h (suc i) j (omega (arith, p)) q)))

  -- two lists of positions that agree below v have one text
  same-entry : (ps qs : List ℤ) (left e : ℕ) → (left ≢ 0 → vertex_line ps e ≡ vertex_line qs e) → entry_text ps left e ≡ entry_text qs left e
  same-entry ps qs zero e h = refl
  same-entry ps qs (suc n) e h = rw (ne_eqb (suc n) 0 (λ z. omega arith)) (h (λ z. omega arith))

  pub same_text : (ps qs : List ℤ) → ((a : ℕ) → a < v → vertex_line ps a ≡ vertex_line qs a) → (left : ℕ) (es : List ℕ) → Vertices v left es → entry_texts ps left es ≡ entry_texts qs left es
  unfolding entry_texts
  same_text ps qs h left _ done = refl
  same_text ps qs h _ _ (next {left} {e} {es} b d) = ap₂ {C = List ℕ} (λ x y. x ++ y) (same-entry ps qs left e (λ z. h e (b z))) (same_text ps qs h (left_after left e) es d)

-- positions written to the front of a buffer are read as they are
pub front-line : (ps old : List ℤ) (n a : ℕ) → length ps ≡ 3 * n → 3 * n ≤ length old → a < n → vertex_line (sets old 0 ps) a ≡ vertex_line ps a
unfolding vertex_line
front-line ps old n a e h k = rw (at (3 * a) (omega arith), at (3 * a + 1) (omega arith), at (3 * a + 2) (omega arith)) refl
  where
    at : (i : ℕ) → i < 3 * n → get_or (sets old 0 ps) i (pos 0) ≡ get_or ps i (pos 0)
    at i j = let z : 0 + i ≡ i = omega arith in rw z at (get_or-within ps old 0 i (pos 0) (omega (arith, e)) (omega (arith, e)))

-- ---- the loop over the entries

module _ (ps : List ℤ) (list : List ℕ) (v from : ℕ) where
  pub record Along (text₀ text : List ℕ) (at left i : ℕ) : Type 0 where
    pub few : i ≤ length list
    pub small : at ≤ from + 68 * i
    pub long : length text ≡ length text₀
    pub vertices : Vertices v left (drop i list)
    pub so_far : List ℕ
    pub put : Put text₀ from so_far text at
    pub whole : so_far ++ entry_texts ps left (drop i list) ≡ entry_texts ps 0 list

  pub along-first : (text : List ℕ) → Vertices v 0 list → Along text text from 0 0
  along-first text d = record { few = omega arith; small = omega arith; long = refl; vertices = d; so_far = []; put = record { text = refl; next-is = omega arith }; whole = refl }

  module _ (text₀ text : List ℕ) (at left i : ℕ) (a : Along text₀ text at left i) where
    ahead : i < length list → drop i list ≡ get_or list i 0 ∷ drop (i + 1) list
    ahead h = drop-cons list i 0 h ∙ ap (λ (k : ℕ). get_or list i 0 ∷ drop k list) (let z : suc i ≡ i + 1 = omega arith in z)

    here : {es : List ℕ} {e : ℕ} {more : List ℕ} → es ≡ e ∷ more → Vertices v left es → (left ≢ 0 → e < v) × Vertices v (left_after left e) more
    here q d = go (subst (λ (l : List ℕ). Vertices v left l) q d)
      where
        go : {e : ℕ} {more : List ℕ} → Vertices v left (e ∷ more) → (left ≢ 0 → e < v) × Vertices v (left_after left e) more
        go (next b d) = (b, d)

    pub vertex-here : i < length list → left ≢ 0 → get_or list i 0 < v
    vertex-here h = (here (ahead h) a.vertices).0

    pub along-more : i < length list → (more : List ℕ) (r : ℕ) → r ≤ at + 68 → length more ≡ length text → Put text at (entry_text ps left (get_or list i 0)) more r
        → Along text₀ more r (left_after left (get_or list i 0)) (i + 1)
    unfolding entry_texts
    along-more h more r k n p =
        let e = get_or list i 0 in
        record {
          few = omega arith;
          small = omega (arith, a.small);
          long = n ∙ a.long;
          vertices = (here (ahead h) a.vertices).1;
          so_far = a.so_far ++ entry_text ps left e;
          put = put-put a.put p;
          whole =
              append_assoc a.so_far (entry_text ps left e) (entry_texts ps (left_after left e) (drop (i + 1) list))
              ∙ ap (λ (l : List ℕ). a.so_far ++ entry_texts ps left l) (sym (ahead h)) ∙ a.whole;
        }

    pub along-last : i ≡ length list → Put text₀ from (entry_texts ps 0 list) text at
    unfolding entry_texts
    along-last e =
        let z : drop i list ≡ [] = ap (λ (k : ℕ). drop k list) e ∙ drop-length list in
        let w : a.so_far ≡ entry_texts ps 0 list = sym (append-nil a.so_far) ∙ ap (λ (l : List ℕ). a.so_far ++ entry_texts ps left l) (sym z) ∙ a.whole in
        put_as w a.put
