-- Request 6: a list of sides marked one by one, each on both faces.
use Prim.Native.Nat.{ℕ, ◌+◌, ◌-◌, ◌*◌, ◌/◌, ◌%◌, ◌≤◌, ◌<◌}
use mathlib.Core.Path.{◌≡◌, refl, sym, ap, ap₂, ◌∙◌, subst}
use mathlib.Core.Logic.{⊎_elim, inl}
use mathlib.Core.Bool.{Bool, true, false, ◌||◌}
use mathlib.Core.List.{List, [], ◌∷◌, ◌++◌}
use mathlib.Core.Option.{Option, none, some}
use native.Mathlib.Omega.{arith}
use native.Mathlib.Numerals.{add-one}
use lib.Dec.{eqb}
use lib.ListN.{length, get_or, set, take, length-set, length-map}
use lib.Seq.{ext_get_or, take-suc, get_or-set_other}
use borrow.Author.Tests.{eq-eqb, ne_eqb}
use native.Mathlib.Decide.{ℕ_discrete}
use Rattle.lists.specs.Lists.{pick, count, later, find, found}
use Rattle.lists.proofs.Places.{length-count}
use Rattle.rules.specs.Sharp.{names, names_across, marks_of}
use Rattle.rules.proofs.Both.{marks-at, found-later}
use Rattle.faces.specs.Words.{link_of, links_in}
use Rattle.faces.proofs.Links.{link-word, get_or-links_in}
use Rattle.marks.specs.Marks.{marks_in, with_bit, Marking, Listable}
use Rattle.marks.proofs.Marks.{mark_set, length-marks}

-- ---- a list with one more at its end

or_assoc : (a b c : Bool) → (a || b) || c ≡ a || (b || c)
or_assoc true b c = refl
or_assoc false b c = refl

or-false : (b : Bool) → b || false ≡ b
or-false true = refl
or-false false = refl

names-cons : (y x : ℕ) (l : List ℕ) → names (y ∷ l) x ≡ eqb x y || names l x
names-cons y x l = go (eqb x y)
  where
    go : (b : Bool) → found (pick b (some 0) (later (find (eqb x) l))) ≡ b || names l x
    go true = refl
    go false = found-later (find (eqb x) l)

names-end : (l : List ℕ) (s x : ℕ) → names (l ++ (s ∷ [])) x ≡ names l x || eqb x s
names-end [] s x = names-cons s x [] ∙ or-false (eqb x s)
names-end (y ∷ l) s x =
    names-cons y x (l ++ (s ∷ [])) ∙ ap (λ (b : Bool). eqb x y || b) (names-end l s x) ∙ sym (or_assoc (eqb x y) (names l x) (eqb x s))
    ∙ ap (λ (b : Bool). b || eqb x s) (sym (names-cons y x l))

abbrev leads : ℕ → Option ℕ → Bool
leads s none = false
leads s (some y) = eqb y s

across-end : (l : List ℕ) (s : ℕ) (o : Option ℕ) → names_across (l ++ (s ∷ [])) o ≡ names_across l o || leads s o
across-end l s none = refl
across-end l s (some y) = names-end l s y

shuffle : (a b c d : Bool) → b || (a || (c || d)) ≡ (c || a) || (d || b)
shuffle true true true d = refl
shuffle true true false d = refl
shuffle true false true d = refl
shuffle true false false d = refl
shuffle false true true d = refl
shuffle false true false true = refl
shuffle false true false false = refl
shuffle false false true d = refl
shuffle false false false d = sym (or-false d)

some_same : {x y : ℕ} → some x ≡ some y → x ≡ y
some_same e = cc

-- how many marks
length-of : (ls : List (Option ℕ)) (l : List ℕ) → length (marks_of ls l) ≡ length ls
unfolding marks_of
length-of ls l = length-map (count 0 (length ls)) _ ∙ length-count 0 (length ls)

-- ---- one listed side more: s, and t across it

abbrev with-mark : ℕ → List ℕ → ℕ → List ℕ
with-mark marks w y = set w (marks + y / 3) (with_bit (get_or w (marks + y / 3) 0) (y % 3))

module _ (w₀ : List ℕ) (ls : List (Option ℕ)) (marks n : ℕ) (room : marks + n ≤ length w₀) (back : (x y : ℕ) → x < 3 * n → get_or ls x none ≡ some y → get_or ls y none ≡ some x) where
  module _ (s t : ℕ) (hs : s < 3 * n) (ht : t < 3 * n) (e : get_or ls s none ≡ some t) where
    -- the side across is the one whose link leads to s
    leads-is : (x : ℕ) → x < 3 * n → eqb x t ≡ leads s (get_or ls x none)
    leads-is x h = go (ℕ_discrete x t)
      where
        at : (o : Option ℕ) → get_or ls x none ≡ o → (x ≡ t → ⊥) → leads s o ≡ false
        at none q f = refl
        at (some y) q f = ne_eqb y s (λ z. f (some_same (sym (back x s h (q ∙ ap some z)) ∙ e)))

        go : Dec (x ≡ t) → eqb x t ≡ leads s (get_or ls x none)
        go (yes z) = eq-eqb x t z ∙ sym (ap (leads s) (ap (λ (y : ℕ). get_or ls y none) z ∙ back s t hs e) ∙ eq-eqb s s refl)
        go (no f) = ne_eqb x t f ∙ sym (at (get_or ls x none) refl f)

    marking-more : (l : List ℕ) (w : List ℕ) → Marking w₀ ls marks n l w → Marking w₀ ls marks n (l ++ (s ∷ [])) (with-mark marks (with-mark marks w s) t)
    marking-more l w m =
        let v = with-mark marks w s in
        let lv : length v ≡ length w = length-set w (marks + s / 3) (with_bit (get_or w (marks + s / 3) 0) (s % 3)) in
        record {
          long = length-set v (marks + t / 3) (with_bit (get_or v (marks + t / 3) 0) (t % 3)) ∙ lv ∙ m.long;
          kept = λ j h.
              get_or-set_other v (marks + t / 3) j (with_bit (get_or v (marks + t / 3) 0) (t % 3)) 0 (λ z. ⊎_elim (λ p. omega arith) (λ p. omega arith) h)
              ∙ get_or-set_other w (marks + s / 3) j (with_bit (get_or w (marks + s / 3) 0) (s % 3)) 0 (λ z. ⊎_elim (λ p. omega arith) (λ p. omega arith) h)
              ∙ m.kept j h;
          each = λ x h.
              let o = get_or ls x none in
              mark_set v marks n t x (omega (arith, lv, m.long)) ht h
              ∙ ap (λ (b : Bool). eqb x t || b) (mark_set w marks n s x (omega (arith, m.long)) hs h)
              ∙ ap₂ (λ (b c : Bool). b || (eqb x s || c)) (leads-is x h) (m.each x h)
              ∙ shuffle (eqb x s) (leads s o) (names l x) (names_across l o)
              ∙ sym (ap₂ (λ (b c : Bool). b || c) (names-end l s x) (across-end l s o));
        }

    -- the next of a list
    pub marking-next : (l : List ℕ) (i : ℕ) → i < length l → s ≡ get_or l i 0 → (w v x : List ℕ) → Marking w₀ ls marks n (take i l) w → v ≡ with-mark marks w s → x ≡ with-mark marks v t
        → Marking w₀ ls marks n (take (i + 1) l) x
    marking-next l i h f w v x m a b =
        let c : take (i + 1) l ≡ take i l ++ (s ∷ []) = ap (λ (z : ℕ). take z l) (add-one i) ∙ take-suc l i 0 h ∙ ap (λ (z : ℕ). take i l ++ (z ∷ [])) (sym f) in
        let d : x ≡ with-mark marks (with-mark marks w s) t = b ∙ ap (λ (u : List ℕ). with-mark marks u t) a in
        subst (λ (u : List ℕ). Marking w₀ ls marks n u x) (sym c) (subst (λ (u : List ℕ). Marking w₀ ls marks n (take i l ++ (s ∷ [])) u) (sym d) (marking-more (take i l) w m))

-- all of them
pub marking-done : (w₀ : List ℕ) (ls : List (Option ℕ)) (marks n : ℕ) (l w : List ℕ) → length ls ≡ 3 * n → Marking w₀ ls marks n l w → marks_in w marks n ≡ marks_of ls l
marking-done w₀ ls marks n l w k m =
    ext_get_or false (marks_in w marks n) (marks_of ls l) (length-marks w marks n ∙ sym (length-of ls l ∙ k))
    (λ x h. let b : x < 3 * n = omega (arith, length-marks w marks n) in m.each x b ∙ sym (marks-at ls l x (omega (arith, k))))

-- ---- one turn of the loop

module _ (w₀ : List ℕ) (links marks n : ℕ) (l : List ℕ) (r : Listable w₀ links marks n l) (i : ℕ) (h : i < length l) (w : List ℕ) (m : Marking w₀ (links_in w₀ links (3 * n)) marks n (take i l) w) where
  pub word-is : get_or w (links + get_or l i 0) 0 ≡ get_or w₀ (links + get_or l i 0) 0
  word-is = let a = r.side i h in let b = r.after in m.kept (links + get_or l i 0) (inl (omega arith))

  pub word_below : get_or w (links + get_or l i 0) 0 ≤ 3 * n
  word_below = rw word-is (r.below (get_or l i 0) (r.side i h))

  pub word_some : 0 < get_or w (links + get_or l i 0) 0
  word_some = rw word-is (r.across i h)

  pub marking_step : (v x : List ℕ) → v ≡ with-mark marks w (get_or l i 0) → x ≡ with-mark marks v (get_or w (links + get_or l i 0) 0 - 1) → Marking w₀ (links_in w₀ links (3 * n)) marks n (take (i + 1) l) x
  marking_step v x a b =
      let s = get_or l i 0 in
      let y = get_or w (links + s) 0 in
      let below = word_below in
      let above = word_some in
      let e : get_or (links_in w₀ links (3 * n)) s none ≡ some (y - 1) =
      get_or-links_in w₀ links (3 * n) (let p = r.after in let q = r.room in omega arith) s (r.side i h) ∙ ap link_of (sym word-is) ∙ link-word y (λ z. omega arith) in
      marking-next w₀ (links_in w₀ links (3 * n)) marks n r.room r.back s (y - 1) (r.side i h) (omega arith) e l i h refl w v x m a b
