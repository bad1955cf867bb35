-- Request 6: a sharp edge is marked on both its faces and no rim side is marked, in the cage and at every level.
use mathlib.Core.Path.{◌≡◌, refl, sym, ap, ◌∙◌}
use Prim.Native.Nat.{ℕ, zero, suc, ◌+◌, ◌*◌, ◌/◌, ◌%◌, ◌<◌}
use native.Mathlib.Omega.{arith}
use mathlib.Core.Bool.{Bool, true, false, ◌||◌}
use mathlib.Core.List.{List, [], ◌∷◌}
use mathlib.Core.Option.{Option, none, some}
use lib.Dec.{eqb, leb, eqb→eq}
use lib.ListN.{length, get_or}
use Rattle.lists.specs.Lists.{pick, count, later, find, found, gather}
use Rattle.lists.proofs.Places.{length-count, get_or-count, get_d_map, get_or-gather}
pub use Rattle.rules.specs.Sound.{Both}
use Rattle.rules.specs.Mesh.{onward, links, through, restart, fourth}
use Rattle.rules.specs.Sharp.{sharp, names, names_across, marks_of, marks_by, finer_marks, unlinked}
use Rattle.rules.proofs.Refine.{Good, finer_of, Third, k0, k1, k2, third, on-at, step3}
use Rattle.rules.proofs.Sides.{length-links}
use Rattle.rules.proofs.Faces.{link-below, link-link}
use Rattle.rules.proofs.Links.{half1, half2}
use Rattle.rules.proofs.Grown.{twelve, twelve-at}

-- ---- the marks of the children

module _ (n : ℕ) (ms : List Bool) where
  pub finer-at : (x f r : ℕ) → f < n → r < 12 → x ≡ 12 * f + r → sharp (finer_marks n ms) x ≡ get_or (marks_by ms f) r false
  unfolding finer_marks
  finer-at x f r h k e =
      ap (λ (z : ℕ). get_or (gather (marks_by ms) (count 0 n)) z false) e
      ∙ get_or-gather (marks_by ms) 12 (λ f. refl) (count 0 n) f r 0 false (rw (length-count 0 n) h) k
      ∙ ap (λ (z : ℕ). get_or (marks_by ms z) r false) (get_or-count 0 n f 0 h ∙ omega arith)

  -- "its two halves are sharp"
  pub mark-half1 : (t : ℕ) → t < 3 * n → sharp (finer_marks n ms) (half1 t) ≡ sharp ms t
  mark-half1 t h = go (third t)
    where
      go : Third t → sharp (finer_marks n ms) (half1 t) ≡ sharp ms t
      go (k0 f e) = finer-at _ f 0 (omega arith) (omega arith) (omega arith) ∙ ap (sharp ms) (sym e)
      go (k1 f e) = finer-at _ f 4 (omega arith) (omega arith) (omega arith) ∙ ap (sharp ms) (sym e)
      go (k2 f e) = finer-at _ f 8 (omega arith) (omega arith) (omega arith) ∙ ap (sharp ms) (sym e)

  pub mark-half2 : (t : ℕ) → t < 3 * n → sharp (finer_marks n ms) (half2 t) ≡ sharp ms t
  mark-half2 t h = go (third t)
    where
      go : Third t → sharp (finer_marks n ms) (half2 t) ≡ sharp ms t
      go (k0 f e) = finer-at _ f 3 (omega arith) (omega arith) (sym (step3 t (3 * f + 1) (12 * f + 4) (12 * f + 3) (omega arith) (omega arith) (omega arith))) ∙ ap (sharp ms) (sym e)
      go (k1 f e) = finer-at _ f 7 (omega arith) (omega arith) (sym (step3 t (3 * f + 2) (12 * f + 8) (12 * f + 7) (omega arith) (omega arith) (omega arith))) ∙ ap (sharp ms) (sym e)
      go (k2 f e) = finer-at _ f 2 (omega arith) (omega arith) (sym (step3 t (3 * f) (12 * f) (12 * f + 2) (omega arith) (omega arith) (omega arith))) ∙ ap (sharp ms) (sym e)

  -- "sides inside a parent face are smooth"
  pub mark-fourth : (t : ℕ) → t < 3 * n → sharp (finer_marks n ms) (fourth t) ≡ false
  mark-fourth t h = go (third t)
    where
      go : Third t → sharp (finer_marks n ms) (fourth t) ≡ false
      go (k0 f e) = finer-at _ f 9 (omega arith) (omega arith) (omega arith)
      go (k1 f e) = finer-at _ f 10 (omega arith) (omega arith) (omega arith)
      go (k2 f e) = finer-at _ f 11 (omega arith) (omega arith) (omega arith)

  pub mark-cut : (t : ℕ) → t < 3 * n → sharp (finer_marks n ms) (onward (restart t)) ≡ false
  mark-cut t h = go (third t)
    where
      go : Third t → sharp (finer_marks n ms) (onward (restart t)) ≡ false
      go (k0 f e) = finer-at _ f 1 (omega arith) (omega arith) (on-at (restart t) (12 * f) (omega arith) ∙ omega arith)
      go (k1 f e) = finer-at _ f 5 (omega arith) (omega arith) (on-at (restart t) (12 * f + 4) (omega arith) ∙ omega arith)
      go (k2 f e) = finer-at _ f 6 (omega arith) (omega arith) (on-at (restart t) (12 * f + 8) (omega arith) ∙ omega arith)

-- ---- one level keeps it

some_is : {x y : ℕ} → some x ≡ some y → x ≡ y
some_is e = cc

module _ (v n : ℕ) (fs : List ℕ) (g : Good v n fs) (ms : List Bool) (b : Both n (links fs) ms) where
  abbrev fine : List Bool
  fine = finer_marks n ms

  -- a half, across whose side another lies
  halved : (h : ℕ → ℕ) → ((t : ℕ) → t < 3 * n → sharp fine (h t) ≡ sharp ms t) → (s y : ℕ) → s < 3 * n → through h (get_or (links fs) s none) ≡ some y → sharp ms s ≡ sharp fine y
  halved h k s y l e = go (get_or (links fs) s none) refl e
    where
      go : (o : Option ℕ) → get_or (links fs) s none ≡ o → through h o ≡ some y → sharp ms s ≡ sharp fine y
      go none q e = absurd (let z : ◌≡◌ {A = ℕ} 0 1 = cc in omega arith)
      go (some t) q e = b.same s t l q ∙ sym (k t (link-below v n fs g s t l q)) ∙ ap (sharp fine) (some_is e)

  edged : (h : ℕ → ℕ) (s : ℕ) → s < 3 * n → through h (get_or (links fs) s none) ≡ none → sharp ms s ≡ false
  edged h s l e = go (get_or (links fs) s none) refl e
    where
      go : (o : Option ℕ) → get_or (links fs) s none ≡ o → through h o ≡ none → sharp ms s ≡ false
      go none q e = b.rim s l q
      go (some t) q e = absurd (let z : ◌≡◌ {A = ℕ} 0 1 = cc in omega arith)

  inside : (x y : ℕ) → sharp fine x ≡ false → some x ≡ some y → false ≡ sharp fine y
  inside x y k e = sym k ∙ ap (sharp fine) (some_is e)

  across : (f r y : ℕ) → f < n → r < 12 → get_or (twelve (links fs) f) r none ≡ some y → get_or (marks_by ms f) r false ≡ sharp fine y
  across f zero y h k e = halved half2 (mark-half2 n ms) (3 * f) y (omega arith) e
  across f (suc zero) y h k e = inside _ y (mark-fourth n ms (3 * f + 2) (omega arith)) e
  across f (suc (suc zero)) y h k e = halved half1 (mark-half1 n ms) (3 * f + 2) y (omega arith) e
  across f (suc (suc (suc zero))) y h k e = halved half1 (mark-half1 n ms) (3 * f) y (omega arith) e
  across f (suc (suc (suc (suc zero)))) y h k e = halved half2 (mark-half2 n ms) (3 * f + 1) y (omega arith) e
  across f (suc (suc (suc (suc (suc zero))))) y h k e = inside _ y (mark-fourth n ms (3 * f) (omega arith)) e
  across f (suc (suc (suc (suc (suc (suc zero)))))) y h k e = inside _ y (mark-fourth n ms (3 * f + 1) (omega arith)) e
  across f (suc (suc (suc (suc (suc (suc (suc zero))))))) y h k e = halved half1 (mark-half1 n ms) (3 * f + 1) y (omega arith) e
  across f (suc (suc (suc (suc (suc (suc (suc (suc zero)))))))) y h k e = halved half2 (mark-half2 n ms) (3 * f + 2) y (omega arith) e
  across f (suc (suc (suc (suc (suc (suc (suc (suc (suc zero))))))))) y h k e = inside _ y (mark-cut n ms (3 * f + 1) (omega arith)) e
  across f (suc (suc (suc (suc (suc (suc (suc (suc (suc (suc zero)))))))))) y h k e = inside _ y (mark-cut n ms (3 * f + 2) (omega arith)) e
  across f (suc (suc (suc (suc (suc (suc (suc (suc (suc (suc (suc zero))))))))))) y h k e = inside _ y (mark-cut n ms (3 * f) (omega arith)) e
  across f (suc (suc (suc (suc (suc (suc (suc (suc (suc (suc (suc (suc r)))))))))))) y h k e = absurd (omega arith)

  rimmed : (f r : ℕ) → f < n → r < 12 → get_or (twelve (links fs) f) r none ≡ none → get_or (marks_by ms f) r false ≡ false
  rimmed f zero h k e = edged half2 (3 * f) (omega arith) e
  rimmed f (suc zero) h k e = refl
  rimmed f (suc (suc zero)) h k e = edged half1 (3 * f + 2) (omega arith) e
  rimmed f (suc (suc (suc zero))) h k e = edged half1 (3 * f) (omega arith) e
  rimmed f (suc (suc (suc (suc zero)))) h k e = edged half2 (3 * f + 1) (omega arith) e
  rimmed f (suc (suc (suc (suc (suc zero))))) h k e = refl
  rimmed f (suc (suc (suc (suc (suc (suc zero)))))) h k e = refl
  rimmed f (suc (suc (suc (suc (suc (suc (suc zero))))))) h k e = edged half1 (3 * f + 1) (omega arith) e
  rimmed f (suc (suc (suc (suc (suc (suc (suc (suc zero)))))))) h k e = edged half2 (3 * f + 2) (omega arith) e
  rimmed f (suc (suc (suc (suc (suc (suc (suc (suc (suc r))))))))) h k e = at-core r (omega arith)
    where
      at-core : (r : ℕ) → r < 3 → get_or (marks_by ms f) (suc (suc (suc (suc (suc (suc (suc (suc (suc r))))))))) false ≡ false
      at-core zero k = refl
      at-core (suc zero) k = refl
      at-core (suc (suc zero)) k = refl
      at-core (suc (suc (suc r))) k = absurd (omega arith)

  pub both-finer : Both (4 * n) (links (finer_of v n fs)) fine
  both-finer =
      record {
        same = λ x y h e.
            let f = x / 12 in
            let r = x % 12 in
            let q : x ≡ 12 * f + r = omega arith in
            let hf : f < n = omega arith in
            let hr : r < 12 = omega arith in
            finer-at n ms x f r hf hr q
            ∙ across f r y hf hr (sym (twelve-at v n fs g f r hf hr) ∙ ap (λ (z : ℕ). get_or (links (finer_of v n fs)) z none) (sym q) ∙ e);
        rim = λ x h e.
            let f = x / 12 in
            let r = x % 12 in
            let q : x ≡ 12 * f + r = omega arith in
            let hf : f < n = omega arith in
            let hr : r < 12 = omega arith in
            finer-at n ms x f r hf hr q
            ∙ rimmed f r hf hr (sym (twelve-at v n fs g f r hf hr) ∙ ap (λ (z : ℕ). get_or (links (finer_of v n fs)) z none) (sym q) ∙ e);
      }

-- ---- the control cage, where 18 does not refuse the list

pub marks-at : (ls : List (Option ℕ)) (l : List ℕ) (s : ℕ) → s < length ls → sharp (marks_of ls l) s ≡ names l s || names_across l (get_or ls s none)
unfolding marks_of
marks-at ls l s h =
    get_d_map (λ s. names l s || names_across l (get_or ls s none)) (count 0 (length ls)) s 0 false (rw (length-count 0 (length ls)) h)
    ∙ ap (λ (z : ℕ). names l z || names_across l (get_or ls z none)) (get_or-count 0 (length ls) s 0 h ∙ omega arith)

pub later-none : (o : Option ℕ) → later o ≡ none → o ≡ none
later-none none e = refl
later-none (some i) e = absurd (let z : ◌≡◌ {A = ℕ} 0 1 = cc in omega arith)

pub found-later : (o : Option ℕ) → found (later o) ≡ found o
found-later none = refl
found-later (some i) = refl

rim-unlinked : (ls : List (Option ℕ)) (s : ℕ) → get_or ls s none ≡ none → unlinked ls s ≡ true
rim-unlinked ls s e = rw e (or-true (leb (length ls) s))
  where
    or-true : (b : Bool) → b || true ≡ true
    or-true true = refl
    or-true false = refl

unnamed : (ls : List (Option ℕ)) (l : List ℕ) (s : ℕ) → find (unlinked ls) l ≡ none → get_or ls s none ≡ none → names l s ≡ false
unnamed ls [] s e q = refl
unnamed ls (x ∷ l) s e q = go (λ f. unnamed ls l s f q) (unlinked ls x) refl e (eqb s x) refl
  where
    go : (find (unlinked ls) l ≡ none → names l s ≡ false) → (p : Bool) → unlinked ls x ≡ p → pick p (some 0) (later (find (unlinked ls) l)) ≡ none → (b : Bool) → eqb s x ≡ b
        → found (pick (eqb s x) (some 0) (later (find (eqb s) l))) ≡ false
    go rec true u f b c = absurd (let z : ◌≡◌ {A = ℕ} 0 1 = cc in omega arith)
    go rec false u f true c =
        let i : s ≡ x = eqb→eq s x (rw c tt) in
        let z : true ≡ false = sym (rim-unlinked ls x (ap (λ (y : ℕ). get_or ls y none) (sym i) ∙ q)) ∙ u in
        absurd (let y : ◌≡◌ {A = ℕ} 0 1 = cc in omega arith)
    go rec false u f false c = rw c (found-later (find (eqb s) l) ∙ rec (later-none (find (unlinked ls) l) f))

or_comm : (a b : Bool) → a || b ≡ b || a
or_comm true true = refl
or_comm true false = refl
or_comm false true = refl
or_comm false false = refl

pub both_first : (v n : ℕ) (fs : List ℕ) → Good v n fs → (l : List ℕ) → find (unlinked (links fs)) l ≡ none → Both n (links fs) (marks_of (links fs) l)
both_first v n fs g l e =
    let ll : length (links fs) ≡ 3 * n = length-links fs ∙ g.size in
    record {
      same = λ s t h q.
          let k = link-below v n fs g s t h q in
          let b = link-link v n fs g s t h q in
          marks-at (links fs) l s (omega arith) ∙ ap (λ (o : Option ℕ). names l s || names_across l o) q
          ∙ or_comm (names l s) (names l t)
          ∙ sym (marks-at (links fs) l t (omega arith) ∙ ap (λ (o : Option ℕ). names l t || names_across l o) b);
      rim = λ s h q. marks-at (links fs) l s (omega arith) ∙ ap (λ (o : Option ℕ). names l s || names_across l o) q ∙ rw (unnamed (links fs) l s e q);
    }
