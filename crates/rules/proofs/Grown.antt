-- The links of the refined face list, by search, are written down from the old ones, twelve to a face.
use mathlib.Core.Path.{◌≡◌, refl, sym, ap, ◌∙◌}
use Prim.Native.Nat.{ℕ, zero, suc, ◌+◌, ◌*◌, ◌/◌, ◌%◌, ◌<◌}
use native.Mathlib.Omega.{arith}
use mathlib.Core.List.{List, [], ◌∷◌}
use mathlib.Core.Option.{Option, none, some}
use lib.ListN.{length, get_or}
use lib.Seq.{ext_get_or}
use Rattle.lists.specs.Lists.{count, gather}
use Rattle.rules.specs.Mesh.{onward, backward, links, through, restart, fourth}
use Rattle.lists.proofs.Places.{length-count, get_or-count, length-gather, get_or-gather}
use Rattle.rules.proofs.Sides.{length-links}
use Rattle.rules.proofs.Refine.{Good, finer_of, length-finer, on-at, step3}
use Rattle.rules.proofs.Links.{half1, half2, link-half1, link-half2, link-cut, link-core}

-- the links of the four children of face f
abbrev pub twelve : List (Option ℕ) → ℕ → List (Option ℕ)
twelve ls f =
    let a = 3 * f in
    let b = 3 * f + 1 in
    let c = 3 * f + 2 in
    through half2 (get_or ls a none) ∷ some (fourth c) ∷ through half1 (get_or ls c none) ∷
    through half1 (get_or ls a none) ∷ through half2 (get_or ls b none) ∷ some (fourth a) ∷
    some (fourth b) ∷ through half1 (get_or ls b none) ∷ through half2 (get_or ls c none) ∷
    some (onward (restart b)) ∷ some (onward (restart c)) ∷ some (onward (restart a)) ∷ []

abbrev pub grown : ℕ → List (Option ℕ) → List (Option ℕ)
grown n ls = gather (twelve ls) (count 0 n)

module _ (v n : ℕ) (fs : List ℕ) (g : Good v n fs) where
  at : (x y : ℕ) (o : Option ℕ) → x ≡ y → get_or (links (finer_of v n fs)) y none ≡ o → get_or (links (finer_of v n fs)) x none ≡ o
  at x y o e q = ap (λ (z : ℕ). get_or (links (finer_of v n fs)) z none) e ∙ q

  cuts : (x s t : ℕ) → s < 3 * n → x ≡ onward (restart s) → backward s ≡ t → get_or (links (finer_of v n fs)) x none ≡ some (fourth t)
  cuts x s t h e q = at x (onward (restart s)) _ e (link-cut v n fs g s h ∙ ap (λ (z : ℕ). some (fourth z)) q)

  cores : (x s t : ℕ) → s < 3 * n → x ≡ fourth s → onward s ≡ t → get_or (links (finer_of v n fs)) x none ≡ some (onward (restart t))
  cores x s t h e q = at x (fourth s) _ e (link-core v n fs g s h ∙ ap (λ (z : ℕ). some (onward (restart z))) q)

  pub twelve-at : (f r : ℕ) → f < n → r < 12 → get_or (links (finer_of v n fs)) (12 * f + r) none ≡ get_or (twelve (links fs) f) r none
  twelve-at f zero h k = at _ (half1 (3 * f)) _ (omega arith) (link-half1 v n fs g (3 * f) (omega arith))
  twelve-at f (suc zero) h k = cuts _ (3 * f) (3 * f + 2) (omega arith) (sym (on-at (restart (3 * f)) (12 * f) (omega arith) ∙ omega arith)) (omega arith)
  twelve-at f (suc (suc zero)) h k = at _ (half2 (3 * f + 2)) _ (step3 (3 * f + 2) (3 * f) (12 * f) (12 * f + 2) (omega arith) (omega arith) (omega arith)) (link-half2 v n fs g (3 * f + 2) (omega arith))
  twelve-at f (suc (suc (suc zero))) h k = at _ (half2 (3 * f)) _ (step3 (3 * f) (3 * f + 1) (12 * f + 4) (12 * f + 3) (omega arith) (omega arith) (omega arith)) (link-half2 v n fs g (3 * f) (omega arith))
  twelve-at f (suc (suc (suc (suc zero)))) h k = at _ (half1 (3 * f + 1)) _ (omega arith) (link-half1 v n fs g (3 * f + 1) (omega arith))
  twelve-at f (suc (suc (suc (suc (suc zero))))) h k = cuts _ (3 * f + 1) (3 * f) (omega arith) (sym (on-at (restart (3 * f + 1)) (12 * f + 4) (omega arith) ∙ omega arith)) (omega arith)
  twelve-at f (suc (suc (suc (suc (suc (suc zero)))))) h k = cuts _ (3 * f + 2) (3 * f + 1) (omega arith) (sym (on-at (restart (3 * f + 2)) (12 * f + 8) (omega arith) ∙ omega arith)) (omega arith)
  twelve-at f (suc (suc (suc (suc (suc (suc (suc zero))))))) h k = at _ (half2 (3 * f + 1)) _ (step3 (3 * f + 1) (3 * f + 2) (12 * f + 8) (12 * f + 7) (omega arith) (omega arith) (omega arith)) (link-half2 v n fs g (3 * f + 1) (omega arith))
  twelve-at f (suc (suc (suc (suc (suc (suc (suc (suc zero)))))))) h k = at _ (half1 (3 * f + 2)) _ (omega arith) (link-half1 v n fs g (3 * f + 2) (omega arith))
  twelve-at f (suc (suc (suc (suc (suc (suc (suc (suc (suc zero))))))))) h k = cores _ (3 * f) (3 * f + 1) (omega arith) (omega arith) (omega arith)
  twelve-at f (suc (suc (suc (suc (suc (suc (suc (suc (suc (suc zero)))))))))) h k = cores _ (3 * f + 1) (3 * f + 2) (omega arith) (omega arith) (omega arith)
  twelve-at f (suc (suc (suc (suc (suc (suc (suc (suc (suc (suc (suc zero))))))))))) h k = cores _ (3 * f + 2) (3 * f) (omega arith) (omega arith) (omega arith)
  twelve-at f (suc (suc (suc (suc (suc (suc (suc (suc (suc (suc (suc (suc r)))))))))))) h k = absurd (omega arith)

  -- the links of the refined list, found by search, are a closed formula of the old links
  pub links-grown : links (finer_of v n fs) ≡ grown n (links fs)
  links-grown =
      let lg : length (grown n (links fs)) ≡ 12 * n = length-gather (twelve (links fs)) 12 (λ f. refl) (count 0 n) ∙ omega (arith, length-count 0 n) in
      let ll : length (links (finer_of v n fs)) ≡ 12 * n = length-links (finer_of v n fs) ∙ length-finer v n fs g ∙ omega arith in
      ext_get_or none (links (finer_of v n fs)) (grown n (links fs)) (ll ∙ sym lg) (λ x h.
      let f = x / 12 in
      let r = x % 12 in
      let e : x ≡ 12 * f + r = omega arith in
      let hf : f < n = omega arith in
      let hr : r < 12 = omega arith in
      ap (λ (z : ℕ). get_or (links (finer_of v n fs)) z none) e
      ∙ twelve-at f r hf hr
      ∙ sym (ap (λ (z : ℕ). get_or (grown n (links fs)) z none) e
      ∙ get_or-gather (twelve (links fs)) 12 (λ f. refl) (count 0 n) f r 0 none (rw (length-count 0 n) hf) hr
      ∙ ap (λ (k : ℕ). get_or (twelve (links fs) k) r none) (get_or-count 0 n f 0 hf ∙ omega arith)))
