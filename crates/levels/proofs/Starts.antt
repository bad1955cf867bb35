-- Start corners: of the old vertices, and of the new ones in the order in which their edges are first met.
use Prim.Native.Nat.{ℕ, ◌+◌, ◌≤◌, ◌<◌}
use mathlib.Core.Path.{◌≡◌, refl, sym, ap, ◌∙◌}
use mathlib.Core.Logic.{◌⊎◌, ⊎_elim, inl, inr}
use mathlib.Core.Bool.{Bool, true}
use mathlib.Core.List.{List, [], ◌∷◌, map}
use native.Mathlib.Numerals.{add-one}
use native.Mathlib.Omega.{arith}
use lib.ListN.{length, get_or, set, take, length-map}
use lib.Seq.{sets, take-suc, length-take-le}
use Rattle.lists.specs.Lists.{count, keep, gather, part}
use Rattle.lists.proofs.Places.{gather-one}
use Rattle.lists.proofs.Stores.{get_d_part, length_part, get_d_beside, sets-map, kept_read, kept-room, kept_more}
use Rattle.rules.specs.Mesh.{is_first, first_met, firsts, restart, fourth}
use Rattle.faces.specs.Words.{link_of, links_in}
use Rattle.faces.proofs.Links.{length-links_in, get_or-links_in}

module _ (l : List ℕ) (starts to v u : ℕ) (room : starts + v ≤ length l) (apart : (starts + v ≤ to) ⊎ (to + v ≤ starts)) (h : u < v) where
  abbrev olds : List ℕ
  olds = part starts v l

  long : length (map restart (take u olds)) ≡ u
  long = length-map (take u olds) restart ∙ length-take-le u olds (omega (arith, length_part l starts v room))

  pub start_word : get_or (sets l to (map restart (take u olds))) (starts + u) 0 ≡ get_or olds u 0
  start_word = get_d_beside (map restart (take u olds)) l to starts v u 0 h (⊎_elim (λ p. inl p) (λ p. inr (omega (arith, long))) apart)

  pub start-more : set (sets l to (map restart (take u olds))) (to + u) (restart (get_or olds u 0)) ≡ sets l to (map restart (take (u + 1) olds))
  start-more =
      sets-map restart (take u olds) (get_or olds u 0) l to (to + u) (ap (λ (z : ℕ). to + z) long)
      ∙ sym (ap (λ (xs : List ℕ). sets l to (map restart xs)) (ap (λ (z : ℕ). take z olds) (add-one u) ∙ take-suc olds u 0 (omega (arith, length_part l starts v room))))

abbrev pub start_of : ℕ → List ℕ
start_of s = fourth s ∷ []

pub firsts-are : (l : List ℕ) (links n : ℕ) → links + n ≤ length l → firsts (links_in l links n) ≡ keep (first_met (links_in l links n)) (count 0 n)
firsts-are l links n room = ap (λ (z : ℕ). keep (first_met (links_in l links n)) (count 0 z)) (length-links_in l links n room)

module _ (l : List ℕ) (links to n s : ℕ) (room : links + n ≤ length l) (apart : (links + n ≤ to) ⊎ (to + length (firsts (links_in l links n)) ≤ links)) (h : s < n) where
  abbrev met : ℕ → Bool
  met = first_met (links_in l links n)

  -- the test that the loop makes
  pub met-word : (w : List ℕ) → w ≡ sets l to (gather start_of (keep met (count 0 s))) → is_first s (link_of (get_or w (links + s) 0)) ≡ met s
  met-word w e =
      let c = ap (λ (xs : List ℕ). length xs) (firsts-are l links n room) in
      let r = kept_read start_of 1 (λ _. refl) met l to n s h links n s 0 h (⊎_elim (λ p. inl p) (λ p. inr (omega arith)) apart) in
      rw (e, r, get_d_part l links n s 0 h) (ap (is_first s) (sym (get_or-links_in l links n room s h)))

  pub met-room : met s ≡ true → length (keep met (count 0 s)) < length (firsts (links_in l links n))
  met-room e = rw (firsts-are l links n room) (kept-room start_of 1 (λ _. refl) met l to n s h e)

  pub met-more : (w : List ℕ) (k : ℕ) → w ≡ sets l to (gather start_of (keep met (count 0 s))) → k ≡ length (keep met (count 0 s)) → met s ≡ true →
      set w (to + k) (fourth s) ≡ sets l to (gather start_of (keep met (count 0 (s + 1))))
  met-more w k e q t = rw e (kept_more start_of 1 (λ _. refl) met l to n s h (to + k) t (omega arith))

pub starts-all : (l : List ℕ) (links to n : ℕ) → links + n ≤ length l → sets l to (gather start_of (keep (first_met (links_in l links n)) (count 0 n))) ≡ sets l to (map fourth (firsts (links_in l links n)))
starts-all l links to n room = ap (sets l to) (gather-one fourth (keep (first_met (links_in l links n)) (count 0 n)) ∙ ap (map fourth) (sym (firsts-are l links n room)))
