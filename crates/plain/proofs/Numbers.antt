-- Request 12: the numbers and the start corners of the edges, side by side, where the side across is looked up.
use Prim.Native.Nat.{ℕ, ◌+◌, ◌-◌, ◌≤◌, ◌<◌}
use mathlib.Core.Path.{◌≡◌, refl, sym, ap, ◌∙◌}
use mathlib.Core.Logic.{◌⊎◌, ⊎_elim, inl, inr}
use mathlib.Core.Bool.{Bool, true, false}
use mathlib.Core.List.{List, map}
use mathlib.Core.Option.{Option, none, some}
use native.Mathlib.Omega.{arith}
use native.Mathlib.Nat.{zero-add}
use lib.ListN.{length, get_or, set, length-map}
use lib.Seq.{sets}
use Rattle.lists.specs.Lists.{pick, bit, count, tally, keep, gather, part}
use Rattle.lists.proofs.Places.{length-count, get_or-count, get_d_map, count_next, tally-next, length-keep, length-gather, gather-one, rank-le}
use Rattle.lists.proofs.Stores.{get_or-within, sets-map, length_part, part-outside, kept-room, kept_more}
use Rattle.rules.specs.Mesh.{links, is_first, first_met, firsts, middle, fourth}
use Rattle.rules.proofs.Sides.{length-links}
use Rattle.faces.specs.Words.{link_of, coded}
use Rattle.faces.proofs.Held.{link-coded}
use Rattle.levels.specs.Level.{Mutual}
use Rattle.levels.proofs.Links.{later-word}
use Rattle.levels.proofs.Numbers.{next, again}
use Rattle.levels.proofs.Starts.{start_of}

-- of n sides whose corners stand from `at` on
module _ (l : List ℕ) (at n : ℕ) (here : at + n ≤ length l) where
  abbrev ls : List (Option ℕ)
  ls = links (part at n l)

  pub sides-long : length ls ≡ n
  sides-long = length-links (part at n l) ∙ length_part l at n here

  pub all-met : tally (first_met ls) (count 0 n) ≡ length (firsts ls)
  all-met = sym (length-keep (first_met ls) (count 0 (length ls)) ∙ ap (λ (z : ℕ). tally (first_met ls) (count 0 z)) sides-long)

  pub firsts-are : firsts ls ≡ keep (first_met ls) (count 0 n)
  firsts-are = ap (λ (z : ℕ). keep (first_met ls) (count 0 z)) sides-long

  -- what was looked up for side s, in words x that have the same list
  module _ (s : ℕ) (h : s < n) (x : List ℕ) (same : part at n x ≡ part at n l) (w : ℕ) (W : w ≡ coded (get_or (links (part at n x)) s none)) where
    pub link-is : link_of w ≡ get_or ls s none
    link-is = ap link_of W ∙ link-coded (get_or (links (part at n x)) s none) ∙ ap (λ (fs : List ℕ). get_or (links fs) s none) same

    pub met-is : is_first s (link_of w) ≡ first_met ls s
    met-is = ap (is_first s) link-is

  -- ---- the number that the loop gives to side s, where the sides before it have theirs
  module _ (mids v s : ℕ) (apart : at + n ≤ mids) (room : mids + n ≤ length l) (h : s < n) where
    abbrev sofar : List ℕ
    sofar = map (middle v ls) (count 0 s)

    long : length sofar ≡ s
    long = length-map (count 0 s) (middle v ls) ∙ length-count 0 s

    pub list-kept : (x : List ℕ) → x ≡ sets l mids sofar → part at n x ≡ part at n l
    list-kept x e = rw e (part-outside sofar l mids at n (inl apart))

    earlier : (t : ℕ) → t < s → get_or (sets l mids sofar) (mids + t) 0 ≡ middle v ls t
    earlier t k =
        get_or-within sofar l mids t 0 (rw long k) (rw long (omega arith))
        ∙ get_d_map (middle v ls) (count 0 s) t 0 0 (rw (length-count 0 s) k)
        ∙ ap (middle v ls) (get_or-count 0 s t 0 k ∙ zero-add t)

    module _ (m : Mutual ls) (x : List ℕ) (e : x ≡ sets l mids sofar) (w : ℕ) (W : w ≡ coded (get_or (links (part at n x)) s none)) (k : ℕ) (K : k ≡ tally (first_met ls) (count 0 s)) where
      pub number_is : pick (is_first s (link_of w)) (v + k) (get_or x (mids + (w - 1)) 0) ≡ middle v ls s
      number_is = go (is_first s (link_of w)) refl
        where
          go : (b : Bool) → is_first s (link_of w) ≡ b → pick b (v + k) (get_or x (mids + (w - 1)) 0) ≡ middle v ls s
          go true q = next v ls s k (sym (met-is s h x (list-kept x e) w W) ∙ q) K
          go false q =
              let p = later-word w s q in
              let t : get_or ls s none ≡ some (w - 1) = sym (link-is s h x (list-kept x e) w W) ∙ p.is in
              let b : w - 1 < s = omega (arith, p.above, p.below) in
              ap (λ (y : List ℕ). get_or y (mids + (w - 1)) 0) e ∙ earlier (w - 1) b ∙ again v ls s (w - 1) b t (m.back s (w - 1) (rw sides-long h) t)

      pub number_more : set x (mids + s) (middle v ls s) ≡ sets l mids (map (middle v ls) (count 0 (s + 1)))
      number_more =
          ap (λ (y : List ℕ). set y (mids + s) (middle v ls s)) e
          ∙ sets-map (middle v ls) (count 0 s) s l mids (mids + s) (ap (λ (z : ℕ). mids + z) long)
          ∙ sym (ap (λ (xs : List ℕ). sets l mids (map (middle v ls) xs)) (count_next s))

      pub tally-more : k + bit (is_first s (link_of w)) ≡ tally (first_met ls) (count 0 (s + 1))
      tally-more = rw (tally-next (first_met ls) s, K, met-is s h x (list-kept x e) w W)

  -- ---- the start corners
  module _ (to s : ℕ) (apart : (at + n ≤ to) ⊎ (to + length (firsts ls) ≤ at)) (h : s < n) where
    abbrev met : ℕ → Bool
    met = first_met ls

    pub starts-kept : (x : List ℕ) → x ≡ sets l to (gather start_of (keep met (count 0 s))) → part at n x ≡ part at n l
    starts-kept x e =
        let c = length-gather start_of 1 (λ _. refl) (keep met (count 0 s)) in
        let d : length (keep met (count 0 s)) ≤ length (firsts ls) = rw (firsts-are, length-keep met (count 0 s), length-keep met (count 0 n)) (rank-le met s n (omega arith)) in
        rw e (part-outside (gather start_of (keep met (count 0 s))) l to at n (⊎_elim (λ p. inl p) (λ p. inr (omega arith)) apart))

    pub met-room : met s ≡ true → length (keep met (count 0 s)) < length (firsts ls)
    met-room e = rw firsts-are (kept-room start_of 1 (λ _. refl) met l to n s h e)

    pub met-more : (x : List ℕ) (k : ℕ) → x ≡ sets l to (gather start_of (keep met (count 0 s))) → k ≡ length (keep met (count 0 s)) → met s ≡ true →
        set x (to + k) (fourth s) ≡ sets l to (gather start_of (keep met (count 0 (s + 1))))
    met-more x k e q t = rw e (kept_more start_of 1 (λ _. refl) met l to n s h (to + k) t (omega arith))

  pub starts-all : (to : ℕ) → sets l to (gather start_of (keep (first_met ls) (count 0 n))) ≡ sets l to (map fourth (firsts ls))
  starts-all to = ap (sets l to) (gather-one fourth (keep (first_met ls) (count 0 n)) ∙ ap (map fourth) (sym firsts-are))
