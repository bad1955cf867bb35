-- The numbers of the edges, side by side.
use Prim.Native.Nat.{ℕ, ◌+◌, ◌-◌, ◌≤◌, ◌<◌}
use mathlib.Core.Path.{◌≡◌, refl, sym, ap, ◌∙◌}
use mathlib.Core.Logic.{inl}
use mathlib.Core.Bool.{Bool, true, false}
use mathlib.Core.List.{List, map}
use mathlib.Core.Option.{Option, none, some}
use native.Mathlib.Omega.{arith}
use native.Mathlib.Nat.{zero-add}
use lib.ListN.{length, get_or, set, length-map}
use lib.Seq.{sets}
use borrow.Author.Tests.{leb-true}
use Rattle.lists.specs.Lists.{pick, bit, count, tally}
use Rattle.lists.proofs.Places.{length-count, get_or-count, get_d_map, count_next, tally-next, length-keep}
use Rattle.lists.proofs.Stores.{get_or-outside, get_or-within, sets-map}
use Rattle.rules.specs.Mesh.{is_first, first_of, first_met, firsts, middle}
use Rattle.faces.specs.Words.{link_of, links_in}
use Rattle.levels.specs.Level.{Mutual}
use Rattle.faces.proofs.Links.{length-links_in, get_or-links_in}
use Rattle.levels.proofs.Links.{later-word}

first-own : (s : ℕ) (o : Option ℕ) → is_first s o ≡ true → first_of s o ≡ s
first-own s none e = refl
first-own s (some t) e = omega (arith, leb-true s t e)

module _ (v : ℕ) (ls : List (Option ℕ)) where
  -- a first side gets the next number
  pub next : (s k : ℕ) → first_met ls s ≡ true → k ≡ tally (first_met ls) (count 0 s) → v + k ≡ middle v ls s
  next s k e q = rw (first-own s (get_or ls s none) e, q)

  -- and a later one has the number of the side across
  pub again : (s t : ℕ) → t < s → get_or ls s none ≡ some t → get_or ls t none ≡ some s → middle v ls t ≡ middle v ls s
  again s t h e f =
      let p : first_of t (some s) ≡ first_of s (some t) = omega arith in
      rw (e, f, p)

-- the number that the loop gives to side s, where the sides before it have theirs
module _ (l : List ℕ) (links mids n v s : ℕ) (m : Mutual (links_in l links n)) (apart : links + n ≤ mids) (room : mids + n ≤ length l) (h : s < n) where
  abbrev ls : List (Option ℕ)
  ls = links_in l links n

  abbrev sofar : List ℕ
  sofar = map (middle v ls) (count 0 s)

  long : length sofar ≡ s
  long = length-map (count 0 s) (middle v ls) ∙ length-count 0 s

  pub word-is : get_or (sets l mids sofar) (links + s) 0 ≡ get_or l (links + s) 0
  word-is = get_or-outside sofar l mids (links + s) 0 (inl (omega arith))

  pub met : is_first s (link_of (get_or l (links + s) 0)) ≡ first_met ls s
  met = ap (is_first s) (sym (get_or-links_in l links n (omega arith) s h))

  earlier : (t : ℕ) → t < s → get_or (sets l mids sofar) (mids + t) 0 ≡ middle v ls t
  earlier t k =
      get_or-within sofar l mids t 0 (rw long k) (rw long (omega arith))
      ∙ get_d_map (middle v ls) (count 0 s) t 0 0 (rw (length-count 0 s) k)
      ∙ ap (middle v ls) (get_or-count 0 s t 0 k ∙ zero-add t)

  pub number_is : (k : ℕ) → k ≡ tally (first_met ls) (count 0 s)
      → pick (is_first s (link_of (get_or l (links + s) 0))) (v + k) (get_or (sets l mids sofar) (mids + (get_or l (links + s) 0 - 1)) 0) ≡ middle v ls s
  number_is k e = go (is_first s (link_of w)) refl
    where
      w : ℕ
      w = get_or l (links + s) 0

      go : (b : Bool) → is_first s (link_of w) ≡ b → pick b (v + k) (get_or (sets l mids sofar) (mids + (w - 1)) 0) ≡ middle v ls s
      go true q = next v ls s k (sym met ∙ q) e
      go false q =
          let p = later-word w s q in
          let t : get_or ls s none ≡ some (w - 1) = get_or-links_in l links n (omega arith) s h ∙ p.is in
          let b : w - 1 < s = omega (arith, p.above, p.below) in
          earlier (w - 1) b ∙ again v ls s (w - 1) b t (m.back s (w - 1) (rw (length-links_in l links n (omega arith)) h) t)

  -- one side more
  pub number_more : set (sets l mids sofar) (mids + s) (middle v ls s) ≡ sets l mids (map (middle v ls) (count 0 (s + 1)))
  number_more =
      sets-map (middle v ls) (count 0 s) s l mids (mids + s) (ap (λ (z : ℕ). mids + z) long)
      ∙ sym (ap (λ (xs : List ℕ). sets l mids (map (middle v ls) xs)) (count_next s))

  pub tally-more : (k : ℕ) → k ≡ tally (first_met ls) (count 0 s) → k + bit (is_first s (link_of (get_or l (links + s) 0))) ≡ tally (first_met ls) (count 0 (s + 1))
  tally-more k e = rw (tally-next (first_met ls) s, e, met)

-- all of them
pub all-met : (l : List ℕ) (links n : ℕ) → links + n ≤ length l → tally (first_met (links_in l links n)) (count 0 n) ≡ length (firsts (links_in l links n))
all-met l links n room =
    let ls = links_in l links n in
    sym (length-keep (first_met ls) (count 0 (length ls)) ∙ ap (λ (z : ℕ). tally (first_met ls) (count 0 z)) (length-links_in l links n room))
