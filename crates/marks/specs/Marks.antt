-- Request 6: the marks of sharp edges in lent words, one word to a face, bit k the mark of its side k; and what setting them and carrying them on leaves.
use Rattle.std.specs.Prelude.{ℕ, ◌+◌, ◌*◌, ◌/◌, ◌%◌, ◌≤◌, ◌<◌, ◌≡◌, ◌⊎◌, Bool, ◌||◌, List, [], ◌∷◌, map, eqb, length, get_or}
use Rattle.std.proofs.Math.Option.{Option, none, some}
use Rattle.lists.specs.Lists.{pick, count}
use Rattle.rules.specs.Sharp.{sharp, names, names_across}
use Rattle.faces.specs.Words.{links_in}

-- bit k of the word x of a face
abbrev pub mark_of : ℕ → ℕ → Bool
mark_of x k = pick (eqb k 0) (eqb (x % 2) 1) (pick (eqb k 1) (eqb (x / 2 % 2) 1) (eqb (x / 4 % 2) 1))

-- the marks of the sides of n faces, from their words
unfoldable pub marks_in : List ℕ → ℕ → ℕ → List Bool
marks_in w at n = map (λ s. mark_of (get_or w (at + s / 3) 0) (s % 3)) (count 0 (3 * n))

-- the words of the four children of a face whose word is x: a half of a side has the side's mark, and the cuts have none
abbrev pub four_marks : ℕ → List ℕ
four_marks x = (x % 2 + 4 * (x / 4)) ∷ (x % 4) ∷ (2 * (x / 2)) ∷ 0 ∷ []

abbrev pub marks_from : List ℕ → ℕ → List ℕ
marks_from ws f = four_marks (get_or ws f 0)

-- the word x with bit k set
abbrev pub with_bit : ℕ → ℕ → ℕ
with_bit x k = pick (mark_of x k) x (x + pick (eqb k 0) 1 (pick (eqb k 1) 2 4))

-- words w₀ in which the sides of the list l were marked on both faces, by the links ls, in the words of n faces from `at` on, have become w; nothing else has changed
pub record Marking (w₀ : List ℕ) (ls : List (Option ℕ)) (at n : ℕ) (l w : List ℕ) : Type 0 where
  pub long : length w ≡ length w₀
  pub kept : (j : ℕ) → (j < at) ⊎ (at + n ≤ j) → get_or w j 0 ≡ get_or w₀ j 0
  pub each : (x : ℕ) → x < 3 * n → sharp (marks_in w at n) x ≡ names l x || names_across l (get_or ls x none)

-- what marking a list asks: no side is marked yet, the marks stand after the link words, each listed side has one across, and links lead back
pub record Listable (w : List ℕ) (links at n : ℕ) (l : List ℕ) : Type 0 where
  pub none_yet : Marking w (links_in w links (3 * n)) at n [] w
  pub after : links + 3 * n ≤ at
  pub room : at + n ≤ length w
  pub side : (i : ℕ) → i < length l → get_or l i 0 < 3 * n
  pub across : (i : ℕ) → i < length l → 0 < get_or w (links + get_or l i 0) 0
  pub below : (s : ℕ) → s < 3 * n → get_or w (links + s) 0 ≤ 3 * n
  pub back : (x y : ℕ) → x < 3 * n → get_or (links_in w links (3 * n)) x none ≡ some y → get_or (links_in w links (3 * n)) y none ≡ some x
