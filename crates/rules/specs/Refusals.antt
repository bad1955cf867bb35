-- docs/RULES.md, Answers, the refusal numbers: checked in this order, lowest place first.
use Rattle.std.specs.Prelude.{ℕ, ◌+◌, ◌*◌, ◌/◌, ◌%◌, Bool, not, ◌&&◌, ◌||◌, List, [], ◌∷◌, eqb, ltb, leb, length, get_or, take}
use Rattle.std.proofs.Math.Option.{Option, none, some}
use Rattle.lists.specs.Lists.{pick, find, lowest, found, tally}
use Rattle.turns.specs.Turns.{most_valence}
use Rattle.rules.specs.Mesh.{corner, Side, sides, links, Fan, fan, corners, valence, cage}
use Rattle.rules.specs.Position.{Numbers}
use Rattle.rules.specs.Levels.{Sizes, sizes, after}
use Rattle.rules.specs.declared.Refusal.{Refusal}

-- the limits; that of the valence stands with the sine table
abbrev pub most_levels : ℕ
most_levels = 7

abbrev pub most_in_cage : ℕ
most_in_cage = 4096

abbrev pub most_in_mesh : ℕ
most_in_mesh = 32768

-- refusal k at the place found
abbrev pub check : ℕ → Option ℕ → Option Refusal
check k none = none
check k (some i) = some (record { number = k; place = i })

-- the first check that refuses
infixr 20 ◌or_else◌
abbrev pub ◌or_else◌ : Option Refusal → Option Refusal → Option Refusal
◌or_else◌ none r = r
◌or_else◌ (some x) r = some x

-- at 0 if the first test passes, else at 1 if the second does
abbrev pub either : Bool → Bool → Option ℕ
either a b = pick a (some 0) (pick b (some 1) none)

abbrev pub when : Bool → Option ℕ
when a = pick a (some 0) none

-- ---- 6, 7, 8: the face list

abbrev pub has : ℕ → ℕ → ℕ → ℕ → Bool
has a b c x = eqb x a || eqb x b || eqb x c

module _ (fs : List ℕ) where
  abbrev pub equal_corners : ℕ → Bool
  equal_corners f =
      let a = corner fs (3 * f) in let b = corner fs (3 * f + 1) in let c = corner fs (3 * f + 2) in
      eqb a b || eqb b c || eqb c a

  -- the same corner set, of faces whose corners differ
  abbrev pub same_set : ℕ → ℕ → Bool
  same_set f g =
      let a = corner fs (3 * f) in let b = corner fs (3 * f + 1) in let c = corner fs (3 * f + 2) in
      has a b c (corner fs (3 * g)) && has a b c (corner fs (3 * g + 1)) && has a b c (corner fs (3 * g + 2))

abbrev pub same : Side → Side → Bool
same a b = eqb a.from b.from && eqb a.to b.to

-- the directed side s is used by an earlier side
abbrev pub used_before : List Side → ℕ → Bool
used_before ss s = found (find (same (get_or ss s (record { from = 0; to = 0 }))) (take s ss))

-- ---- 10, 12: the fans

-- the fan from the start of v does not have every corner of v
abbrev pub parted : List ℕ → (ℕ → Fan) → ℕ → Bool
parted fs fans v = ltb (length (corners (fans v))) (tally (eqb v) fs)

-- ---- 13

abbrev pub too_large : Sizes → Bool
too_large c = ltb most_in_mesh c.faces || ltb most_in_mesh c.verts

-- ---- 1 to 13, in stages: lengths, coordinates, the face list of V vertices, its fans, the sizes after l levels

unfoldable pub shape_refusal : ℕ → ℕ → ℕ → Option Refusal
shape_refusal l is cs =
    check 1 (when (ltb most_levels l))
    or_else check 2 (either (not (eqb (is % 3) 0)) (not (eqb (cs % 3) 0)))
    or_else check 3 (either (ltb most_in_cage (is / 3)) (ltb most_in_cage (cs / 3)))

unfoldable pub range_refusal : (𝓝 : Numbers) → List 𝓝.N → Option Refusal
range_refusal 𝓝 xs = check 4 (find (λ x. not (𝓝.allowed x)) xs)

unfoldable pub list_refusal : ℕ → List ℕ → Option Refusal
list_refusal v fs =
    let n = length fs / 3 in
    let ss = sides fs in
    check 5 (find (λ u. leb v u) fs)
    or_else check 6 (lowest (equal_corners fs) n)
    or_else check 7 (lowest (used_before ss) (3 * n))
    or_else check 8 (lowest (λ f. found (lowest (same_set fs f) f)) n)

-- the fan of each vertex of the control cage
abbrev pub fans_of : ℕ → List ℕ → ℕ → Fan
fans_of v fs = let ls = links fs in let ss = (cage v fs).starts in λ u. fan ls (get_or ss u 0)

unfoldable pub fan_refusal : ℕ → List ℕ → Option Refusal
fan_refusal v fs =
    let fans = fans_of v fs in
    check 9 (lowest (λ u. not (found (find (eqb u) fs))) v)
    or_else check 10 (lowest (parted fs fans) v)
    or_else check 12 (lowest (λ u. ltb most_valence (valence (fans u))) v)

-- 1 to 12, "the mesh checks"
unfoldable pub mesh_refusal : (𝓝 : Numbers) → ℕ → List ℕ → List 𝓝.N → Option Refusal
mesh_refusal 𝓝 l fs xs =
    let v = length xs / 3 in
    let fans = fan_refusal v fs in
    shape_refusal l (length fs) (length xs) or_else range_refusal 𝓝 xs or_else list_refusal v fs or_else fans

unfoldable pub size_refusal : ℕ → ℕ → List ℕ → Option Refusal
size_refusal l v fs = check 13 (when (too_large (after l (sizes (cage v fs)))))

unfoldable pub refusal : (𝓝 : Numbers) → ℕ → List ℕ → List 𝓝.N → Option Refusal
refusal 𝓝 l fs xs =
    let v = length xs / 3 in
    let fans = fan_refusal v fs in
    let size = size_refusal l v fs in
    shape_refusal l (length fs) (length xs) or_else range_refusal 𝓝 xs or_else list_refusal v fs or_else fans or_else size

-- ---- 14: what is lent, each at its place, with what is needed of it

pub record Room : Type 0 where
  pub place : ℕ
  pub lent : ℕ
  pub needed : ℕ

-- the lowest place that is short; rooms stand in order
abbrev pub short_of : List Room → Option ℕ
short_of [] = none
short_of (r ∷ rs) = pick (ltb r.lent r.needed) (some r.place) (short_of rs)
