-- Sides by the vertex they leave, chained from each to the one before it.
use Rattle.std.specs.Prelude.{ℕ, zero, suc, ◌+◌, ◌-◌, ◌*◌, ◌%◌, ◌≤◌, ◌<◌, ◌≡◌, ◌≢◌, Bool, true, false, ◌&&◌, List, eqb, ltb, length, get_or}
use Rattle.std.proofs.Math.Option.{Option, none, some}
use Rattle.lists.specs.Lists.{pick}
use Rattle.rules.specs.Mesh.{onward, backward, corner, side, sides, links}
use Rattle.rules.specs.Refusals.{same, used_before}
use Rattle.faces.specs.Words.{coded}

-- one past the last number below n that passes, or 0 where none does
unfoldable pub last_below : (ℕ → Bool) → ℕ → ℕ
last_below p zero = 0
last_below p (suc k) = pick (p k) (suc k) (last_below p k)

-- side s leaves a; it runs from a to b
abbrev pub leaves : List ℕ → ℕ → ℕ → Bool
leaves fs a s = eqb (corner fs s) a

abbrev pub runs : List ℕ → ℕ → ℕ → ℕ → Bool
runs fs a b s = same (record { from = a; to = b }) (side fs s)

-- a face list after checks 2 and 3
pub record Faces (fs : List ℕ) : Type 0 where
  pub thirds : length fs % 3 ≡ 0
  pub few : length fs ≤ 12288

-- and after check 5
pub record Below (v : ℕ) (fs : List ℕ) : Type 0 where
  pub each : (s : ℕ) → s < length fs → corner fs s < v

-- and after check 6
pub record Apart (fs : List ℕ) : Type 0 where
  pub each : (s : ℕ) → s < length fs → corner fs s ≢ corner fs (onward s)

-- and after check 7
pub record Once (fs : List ℕ) : Type 0 where
  pub each : (s t : ℕ) → s < length fs → t < length fs → corner fs s ≡ corner fs t → corner fs (onward s) ≡ corner fs (onward t) → s ≡ t

-- of the first n sides: the last that leaves each vertex, and before each of them the last that leaves the same vertex
pub record Heads (fs : List ℕ) (n : ℕ) (heads : List ℕ) : Type 0 where
  pub head : (a : ℕ) → a < length heads → get_or heads a 0 ≡ last_below (leaves fs a) n

pub record Chained (fs : List ℕ) (n : ℕ) (nexts : List ℕ) : Type 0 where
  pub room : length fs ≤ length nexts
  pub next : (s : ℕ) → s < n → get_or nexts s 0 ≡ last_below (leaves fs (corner fs s)) s

-- ---- marks: at a vertex, one past a side that ends there, or 0

-- a mark as vertex u takes it: of a side that leaves u
abbrev pub fresh_mark : List ℕ → ℕ → ℕ → ℕ
fresh_mark fs u m = pick (ltb 0 m && leaves fs u (m - 1)) m 0

-- the lower of `low` and the side of mark m, if that is side h or a later one
abbrev pub lower_of : ℕ → ℕ → ℕ → ℕ
lower_of low m h = pick (ltb h m && ltb (m - 1) low) (m - 1) low

pub record Marked (fs marks : List ℕ) : Type 0 where
  pub below : (b : ℕ) → get_or marks b 0 ≤ length fs
  pub ends : (b : ℕ) → 0 < get_or marks b 0 → corner fs (onward (get_or marks b 0 - 1)) ≡ b

-- each side from h on that leaves u finds at its end the mark of such a side, its own or that of an earlier one
pub record Met (fs : List ℕ) (u h : ℕ) (marks : List ℕ) : Type 0 where
  pub late : (k : ℕ) → h ≤ k → k < length fs → corner fs k ≡ u → h < get_or marks (corner fs (onward k)) 0
  pub early : (k : ℕ) → h ≤ k → k < length fs → corner fs k ≡ u → get_or marks (corner fs (onward k)) 0 ≤ k + 1
  pub leaves : (k : ℕ) → h ≤ k → k < length fs → corner fs k ≡ u → corner fs (get_or marks (corner fs (onward k)) 0 - 1) ≡ u

-- a side that is used before, or as many as there are sides
pub record Repeat (fs : List ℕ) (low : ℕ) : Type 0 where
  pub most : low ≤ length fs
  pub used : low < length fs → used_before (sides fs) low ≡ true

-- no lower side than low leaves u and runs as an earlier one from h on
pub record Least (fs : List ℕ) (u h low : ℕ) : Type 0 where
  pub each : (p t : ℕ) → h ≤ p → p < t → t < length fs → corner fs p ≡ u → corner fs t ≡ u → corner fs (onward p) ≡ corner fs (onward t) → low ≤ t

-- words with the link of each side that comes to u at corner h or a later one, the rest as it was
pub record Coming (fs : List ℕ) (at u h : ℕ) (ws₀ ws : List ℕ) : Type 0 where
  pub size : length ws ≡ length ws₀
  pub here : Once fs → (k : ℕ) → h ≤ k → k < length fs → corner fs k ≡ u → get_or ws (at + backward k) 0 ≡ coded (get_or (links fs) (backward k) none)
  pub rest : (i : ℕ) → ((k : ℕ) → h ≤ k → k < length fs → corner fs k ≡ u → i ≢ at + backward k) → get_or ws i 0 ≡ get_or ws₀ i 0

-- a side from its place on a chain
abbrev pub before : ℕ → ℕ
before h = h - 1

-- the side across side 0 of face f is one of an earlier face with the same far corner
abbrev pub folds_back : List ℕ → ℕ → Option ℕ → Bool
folds_back fs f none = false
folds_back fs f (some t) = ltb t (3 * f) && eqb (corner fs (backward t)) (corner fs (3 * f + 2))
