-- What the checks of the fans read, and what a turn says to each.
use Rattle.std.specs.Prelude.{ℕ, ◌≤◌, ◌<◌, ◌≡◌, Bool, List, map, eqb, ltb, length, get_or, take}
use Rattle.std.specs.Prelude as code
use Rattle.std.proofs.Math.Option.{Option, none, some}
use Rattle.lists.specs.Lists.{tally, lowest}
use Rattle.turns.specs.Turns.{most_valence}
use Rattle.rules.specs.Mesh.{links, valence}
use Rattle.rules.specs.Refusals.{check, ◌or_else◌, parted, fans_of}
use Rattle.rules.specs.declared.Refusal.{Refusal}
use Rattle.faces.specs.Words.{coded}
use Rattle.faces.specs.declared.walks.Turn.{Turn}
use Rattle.faces.specs.declared.walks.Turn.TheVariants.{Inner, Rim, Endless}
use Rattle.cage.specs.Chains.{Faces, Heads}

-- how many of the first n corners each vertex has
pub record Tallied (fs : List ℕ) (n : ℕ) (counts : List ℕ) : Type 0 where
  pub each : (a : ℕ) → a < length counts → get_or counts a 0 ≡ tally (eqb a) (take n fs)

-- the last side of each vertex, and the link word of each side
pub record Tables (fs hs ws : List ℕ) : Type 0 where
  pub faces : Faces fs
  pub heads : Heads fs (length fs) hs
  pub room : length fs ≤ length ws
  pub words : take (length fs) ws ≡ map coded (links fs)

-- the link words alone
pub record Linked (fs ws : List ℕ) : Type 0 where
  pub room : length fs ≤ length ws
  pub words : take (length fs) ws ≡ map coded (links fs)

-- after check 9 each of the v vertices has a side
pub record Used (v : ℕ) (heads : List ℕ) : Type 0 where
  pub room : v ≤ length heads
  pub each : (u : ℕ) → u < v → 0 < get_or heads u 0

-- a turn has fewer faces than n; one that does not end has none
abbrev pub short_of : Turn → ℕ → Bool
short_of (Inner k) n = ltb k n
short_of (Rim k e) n = ltb k n
short_of Endless n = ltb 0 n

-- a place as the code has it
abbrev pub place_of : Option ℕ → code.Option ℕ
place_of none = code.None
place_of (some i) = code.Some i

-- 10 and 12, what `fan_refusal` has after 9
abbrev pub turn_refusal : ℕ → List ℕ → Option Refusal
turn_refusal v fs =
    let fans = fans_of v fs in
    check 10 (lowest (parted fs fans) v)
    or_else check 12 (lowest (λ u. ltb most_valence (valence (fans u))) v)
