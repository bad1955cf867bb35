-- The rules over lent coordinates, three to a vertex, in either kind of number; and the weights as whole shares.
use Rattle.std.specs.Prelude.{ℕ, ◌+◌, ◌-◌, ◌*◌, min, max, ◌≤◌, ◌<◌, ◌≡◌, Bool, List, [], ◌∷◌, map, length, get_or, replicate, Float, ℤ, pos, ◌+ℤ◌, ◌*ℤ◌}
use Rattle.std.proofs.lemmas.List.Edits.{sets}
use Rattle.lists.specs.Lists.{pick}
use Rattle.whole.specs.Whole.{reach, Near, nearest, lower}
use Rattle.vectors.specs.declared.Vec3.{Vec3}
use Rattle.vectors.specs.Vectors.{origin}
use Rattle.turns.specs.Turns.{most_valence}
use Rattle.rules.specs.Position as paper
use Rattle.rules.specs.Position.{Stage, ring_rule, rim_rule, each, out_of, Numbers, sum, weighed, single, whole}
use Rattle.rules.specs.Levels.{ends, coord}
use Rattle.weights.specs.Weights.{rule_of, carrying, alike}
use Rattle.weights.specs.declared.Rule.{Rule}
use Rattle.weights.specs.declared.Rule.TheVariants.{Ring, Rim}
use Rattle.weights.specs.declared.micrometres.Share.{Share}
use Rattle.weights.specs.declared.micrometres.Whole3.{Whole3}

-- those of a ring that have the weight b: all of them, or on the rim the first and the last
abbrev pub weighing : Bool → List ℕ → List ℕ
weighing rim vs = pick rim (ends vs) vs

module _ (𝓝 : Numbers) where
  -- coordinate c of vertex v, by its ring
  abbrev pub by_ring : Stage → List 𝓝.N → ℕ → Bool → List ℕ → ℕ → 𝓝.N
  by_ring s xs v rim vs c = 𝓝.blend (rule_of s rim (length vs)) (coord 𝓝 xs c v) (map (coord 𝓝 xs c) (weighing rim vs))

  abbrev pub halfway : List 𝓝.N → ℕ → ℕ → ℕ → 𝓝.N
  halfway xs a b c = 𝓝.halves (coord 𝓝 xs c a) (coord 𝓝 xs c b)

  abbrev pub eighthway : List 𝓝.N → ℕ → ℕ → ℕ → ℕ → ℕ → 𝓝.N
  eighthway xs a b d e c = 𝓝.eighths (coord 𝓝 xs c a) (coord 𝓝 xs c b) (coord 𝓝 xs c d) (coord 𝓝 xs c e)

  -- the same of the ends of an edge in any order: a rim edge, and an inner one with its far corners
  abbrev pub on_rim : List 𝓝.N → ℕ → ℕ → ℕ → 𝓝.N
  on_rim xs a b c = halfway xs (min a b) (max a b) c

  abbrev pub within : List 𝓝.N → ℕ → ℕ → ℕ → ℕ → ℕ → 𝓝.N
  within xs a b d e c = eighthway xs (min a b) (max a b) d e c

-- the coordinates of a ring, where P is what is asked of those of a vertex
pub record AllOf {N : Type 0} (P : List N → ℕ → Type 0) (xs : List N) (vs : List ℕ) : Type 0 where
  pub few : length vs ≤ most_valence
  pub at : (k : ℕ) → k < length vs → P xs (get_or vs k 0)

-- ---- f32

-- the coordinates of vertex v are there
pub record There (xs : List Float) (v : ℕ) : Type 0 where
  pub room : 3 * v + 3 ≤ length xs

-- and those of a ring
abbrev pub AllThere : List Float → List ℕ → Type 0
AllThere = AllOf There

abbrev pub point_at : List Float → ℕ → Vec3
point_at xs v = record { x = coord single xs 0 v; y = coord single xs 1 v; z = coord single xs 2 v }

-- vertex v, and vs with the weight b
abbrev pub weighed_point : Float → List Float → ℕ → List ℕ → Vec3
weighed_point b xs v vs = alike (weighed b) (point_at xs v) (map (point_at xs) vs)

abbrev pub weighted_point : Rule Float → List Float → ℕ → List ℕ → Vec3
weighted_point (Ring b) xs v vs = weighed_point b xs v vs
weighted_point (Rim b) xs v vs = weighed_point b xs v (ends vs)

abbrev pub listed : Vec3 → List Float
listed p = p.x ∷ p.y ∷ p.z ∷ []

-- as many places as a ring can fill, the points first; the origin stands in the others
abbrev pub ringful : List Vec3 → List Vec3
ringful ps = sets (replicate most_valence origin) 0 ps

-- ---- whole micrometres

-- the coordinates of vertex v are there, and in range
pub record Readable (xs : List ℤ) (v : ℕ) : Type 0 where
  pub room : 3 * v + 3 ≤ length xs
  pub near : (c : ℕ) → c < 3 → Near (get_or xs (3 * v + c) (pos 0))

-- and those of a ring
abbrev pub AllReadable : List ℤ → List ℕ → Type 0
AllReadable = AllOf Readable

-- s is a sum of raised numbers of weight w in all, and stands for z
abbrev pub Stands : ℕ → ℕ → ℤ → Type 0
Stands s w z = (lower w s ≡ z) × (s ≤ w * (2 * reach))

abbrev pub Stands3 : Whole3 → ℕ → (ℕ → ℤ) → Type 0
Stands3 p w f = Stands p.x w (f 0) × (Stands p.y w (f 1) × Stands p.z w (f 2))

abbrev pub sum_of : List ℤ → List ℕ → ℕ → ℤ
sum_of xs vs c = sum (map (coord whole xs c) vs)

-- the weight b of a rule, as a fraction
abbrev pub share_of : paper.Rule → Share
share_of r = record { each = each r; all = out_of r }

-- "A vertex rule is either a ring weight or a rim weight, and carries it"
abbrev pub shared : paper.Rule → Rule Share
shared = carrying share_of

abbrev pub all_of : Rule Share → ℕ
all_of (Ring b) = b.all
all_of (Rim b) = b.all

-- 1 - k b, out of the same
abbrev pub own : Share → ℕ → ℕ
own b k = b.all - k * b.each

-- p with that weight, and with b the sum s of k others
abbrev pub mean : Share → ℕ → ℤ → ℤ → ℤ
mean b k p s = nearest (pos (own b k) *ℤ p +ℤ pos b.each *ℤ s) b.all

-- vertex v, and k others whose raised sum is s
abbrev pub means : Share → ℕ → List ℤ → ℕ → Whole3 → List ℤ
means b k xs v s =
    mean b k (coord whole xs 0 v) (lower k s.x) ∷ mean b k (coord whole xs 1 v) (lower k s.y) ∷ mean b k (coord whole xs 2 v) (lower k s.z) ∷ []

-- vertex v, and vs with the weight b
abbrev pub weighed_whole : Share → List ℤ → ℕ → List ℕ → ℕ → ℤ
weighed_whole b xs v vs c = mean b (length vs) (coord whole xs c v) (sum_of xs vs c)

abbrev pub weighted_whole : Rule Share → List ℤ → ℕ → List ℕ → ℕ → ℤ
weighted_whole (Ring b) xs v vs c = weighed_whole b xs v vs c
weighted_whole (Rim b) xs v vs c = weighed_whole b xs v (ends vs) c

-- k times b and 1 - k b add up, to few enough
pub record Whole (b : Share) (k : ℕ) : Type 0 where
  pub above : 0 < b.all
  pub few : b.all ≤ 8 * most_valence
  pub together : own b k + k * b.each ≡ b.all

-- so do those of a rule, over a ring of n
abbrev pub Shares : Rule Share → ℕ → Type 0
Shares (Ring b) n = Whole b n
Shares (Rim b) n = Whole b 2

-- sums of k raised numbers
abbrev pub Few3 : Whole3 → ℕ → Type 0
Few3 s k = (s.x ≤ k * (2 * reach)) × ((s.y ≤ k * (2 * reach)) × (s.z ≤ k * (2 * reach)))

-- what a point of raised coordinates stands for
abbrev pub lowered : Whole3 → List ℤ
lowered p = lower 1 p.x ∷ lower 1 p.y ∷ lower 1 p.z ∷ []

abbrev pub Raised3 : Whole3 → Type 0
Raised3 p = (p.x ≤ 2 * reach) × ((p.y ≤ 2 * reach) × (p.z ≤ 2 * reach))
