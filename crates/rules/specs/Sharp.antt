-- docs/RULES.md, Sharp edges (request 6). A mark to a side, true on both faces of a sharp edge. The whole engine and the exact mesh take marks; the f32
-- engine takes none and keeps the rules of specs/Levels.
use Rattle.std.specs.Prelude.{◌≡◌, ◌≢◌, ℕ, zero, suc, ◌+◌, ◌*◌, ◌/◌, min, Bool, true, false, not, ◌||◌, List, [], ◌∷◌, ◌++◌, map, eqb, leb, length, get_or, ℤ, Ok}
use Rattle.std.proofs.Math.Option.{Option, none, some}
use Rattle.lists.specs.Lists.{pick, count, find, found, keep, gather}
use Rattle.whole.specs.Fraction.{Fraction, of_whole}
use Rattle.rules.specs.Mesh.{onward, backward, corner, links, Fan, inner, rim, endless, fan, ring, Mesh, cage, firsts, refined}
use Rattle.rules.specs.Position.{Stage, refining, limit, ring_rule, rim_rule, Numbers, exact}
use Rattle.rules.specs.Levels.{ends, coord, three, edge_at}
use Rattle.rules.specs.Refusals.{check, ◌or_else◌, shape_refusal, range_refusal, list_refusal, fan_refusal, size_refusal, Room, short_of}
use Rattle.rules.specs.Answers.{counted, unless}
use Rattle.rules.specs.declared.Refusal.{Refusal}
use Rattle.rules.specs.declared.Counts.{Counts}
use Rattle.rules.specs.Outcome.{Outcome}

-- ---- marks

abbrev pub sharp : List Bool → ℕ → Bool
sharp ms s = get_or ms s false

abbrev pub names : List ℕ → ℕ → Bool
names l s = found (find (eqb s) l)

abbrev pub names_across : List ℕ → Option ℕ → Bool
names_across l none = false
names_across l (some t) = names l t

-- "a list of sides (3 face + side), marked on both faces"
unfoldable pub marks_of : List (Option ℕ) → List ℕ → List Bool
marks_of ls l = map (λ s. names l s || names_across l (get_or ls s none)) (count 0 (length ls))

-- "its two halves are sharp; sides inside a parent face are smooth": the sides of the four children of a face whose sides have the marks a, b and c
abbrev pub twelve_marks : Bool → Bool → Bool → List Bool
twelve_marks a b c = a ∷ false ∷ c ∷ a ∷ b ∷ false ∷ false ∷ b ∷ c ∷ false ∷ false ∷ false ∷ []

abbrev pub marks_by : List Bool → ℕ → List Bool
marks_by ms f = twelve_marks (sharp ms (3 * f)) (sharp ms (3 * f + 1)) (sharp ms (3 * f + 2))

-- of n faces
unfoldable pub finer_marks : ℕ → List Bool → List Bool
finer_marks n ms = gather (marks_by ms) (count 0 n)

-- ---- "Count the sharp and rim edges at a vertex": the far ends of those edges. An inner vertex has no rim edge; a rim vertex has two, to the first and the last of
-- its ring, and no sharp one among them
abbrev pub creases : List ℕ → List Bool → Fan → List ℕ
creases fs ms (inner cs) = map (λ s. corner fs (onward s)) (keep (sharp ms) cs)
creases fs ms (rim cs) = ends (ring fs (rim cs)) ++ map (λ s. corner fs (backward s)) (keep (λ s. sharp ms (backward s)) cs)
creases fs ms endless = []

module _ (𝓝 : Numbers) where
  -- coordinate c of vertex v, by its ring and the far ends of its sharp and rim edges: "0 or 1, the ring rule; 2, the rim weights with the far ends of those two;
  -- 3 or more, the vertex stays"
  abbrev pub by_creases : Stage → List 𝓝.N → ℕ → List ℕ → List ℕ → ℕ → 𝓝.N
  by_creases p xs v vs [] c = 𝓝.blend (ring_rule p (length vs)) (coord 𝓝 xs c v) (map (coord 𝓝 xs c) vs)
  by_creases p xs v vs (a ∷ []) c = 𝓝.blend (ring_rule p (length vs)) (coord 𝓝 xs c v) (map (coord 𝓝 xs c) vs)
  by_creases p xs v vs (a ∷ b ∷ []) c = 𝓝.blend (rim_rule p) (coord 𝓝 xs c v) (coord 𝓝 xs c a ∷ coord 𝓝 xs c b ∷ [])
  by_creases p xs v vs (a ∷ b ∷ d ∷ es) c = coord 𝓝 xs c v

  abbrev pub creased : Stage → List ℕ → List Bool → List 𝓝.N → ℕ → Fan → ℕ → 𝓝.N
  creased p fs ms xs v (inner cs) c = by_creases p xs v (ring fs (inner cs)) (creases fs ms (inner cs)) c
  creased p fs ms xs v (rim cs) c = by_creases p xs v (ring fs (rim cs)) (creases fs ms (rim cs)) c
  creased p fs ms xs v endless c = coord 𝓝 xs c v

  unfoldable pub sharp_moved : Stage → Mesh → List (Option ℕ) → List Bool → List 𝓝.N → ℕ → List 𝓝.N
  sharp_moved p m ls ms xs v = let f = fan ls (get_or m.starts v 0) in three 𝓝 (creased p m.faces ms xs v f)

  -- "A sharp edge's new vertex is the midpoint of its ends", as that of a rim edge is
  abbrev pub sharp_edge : List ℕ → List 𝓝.N → ℕ → Bool → Option ℕ → ℕ → 𝓝.N
  sharp_edge fs xs s b o c = edge_at 𝓝 fs xs s (pick b none o) c

  unfoldable pub sharp_new : Mesh → List (Option ℕ) → List Bool → List 𝓝.N → List 𝓝.N
  sharp_new m ls ms xs =
      gather (sharp_moved refining m ls ms xs) (count 0 m.verts) ++
      gather (λ s. three 𝓝 (sharp_edge m.faces xs s (sharp ms s) (get_or ls s none))) (firsts ls)

  unfoldable pub sharp_limits : Mesh → List (Option ℕ) → List Bool → List 𝓝.N → List 𝓝.N
  sharp_limits m ls ms xs = gather (sharp_moved limit m ls ms xs) (count 0 m.verts)

  -- ---- levels

  pub record SharpLevel : Type 0 where
    pub mesh : Mesh
    pub marks : List Bool
    pub points : List 𝓝.N

  abbrev pub sharp_first : List ℕ → List ℕ → List 𝓝.N → SharpLevel
  sharp_first l fs xs = record { mesh = cage (length xs / 3) fs; marks = marks_of (links fs) l; points = xs }

  unfoldable pub sharp_finer : SharpLevel → SharpLevel
  sharp_finer a =
      let ls = links a.mesh.faces in
      record {
        mesh = refined a.mesh ls;
        marks = finer_marks (length a.mesh.faces / 3) a.marks;
        points = sharp_new a.mesh ls a.marks a.points;
      }

  unfoldable pub sharp_levels : ℕ → SharpLevel → SharpLevel
  sharp_levels zero a = a
  sharp_levels (suc n) a = sharp_levels n (sharp_finer a)

  -- the last level, of n, with the sides of the list l sharp; and the limit positions on it
  abbrev pub sharp_last : ℕ → List ℕ → List ℕ → List 𝓝.N → SharpLevel
  sharp_last n l fs xs = sharp_levels n (sharp_first l fs xs)

  unfoldable pub sharp_positions : SharpLevel → List 𝓝.N
  sharp_positions a = sharp_limits a.mesh (links a.mesh.faces) a.marks a.points

abbrev pub sharp_exact : ℕ → List ℕ → List ℕ → List ℤ → List Fraction
sharp_exact n l fs xs = sharp_positions exact (sharp_last exact n l fs (map of_whole xs))

-- ---- 18: "a listed side not below 3F, or on the rim, place its index in the list, after 12"

abbrev pub unlinked : List (Option ℕ) → ℕ → Bool
unlinked ls s = leb (length ls) s || not (found (get_or ls s none))

-- the list has no limit, and a place is a number of 32 bits: an index past the largest is told as the largest
abbrev pub told : Option ℕ → Option ℕ
told none = none
told (some i) = some (min i 4294967295)

unfoldable pub sharp_refusal : (𝓝 : Numbers) → ℕ → List ℕ → List ℕ → List 𝓝.N → Option Refusal
sharp_refusal 𝓝 n l fs xs =
    let v = length xs / 3 in
    let fans = fan_refusal v fs in
    let marks = check 18 (told (find (unlinked (links fs)) l)) in
    let size = size_refusal n v fs in
    shape_refusal n (length fs) (length xs) or_else range_refusal 𝓝 xs or_else list_refusal v fs or_else fans or_else marks or_else size

unfoldable pub sharp_outcome : (𝓝 : Numbers) → (Counts → List Room) → ℕ → List ℕ → List ℕ → List 𝓝.N → Outcome
sharp_outcome 𝓝 rooms n l fs xs =
    let c = counted (sharp_last 𝓝 n l fs xs).mesh in
    let short = check 14 (short_of (rooms c)) in
    let done = Ok c in
    unless (sharp_refusal 𝓝 n l fs xs or_else short) done

-- ---- [5] "holds for vertices that are an end of no marked side"

pub record EndOfNone (l fs : List ℕ) (v : ℕ) : Type 0 where
  pub from : (s : ℕ) → names l s ≡ true → corner fs s ≢ v
  pub to : (s : ℕ) → names l s ≡ true → corner fs (onward s) ≢ v
