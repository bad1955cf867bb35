-- docs/RULES.md, The mesh. A face list is flat, three corner numbers to a face: side s = 3 f + k of face f runs from corner s to the corner after it
-- in f. A side also names the corner it starts from, so a vertex's place in a face is a side number, and the face is that number over 3.
use Rattle.std.specs.Prelude.{ℕ, zero, suc, ◌+◌, ◌*◌, ◌/◌, ◌%◌, min, Bool, true, not, ◌&&◌, List, [], ◌∷◌, ◌++◌, map, eqb, leb, length, get_or}
use Rattle.std.proofs.Math.Option.{Option, none, some}
use Rattle.lists.specs.Lists.{pick, count, find, found, keep, tally, gather, last_of}

-- ---- sides, and neighbours across them

-- the side after s in its face, and the one before
abbrev pub onward : ℕ → ℕ
onward s = 3 * (s / 3) + (s + 1) % 3

abbrev pub backward : ℕ → ℕ
backward s = 3 * (s / 3) + (s + 2) % 3

abbrev pub corner : List ℕ → ℕ → ℕ
corner fs s = get_or fs s 0

pub record Side : Type 0 where
  pub from : ℕ
  pub to : ℕ

abbrev pub side : List ℕ → ℕ → Side
side fs s = record { from = corner fs s; to = corner fs (onward s) }

abbrev pub sides : List ℕ → List Side
sides fs = map (side fs) (count 0 (length fs))

-- one has a → b and the other b → a
abbrev pub opposite : Side → Side → Bool
opposite a b = eqb a.from b.to && eqb a.to b.from

-- the side across each side, found by search; absent at the rim
unfoldable pub links : List ℕ → List (Option ℕ)
links fs = let ss = sides fs in map (λ a. find (opposite a) ss) ss

-- how many sides are rim sides
abbrev pub rims : List (Option ℕ) → ℕ
rims ls = tally (λ l. not (found l)) ls

-- ---- walks round a vertex, from corner to corner, bounded by the face count

pub data Step : Type 0 where
  home off : Step
  here : ℕ → Step

pub data Stop : Type 0 where
  closed ended long : Stop

-- the corners passed, and why the walk stopped
pub data Walk : Type 0 where
  stop : Stop → Walk
  past : ℕ → Walk → Walk

abbrev pub walk : (ℕ → Step) → ℕ → Step → Walk
walk next zero home = stop closed
walk next zero off = stop ended
walk next zero (here s) = stop long
walk next (suc n) home = stop closed
walk next (suc n) off = stop ended
walk next (suc n) (here s) = past s (walk next n (next s))

abbrev pub passed : Walk → List ℕ
passed (stop e) = []
passed (past s w) = s ∷ passed w

abbrev pub stop_of : Walk → Stop
stop_of (stop e) = e
stop_of (past s w) = stop_of w

abbrev pub through : (ℕ → ℕ) → Option ℕ → Option ℕ
through f none = none
through f (some t) = some (f t)

-- back home, off the rim, or on a further corner of a walk that began at corner h
abbrev pub step_to : ℕ → Option ℕ → Step
step_to h none = off
step_to h (some t) = pick (eqb t h) home (here t)

-- `next_face`: across the side that leaves the vertex; `prev_face`: across the side that comes to it
abbrev pub next_corner : List (Option ℕ) → ℕ → ℕ → Step
next_corner ls h s = step_to h (through onward (get_or ls s none))

abbrev pub prev_corner : List (Option ℕ) → ℕ → ℕ → Step
prev_corner ls h s = step_to h (get_or ls (backward s) none)

-- ---- fans and rings: the two turn opposite ways

-- the corners of a vertex. Inner: by `next_face` from the start until it is back. Rim: from the end that `next_face` leads to, by `prev_face`
pub data Fan : Type 0 where
  inner : List ℕ → Fan
  rim : List ℕ → Fan
  endless : Fan

abbrev pub rim_fan : List ℕ → Stop → Fan
rim_fan cs closed = endless
rim_fan cs ended = rim cs
rim_fan cs long = endless

-- after a walk by `next_face` that passed the corners cs
abbrev pub fan_of : List (Option ℕ) → ℕ → List ℕ → Stop → Fan
fan_of ls n cs closed = inner cs
fan_of ls n cs ended =
    let e = last_of 0 cs in
    let w = walk (prev_corner ls e) n (here e) in
    rim_fan (passed w) (stop_of w)
fan_of ls n cs long = endless

-- from the start corner s
unfoldable pub fan : List (Option ℕ) → ℕ → Fan
fan ls s =
    let n = length ls / 3 in
    let w = walk (next_corner ls s) n (here s) in
    fan_of ls n (passed w) (stop_of w)

abbrev pub corners : Fan → List ℕ
corners (inner cs) = cs
corners (rim cs) = cs
corners endless = []

-- faces round an inner vertex; faces plus one on the rim
abbrev pub valence : Fan → ℕ
valence (inner cs) = length cs
valence (rim cs) = suc (length cs)
valence endless = 0

-- inner: `next_vert` of each face; rim: `next_vert` of the end face, then `prev_vert` of each
abbrev pub ring : List ℕ → Fan → List ℕ
ring fs (inner cs) = map (λ s. corner fs (onward s)) cs
ring fs (rim cs) = corner fs (onward (get_or cs 0 0)) ∷ map (λ s. corner fs (backward s)) cs
ring fs endless = []

-- ---- a mesh: how many vertices, the face list, and the corner of its start face at which each vertex starts

pub record Mesh : Type 0 where
  pub verts : ℕ
  pub faces : List ℕ
  pub starts : List ℕ

-- the corner v of the last face in the list that has it
abbrev pub last_corner : List ℕ → ℕ → ℕ
last_corner fs v = last_of 0 (keep (λ s. eqb (corner fs s) v) (count 0 (length fs)))

unfoldable pub cage : ℕ → List ℕ → Mesh
cage v fs = record { verts = v; faces = fs; starts = map (last_corner fs) (count 0 v) }

-- ---- one level

-- is side s, with this link, the one at which its edge is first met; and which side is
abbrev pub is_first : ℕ → Option ℕ → Bool
is_first s none = true
is_first s (some t) = leb s t

abbrev pub first_of : ℕ → Option ℕ → ℕ
first_of s none = s
first_of s (some t) = min s t

abbrev pub first_met : List (Option ℕ) → ℕ → Bool
first_met ls s = is_first s (get_or ls s none)

abbrev pub meeting : List (Option ℕ) → ℕ → ℕ
meeting ls s = first_of s (get_or ls s none)

-- the first sides of the edges, in order of faces and, within one, of sides
abbrev pub firsts : List (Option ℕ) → List ℕ
firsts ls = keep (first_met ls) (count 0 (length ls))

-- the new vertex of the edge of side s: after the v old ones, in the order in which the edges are first met
abbrev pub middle : ℕ → List (Option ℕ) → ℕ → ℕ
middle v ls s = v + tally (first_met ls) (count 0 (meeting ls s))

-- (v0, m0, m2), (m0, v1, m1), (m2, m1, v2), (m0, m1, m2)
abbrev pub four : ℕ → ℕ → ℕ → ℕ → ℕ → ℕ → List ℕ
four v0 v1 v2 m0 m1 m2 = v0 ∷ m0 ∷ m2 ∷ m0 ∷ v1 ∷ m1 ∷ m2 ∷ m1 ∷ v2 ∷ m0 ∷ m1 ∷ m2 ∷ []

-- faces 4 f to 4 f + 3
abbrev pub children : ℕ → List ℕ → List (Option ℕ) → ℕ → List ℕ
children v fs ls f =
    four (corner fs (3 * f)) (corner fs (3 * f + 1)) (corner fs (3 * f + 2))
    (middle v ls (3 * f)) (middle v ls (3 * f + 1)) (middle v ls (3 * f + 2))

-- corner s = 3 f + k restarts in child k, at its corner k; the vertex of side s starts in child 3, at its corner k
abbrev pub restart : ℕ → ℕ
restart s = 12 * (s / 3) + 4 * (s % 3)

abbrev pub fourth : ℕ → ℕ
fourth s = 12 * (s / 3) + 9 + s % 3

unfoldable pub refined : Mesh → List (Option ℕ) → Mesh
refined m ls =
    record {
      verts = m.verts + length (firsts ls);
      faces = gather (children m.verts m.faces ls) (count 0 (length m.faces / 3));
      starts = map restart m.starts ++ map fourth (firsts ls);
    }
