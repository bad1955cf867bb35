-- docs/RULES.md, Limits and Answers: what a call answers, and what it leaves in each lent buffer.
use Rattle.std.specs.Prelude.{ℕ, ◌+◌, ◌*◌, ◌/◌, List, [], ◌∷◌, length, Err, Ok}
use Rattle.std.proofs.Math.Option.{Option, none, some}
use Rattle.std.proofs.lemmas.List.Edits.{sets}
use Rattle.lists.specs.Lists.{cleared}
use Rattle.rules.specs.Mesh.{Mesh, links, rims}
use Rattle.rules.specs.Position.{Numbers}
use Rattle.rules.specs.Levels.{last}
use Rattle.rules.specs.Refusals.{check, ◌or_else◌, refusal, Room, short_of}
use Rattle.rules.specs.declared.Refusal.{Refusal}
use Rattle.rules.specs.declared.Counts.{Counts}
use Rattle.rules.specs.Outcome.{Outcome}

-- the paper's five numbers: refusal number or 0, place, vertices, faces, rim sides
abbrev pub answer : Outcome → List ℕ
answer (Ok c) = 0 ∷ 0 ∷ c.vertices ∷ c.faces ∷ c.rims ∷ []
answer (Err r) = r.number ∷ r.place ∷ 0 ∷ 0 ∷ 0 ∷ []

-- counted on the mesh itself
abbrev pub counted : Mesh → Counts
counted m = record { vertices = m.verts; faces = length m.faces / 3; rims = rims (links m.faces) }

-- ---- "Lent at the final F and V"

abbrev pub three_each : Counts → ℕ
three_each c = 3 * c.vertices

abbrev pub corners : Counts → ℕ
corners c = 3 * c.faces

abbrev pub work_words : Counts → ℕ
work_words c = 16 * c.faces + 8 * c.vertices

abbrev pub work_coords : Counts → ℕ
work_coords c = 6 * c.vertices

abbrev pub room : ℕ → ℕ → ℕ → Room
room p l n = record { place = p; lent = l; needed = n }

-- from the lengths of positions, indices, work words and work coordinates; the f32 engine's normals come between
abbrev pub whole_rooms : ℕ → ℕ → ℕ → ℕ → Counts → List Room
whole_rooms ps is ws cs c = room 0 ps (three_each c) ∷ room 2 is (corners c) ∷ room 3 ws (work_words c) ∷ room 4 cs (work_coords c) ∷ []

abbrev pub single_rooms : ℕ → ℕ → ℕ → ℕ → ℕ → Counts → List Room
single_rooms ps ns is ws cs c =
    room 0 ps (three_each c) ∷ room 1 ns (three_each c) ∷ room 2 is (corners c) ∷ room 3 ws (work_words c) ∷ room 4 cs (work_coords c) ∷ []

-- ---- one outcome: the first refusal, else what comes after it

abbrev pub unless : Option Refusal → Outcome → Outcome
unless none o = o
unless (some r) o = Err r

unfoldable pub outcome : (𝓝 : Numbers) → (Counts → List Room) → ℕ → List ℕ → List 𝓝.N → Outcome
outcome 𝓝 rooms l fs xs =
    let c = counted (last 𝓝 l fs xs).mesh in
    let short = check 14 (short_of (rooms c)) in
    let done = Ok c in
    unless (refusal 𝓝 l fs xs or_else short) done

-- ---- what a lent buffer holds afterwards: a refusal writes nothing, and nothing past the needed length changes

abbrev pub written : {A : Type 0} → Outcome → List A → List A → List A
written (Ok c) front old = sets old 0 front
written (Err r) front old = old

abbrev pub zeroed : {A : Type 0} → Outcome → A → (Counts → ℕ) → List A → List A
zeroed (Ok c) z needed old = cleared z (needed c) old
zeroed (Err r) z needed old = old
