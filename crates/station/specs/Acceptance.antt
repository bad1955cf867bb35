-- Request [10]: "Plates made elsewhere".
use Rattle.std.specs.Prelude.{ℕ, ◌+◌, ◌-◌, ◌*◌, ◌/◌, ◌%◌, ◌<◌, ◌≡◌, Bool, not, ◌&&◌, ◌||◌, List, [], ◌∷◌, T, eqb, ltb, length, get_or, ℤ, pos, nat_abs, ◌-ℤ◌, ◌*ℤ◌, Err, Ok}
use Rattle.std.proofs.Math.Option.{Option, none, some}
use Rattle.std.specs.Borrow.{Bor}
use denote.Triple.Both.{Both}
use Rattle.lists.specs.Lists.{pick, lowest}
use Rattle.whole.specs.Fraction.{Fraction, of_whole, Within}
use Rattle.rules.specs.Mesh.{corner}
use Rattle.rules.specs.Position.{whole}
use Rattle.rules.specs.Levels.{last, exact_limits}
use Rattle.rules.specs.Refusals.{check, when, ◌or_else◌, Room, most_levels}
use Rattle.rules.specs.Answers.{outcome, unless}
use Rattle.rules.specs.Calls.{given, Lent, Buffers, whole_room, Call, final}
use Rattle.rules.specs.declared.Counts.{Counts}
use Rattle.rules.specs.Outcome.{Outcome}
use Rattle.station.specs.declared.Fault.{Fault}
use Rattle.station.specs.declared.Fault.TheVariants.{Counts as CountsDiffer, Face, Far}
use Rattle.station.specs.declared.Verdict.{Verdict}
use Rattle.station.specs.declared.Verdict.TheVariants.{Yes, No, Refused}

-- ---- "each face equals ours in the same position up to turning its three corners round"

-- face f of the claim is ours, begun k corners on
abbrev pub turned : List ℕ → List ℕ → ℕ → ℕ → Bool
turned fs cs f k =
    eqb (corner cs (3 * f)) (corner fs (3 * f + k)) && eqb (corner cs (3 * f + 1)) (corner fs (3 * f + (k + 1) % 3)) && eqb (corner cs (3 * f + 2)) (corner fs (3 * f + (k + 2) % 3))

abbrev pub same_face : List ℕ → List ℕ → ℕ → Bool
same_face fs cs f = turned fs cs f 0 || turned fs cs f 1 || turned fs cs f 2

-- ---- "within a tolerance .. of the exact limit value": the least whole tolerance at which y passes for the fraction e

unfoldable pub needs : ℤ → Fraction → ℕ
needs y e = (nat_abs (y *ℤ pos e.den -ℤ e.num) + (e.den - 1)) / e.den

abbrev pub needs_at : List Fraction → List ℤ → ℕ → ℕ
needs_at es ys i = needs (get_or ys i (pos 0)) (get_or es i (of_whole (pos 0)))

-- ---- a claim, held at tolerance t to our faces fs and the exact limits es: counts, then faces, then coordinates, lowest first

module _ (t : ℕ) (fs : List ℕ) (es : List Fraction) (cs : List ℕ) (ys : List ℤ) where
  -- the claim passes
  pub record Passes : Type 0 where
    pub faces : length cs ≡ length fs
    pub points : length ys ≡ length es
    pub turns : (f : ℕ) → f < length fs / 3 → T (same_face fs cs f)
    pub near : (i : ℕ) → i < length es → Within (2 * t) (get_or ys i (pos 0)) (get_or es i (of_whole (pos 0)))

  abbrev pub far_at : Option ℕ → Verdict
  far_at none = Yes
  far_at (some i) = No (Far i (needs_at es ys i))

  abbrev pub face_at : Option ℕ → Verdict → Verdict
  face_at none r = r
  face_at (some f) r = No (Face f)

  unfoldable pub held : Verdict
  held =
      let far = far_at (lowest (λ i. ltb t (needs_at es ys i)) (length es)) in
      let face = face_at (lowest (λ f. not (same_face fs cs f)) (length fs / 3)) far in
      pick (eqb (length cs) (length fs) && eqb (length ys) (length es)) face (No CountsDiffer)

-- ---- "21, tolerance out of range or level over 1, right after 1"; then all that the whole call refuses

abbrev pub most_tolerance : ℕ
most_tolerance = 1000

unfoldable pub station_outcome : (Counts → List Room) → ℕ → ℕ → List ℕ → List ℤ → Outcome
station_outcome rooms t l fs xs =
    let o = outcome whole rooms l fs xs in
    unless (check 1 (when (ltb most_levels l)) or_else check 21 (when (ltb most_tolerance t || ltb 1 l))) o

abbrev pub judged : Outcome → Verdict → Verdict
judged (Ok c) v = v
judged (Err r) v = Refused r

-- the verdict on a claim cs, ys of the cage fs, xs at l levels
abbrev pub verdict : (Counts → List Room) → ℕ → ℕ → List ℕ → List ℤ → List ℕ → List ℤ → Verdict
verdict rooms t l fs xs cs ys =
    let h = held t (last whole l fs xs).mesh.faces (exact_limits l fs xs) cs ys in
    judged (station_outcome rooms t l fs xs) h

-- `accept`: tolerance, levels, face list, coordinates, the claim's faces and coordinates. It "leaves [its buffers] as the whole call does"
pub record StationCall (t l : ℕ) (fs : List ℕ) (xs : List ℤ) (cs : List ℕ) (ys : List ℤ) (b : Lent (Buffers ℤ)) (r : Verdict) : Type 0 where
  pub answer : r ≡ verdict (whole_room b.old) t l fs xs cs ys
  pub call : Call whole (λ old. station_outcome (whole_room old) t l fs xs) (final whole (last whole l fs xs)) b (station_outcome (whole_room b.old) t l fs xs)

-- for C, the verdict in six numbers: refusal number or 0, place; 1 for yes; what is wrong (1 counts, 2 a face, 3 a coordinate), where, and the tolerance that it needs
abbrev pub fault_numbers : Fault → List ℕ
fault_numbers CountsDiffer = 1 ∷ 0 ∷ 0 ∷ []
fault_numbers (Face f) = 2 ∷ f ∷ 0 ∷ []
fault_numbers (Far i k) = 3 ∷ i ∷ k ∷ []

abbrev pub answer : Verdict → List ℕ
answer Yes = 0 ∷ 0 ∷ 1 ∷ 0 ∷ 0 ∷ 0 ∷ []
answer (No x) = 0 ∷ 0 ∷ 0 ∷ fault_numbers x
answer (Refused r) = r.number ∷ r.place ∷ 0 ∷ 0 ∷ 0 ∷ 0 ∷ []

-- a face list and its coordinates as they are lent: of the cage, and of the claim
pub record Plate : Type 0 where
  pub faces : List ℕ
  pub coords : List ℤ

abbrev pub plate : {X Y : Type 0} → Both (Bor (List ℕ)) X → Both (Bor (List ℤ)) Y → Plate
plate fs xs = record { faces = given fs; coords = given xs }

pub record StationTold (t l : ℕ) (cage claim : Plate) (b : Lent (Buffers ℤ)) (told : List ℕ) : Type 0 where
  pub answered : Verdict
  pub kept : StationCall t l cage.faces cage.coords claim.faces claim.coords b answered
  pub six : told ≡ answer answered
