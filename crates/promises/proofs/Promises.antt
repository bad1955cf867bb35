-- What the promises say together: one outcome for each call, an answer to every call, nothing written by a refusal, the counts of the last level, and demand 3 of the
-- numbers that stand in the positions buffer.
use Rattle.std.specs.Prelude.{Err, Ok}
use mathlib.Core.Path.{◌≡◌, refl, sym, ap, ◌∙◌}
use Prim.Native.Nat.{ℕ, ◌+◌, ◌*◌, ◌/◌, ◌^◌, ◌<◌, ◌≤◌}
use native.Mathlib.Omega.{arith}
use mathlib.Core.List.{List}
use mathlib.Core.Option.{Option, none, some}
use lib.IntN.{ℤ, pos}
use lib.ListN.{length, get_or, take}
use lib.Seq.{sets}
use lib.Ieee.{Float}
use Rattle.lists.proofs.Stores.{part_of, get_or-within}
use Rattle.whole.specs.Fraction.{Within}
use Rattle.rules.specs.Mesh.{Mesh, links, rims, cage}
use Rattle.rules.specs.Position.{Numbers, whole, single, exact}
use Rattle.rules.specs.Levels.{coord, first, last, positions, exact_limits, Sizes, sizes, after}
use Rattle.rules.specs.Sheets.{bad_sheet, sheet_levels, sheet_indices, sheet_coords, sheet_outcome}
use Rattle.rules.specs.Tangents.{normals}
use Rattle.rules.specs.Answers.{answer, counted, unless, outcome, written, zeroed, work_words, work_coords}
use Rattle.rules.specs.Refusals.{Room, check, when}
use Rattle.rules.specs.declared.Refusal.{Refusal}
use Rattle.rules.specs.declared.Counts.{Counts}
use Rattle.rules.specs.Outcome.{Outcome}
use Rattle.rules.proofs.Demand.{demand-3}
use Rattle.rules.proofs.Cage.{accepted}
use Rattle.rules.proofs.Sound.{Sound}
use Rattle.rules.proofs.Levels.{level, sound-level, mesh-levels, counts-level, rims-level}
use Rattle.rules.proofs.Related.{same-mesh}
use Rattle.rules.proofs.Spokes.{length-positions}
use Rattle.loopsubdiv.proofs.Outcomes.{Done, done, WholeRoom, whole_room_lem, single-room}
use Rattle.rules.specs.Calls.{Lent, Buffers, Final, final, Call, whole_room, WholeCall, single_room, SingleCall, sheet_last, SheetCall, Told}

same : {N : Type 0} {a b : Buffers N} → a.positions ≡ b.positions → a.indices ≡ b.indices → a.words ≡ b.words → a.work ≡ b.work → a ≡ b
same {N} {a} {b} p i w k =
    ap {B = Buffers N} (λ z. record { positions = z; indices = a.indices; words = a.words; work = a.work }) p
    ∙ ap {B = Buffers N} (λ z. record { positions = b.positions; indices = z; words = a.words; work = a.work }) i
    ∙ ap {B = Buffers N} (λ z. record { positions = b.positions; indices = b.indices; words = z; work = a.work }) w
    ∙ ap {B = Buffers N} (λ z. record { positions = b.positions; indices = b.indices; words = b.words; work = z }) k

-- an entry of what is written at the front of a buffer that has room for it
pub stands : {A : Type 0} (front old : List A) (n i : ℕ) (d : A) → length front ≡ n → n ≤ length old → i < n → get_or (sets old 0 front) i d ≡ get_or front i d
stands front old n i d e h k = let z : 0 + i ≡ i = omega arith in rw z at (get_or-within front old 0 i d (omega arith) (omega arith))

-- ---- any call: of either engine, of a sheet

module _ (𝓝 : Numbers) (m : Final 𝓝.N) where
  -- the two are asked the same of the same buffers
  pub agree : (o p : Buffers 𝓝.N → Outcome) (b d : Lent (Buffers 𝓝.N)) (r q : Outcome) → o b.old ≡ p d.old → b.old ≡ d.old → Call 𝓝 o m b r → Call 𝓝 p m d q → r ≡ q × b.new ≡ d.new
  agree o p b d r q asked lent c k =
      let e : r ≡ q = c.answer ∙ asked ∙ sym k.answer in (
        e,
        same
            (c.positions ∙ ap {B = List 𝓝.N} (λ x. written x m.positions b.old.positions) e ∙ ap {B = List 𝓝.N} (λ (x : Buffers 𝓝.N). written q m.positions x.positions) lent ∙ sym k.positions)
            (c.indices ∙ ap {B = List ℕ} (λ x. written x m.faces b.old.indices) e ∙ ap {B = List ℕ} (λ (x : Buffers 𝓝.N). written q m.faces x.indices) lent ∙ sym k.indices)
            (c.words ∙ ap {B = List ℕ} (λ x. zeroed x 0 work_words b.old.words) e ∙ ap {B = List ℕ} (λ (x : Buffers 𝓝.N). zeroed q 0 work_words x.words) lent ∙ sym k.words)
            (c.work ∙ ap {B = List 𝓝.N} (λ x. zeroed x 𝓝.nought work_coords b.old.work) e ∙ ap {B = List 𝓝.N} (λ (x : Buffers 𝓝.N). zeroed q 𝓝.nought work_coords x.work) lent ∙ sym k.work),
      )

  module _ (o : Buffers 𝓝.N → Outcome) where
    -- two outcomes that are allowed are one, if the same is lent
    pub one-outcome : (b d : Lent (Buffers 𝓝.N)) (r q : Outcome) → b.old ≡ d.old → Call 𝓝 o m b r → Call 𝓝 o m d q → r ≡ q × b.new ≡ d.new
    one-outcome b d r q lent c k = agree o o b d r q (ap {B = Outcome} (λ x. o x) lent) lent c k

    -- every call has an outcome that is allowed, whatever is lent
    pub record Answered (old : Buffers 𝓝.N) : Type 0 where
      pub answer : Outcome
      pub new : Buffers 𝓝.N
      pub call : Call 𝓝 o m (record { old = old; new = new }) answer

    pub every-call-answers : (old : Buffers 𝓝.N) → Answered old
    every-call-answers old =
        let r = o old in
        record {
          answer = r;
          new = record {
            positions = written r m.positions old.positions;
            indices = written r m.faces old.indices;
            words = zeroed r 0 work_words old.words;
            work = zeroed r 𝓝.nought work_coords old.work;
          };
          call = record { answer = refl; positions = refl; indices = refl; words = refl; work = refl };
        }

    pub refusal-writes-nothing : (b : Lent (Buffers 𝓝.N)) (r : Refusal) → Call 𝓝 o m b (Err r) → b.new ≡ b.old
    refusal-writes-nothing b r c = same c.positions c.indices c.words c.work

-- ---- for C: where two outcomes that are allowed are one, they are told alike

pub one-outcome-told : (P Q : Outcome → Type 0) (X : Type 0) → ((r q : Outcome) → P r → Q q → r ≡ q × X) → (told also : List ℕ) → Told P told → Told Q also → told ≡ also × X
one-outcome-told P Q X one told also c d =
    let o = one c.outcome d.outcome c.kept d.kept in
    (c.five ∙ ap {B = List ℕ} (λ x. answer x) o.0 ∙ sym d.five, o.1)

-- ---- a call of either engine that succeeds

module _ (𝓝 : Numbers) (rooms : Buffers 𝓝.N → Counts → List Room) (l : ℕ) (fs : List ℕ) (xs : List 𝓝.N) (b : Lent (Buffers 𝓝.N)) (c : Counts)
    (call : Call 𝓝 (λ old. outcome 𝓝 (rooms old) l fs xs) (final 𝓝 (last 𝓝 l fs xs)) b (Ok c)) where
  abbrev control : Mesh
  control = cage (length xs / 3) fs

  pub told : Done 𝓝 (rooms b.old) l fs xs c
  told = done 𝓝 (rooms b.old) l fs xs c (sym call.answer)

  sound : Sound (length fs / 3) control
  sound = (accepted 𝓝 l fs xs told.passes).sound

  mesh-is : (last 𝓝 l fs xs).mesh ≡ level l control
  mesh-is = mesh-levels 𝓝 l (first 𝓝 fs xs)

  pub positions-long : length (positions 𝓝 (last 𝓝 l fs xs)) ≡ 3 * c.vertices
  positions-long = length-positions 𝓝 (last 𝓝 l fs xs) ∙ ap (λ (k : Counts). 3 * k.vertices) told.counts

  pub faces-long : length (last 𝓝 l fs xs).mesh.faces ≡ 3 * c.faces
  faces-long =
      let a = ap (λ (m : Mesh). length m.faces) mesh-is ∙ (sound-level l (length fs / 3) control sound).good.size in
      let b = ap (λ (k : Counts). k.faces) told.counts in
      omega (arith, a, b)

  -- no count is invented: with E edges one level gives V + E vertices, 4 F faces and 2 E + 3 F edges, and it makes two of each rim side
  pub final-counts : c.vertices ≡ (after l (sizes (cage (length xs / 3) fs))).verts × (c.faces ≡ (after l (sizes (cage (length xs / 3) fs))).faces × c.rims ≡ 2 ^ l * rims (links fs))
  unfolding cage
  final-counts =
      let z = counts-level l (length fs / 3) control sound in (
        sym (ap (λ (k : Counts). k.vertices) told.counts) ∙ ap (λ (m : Mesh). m.verts) mesh-is ∙ ap (λ (n : Sizes). n.verts) z,
        (
          sym (ap (λ (k : Counts). k.faces) told.counts) ∙ ap (λ (m : Mesh). length m.faces / 3) mesh-is ∙ ap (λ (n : Sizes). n.faces) z,
          sym (ap (λ (k : Counts). k.rims) told.counts) ∙ ap (λ (m : Mesh). rims (links m.faces)) mesh-is ∙ rims-level l (length fs / 3) control sound,
        ),
      )

  -- the faces of the last level stand in the buffer
  faces-stand : 3 * c.faces ≤ length b.old.indices → take (3 * c.faces) b.new.indices ≡ (last 𝓝 l fs xs).mesh.faces
  faces-stand h =
      ap (λ (x : List ℕ). take (3 * c.faces) x) call.indices
      ∙ part_of (last 𝓝 l fs xs).mesh.faces b.old.indices 0 (3 * c.faces) faces-long (omega arith)

-- ---- the whole call

module _ (l : ℕ) (fs : List ℕ) (xs : List ℤ) (b : Lent (Buffers ℤ)) (c : Counts) (call : WholeCall l fs xs b (Ok c)) where
  pub whole-rooms : WholeRoom (length b.old.positions) (length b.old.indices) (length b.old.words) (length b.old.work) c
  whole-rooms = whole_room_lem (length b.old.positions) (length b.old.indices) (length b.old.words) (length b.old.work) c (told whole whole_room l fs xs b c call).room

  pub whole-faces : take (3 * c.faces) b.new.indices ≡ (last whole l fs xs).mesh.faces
  whole-faces = faces-stand whole whole_room l fs xs b c call whole-rooms.indices

  -- and so do its positions
  pub whole-position : (v k : ℕ) → v < c.vertices → k < 3 → get_or b.new.positions (3 * v + k) (pos 0) ≡ coord whole (positions whole (last whole l fs xs)) k v
  whole-position v k h j =
      let ps = positions whole (last whole l fs xs) in
      ap (λ (x : List ℤ). get_or x (3 * v + k) (pos 0)) call.positions
      ∙ stands ps b.old.positions (3 * c.vertices) (3 * v + k) (pos 0) (positions-long whole whole_room l fs xs b c call) whole-rooms.positions (omega arith)

  -- demand 3: coordinate k of vertex v, as it stands in the buffer, is within (l + 1) / 2 of the exact limit position at l levels
  pub demand-3-of-the-call : (v k : ℕ) → v < c.vertices → k < 3 → Within (l + 1) (get_or b.new.positions (3 * v + k) (pos 0)) (coord exact (exact_limits l fs xs) k v)
  demand-3-of-the-call v k h j = rw (whole-position v k h j) (demand-3 l fs xs k v)

-- ---- the f32 call: as the whole one, with one more buffer

module _ (l : ℕ) (fs : List ℕ) (xs : List Float) where
  pub one-outcome-with-normals : (b d : Lent (Buffers Float)) (ns ms : Lent (List Float)) (r q : Outcome) → b.old ≡ d.old → ns.old ≡ ms.old
      → SingleCall l fs xs b ns r → SingleCall l fs xs d ms q → r ≡ q × (b.new ≡ d.new × ns.new ≡ ms.new)
  one-outcome-with-normals b d ns ms r q lent same-normals c k =
      let asked =
      ap {B = Outcome} (λ x. outcome single (single_room x b.old) l fs xs) same-normals
      ∙ ap {B = Outcome} (λ x. outcome single (single_room ms.old x) l fs xs) lent in
      let o =
      agree single (final single (last single l fs xs)) (λ old. outcome single (single_room ns.old old) l fs xs) (λ old. outcome single (single_room ms.old old) l fs xs) b d r q asked lent c.call k.call in (
        o.0,
        (
          o.1,
          c.normals ∙ ap {B = List Float} (λ x. written x (normals (last single l fs xs)) ns.old) o.0
              ∙ ap {B = List Float} (λ x. written q (normals (last single l fs xs)) x) same-normals ∙ sym k.normals,
        ),
      )

  pub refusal-writes-no-normals : (b : Lent (Buffers Float)) (ns : Lent (List Float)) (r : Refusal) → SingleCall l fs xs b ns (Err r) → b.new ≡ b.old × ns.new ≡ ns.old
  refusal-writes-no-normals b ns r c = (refusal-writes-nothing single (final single (last single l fs xs)) (λ old. outcome single (single_room ns.old old) l fs xs) b r c.call, c.normals)

  pub single-faces : (b : Lent (Buffers Float)) (ns : Lent (List Float)) (c : Counts) → SingleCall l fs xs b ns (Ok c) → take (3 * c.faces) b.new.indices ≡ (last single l fs xs).mesh.faces
  single-faces b ns c s =
      let r = single-room (length b.old.positions) (length ns.old) (length b.old.indices) (length b.old.words) (length b.old.work) c (told single (single_room ns.old) l fs xs b c s.call).room in
      faces-stand single (single_room ns.old) l fs xs b c s.call r.indices

-- ---- both engines answer with one mesh: the same counts, and the same faces in their buffers

pub same-faces : (l : ℕ) (fs : List ℕ) (xs : List ℤ) (ys : List Float) (b : Lent (Buffers ℤ)) (f : Lent (Buffers Float)) (ns : Lent (List Float)) (c d : Counts) → length xs ≡ length ys
    → WholeCall l fs xs b (Ok c) → SingleCall l fs ys f ns (Ok d) → c ≡ d × take (3 * c.faces) b.new.indices ≡ take (3 * d.faces) f.new.indices
same-faces l fs xs ys b f ns c d e w s =
    let m = same-mesh whole single l fs xs ys e in (
      sym (told whole whole_room l fs xs b c w).counts ∙ ap {B = Counts} (λ a. counted a) m ∙ (told single (single_room ns.old) l fs ys f d s.call).counts,
      whole-faces l fs xs b c w ∙ ap (λ (a : Mesh). a.faces) m ∙ sym (single-faces l fs ys f ns d s),
    )

-- ---- a sheet that is told to C

pub one-outcome-of-a-sheet-told : (bytes : List ℕ) (b d : Lent (Buffers ℤ)) (told also : List ℕ) → b.old ≡ d.old → Told (SheetCall bytes b) told → Told (SheetCall bytes d) also → told ≡ also × b.new ≡ d.new
one-outcome-of-a-sheet-told bytes b d told also lent c k =
    one-outcome-told (SheetCall bytes b) (SheetCall bytes d) (b.new ≡ d.new) (λ r q. one-outcome whole (final whole (sheet_last bytes)) (λ old. sheet_outcome (whole_room old) bytes) b d r q lent) told also c k

-- ---- a sheet that succeeds is the whole call on its lists

past-15 : (o : Option Refusal) (x : Outcome) (c : Counts) → unless o x ≡ Ok c → x ≡ Ok c
past-15 none x c e = e
past-15 (some r) x c e = absurd (let z : ◌≡◌ {A = ℕ} 0 1 = cc in omega arith)

module _ (bytes : List ℕ) (b : Lent (Buffers ℤ)) (c : Counts) (s : SheetCall bytes b (Ok c)) where
  pub call-of-a-sheet : WholeCall (sheet_levels bytes) (sheet_indices bytes) (sheet_coords bytes) b (Ok c)
  unfolding sheet_outcome
  call-of-a-sheet =
      record {
        answer = sym (past-15 (check 15 (when (bad_sheet bytes))) _ c (sym s.answer));
        positions = s.positions;
        indices = s.indices;
        words = s.words;
        work = s.work;
      }
