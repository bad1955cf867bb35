-- The refusals of the call, in their order, and what an accepted cage gives.
use Rattle.std.specs.Prelude.{Err, Ok}
use mathlib.Core.Path.{◌≡◌, refl, sym, ap, ◌∙◌}
use mathlib.Core.Logic.{◌≢◌}
use mathlib.Core.Bool.{Bool, true, false, ◌||◌}
use lib.Dec.{ltb}
use Prim.Native.Nat.{ℕ, ◌+◌, ◌*◌, ◌/◌, ◌<◌, ◌≤◌}
use native.Mathlib.Omega.{arith}
use mathlib.Core.List.{List, map}
use mathlib.Core.Option.{none}
use lib.ListN.{length, take, length-map}
use lib.Seq.{sets, length-sets}
use lib.IntN.{ℤ, pos}
use borrow.Author.Tests.{lt-ltb, le-ltb, ltb-false}
use Rattle.lists.proofs.Stores.{part_of}
use Rattle.whole.specs.Fraction.{of_whole}
use Rattle.rules.specs.Mesh.{onward, corner, links, Mesh}
use Rattle.rules.specs.Position.{whole, exact}
use Rattle.rules.specs.Levels.{last, positions, exact_limits}
use Rattle.rules.specs.Refusals.{refusal, Room, check, when, ◌or_else◌, most_levels}
use Rattle.rules.specs.Answers.{counted, unless, outcome, written, zeroed, work_words, work_coords}
use Rattle.rules.specs.Calls.{Lent, Buffers, whole_room, WholeCall}
use Rattle.rules.specs.declared.Refusal.{Refusal}
use Rattle.rules.specs.declared.Counts.{Counts}
use Rattle.rules.specs.Outcome.{Outcome}
use Rattle.rules.proofs.Cage.{accepted}
use Rattle.rules.proofs.Related.{same-mesh}
use Rattle.rules.proofs.Spokes.{length-limits}
use Rattle.room.proofs.Sizes.{Fits, fits}
use Rattle.loopsubdiv.proofs.Outcomes.{Done, done, whole_room_lem}
use Rattle.station.specs.Acceptance.{most_tolerance, held, station_outcome, judged, StationCall}
use Rattle.station.specs.declared.Verdict.{Verdict}
use Rattle.station.specs.declared.Verdict.TheVariants as verdicts

module _ (rooms : Counts → List Room) (t l : ℕ) (fs : List ℕ) (xs : List ℤ) where
  pub station-1 : 7 < l → station_outcome rooms t l fs xs ≡ Err (record { number = 1; place = 0 })
  unfolding station_outcome
  station-1 h = rw (lt-ltb 7 l h) refl

  pub station-tolerance : l ≤ 7 → 1000 < t → station_outcome rooms t l fs xs ≡ Err (record { number = 21; place = 0 })
  unfolding station_outcome
  station-tolerance h k = rw (le-ltb 7 l h, lt-ltb 1000 t k) refl

  pub station-level : l ≤ 7 → t ≤ 1000 → 1 < l → station_outcome rooms t l fs xs ≡ Err (record { number = 21; place = 0 })
  unfolding station_outcome
  station-level h k j = rw (le-ltb 7 l h, le-ltb 1000 t k, lt-ltb 1 l j) refl

  pub station-on : t ≤ 1000 → l ≤ 1 → station_outcome rooms t l fs xs ≡ outcome whole rooms l fs xs
  unfolding station_outcome
  station-on k h = let j : l ≤ 7 = omega arith in rw (le-ltb 7 l j, le-ltb 1000 t k, le-ltb 1 l h) refl

  -- what a success says
  module _ (c : Counts) where
    apart : (p q r : Bool) → unless (check 1 (when p) or_else check 21 (when (q || r))) (outcome whole rooms l fs xs) ≡ Ok c → (r ≡ false) × (outcome whole rooms l fs xs ≡ Ok c)
    apart true q r e = absurd (let z : ◌≡◌ {A = ℕ} 0 1 = cc in omega arith)
    apart false true true e = absurd (let z : ◌≡◌ {A = ℕ} 0 1 = cc in omega arith)
    apart false true false e = absurd (let z : ◌≡◌ {A = ℕ} 0 1 = cc in omega arith)
    apart false false true e = absurd (let z : ◌≡◌ {A = ℕ} 0 1 = cc in omega arith)
    apart false false false e = (refl, e)

    pub station-success : station_outcome rooms t l fs xs ≡ Ok c → (l ≤ 1) × (outcome whole rooms l fs xs ≡ Ok c)
    unfolding station_outcome
    station-success e = let a = apart (ltb most_levels l) (ltb most_tolerance t) (ltb 1 l) e in (ltb-false 1 l a.0, a.1)

-- ---- what the whole call leaves of an accepted cage

module _ (l : ℕ) (fs : List ℕ) (xs : List ℤ) (b : Lent (Buffers ℤ)) (r : Outcome) (c : Counts) (call : WholeCall l fs xs b r) (e : r ≡ Ok c) where
  abbrev ours : List ℕ
  ours = (last whole l fs xs).mesh.faces

  all_done : Done whole (whole_room b.old) l fs xs c
  all_done = done whole (whole_room b.old) l fs xs c (sym call.answer ∙ e)

  pub our-cage : refusal whole l fs xs ≡ none
  our-cage = all_done.passes

  counts : counted (last whole l fs xs).mesh ≡ c
  counts = all_done.counts

  fit : Fits whole fs xs l l
  fit = fits whole fs xs l (accepted whole l fs xs our-cage) l (omega arith)

  size : length ours ≡ 3 * c.faces
  size = let a = ap (λ (k : Counts). k.faces) counts in omega (arith, a, fit.sound.good.size)

  pub our-most : (c.faces ≤ 32768) × (c.vertices ≤ 32768)
  our-most =
      let a = ap (λ (k : Counts). k.faces) counts in
      let v = ap (λ (k : Counts). k.vertices) counts in
      (omega (arith, a, fit.faces, fit.most.0), omega (arith, v, fit.most.1))

  pub our-points : 3 * c.vertices ≡ length (exact_limits l fs xs)
  unfolding positions
  our-points =
      let x = last exact l fs (map of_whole xs) in
      ap (λ (k : Counts). 3 * k.vertices) (sym counts)
      ∙ ap (λ (m : Mesh). 3 * m.verts) (same-mesh whole exact l fs xs (map of_whole xs) (sym (length-map xs of_whole)))
      ∙ sym (length-limits exact x.mesh (links x.mesh.faces) x.points)

  left : b.new.indices ≡ sets b.old.indices 0 ours
  left = call.indices ∙ ap (λ (o : Outcome). written o ours b.old.indices) e

  room : 3 * c.faces ≤ length b.old.indices
  room =
      let o = b.old in
      (whole_room_lem (length o.positions) (length o.indices) (length o.words) (length o.work) c all_done.room).indices

  -- our faces stand at the front of the buffer
  pub our-room : 3 * c.faces ≤ length b.new.indices
  our-room = let h = ap (λ (x : List ℕ). length x) left ∙ length-sets b.old.indices 0 ours in omega (arith, room, h)

  pub our-faces : take (3 * c.faces) b.new.indices ≡ ours
  our-faces = rw left (part_of ours b.old.indices 0 (3 * c.faces) size (omega (arith, room)))

  -- a face has three different corners
  pub our-corners : (f : ℕ) → f < length ours / 3 → (corner ours (3 * f) ≢ corner ours (3 * f + 1)) × ((corner ours (3 * f + 1) ≢ corner ours (3 * f + 2)) × (corner ours (3 * f + 2) ≢ corner ours (3 * f)))
  our-corners f h =
      let g = fit.sound.good in
      let a : onward (3 * f) ≡ 3 * f + 1 = omega arith in
      let b : onward (3 * f + 1) ≡ 3 * f + 2 = omega arith in
      let d : onward (3 * f + 2) ≡ 3 * f = omega arith in
      let n = g.size in
      (rw a at (g.apart (3 * f) (omega (arith, h, n))), (rw b at (g.apart (3 * f + 1) (omega (arith, h, n))), rw d at (g.apart (3 * f + 2) (omega (arith, h, n)))))

  pub our-size : length (take (3 * c.faces) b.new.indices) ≡ 3 * c.faces
  our-size = ap (λ (x : List ℕ). length x) our-faces ∙ size

-- ---- the promise

module _ (t l : ℕ) (fs : List ℕ) (xs : List ℤ) (cs : List ℕ) (ys : List ℤ) where
  -- a refusal of its own leaves all as it was
  pub station-refused : (b : Buffers ℤ) (q : Refusal) (v : Verdict) → station_outcome (whole_room b) t l fs xs ≡ Err q → v ≡ verdicts.Refused q
      → StationCall t l fs xs cs ys (record { old = b; new = b }) v
  station-refused b q v e p =
      let h = held t (last whole l fs xs).mesh.faces (exact_limits l fs xs) cs ys in
      record {
        answer = p ∙ sym (ap (λ (o : Outcome). judged o h) e);
        call =
            record {
              answer = refl;
              positions = sym (ap (λ (o : Outcome). written o (positions whole (last whole l fs xs)) b.positions) e);
              indices = sym (ap (λ (o : Outcome). written o (last whole l fs xs).mesh.faces b.indices) e);
              words = sym (ap (λ (o : Outcome). zeroed o 0 work_words b.words) e);
              work = sym (ap (λ (o : Outcome). zeroed o (pos 0) work_coords b.work) e);
            };
      }

  -- and where it has none, the whole call has answered
  pub station-judged : (b : Lent (Buffers ℤ)) (r : Outcome) (v : Verdict) → t ≤ 1000 → l ≤ 1 → WholeCall l fs xs b r
      → v ≡ judged r (held t (last whole l fs xs).mesh.faces (exact_limits l fs xs) cs ys) → StationCall t l fs xs cs ys b v
  station-judged b r v k j c p =
      let h = held t (last whole l fs xs).mesh.faces (exact_limits l fs xs) cs ys in
      let e : r ≡ station_outcome (whole_room b.old) t l fs xs = c.answer ∙ sym (station-on (whole_room b.old) t l fs xs k j) in
      record {
        answer = p ∙ ap (λ (o : Outcome). judged o h) e;
        call =
            record {
              answer = refl;
              positions = c.positions ∙ ap (λ (o : Outcome). written o (positions whole (last whole l fs xs)) b.old.positions) e;
              indices = c.indices ∙ ap (λ (o : Outcome). written o (last whole l fs xs).mesh.faces b.old.indices) e;
              words = c.words ∙ ap (λ (o : Outcome). zeroed o 0 work_words b.old.words) e;
              work = c.work ∙ ap (λ (o : Outcome). zeroed o (pos 0) work_coords b.old.work) e;
            };
      }
