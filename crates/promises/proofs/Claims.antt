-- Request [10], of every call that keeps the station's promise: one outcome, an answer to every claim, nothing written by a refusal, the buffers as the whole call leaves them, a yes exactly
-- when the claim passes, and what a no names.
use Rattle.std.specs.Prelude.{Err, Ok}
use mathlib.Core.Path.{◌≡◌, refl, sym, ap, ◌∙◌}
use mathlib.Core.Logic.{◌≢◌}
use Prim.Native.Nat.{ℕ, ◌+◌, ◌*◌, ◌/◌, ◌<◌, ◌≤◌}
use native.Mathlib.Omega.{arith}
use mathlib.Core.Bool.{Bool, true, false, not, ◌&&◌}
use mathlib.Core.List.{List}
use mathlib.Core.Option.{Option, none, some}
use lib.Dec.{eqb}
use lib.IntN.{ℤ, pos}
use lib.ListN.{length, get_or}
use Rattle.lists.specs.Lists.{pick, lowest}
use Rattle.whole.specs.Fraction.{Fraction, of_whole, ◌≈F◌}
use Rattle.rules.specs.Mesh.{corner}
use Rattle.rules.specs.Position.{whole}
use Rattle.rules.specs.Levels.{last, positions, exact_limits}
use Rattle.rules.specs.Answers.{written, zeroed, work_words, work_coords}
use Rattle.rules.specs.Calls.{Lent, Buffers, final, whole_room, WholeCall}
use Rattle.rules.specs.declared.Refusal.{Refusal}
use Rattle.rules.specs.declared.Counts.{Counts}
use Rattle.rules.specs.Outcome.{Outcome}
use Rattle.station.specs.Acceptance.{same_face, Passes, far_at, face_at, held, station_outcome, judged, verdict, answer, StationCall, Plate, StationTold}
use Rattle.station.specs.declared.Fault.TheVariants.{Counts as CountsDiffer, Face, Far}
use Rattle.station.specs.declared.Verdict.{Verdict}
use Rattle.station.specs.declared.Verdict.TheVariants.{Yes, No, Refused}
use Rattle.station.proofs.Yes.{yes-passes, passes-yes}
use Rattle.station.proofs.Sure.{reversed-no, exact-at-0, ours-passes-at-1}
use Rattle.station.proofs.First.{First, FirstFar, face-first, far-first}
use Rattle.station.proofs.Order.{station-success, our-corners}
use Rattle.promises.proofs.Promises.{one-outcome, every-call-answers, refusal-writes-nothing}

-- to tell a refusal from the rest
abbrev refusing : Verdict → ℕ
refusing Yes = 0
refusing (No x) = 0
refusing (Refused r) = 1

-- what is held is judged, and never refused
held-judges : (t : ℕ) (fs : List ℕ) (es : List Fraction) (cs : List ℕ) (ys : List ℤ) → refusing (held t fs es cs ys) ≡ 0
unfolding held
held-judges t fs es cs ys =
    go (eqb (length cs) (length fs) && eqb (length ys) (length es)) (lowest _ (length fs / 3)) (lowest _ (length es))
  where
    go : (b : Bool) (o p : Option ℕ) → refusing (pick b (face_at t fs es cs ys o (far_at t fs es cs ys p)) (No CountsDiffer)) ≡ 0
    go false o p = refl
    go true none none = refl
    go true none (some i) = refl
    go true (some f) p = refl

module _ (t l : ℕ) (fs : List ℕ) (xs : List ℤ) (cs : List ℕ) (ys : List ℤ) where
  abbrev ours : List ℕ
  ours = (last whole l fs xs).mesh.faces

  abbrev limits : List Fraction
  limits = exact_limits l fs xs

  abbrev asked : Buffers ℤ → Outcome
  asked old = station_outcome (whole_room old) t l fs xs

  -- ---- two outcomes that are allowed are one, and there is one

  pub one-outcome-of-a-claim : (b d : Lent (Buffers ℤ)) (r q : Verdict) → b.old ≡ d.old → StationCall t l fs xs cs ys b r → StationCall t l fs xs cs ys d q → r ≡ q × b.new ≡ d.new
  one-outcome-of-a-claim b d r q lent c k = (
    c.answer ∙ ap {B = Verdict} (λ (x : Buffers ℤ). verdict (whole_room x) t l fs xs cs ys) lent ∙ sym k.answer,
    (one-outcome whole (final whole (last whole l fs xs)) asked b d (asked b.old) (asked d.old) lent c.call k.call).1,
  )

  pub record ClaimAnswered (old : Buffers ℤ) : Type 0 where
    pub verdict : Verdict
    pub new : Buffers ℤ
    pub call : StationCall t l fs xs cs ys (record { old = old; new = new }) verdict

  pub every-claim-is-answered : (old : Buffers ℤ) → ClaimAnswered old
  every-claim-is-answered old =
      let a = every-call-answers whole (final whole (last whole l fs xs)) asked old in
      record {
        verdict = verdict (whole_room old) t l fs xs cs ys;
        new = a.new;
        call = record { answer = refl; call = rw a.call.answer at a.call };
      }

  -- ---- a refusal, and what is none

  module _ (b : Lent (Buffers ℤ)) where
    abbrev said : Outcome
    said = asked b.old

    pub refusal-of-a-claim-writes-nothing : (r : Refusal) → StationCall t l fs xs cs ys b (Refused r) → b.new ≡ b.old
    refusal-of-a-claim-writes-nothing r c = go said refl c.answer
      where
        go : (o : Outcome) → said ≡ o → Refused r ≡ judged o (held t ours limits cs ys) → b.new ≡ b.old
        go (Ok n) e a = absurd (let z : ◌≡◌ {A = ℕ} 1 0 = ap refusing a ∙ held-judges t ours limits cs ys in omega arith)
        go (Err q) e a = refusal-writes-nothing whole (final whole (last whole l fs xs)) asked b q (rw e at c.call)

    -- the cage is accepted, the buffers are as the whole call leaves them, and the claim is held to the cage
    pub record Judged (r : Verdict) : Type 0 where
      pub counts : Counts
      pub few : l ≤ 1
      pub cut : WholeCall l fs xs b (Ok counts)
      pub verdict : r ≡ held t ours limits cs ys

    pub as-the-whole-call : (r : Verdict) → ((q : Refusal) → r ≢ Refused q) → StationCall t l fs xs cs ys b r → Judged r
    as-the-whole-call r no-refusal c = go said refl c.answer
      where
        go : (o : Outcome) → said ≡ o → r ≡ judged o (held t ours limits cs ys) → Judged r
        go (Ok n) e a =
            let s = station-success (whole_room b.old) t l fs xs n e in
            record {
              counts = n;
              few = s.0;
              cut =
                  record {
                    answer = sym s.1;
                    positions = c.call.positions ∙ ap (λ (o : Outcome). written o (positions whole (last whole l fs xs)) b.old.positions) e;
                    indices = c.call.indices ∙ ap (λ (o : Outcome). written o ours b.old.indices) e;
                    words = c.call.words ∙ ap (λ (o : Outcome). zeroed o 0 work_words b.old.words) e;
                    work = c.call.work ∙ ap (λ (o : Outcome). zeroed o (pos 0) work_coords b.old.work) e;
                  };
              verdict = a;
            }
        go (Err q) e a = absurd (no-refusal q a)

    -- ---- "Accept a claimed result exactly when .."

    yes-is-none : (q : Refusal) → Yes ≢ Refused q
    yes-is-none q e = let z : ◌≡◌ {A = ℕ} 0 1 = ap refusing e in omega arith

    pub yes-is-right : StationCall t l fs xs cs ys b Yes → Passes t ours limits cs ys
    yes-is-right c = yes-passes t ours limits cs ys (sym (as-the-whole-call Yes yes-is-none c).verdict)

    pub what-passes-gets-a-yes : (r : Verdict) → ((q : Refusal) → r ≢ Refused q) → StationCall t l fs xs cs ys b r → Passes t ours limits cs ys → r ≡ Yes
    what-passes-gets-a-yes r n c p = (as-the-whole-call r n c).verdict ∙ passes-yes t ours limits cs ys p

    -- "A face with reversed corners doesn't pass"
    pub reversed-gets-no-yes : (f : ℕ) → f < length ours / 3
        → corner cs (3 * f) ≡ corner ours (3 * f + 2) → corner cs (3 * f + 1) ≡ corner ours (3 * f + 1) → corner cs (3 * f + 2) ≡ corner ours (3 * f)
        → StationCall t l fs xs cs ys b Yes → ⊥
    reversed-gets-no-yes f h p q s c =
        let j = as-the-whole-call Yes yes-is-none c in
        let a = our-corners l fs xs b (Ok j.counts) j.counts j.cut refl f h in
        rw (reversed-no ours cs f a.0 a.1.0 a.1.1 p q s) at ((yes-is-right c).turns f h)

    -- ---- a no names what is first: all before it pass

    face-is-none : (f : ℕ) (q : Refusal) → No (Face f) ≢ Refused q
    face-is-none f q e = let z : ◌≡◌ {A = ℕ} 0 1 = ap refusing e in omega arith

    far-is-none : (i k : ℕ) (q : Refusal) → No (Far i k) ≢ Refused q
    far-is-none i k q e = let z : ◌≡◌ {A = ℕ} 0 1 = ap refusing e in omega arith

    pub first-wrong-face : (f : ℕ) → StationCall t l fs xs cs ys b (No (Face f)) → First (λ g. not (same_face ours cs g)) (length ours / 3) f
    first-wrong-face f c = face-first t ours limits cs ys f (sym (as-the-whole-call (No (Face f)) (face-is-none f) c).verdict)

    pub first-far-coordinate : (i k : ℕ) → StationCall t l fs xs cs ys b (No (Far i k)) → FirstFar t ours limits cs ys i k
    first-far-coordinate i k c = far-first t ours limits cs ys i k (sym (as-the-whole-call (No (Far i k)) (far-is-none i k) c).verdict)

-- for C
pub one-outcome-of-a-claim-told : (t l : ℕ) (cage claim : Plate) (b d : Lent (Buffers ℤ)) (told also : List ℕ) → b.old ≡ d.old
    → StationTold t l cage claim b told → StationTold t l cage claim d also → told ≡ also × b.new ≡ d.new
one-outcome-of-a-claim-told t l cage claim b d told also lent c k =
    let o = one-outcome-of-a-claim t l cage.faces cage.coords claim.faces claim.coords b d c.answered k.answered lent c.kept k.kept in
    (c.six ∙ ap {B = List ℕ} (λ v. answer v) o.0 ∙ sym k.six, o.1)

-- "passes at tolerance 0 only where the exact value is whole"
pub exact-at-0-of-the-call : (l : ℕ) (fs : List ℕ) (xs : List ℤ) (cs : List ℕ) (ys : List ℤ) (b : Lent (Buffers ℤ)) → StationCall 0 l fs xs cs ys b Yes
    → (i : ℕ) → i < length (exact_limits l fs xs) → get_or (exact_limits l fs xs) i (of_whole (pos 0)) ≈F of_whole (get_or ys i (pos 0))
exact-at-0-of-the-call l fs xs cs ys b c i h =
    exact-at-0 (get_or ys i (pos 0)) (get_or (exact_limits l fs xs) i (of_whole (pos 0))) ((yes-is-right 0 l fs xs cs ys b c).near i h)

-- our own answer passes at tolerance 1
pub ours-gets-a-yes-at-1 : (l : ℕ) (fs : List ℕ) (xs : List ℤ) (b : Lent (Buffers ℤ)) (r : Verdict) → ((q : Refusal) → r ≢ Refused q)
    → StationCall 1 l fs xs (last whole l fs xs).mesh.faces (positions whole (last whole l fs xs)) b r → r ≡ Yes
ours-gets-a-yes-at-1 l fs xs b r n c =
    let cs = (last whole l fs xs).mesh.faces in
    let ys = positions whole (last whole l fs xs) in
    what-passes-gets-a-yes 1 l fs xs cs ys b r n c (ours-passes-at-1 l fs xs (as-the-whole-call 1 l fs xs cs ys b r n c).few)
