-- Request 14: a larger limit on valence. What was accepted is accepted with the same counts, and what was refused with another number than 12 is refused the same. Mesh, positions and
-- normals are defined with no limit, so an accepted cage gets the same of them too.
use Rattle.std.specs.Prelude.{Err, Ok}
use mathlib.Core.Path.{◌≡◌, refl, sym, ap}
use mathlib.Core.Logic.{◌≢◌}
use Prim.Native.Nat.{ℕ, ◌/◌, ◌≤◌}
use native.Mathlib.Omega.{arith}
use mathlib.Core.Bool.{not}
use mathlib.Core.List.{List}
use mathlib.Core.Option.{Option, none, some}
use lib.Dec.{eqb, ltb, nltb→le}
use lib.Arith.{le→nltb}
use lib.ListN.{length}
use Rattle.lists.specs.Lists.{find, found, lowest}
use Rattle.turns.specs.Turns.{most_valence}
use Rattle.rules.specs.Mesh.{links, valence}
use Rattle.rules.specs.Position.{Numbers}
use Rattle.rules.specs.Levels.{last}
use Rattle.rules.specs.Refusals.{check, ◌or_else◌, parted, fans_of, shape_refusal, range_refusal, list_refusal, fan_refusal, size_refusal, mesh_refusal, refusal, Room, short_of}
use Rattle.rules.specs.Answers.{counted, unless, outcome}
use Rattle.rules.specs.Sharp.{unlinked, told, sharp_last, sharp_refusal, sharp_outcome}
use Rattle.rules.specs.declared.Refusal.{Refusal}
use Rattle.rules.specs.declared.Counts.{Counts}
use Rattle.rules.specs.Outcome.{Outcome}
use Rattle.lists.proofs.Places.{lowest-none, lowest-all}
use Rattle.rules.proofs.Checks.{check-none}

-- ---- the table with the limit a

unfoldable pub fan_refusal_to : ℕ → ℕ → List ℕ → Option Refusal
fan_refusal_to a v fs =
    let fans = fans_of v fs in
    check 9 (lowest (λ u. not (found (find (eqb u) fs))) v)
    or_else check 10 (lowest (parted fs fans) v)
    or_else check 12 (lowest (λ u. ltb a (valence (fans u))) v)

module _ (a : ℕ) (𝓝 : Numbers) where
  unfoldable pub mesh_refusal_to : ℕ → List ℕ → List 𝓝.N → Option Refusal
  mesh_refusal_to l fs xs =
      let v = length xs / 3 in
      let fans = fan_refusal_to a v fs in
      shape_refusal l (length fs) (length xs) or_else range_refusal 𝓝 xs or_else list_refusal v fs or_else fans

  unfoldable pub refusal_to : ℕ → List ℕ → List 𝓝.N → Option Refusal
  refusal_to l fs xs =
      let v = length xs / 3 in
      let fans = fan_refusal_to a v fs in
      let size = size_refusal l v fs in
      shape_refusal l (length fs) (length xs) or_else range_refusal 𝓝 xs or_else list_refusal v fs or_else fans or_else size

  unfoldable pub sharp_refusal_to : ℕ → List ℕ → List ℕ → List 𝓝.N → Option Refusal
  sharp_refusal_to n l fs xs =
      let v = length xs / 3 in
      let fans = fan_refusal_to a v fs in
      let marks = check 18 (told (find (unlinked (links fs)) l)) in
      let size = size_refusal n v fs in
      shape_refusal n (length fs) (length xs) or_else range_refusal 𝓝 xs or_else list_refusal v fs or_else fans or_else marks or_else size

  unfoldable pub outcome_to : (Counts → List Room) → ℕ → List ℕ → List 𝓝.N → Outcome
  outcome_to rooms l fs xs =
      let c = counted (last 𝓝 l fs xs).mesh in
      let short = check 14 (short_of (rooms c)) in
      let done = Ok c in
      unless (refusal_to l fs xs or_else short) done

  unfoldable pub sharp_outcome_to : (Counts → List Room) → ℕ → List ℕ → List ℕ → List 𝓝.N → Outcome
  sharp_outcome_to rooms n l fs xs =
      let c = counted (sharp_last 𝓝 n l fs xs).mesh in
      let short = check 14 (short_of (rooms c)) in
      let done = Ok c in
      unless (sharp_refusal_to n l fs xs or_else short) done

-- ---- p none: q none; p another number than 12: q the same

pub record Looser (p q : Option Refusal) : Type 0 where
  pub passes : p ≡ none → q ≡ none
  pub others : (r : Refusal) → p ≡ some r → r.number ≢ 12 → q ≡ some r

same : (p : Option Refusal) → Looser p p
same p = record { passes = λ e. e; others = λ r e d. e }

after : (a p q : Option Refusal) → Looser p q → Looser (a or_else p) (a or_else q)
after none p q w = w
after (some x) p q w = record { passes = λ e. absurd (let z : ◌≡◌ {A = ℕ} 0 1 = cc in omega arith); others = λ r e d. e }

before : (p q b : Option Refusal) → Looser p q → Looser (p or_else b) (q or_else b)
before none q b w = let z : q ≡ none = w.passes refl in rw z (same b)
before (some x) q b w = record {
  passes = λ e. absurd (let z : ◌≡◌ {A = ℕ} 0 1 = cc in omega arith);
  others = λ r e d. let z : q ≡ some r = w.others r e d in rw z refl;
}

-- the same of outcomes
pub record Kept (p q : Outcome) : Type 0 where
  pub passes : (c : Counts) → p ≡ Ok c → q ≡ Ok c
  pub others : (r : Refusal) → p ≡ Err r → r.number ≢ 12 → q ≡ Err r

kept : (p q : Option Refusal) (o : Outcome) → Looser p q → Kept (unless p o) (unless q o)
kept none q o w = let z : q ≡ none = w.passes refl in rw z (record { passes = λ c e. e; others = λ r e d. e })
kept (some x) q o w = record {
  passes = λ c e. absurd (let z : ◌≡◌ {A = ℕ} 0 1 = cc in omega arith);
  others = λ r e d. let i : ◌≡◌ {A = Refusal} x r = cc in let z : q ≡ some r = w.others r (ap some i) d in rw z refl;
}

-- ---- up the table

twelve : (a b : ℕ) → a ≤ b → (v : ℕ) (f : ℕ → ℕ) → Looser (check 12 (lowest (λ u. ltb a (f u)) v)) (check 12 (lowest (λ u. ltb b (f u)) v))
twelve a b h v f = record {
  passes = λ e. ap (check 12) (lowest-all (λ u. ltb b (f u)) v (λ u k. let w = nltb→le a (f u) (lowest-none (λ u. ltb a (f u)) v (check-none 12 _ e) u k) in le→nltb b (f u) (omega arith)));
  others = λ r e d. absurd (d (numbered (lowest (λ u. ltb a (f u)) v) r e));
}
  where
    numbered : (o : Option ℕ) (r : Refusal) → check 12 o ≡ some r → r.number ≡ 12
    numbered none r e = absurd (let z : ◌≡◌ {A = ℕ} 0 1 = cc in omega arith)
    numbered (some i) r e = let z : ◌≡◌ {A = Refusal} (record { number = 12; place = i }) r = cc in ap (λ (x : Refusal). x.number) (sym z)

fans-looser : (a : ℕ) → a ≤ most_valence → (v : ℕ) (fs : List ℕ) → Looser (fan_refusal_to a v fs) (fan_refusal v fs)
unfolding fan_refusal_to fan_refusal
fans-looser a h v fs =
    let nine = check 9 (lowest (λ u. not (found (find (eqb u) fs))) v) in
    let ten = check 10 (lowest (parted fs (fans_of v fs)) v) in
    let p = check 12 (lowest (λ u. ltb a (valence (fans_of v fs u))) v) in
    let q = check 12 (lowest (λ u. ltb most_valence (valence (fans_of v fs u))) v) in
    after nine (ten or_else p) (ten or_else q) (after ten p q (twelve a most_valence h v (λ u. valence (fans_of v fs u))))

module _ (a : ℕ) (h : a ≤ most_valence) (𝓝 : Numbers) (l : ℕ) (fs : List ℕ) (xs : List 𝓝.N) where
  -- what comes before the fans
  in-chain : (p q : Option Refusal) → Looser p q → (let v = length xs / 3 in
      Looser (shape_refusal l (length fs) (length xs) or_else range_refusal 𝓝 xs or_else list_refusal v fs or_else p) (shape_refusal l (length fs) (length xs) or_else range_refusal 𝓝 xs or_else list_refusal v fs or_else q))
  in-chain p q w =
      let one = shape_refusal l (length fs) (length xs) in
      let two = range_refusal 𝓝 xs in
      let three = list_refusal (length xs / 3) fs in
      after one (two or_else three or_else p) (two or_else three or_else q) (after two (three or_else p) (three or_else q) (after three p q w))

  fans : Looser (fan_refusal_to a (length xs / 3) fs) (fan_refusal (length xs / 3) fs)
  fans = fans-looser a h (length xs / 3) fs

  -- the writer's table, that of the f32 engine and of sheets, and that with marks
  pub mesh-looser : Looser (mesh_refusal_to a 𝓝 l fs xs) (mesh_refusal 𝓝 l fs xs)
  unfolding mesh_refusal_to mesh_refusal
  mesh-looser = in-chain (fan_refusal_to a (length xs / 3) fs) (fan_refusal (length xs / 3) fs) fans

  pub looser : Looser (refusal_to a 𝓝 l fs xs) (refusal 𝓝 l fs xs)
  unfolding refusal_to refusal
  looser =
      let p = fan_refusal_to a (length xs / 3) fs in
      let q = fan_refusal (length xs / 3) fs in
      let size = size_refusal l (length xs / 3) fs in
      in-chain (p or_else size) (q or_else size) (before p q size fans)

  pub sharp-looser : (sharp : List ℕ) → Looser (sharp_refusal_to a 𝓝 l sharp fs xs) (sharp_refusal 𝓝 l sharp fs xs)
  unfolding sharp_refusal_to sharp_refusal
  sharp-looser sharp =
      let p = fan_refusal_to a (length xs / 3) fs in
      let q = fan_refusal (length xs / 3) fs in
      let rest = check 18 (told (find (unlinked (links fs)) sharp)) or_else size_refusal l (length xs / 3) fs in
      in-chain (p or_else rest) (q or_else rest) (before p q rest fans)

  -- and so each outcome, which says what is left in every buffer
  pub outcome-kept : (rooms : Counts → List Room) → Kept (outcome_to a 𝓝 rooms l fs xs) (outcome 𝓝 rooms l fs xs)
  unfolding outcome_to outcome
  outcome-kept rooms =
      let c = counted (last 𝓝 l fs xs).mesh in
      let short = check 14 (short_of (rooms c)) in
      let p = refusal_to a 𝓝 l fs xs in
      let q = refusal 𝓝 l fs xs in
      kept (p or_else short) (q or_else short) (Ok c) (before p q short looser)

  pub sharp-outcome-kept : (rooms : Counts → List Room) (sharp : List ℕ) → Kept (sharp_outcome_to a 𝓝 rooms l sharp fs xs) (sharp_outcome 𝓝 rooms l sharp fs xs)
  unfolding sharp_outcome_to sharp_outcome
  sharp-outcome-kept rooms sharp =
      let c = counted (sharp_last 𝓝 l sharp fs xs).mesh in
      let short = check 14 (short_of (rooms c)) in
      let p = sharp_refusal_to a 𝓝 l sharp fs xs in
      let q = sharp_refusal 𝓝 l sharp fs xs in
      kept (p or_else short) (q or_else short) (Ok c) (before p q short (sharp-looser sharp))

-- at the limit itself they are the tables and outcomes of today
module _ (𝓝 : Numbers) (l : ℕ) (fs : List ℕ) (xs : List 𝓝.N) where
  pub is-mesh-refusal : mesh_refusal_to most_valence 𝓝 l fs xs ≡ mesh_refusal 𝓝 l fs xs
  unfolding mesh_refusal_to mesh_refusal fan_refusal_to fan_refusal
  is-mesh-refusal = refl

  pub is-outcome : (rooms : Counts → List Room) → outcome_to most_valence 𝓝 rooms l fs xs ≡ outcome 𝓝 rooms l fs xs
  unfolding outcome_to outcome refusal_to refusal fan_refusal_to fan_refusal
  is-outcome rooms = refl

  pub is-sharp-outcome : (rooms : Counts → List Room) (sharp : List ℕ) → sharp_outcome_to most_valence 𝓝 rooms l sharp fs xs ≡ sharp_outcome 𝓝 rooms l sharp fs xs
  unfolding sharp_outcome_to sharp_outcome sharp_refusal_to sharp_refusal fan_refusal_to fan_refusal
  is-sharp-outcome rooms sharp = refl
