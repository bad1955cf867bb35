-- What an outcome says: which refusal it is, or that there is none and every buffer is long enough.
use Rattle.std.specs.Prelude.{Err, Ok}
use mathlib.Core.Path.{◌≡◌, refl}
use Prim.Native.Nat.{ℕ, ◌+◌, ◌*◌, ◌≤◌}
use native.Mathlib.Omega.{arith}
use mathlib.Core.List.{List}
use mathlib.Core.Option.{Option, none, some}
use lib.Dec.{ltb}
use borrow.Author.Tests.{ltb-false}
use Rattle.lists.proofs.Places.{skip}
use Rattle.rules.specs.Position.{Numbers}
use Rattle.rules.specs.Levels.{last}
use Rattle.rules.specs.Refusals.{check, ◌or_else◌, refusal, Room, short_of}
use Rattle.rules.specs.Answers.{counted, unless, outcome, whole_rooms, single_rooms, three_each, corners, work_words, work_coords}
use Rattle.rules.specs.declared.Refusal.{Refusal}
use Rattle.rules.specs.declared.Counts.{Counts}
use Rattle.rules.specs.Outcome.{Outcome}

none-some : {A : Type 0} {x : A} → ◌≡◌ {A = Option A} (some x) none → ⊥
none-some e = let z : ◌≡◌ {A = ℕ} 0 1 = cc in omega arith

pub success-inv : (o : Option Refusal) (c k : Counts) → unless o (Ok c) ≡ Ok k → (o ≡ none) × (c ≡ k)
success-inv none c k e = (refl, cc)
success-inv (some r) c k e = absurd (let z : ◌≡◌ {A = ℕ} 0 1 = cc in omega arith)

pub refused-inv : (o : Option Refusal) (c : Counts) (r : Refusal) → unless o (Ok c) ≡ Err r → o ≡ some r
refused-inv none c r e = absurd (let z : ◌≡◌ {A = ℕ} 0 1 = cc in omega arith)
refused-inv (some q) c r e = cc

-- ---- an outcome in two steps: the checks of the cage, then the room

module _ (𝓝 : Numbers) (rooms : Counts → List Room) (l : ℕ) (fs : List ℕ) (xs : List 𝓝.N) where
  abbrev pub judged : Outcome
  judged = unless (refusal 𝓝 l fs xs) (Ok (counted (last 𝓝 l fs xs).mesh))

  pub then-refused : (r : Refusal) → judged ≡ Err r → outcome 𝓝 rooms l fs xs ≡ Err r
  unfolding outcome
  then-refused r e = rw (refused-inv (refusal 𝓝 l fs xs) (counted (last 𝓝 l fs xs).mesh) r e)

  pub then-room : (c : Counts) → judged ≡ Ok c → outcome 𝓝 rooms l fs xs ≡ unless (check 14 (short_of (rooms c))) (Ok c)
  unfolding outcome
  then-room c e =
      let i = success-inv (refusal 𝓝 l fs xs) (counted (last 𝓝 l fs xs).mesh) c e in
      rw (i.0, i.1)

  pub record Done (c : Counts) : Type 0 where
    pub passes : refusal 𝓝 l fs xs ≡ none
    pub counts : counted (last 𝓝 l fs xs).mesh ≡ c
    pub room : short_of (rooms c) ≡ none

  pub done : (c : Counts) → outcome 𝓝 rooms l fs xs ≡ Ok c → Done c
  unfolding outcome
  done c e = go (refusal 𝓝 l fs xs) (short_of (rooms (counted (last 𝓝 l fs xs).mesh))) refl refl e
    where
      go : (o : Option Refusal) (s : Option ℕ) → refusal 𝓝 l fs xs ≡ o → short_of (rooms (counted (last 𝓝 l fs xs).mesh)) ≡ s
          → unless (o or_else check 14 s) (Ok (counted (last 𝓝 l fs xs).mesh)) ≡ Ok c → Done c
      go none none p q e = let m : counted (last 𝓝 l fs xs).mesh ≡ c = cc in record { passes = p; counts = m; room = rw m at q }
      go none (some i) p q e = absurd (let z : ◌≡◌ {A = ℕ} 0 1 = cc in omega arith)
      go (some r) s p q e = absurd (let z : ◌≡◌ {A = ℕ} 0 1 = cc in omega arith)

-- ---- room in each buffer

pub record WholeRoom (ps is ws cs : ℕ) (c : Counts) : Type 0 where
  pub positions : 3 * c.vertices ≤ ps
  pub indices : 3 * c.faces ≤ is
  pub words : 16 * c.faces + 8 * c.vertices ≤ ws
  pub coords : 6 * c.vertices ≤ cs

pub whole_room_lem : (ps is ws cs : ℕ) (c : Counts) → short_of (whole_rooms ps is ws cs c) ≡ none → WholeRoom ps is ws cs c
whole_room_lem ps is ws cs c e =
    let a = skip (ltb ps (three_each c)) none-some e in
    let b = skip (ltb is (corners c)) none-some a.1 in
    let d = skip (ltb ws (work_words c)) none-some b.1 in
    let f = skip (ltb cs (work_coords c)) none-some d.1 in
    record { positions = ltb-false _ _ a.0; indices = ltb-false _ _ b.0; words = ltb-false _ _ d.0; coords = ltb-false _ _ f.0 }

pub record SingleRoom (ps ns is ws cs : ℕ) (c : Counts) : Type 0 where
  pub positions : 3 * c.vertices ≤ ps
  pub normals : 3 * c.vertices ≤ ns
  pub indices : 3 * c.faces ≤ is
  pub words : 16 * c.faces + 8 * c.vertices ≤ ws
  pub coords : 6 * c.vertices ≤ cs

pub single-room : (ps ns is ws cs : ℕ) (c : Counts) → short_of (single_rooms ps ns is ws cs c) ≡ none → SingleRoom ps ns is ws cs c
single-room ps ns is ws cs c e =
    let a = skip (ltb ps (three_each c)) none-some e in
    let n = skip (ltb ns (three_each c)) none-some a.1 in
    let b = skip (ltb is (corners c)) none-some n.1 in
    let d = skip (ltb ws (work_words c)) none-some b.1 in
    let f = skip (ltb cs (work_coords c)) none-some d.1 in
    record { positions = ltb-false _ _ a.0; normals = ltb-false _ _ n.0; indices = ltb-false _ _ b.0; words = ltb-false _ _ d.0; coords = ltb-false _ _ f.0 }
