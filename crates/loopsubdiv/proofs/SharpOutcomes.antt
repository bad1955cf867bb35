-- Request 6: what an outcome with a list of sharp sides says; and that an empty list is no list.
use Rattle.std.specs.Prelude.{Err, Ok}
use mathlib.Core.Path.{◌≡◌, refl, sym, ap, ◌∙◌}
use Prim.Native.Nat.{ℕ}
use native.Mathlib.Omega.{arith}
use mathlib.Core.List.{List, [], ◌∷◌}
use mathlib.Core.Option.{Option, none, some}
use lib.IntN.{ℤ}
use lib.ListN.{length}
use Rattle.lists.specs.Lists.{find}
use Rattle.rules.specs.Mesh.{links}
use Rattle.rules.specs.Position.{whole}
use Rattle.rules.specs.Levels.{last, positions}
use Rattle.rules.specs.Refusals.{check, ◌or_else◌, refusal, Room, short_of}
use Rattle.rules.specs.Answers.{counted, unless, outcome}
use Rattle.rules.specs.Sharp.{unlinked, sharp_refusal, sharp_outcome, sharp_last, sharp_positions}
use Rattle.rules.specs.declared.Refusal.{Refusal}
use Rattle.rules.specs.declared.Counts.{Counts}
use Rattle.rules.specs.Outcome.{Outcome}
use Rattle.rules.proofs.Sharp.{sharp-mesh, no-marks-positions}
use Rattle.cage.proofs.SharpList.{sharp-passes, sharp-linked, sharp-accepted}
use Rattle.room.specs.Held.{Planned}
use Rattle.sharp.specs.Marked.{Listed}
use Rattle.loopsubdiv.proofs.Outcomes.{success-inv, refused-inv}

module _ (rooms : Counts → List Room) (l : ℕ) (sl fs : List ℕ) (xs : List ℤ) where
  abbrev pub sharp_judged : Outcome
  sharp_judged = unless (sharp_refusal whole l sl fs xs) (Ok (counted (sharp_last whole l sl fs xs).mesh))

  pub sharp-refused : (r : Refusal) → sharp_judged ≡ Err r → sharp_outcome whole rooms l sl fs xs ≡ Err r
  unfolding sharp_outcome
  sharp-refused r e = rw (refused-inv (sharp_refusal whole l sl fs xs) (counted (sharp_last whole l sl fs xs).mesh) r e)

  pub sharp-room : (c : Counts) → sharp_judged ≡ Ok c → sharp_outcome whole rooms l sl fs xs ≡ unless (check 14 (short_of (rooms c))) (Ok c)
  unfolding sharp_outcome
  sharp-room c e =
      let i = success-inv (sharp_refusal whole l sl fs xs) (counted (sharp_last whole l sl fs xs).mesh) c e in
      rw (i.0, i.1)

  pub record SharpDone (c : Counts) : Type 0 where
    pub planned : Planned whole l fs xs c.faces c.vertices
    pub listed : Listed l sl fs xs
    pub counts : counted (last whole l fs xs).mesh ≡ c
    pub room : short_of (rooms c) ≡ none

  done-with : (c : Counts) → sharp_refusal whole l sl fs xs ≡ none → counted (sharp_last whole l sl fs xs).mesh ≡ c → short_of (rooms c) ≡ none → SharpDone c
  done-with c p m q =
      let e : c ≡ counted (last whole l fs xs).mesh = sym m ∙ ap counted (sharp-mesh whole l sl fs xs) in
      record {
        planned = record { passes = sharp-passes l sl fs xs p; faces = ap (λ (k : Counts). k.faces) e; verts = ap (λ (k : Counts). k.vertices) e };
        listed = record { passes = sharp-passes l sl fs xs p; linked = sharp-linked l sl fs xs p };
        counts = sym e;
        room = q;
      }

  pub sharp-done : (c : Counts) → sharp_outcome whole rooms l sl fs xs ≡ Ok c → SharpDone c
  unfolding sharp_outcome
  sharp-done c e = go (sharp_refusal whole l sl fs xs) (short_of (rooms (counted (sharp_last whole l sl fs xs).mesh))) refl refl e
    where
      go : (o : Option Refusal) (s : Option ℕ) → sharp_refusal whole l sl fs xs ≡ o → short_of (rooms (counted (sharp_last whole l sl fs xs).mesh)) ≡ s
          → unless (o or_else check 14 s) (Ok (counted (sharp_last whole l sl fs xs).mesh)) ≡ Ok c → SharpDone c
      go none none p q e = let m : counted (sharp_last whole l sl fs xs).mesh ≡ c = cc in done-with c p m (rw m at q)
      go none (some i) p q e = absurd (let z : ◌≡◌ {A = ℕ} 0 1 = cc in omega arith)
      go (some r) s p q e = absurd (let z : ◌≡◌ {A = ℕ} 0 1 = cc in omega arith)

  -- and back: an accepted list on an accepted cage, with room
  pub sharp-success : (c : Counts) → refusal whole l fs xs ≡ none → find (unlinked (links fs)) sl ≡ none → counted (last whole l fs xs).mesh ≡ c → short_of (rooms c) ≡ none
      → sharp_outcome whole rooms l sl fs xs ≡ Ok c
  unfolding sharp_outcome
  sharp-success c p q m s = rw (sharp-accepted l sl fs xs p q, sharp-mesh whole l sl fs xs, m, s) refl

  -- where a call with marks succeeds, that without succeeds with the same counts
  pub sharp-plain : (c : Counts) → sharp_outcome whole rooms l sl fs xs ≡ Ok c → outcome whole rooms l fs xs ≡ Ok c
  unfolding outcome
  sharp-plain c e = let d = sharp-done c e in rw (d.listed.passes, d.counts, d.room) refl

-- "With no marks the results are those of before"
pub empty-positions : (l : ℕ) (sl fs : List ℕ) (xs : List ℤ) → length sl ≡ 0 → positions whole (last whole l fs xs) ≡ sharp_positions whole (sharp_last whole l sl fs xs)
empty-positions l [] fs xs e = sym (no-marks-positions whole l fs xs)
empty-positions l (s ∷ sl) fs xs e = absurd (omega arith)
