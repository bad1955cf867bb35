-- What a success of the call on a sheet says: nothing refused, the counts are those of the last level, and its lists are that long.
use Rattle.std.specs.Prelude.{Ok}
use Prim.Native.Nat.{ℕ, ◌*◌, ◌/◌}
use mathlib.Core.Path.{◌≡◌, refl, sym, ap, ◌∙◌}
use mathlib.Core.List.{List}
use mathlib.Core.Option.{Option, none, some}
use native.Mathlib.Omega.{arith}
use lib.ListN.{length}
use Rattle.rules.specs.Position.{whole}
use Rattle.rules.specs.Mesh.{cage}
use Rattle.rules.specs.Levels.{first, positions as positions_of}
use Rattle.rules.specs.Refusals.{Room, check, when, short_of}
use Rattle.rules.specs.Answers.{unless, counted}
use Rattle.rules.specs.Sheets.{bad_sheet, sheet_levels, sheet_indices, sheet_coords, sheet_outcome}
use Rattle.rules.specs.declared.Counts.{Counts}
use Rattle.rules.specs.declared.Refusal.{Refusal}
use Rattle.rules.specs.Outcome.{Outcome}
use Rattle.rules.proofs.Cage.{accepted}
use Rattle.rules.proofs.Levels.{sound-level, mesh-levels}
use Rattle.rules.proofs.Spokes.{length-positions}
use Rattle.rules.specs.Calls.{sheet_last}
use Rattle.loopsubdiv.proofs.Outcomes.{done as answered}

unless-none : (o : Option Refusal) (x : Outcome) (c : Counts) → unless o x ≡ Ok c → (o ≡ none) × (x ≡ Ok c)
unless-none none x c e = (refl, e)
unless-none (some r) x c e = absurd (let z : ◌≡◌ {A = ℕ} 0 1 = cc in omega arith)

pub record Done (rooms : Counts → List Room) (b : List ℕ) (c : Counts) : Type 0 where
  pub counts : c ≡ counted (sheet_last b).mesh
  pub room : short_of (rooms c) ≡ none
  pub positions : length (positions_of whole (sheet_last b)) ≡ 3 * c.vertices
  pub faces : length (sheet_last b).mesh.faces ≡ 3 * c.faces

pub done : (rooms : Counts → List Room) (b : List ℕ) (c : Counts) → sheet_outcome rooms b ≡ Ok c → Done rooms b c
unfolding sheet_outcome
done rooms b c e =
    let fs = sheet_indices b in
    let xs = sheet_coords b in
    let l = sheet_levels b in
    let m = (sheet_last b).mesh in
    let o = answered whole rooms l fs xs c (unless-none (check 15 (when (bad_sheet b))) _ c e).1 in
    let k = o.counts in
    let v = length xs / 3 in
    let ok = accepted whole l fs xs o.passes in
    let s = rw (← (mesh-levels whole l (first whole fs xs))) at (sound-level l (length fs / 3) (cage v fs) ok.sound) in
    let f : length m.faces ≡ 3 * (length m.faces / 3) = omega (arith, s.good.size) in
    record {
      counts = sym k;
      room = o.room;
      positions = length-positions whole (sheet_last b) ∙ ap (λ (d : Counts). 3 * d.vertices) k;
      faces = f ∙ ap (λ (d : Counts). 3 * d.faces) k;
    }
