use Prim.Native.Nat.{ℕ, ◌*◌}
use mathlib.Core.Path.{◌≡◌, refl, sym, ap, ◌∙◌}
use mathlib.Core.Option.{Option, none, some}
use native.Mathlib.Omega.{arith}
use lib.ListN.{length}
use Rattle.std.specs.Prelude.{Err}
use Rattle.std.proofs.lemmas.Result.{err_from_is_err_and}
use Rattle.rules.specs.Answers.{whole_rooms}
use Rattle.rules.specs.declared.Refusal.{Refusal}
use Rattle.rules.proofs.Checks.{shape_of}
use Rattle.limits.specs.Verdicts.{verdict_of}
use Rattle.limits.proofs.Search.{passes}
use Rattle.reader.proofs.Read.{read, refused-15, refused-shape}
use Rattle.sheet.proofs.subdivide_by.Goals as goal

said : (o : Option Refusal) (r : Refusal) → verdict_of o ≡ Err r → o ≡ some r
said none r e = absurd (let z : ◌≡◌ {A = ℕ} 0 1 = cc in omega arith)
said (some q) r e = let f : q ≡ r = cc in ap some f

pub subdivide_lists-requires : goal.subdivide_lists-requires
subdivide_lists-requires g c = let s = c.in-Some.sheet in
    let h = shape_of s.levels (3 * s.faces) (3 * s.vertices) (passes _ (sym c.shape.ensures ∙ c.in_ok-shape.was)) in
    (omega (arith, h.verts), (omega (arith, h.faces), sym c.in-Some.ensures))

pub returns-in_default : goal.returns-in_default
returns-in_default g c = let a = c.args in
    let rooms = whole_rooms (length a.positions.now) (length a.out.now) (length a.words.now) (length a.work.now) in
    record {
      answer = sym (refused-15 rooms a.bytes.now (sym c.read_sheet.ensures ∙ c.in_default.is));
      positions = refl;
      indices = refl;
      words = refl;
      work = refl;
    }

pub returns-in_err-shape : goal.returns-in_err-shape
returns-in_err-shape g c = let a = c.args in
    let h = read _ _ (sym c.in-Some.ensures) in
    let p = err_from_is_err_and c.from_residual.result c.from_residual.ensures.1 in
    let e = said _ p.0 (sym c.shape.ensures ∙ c.in_err-shape.was ∙ ap Err (sym p.2)) in
    let rooms = whole_rooms (length a.positions.now) (length a.out.now) (length a.words.now) (length a.work.now) in
    rw p.1 (record {
      answer = sym (refused-shape rooms a.bytes.now h.good p.0 (rw (h.verts, h.faces, h.levels) e));
      positions = refl;
      indices = refl;
      words = refl;
      work = refl;
    })
