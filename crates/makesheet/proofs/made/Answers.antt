use Prim.Native.Nat.{ℕ, ◌+◌, ◌*◌}
use mathlib.Core.List.{List}
use mathlib.Core.Path.{◌≡◌, refl, sym, ◌∙◌}
use native.Mathlib.Omega.{arith}
use lib.ListN.{length}
use Rattle.rules.specs.Sheets.{word_at}
use Rattle.rules.proofs.Checks.{shape_of}
use Rattle.limits.proofs.Search.{passes}
use Rattle.writer.proofs.Writes.{few}
use Rattle.std.proofs.lemmas.Result.{err_from_is_err_and}
use Rattle.makesheet.proofs.Laws.{over, no-head, not-so-long, by-lists, by_shape}
use Rattle.makesheet.proofs.made.Goals as goal

-- the lists are as long as they say
long : (b : List ℕ) (n nc ni : ℕ) → nc ≡ word_at b 4 → ni ≡ word_at b 8 → n ≡ 12 + 4 * nc + 4 * ni → n ≡ 12 + 4 * word_at b 4 + 4 * word_at b 8
long b n nc ni x y h = rw (← x, ← y) h

pub returns-then-n-gt98316 : goal.returns-then-n-gt98316
returns-then-n-gt98316 c = let a = c.args in
    record { answer = c.refused.ensures ∙ over (length a.out.now) a.bytes.now (omega arith); bytes = rw c.refused.ensures refl }

pub returns-then-n-lt12 : goal.returns-then-n-lt12
returns-then-n-lt12 c = let a = c.args in
    record { answer = c.refused-then-n-lt12.ensures ∙ no-head (length a.out.now) a.bytes.now (omega arith) (omega arith); bytes = rw c.refused-then-n-lt12.ensures refl }

pub returns-then-n-nc : goal.returns-then-n-nc
returns-then-n-nc c = let a = c.args in
    record { answer = c.refused-then-n-nc.ensures ∙ not-so-long (length a.out.now) a.bytes.now (omega arith) (omega arith) (λ e. c.if-n-nc.true (e ∙ rw (← c.word_at-nc.ensures, ← c.word_at-ni.ensures) refl)); bytes = rw c.refused-then-n-nc.ensures refl }

pub lists-requires : goal.lists-requires
lists-requires c = let f = few _ _ _ (shape_of _ _ _ (passes _ (sym c.in_ok-shape.ensures))) in
    (f.1, f.0, c.if-n-nc.false)

pub returns-in_err-shape : goal.returns-in_err-shape
returns-in_err-shape c = let a = c.args in
    let p = err_from_is_err_and c.from_residual.result c.from_residual.ensures.1 in
    let e = long a.bytes.now _ _ _ c.word_at-nc.ensures c.word_at-ni.ensures c.if-n-nc.false in
    let s = rw (c.word_at-levels.ensures, c.word_at-nc.ensures, c.word_at-ni.ensures) at c.in_err-shape.ensures in
    rw (p.1, p.2) (record { answer = by_shape (length a.out.now) a.bytes.now (omega arith) (omega arith) e _ (sym s); bytes = refl })

pub returns : goal.returns
returns c = let a = c.args in
    let e = long a.bytes.now _ _ _ c.word_at-nc.ensures c.word_at-ni.ensures c.if-n-nc.false in
    let m = rw (c.word_at-levels.ensures, c.word_at-nc.ensures, c.word_at-ni.ensures) at c.lists.ensures in
    record { answer = m.answer ∙ by-lists (length a.out.now) a.bytes.now (omega arith) (omega arith) e; bytes = m.bytes }
