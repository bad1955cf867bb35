use Rattle.std.proofs.Common.{ℕ, ◌+◌, ◌-◌, ◌/◌, ◌%◌, ◌^◌, ◌<◌, ◌≤◌, refl, ap, ◌∙◌, arith, rules}
use lib.Ieee.Nearest.{closest}
use Rattle.vectors.proofs.Read.{bits-tiny, bits-low, bits-high, few-digits, carried, same_digits}
use Rattle.vectors.proofs.narrow.magnitude.Goals as goal

-- `vectors::narrow::magnitude` meets its contract, by the laws of `proofs/Read.antt`, one for each answer.
pub returns-then-m-lt3931642474694443008 : goal.returns-then-m-lt3931642474694443008
returns-then-m-lt3931642474694443008 c = record { result_value = bits-tiny c.args.b (omega arith); upper_bound = search rules }

pub dropped-requires : goal.dropped-requires
dropped-requires c = (omega arith, omega arith, omega arith)

pub returns-then-m-lt4039728865751334912 : goal.returns-then-m-lt4039728865751334912
returns-then-m-lt4039728865751334912 c = let b = c.args.b in
    let r = c.dropped.result in
    let x = b % 2 ^ 63 / 2 ^ 52 in
    let h : 873 ≤ x = omega (arith, c.if-m-lt3931642474694443008.false) in
    let k : x < 897 = omega (arith, c.if-m-lt4039728865751334912.true) in
    let e = c.dropped.ensures ∙ ap (λ (y : ℕ). closest (2 ^ 52 + y) (2 ^ (926 - x))) (same_digits b) in
    record { result_value = bits-low b h k r e; upper_bound = omega (arith, few-digits b (926 - x) (omega arith) r e) }

pub dropped-n-requires : goal.dropped-n-requires
dropped-n-requires c = (omega arith, omega arith, omega arith)

-- from field 897 on
high : (c : goal.After-dropped-n) → 897 ≤ c.args.b % 2 ^ 63 / 2 ^ 52
high c = omega (arith, c.if-m-lt4039728865751334912.false)

pub overflow_sub-n : goal.overflow_sub-n
overflow_sub-n c = omega (arith, high c, carried c.args.b c.dropped-n.result c.dropped-n.ensures)

pub returns-then-n-lt2139095040 : goal.returns-then-n-lt2139095040
returns-then-n-lt2139095040 c = let d = c.before in
    let b = c.args.b in
    record { result_value = bits-high b (high d) c.requires (closest (2 ^ 52 + b % 2 ^ 52) (2 ^ 29)) refl _ (omega (arith, high d, carried b d.dropped-n.result d.dropped-n.ensures)); upper_bound = search rules }

pub returns-else-n-lt2139095040 : goal.returns-else-n-lt2139095040
returns-else-n-lt2139095040 c = let d = c.before in
    let b = c.args.b in
    record { result_value = bits-high b (high d) c.requires (closest (2 ^ 52 + b % 2 ^ 52) (2 ^ 29)) refl _ (omega (arith, high d, carried b d.dropped-n.result d.dropped-n.ensures)); upper_bound = search rules }
