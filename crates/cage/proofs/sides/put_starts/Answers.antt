use Prim.Native.Nat.{◌<◌}
use mathlib.Core.Path.{◌≡◌, sym, ap, ◌∙◌}
use mathlib.Core.List.{map}
use lib.ListN.{length, get_or, take}
use lib.ListN.{length-map}
use lib.Seq.{length-take-le, get_or-take}
use Rattle.lists.proofs.Places.{get_d_map}
use Rattle.lists.proofs.Stores.{copy_at}
use Rattle.cage.specs.Chains.{before}
use Rattle.cage.proofs.sides.put_starts.Goals as goal

pub loop-u-preserved : goal.loop-u-preserved
loop-u-preserved c = let l = c.loop-u in
    let t = c.loop-u-test.true in
    let heads = c.args.heads.now in
    let v = c.args.v in
    let n : length (take v heads) ≡ v = length-take-le v heads c.requires.0 in
    let h : l.u < length (map before (take v heads)) = rw (length-map (take v heads) before, n) t in
    let e : c.side_of-s.result ≡ get_or (map before (take v heads)) l.u 0 =
    c.side_of-s.ensures ∙ sym (get_d_map before (take v heads) l.u 0 0 (rw n t) ∙ ap before (get_or-take v heads l.u 0 t)) in
    rw (l.invariant, e) (copy_at c.args.words.now (map before (take v heads)) c.args.at l.u 0 h)
