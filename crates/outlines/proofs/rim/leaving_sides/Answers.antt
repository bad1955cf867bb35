use native.Mathlib.Omega.{arith}
use Prim.Native.Nat.{ℕ}
use lib.ListN.{length-replicate}
use Rattle.outlines.proofs.rim.leaving_sides.Goals as goal

pub put_links-requires : goal.put_links-requires
put_links-requires c = let p = c.requires.cage in
    (p.0, p.1, p.2, omega (arith, p.0.few, length-replicate {A = ℕ} 12288 0))

pub put_leaving-requires : goal.put_leaving-requires
put_leaving-requires c = let p = c.requires in
    record { cage = (p.cage.0, rw p.empty.0 p.cage.1, p.cage.3); links = (omega (arith, p.cage.0.few, c.put_links.auto.links), c.put_links.ensures); empty = p.empty.1 }
