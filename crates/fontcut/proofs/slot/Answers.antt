use Rattle.fontcut.proofs.Along.{slot-refused, slot-mesh}
use Rattle.fontcut.proofs.slot.Goals as goal

pub returns-then-number-ne0 : goal.returns-then-number-ne0
returns-then-number-ne0 c = let a = c.args in
    record { put = rw (slot-refused a.five.now a.positions.now a.indices.now c.if-number-ne0.true) c.refused_text.ensures.put; upper_bound = c.refused_text.ensures.upper_bound }

pub returns : goal.returns
returns c = let a = c.args in
    record { put = rw (slot-mesh a.five.now a.positions.now a.indices.now c.if-number-ne0.false) c.mesh_text.ensures.put; upper_bound = c.mesh_text.ensures.upper_bound }
