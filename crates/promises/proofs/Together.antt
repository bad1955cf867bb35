-- A proof and a plate of one cage: two calls of the whole engine, at two numbers of levels.
use Rattle.std.specs.Prelude.{Ok}
use Prim.Native.Nat.{ℕ, zero, suc, ◌+◌, ◌*◌, ◌/◌, ◌<◌, ◌≤◌}
use native.Mathlib.Omega.{arith}
use mathlib.Core.List.{List}
use lib.IntN.{ℤ, pos, nat_abs, ◌-ℤ◌}
use lib.ListN.{length, get_or}
use Rattle.rules.specs.Mesh.{cage}
use Rattle.rules.specs.Position.{whole}
use Rattle.rules.specs.Levels.{Sizes, sizes, after}
use Rattle.rules.specs.Calls.{Lent, Buffers, whole_room, WholeCall}
use Rattle.rules.specs.declared.Counts.{Counts}
use Rattle.rules.proofs.Settled.{proof-and-plate}
use Rattle.promises.proofs.Promises.{told, final-counts, whole-position}

-- no vertex is lost
grows : (l : ℕ) (s : Sizes) → s.verts ≤ (after l s).verts
grows zero s = omega arith
grows (suc l) s = let h = grows l (record { verts = s.verts + s.edges; faces = 4 * s.faces; edges = 2 * s.edges + 3 * s.faces }) in omega (arith, h)

-- the vertices of the cage are the first of the plate
pub control-first : (l : ℕ) (fs : List ℕ) (xs : List ℤ) (b : Lent (Buffers ℤ)) (c : Counts) → WholeCall l fs xs b (Ok c) → (v : ℕ) → v < length xs / 3 → v < c.vertices
unfolding cage
control-first l fs xs b c call v h = omega (arith, (final-counts whole whole_room l fs xs b c call).0, grows l (sizes (cage (length xs / 3) fs)))

-- coordinate j of control vertex v, as it stands in the positions after l levels and after k
pub proof-and-plate-of-the-calls : (l k : ℕ) (fs : List ℕ) (xs : List ℤ) (proof plate : Lent (Buffers ℤ)) (c d : Counts) → WholeCall l fs xs proof (Ok c) → WholeCall k fs xs plate (Ok d)
    → (v j : ℕ) → v < length xs / 3 → j < 3 → nat_abs (get_or proof.new.positions (3 * v + j) (pos 0) -ℤ get_or plate.new.positions (3 * v + j) (pos 0)) * 2 ≤ l + k + 2
proof-and-plate-of-the-calls l k fs xs proof plate c d call again v j h i =
    let a = whole-position l fs xs proof c call v j (control-first l fs xs proof c call v h) i in
    let b = whole-position k fs xs plate d again v j (control-first k fs xs plate d again v h) i in
    rw (a, b) (proof-and-plate l k fs xs (told whole whole_room l fs xs proof c call).passes v j h i)
