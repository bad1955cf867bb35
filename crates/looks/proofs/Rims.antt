-- The ring of a rim vertex, and what its walk asks.
use mathlib.Core.Path.{◌≡◌, refl, sym, ◌∙◌}
use Prim.Native.Nat.{ℕ, suc, ◌+◌, ◌-◌, ◌≤◌}
use native.Mathlib.Omega.{arith}
use mathlib.Core.Bool.{Bool}
use mathlib.Core.List.{List}
use mathlib.Core.Option.{Option}
use lib.ListN.{length, get_or}
use Rattle.lists.specs.Lists.{tally}
use Rattle.rules.specs.Mesh.{rim, fan, valence, ring, prev_corner}
use Rattle.faces.specs.Rings.{Ends}
use Rattle.faces.proofs.Trails.{IsRim}
use Rattle.creases.specs.Rings.{comes, sharp_ring_of}
use Rattle.creases.specs.declared.rings.SharpRing.{SharpRing}
use Rattle.creases.proofs.Rims.{same-ring, creases-long, first-crease, second-crease}

-- the walk back ends, where the valence is in bounds
pub rim-ends : (ls : List (Option ℕ)) (n s e m : ℕ) → IsRim ls n s e → valence (fan ls s) ≤ suc m → Ends (prev_corner ls e) n e m
rim-ends ls n s e m i h = let k = rw i.is at h in record { stops = i.stops; few = omega arith }

-- its size, its sharp and rim edges, and the far ends of the rim's two
pub rim-is : (fs : List ℕ) (ms : List Bool) (cs : List ℕ) (x : SharpRing) → x.n ≡ length (ring fs (rim cs)) → x.creases ≡ 2 + tally (comes ms) cs → x.a ≡ get_or (ring fs (rim cs)) 0 0
    → x.b ≡ get_or (ring fs (rim cs)) (length (ring fs (rim cs)) - 1) 0 → x ≡ sharp_ring_of fs ms (rim cs)
rim-is fs ms cs x n k a b =
    same-ring x _ _ _ _ n (k ∙ sym (creases-long fs ms cs)) (a ∙ sym (first-crease fs ms (rim cs) cs refl)) (b ∙ sym (second-crease fs ms (rim cs) cs refl))
