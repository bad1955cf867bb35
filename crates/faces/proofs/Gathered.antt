-- A ring as its loop stores it.
use mathlib.Core.Path.{◌≡◌, sym, ap, ◌∙◌}
use Prim.Native.Nat.{ℕ, ◌+◌, ◌*◌, ◌<◌}
use native.Mathlib.Omega.{arith}
use mathlib.Core.List.{List}
use lib.ListN.{length, get_or, set, take}
use lib.Seq.{sets, take_all}
use Rattle.lists.specs.Lists.{part}
use Rattle.lists.proofs.Places.{get_d_map}
use Rattle.lists.proofs.Stores.{copy_more, get_d_part}
use Rattle.rules.specs.Mesh.{onward, backward, corner}
use Rattle.rules.proofs.Sides.{on_below}
use Rattle.rules.proofs.Refine.{back_below}
use Rattle.faces.specs.Rings.{inners, backs}

-- one vertex more, and all of them
pub store-more : (l vs : List ℕ) (n v : ℕ) → n < length vs → get_or vs n 0 ≡ v → set (sets l 0 (take n vs)) n v ≡ sets l 0 (take (n + 1) vs)
store-more l vs n v h e = ap (λ (x : ℕ). set (sets l 0 (take n vs)) n x) (sym e) ∙ copy_more l vs n 0 h

pub store-all : (l vs : List ℕ) (at n : ℕ) → n ≡ length vs → sets l at (take n vs) ≡ sets l at vs
store-all l vs at n e = ap (sets l at) (take_all n vs (omega arith))

module _ (w : List ℕ) (at m : ℕ) (cs : List ℕ) (n x : ℕ) (h : n < length cs) (e : x ≡ get_or cs n 0) (b : x < 3 * m) where
  pub inner-at : get_or (inners (part at (3 * m) w) cs) n 0 ≡ get_or w (at + onward x) 0
  inner-at =
      get_d_map (λ s. corner (part at (3 * m) w) (onward s)) cs n 0 0 h ∙ ap (λ (s : ℕ). corner (part at (3 * m) w) (onward s)) (sym e)
      ∙ get_d_part w at (3 * m) (onward x) 0 (on_below x m b)

  pub back_at : get_or (backs (part at (3 * m) w) cs) n 0 ≡ get_or w (at + backward x) 0
  back_at =
      get_d_map (λ s. corner (part at (3 * m) w) (backward s)) cs n 0 0 h ∙ ap (λ (s : ℕ). corner (part at (3 * m) w) (backward s)) (sym e)
      ∙ get_d_part w at (3 * m) (backward x) 0 (back_below x m b)
