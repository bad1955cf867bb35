-- A list of sides marked one by one, the side across each found by looking.
use Prim.Native.Nat.{ℕ, ◌+◌, ◌-◌, ◌*◌, ◌/◌, ◌%◌, ◌≤◌, ◌<◌}
use mathlib.Core.Path.{◌≡◌, refl, sym, ap, ◌∙◌}
use mathlib.Core.Logic.{◌≢◌, inl}
use mathlib.Core.List.{List}
use mathlib.Core.Option.{Option, none, some}
use native.Mathlib.Omega.{arith}
use lib.ListN.{length, get_or, set, take}
use lib.Seq.{ext_get_or}
use Rattle.lists.specs.Lists.{part}
use Rattle.lists.proofs.Stores.{get_d_part, length_part}
use Rattle.rules.specs.Mesh.{links}
use Rattle.rules.proofs.Sides.{twin-some}
use Rattle.faces.specs.Words.{coded}
use Rattle.marks.specs.Marks.{with_bit, Marking}
use Rattle.marks.proofs.Marking.{marking-next}
use Rattle.looks.specs.Looked.{Listed}
use Rattle.looks.specs.Marking.{Listable}

-- the side across, where there is one
pub record Met (ls : List (Option ℕ)) (n s t : ℕ) : Type 0 where
  pub is : get_or ls s none ≡ some (t - 1)
  pub some : 0 < t
  pub below : t ≤ n

met : (ls : List (Option ℕ)) (n s t : ℕ) (o : Option ℕ) → get_or ls s none ≡ o → o ≢ none → ((y : ℕ) → get_or ls s none ≡ some y → y < n) → t ≡ coded o → Met ls n s t
met ls n s t none e f b q = absurd (f refl)
met ls n s t (some y) e f b q = let h = b y e in record { is = e ∙ ap some (omega arith); some = omega arith; below = omega arith }

module _ (w₀ : List ℕ) (at marks n : ℕ) (l : List ℕ) (r : Listable w₀ at marks n l) (i : ℕ) (h : i < length l) (w : List ℕ) (m : Marking w₀ (links (part at (3 * n) w₀)) marks n (take i l) w) where
  -- the marks stand behind the list
  same-list : part at (3 * n) w ≡ part at (3 * n) w₀
  same-list =
      let a = r.listed.room in
      let b = r.after in
      let c = length_part w at (3 * n) (omega (arith, m.long)) in
      let d = length_part w₀ at (3 * n) a in
      ext_get_or 0 (part at (3 * n) w) (part at (3 * n) w₀) (c ∙ sym d)
      (λ j k. let z : j < 3 * n = omega (arith, c) in get_d_part w at (3 * n) j 0 z ∙ m.kept (at + j) (inl (omega arith)) ∙ sym (get_d_part w₀ at (3 * n) j 0 z))

  pub still : Listed w at (3 * n)
  still = let a = r.listed in record { room = omega (arith, a.room, m.long); thirds = a.thirds; small = a.small }

  pub met-side : (t : ℕ) → t ≡ coded (get_or (links (part at (3 * n) w)) (get_or l i 0) none) → Met (links (part at (3 * n) w₀)) (3 * n) (get_or l i 0) t
  met-side t q =
      let fs = part at (3 * n) w₀ in
      let d = length_part w₀ at (3 * n) r.listed.room in
      met (links fs) (3 * n) (get_or l i 0) t (get_or (links fs) (get_or l i 0) none) refl (r.across i h)
      (λ y e. rw d at (twin-some fs (get_or l i 0) y (rw d (r.side i h)) e).below)
      (q ∙ ap (λ (x : List ℕ). coded (get_or (links x) (get_or l i 0) none)) same-list)

  pub marked-one : (t : ℕ) → t ≡ coded (get_or (links (part at (3 * n) w)) (get_or l i 0) none) → (v x : List ℕ)
      → v ≡ set w (marks + get_or l i 0 / 3) (with_bit (get_or w (marks + get_or l i 0 / 3) 0) (get_or l i 0 % 3))
      → x ≡ set v (marks + (t - 1) / 3) (with_bit (get_or v (marks + (t - 1) / 3) 0) ((t - 1) % 3)) → Marking w₀ (links (part at (3 * n) w₀)) marks n (take (i + 1) l) x
  marked-one t q v x a b =
      let k = met-side t q in
      let c = k.some in
      let d = k.below in
      marking-next w₀ (links (part at (3 * n) w₀)) marks n r.room r.back (get_or l i 0) (t - 1) (r.side i h) (omega arith) k.is l i h refl w v x m a b
