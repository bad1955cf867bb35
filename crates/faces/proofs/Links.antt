-- Laws of link words and of steps.
use mathlib.Core.Path.{◌≡◌, refl, ap, ◌∙◌}
use Prim.Native.Nat.{ℕ, zero, suc, ◌+◌, ◌-◌, ◌*◌, ◌≤◌, ◌<◌}
use native.Mathlib.Omega.{arith}
use mathlib.Core.Bool.{Bool, true, false}
use mathlib.Core.List.{List}
use mathlib.Core.Option.{Option, none, some}
use lib.Dec.{eqb}
use lib.ListN.{length, get_or, length-map}
use Rattle.lists.specs.Lists.{pick, part}
use Rattle.lists.proofs.Places.{get_d_map}
use Rattle.lists.proofs.Stores.{get_d_part, length_part}
use Rattle.rules.specs.Mesh.{onward, backward, through, step_to, next_corner, prev_corner}
use Rattle.rules.specs.Mesh as mesh
use Rattle.rules.proofs.Sides.{on_below}
use Rattle.rules.proofs.Refine.{back_below}
use Rattle.faces.specs.Words.{link_of, links_in}
use Rattle.faces.specs.Rings.{Walkable, step_of}
use Rattle.faces.specs.declared.walks.Step.TheVariants as step

-- a word that is not 0
pub link-word : (x : ℕ) → (x ≡ 0 → ⊥) → link_of x ≡ some (x - 1)
link-word zero h = absurd (h refl)
link-word (suc t) h = ap some (omega arith)

module _ (w : List ℕ) (at n : ℕ) (room : at + n ≤ length w) where
  pub length-links_in : length (links_in w at n) ≡ n
  length-links_in = length-map (part at n w) link_of ∙ length_part w at n room

  pub get_or-links_in : (s : ℕ) → s < n → get_or (links_in w at n) s none ≡ link_of (get_or w (at + s) 0)
  get_or-links_in s h = get_d_map link_of (part at n w) s 0 none (rw (length_part w at n room) h) ∙ ap link_of (get_d_part w at n s 0 h)

-- the link of a word leads below the bound
abbrev pub Below : ℕ → Option ℕ → Type 0
Below n none = Unit {0}
Below n (some t) = t < n

link-below : (n x : ℕ) → x ≤ n → Below n (link_of x)
link-below n zero h = tt
link-below n (suc t) h = h

pub on-link-below : (n : ℕ) (o : Option ℕ) → Below (3 * n) o → Below (3 * n) (through onward o)
on-link-below n none h = tt
on-link-below n (some t) h = on_below t n h

pub step-below : (n h t : ℕ) (o : Option ℕ) → Below n o → step_of (step_to h o) ≡ step.Here t → t < n
step-below n h t none b e = absurd (let z : ◌≡◌ {A = ℕ} 0 1 = cc in omega arith)
step-below n h t (some x) b e = go (eqb x h) e
  where
    go : (c : Bool) → step_of (pick c mesh.home (mesh.here x)) ≡ step.Here t → t < n
    go true q = absurd (let z : ◌≡◌ {A = ℕ} 0 1 = cc in omega arith)
    go false q = let r : x ≡ t = cc in rw (← r) b

module _ (w : List ℕ) (at n s : ℕ) (p : Walkable w at n s) where
  -- one step as the words tell it
  pub next-at : (h x : ℕ) → x < 3 * n → next_corner (links_in w at (3 * n)) h x ≡ step_to h (through onward (link_of (get_or w (at + x) 0)))
  next-at h x k = ap (λ (o : Option ℕ). step_to h (through onward o)) (get_or-links_in w at (3 * n) p.room x k)

  pub prev-at : (h x : ℕ) → x < 3 * n → prev_corner (links_in w at (3 * n)) h x ≡ step_to h (link_of (get_or w (at + backward x) 0))
  prev-at h x k = ap (λ (o : Option ℕ). step_to h o) (get_or-links_in w at (3 * n) p.room (backward x) (back_below x n k))

  -- and it leads to a corner of the n faces
  pub next-below : (h x t : ℕ) → x < 3 * n → step_of (next_corner (links_in w at (3 * n)) h x) ≡ step.Here t → t < 3 * n
  next-below h x t k e =
      step-below (3 * n) h t (through onward (link_of (get_or w (at + x) 0)))
      (on-link-below n (link_of (get_or w (at + x) 0)) (link-below (3 * n) (get_or w (at + x) 0) (p.linked x k)))
      (rw (next-at h x k) at e)

  pub prev-below : (h x t : ℕ) → x < 3 * n → step_of (prev_corner (links_in w at (3 * n)) h x) ≡ step.Here t → t < 3 * n
  prev-below h x t k e =
      step-below (3 * n) h t (link_of (get_or w (at + backward x) 0))
      (link-below (3 * n) (get_or w (at + backward x) 0) (p.linked (backward x) (back_below x n k)))
      (rw (prev-at h x k) at e)
