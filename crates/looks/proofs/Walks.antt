-- Walks over links that are looked up: the corners they pass.
use mathlib.Core.Path.{◌≡◌, refl, ap}
use Prim.Native.Nat.{ℕ, ◌+◌, ◌-◌, ◌*◌, ◌/◌, ◌<◌}
use native.Mathlib.Omega.{arith}
use mathlib.Core.List.{List}
use mathlib.Core.Option.{Option, none, some}
use lib.ListN.{length, get_or}
use Rattle.lists.specs.Lists.{part, last_of}
use Rattle.lists.proofs.Places.{last-at}
use Rattle.lists.proofs.Stores.{length_part}
use Rattle.rules.specs.Mesh.{onward, backward, corner, links, through, here, walk, passed, stop_of, next_corner, prev_corner}
use Rattle.rules.proofs.Sides.{length-links, twin-some}
use Rattle.rules.proofs.Refine.{back_below}
use Rattle.rules.proofs.Walks.{trail, all_of}
use Rattle.faces.specs.Faces.{next_vert_of, prev_vert_of, other_vert_of}
use Rattle.faces.specs.Rings.{step_of, trip_of, vert}
use Rattle.std.specs.Prelude.{Some}
use Rattle.faces.specs.declared.walks.Step.TheVariants as step
use Rattle.faces.specs.declared.walks.Trip.TheVariants as trip
use Rattle.faces.proofs.Links.{Below, on-link-below, step-below}
use Rattle.faces.proofs.Trails.{some-passed, ended_is}
use Rattle.faces.proofs.Readable.{reads}
use Rattle.looks.specs.Looked.{Seen, bare_at}

module _ (w : List ℕ) (at n : ℕ) (p : Seen w at n) where
  abbrev fs : List ℕ
  fs = part at (3 * n) w

  pub size : length fs ≡ 3 * n
  size = length_part w at (3 * n) p.listed.room

  pub faces-in : length (links fs) / 3 ≡ n
  faces-in = omega (arith, length-links fs, size)

  linked : (x : ℕ) → x < 3 * n → Below (3 * n) (get_or (links fs) x none)
  linked x k = go (get_or (links fs) x none) refl
    where
      go : (o : Option ℕ) → get_or (links fs) x none ≡ o → Below (3 * n) o
      go none l = tt
      go (some y) l = rw size at (twin-some fs x y (rw size k) l).below

  pub next-below : (h x t : ℕ) → x < 3 * n → step_of (next_corner (links fs) h x) ≡ step.Here t → t < 3 * n
  next-below h x t k e = step-below (3 * n) h t (through onward (get_or (links fs) x none)) (on-link-below n (get_or (links fs) x none) (linked x k)) e

  pub prev-below : (h x t : ℕ) → x < 3 * n → step_of (prev_corner (links fs) h x) ≡ step.Here t → t < 3 * n
  prev-below h x t k e = step-below (3 * n) h t (get_or (links fs) (backward x) none) (linked (backward x) (back_below x n k)) e

  module _ (s : ℕ) (start : s < 3 * n) where
    pub filled : 0 < n
    filled = omega arith

    next-trail : (k : ℕ) → k < length (trail (next_corner (links fs) s) n (here s)) → get_or (trail (next_corner (links fs) s) n (here s)) k 0 < 3 * n
    next-trail k h = all_of (next_corner (links fs) s) (λ x. x < 3 * n) (λ x t b e. next-below s x t b (ap step_of e)) n s k start h

    pub last-below : last_of 0 (trail (next_corner (links fs) s) n (here s)) < 3 * n
    last-below =
        let cs = trail (next_corner (links fs) s) n (here s) in
        let h : 0 < length cs = some-passed (next_corner (links fs) s) n s filled in
        rw (last-at 0 cs h) (next-trail (length cs - 1) (omega arith))

    pub end_below : (m e : ℕ) → trip_of (walk (next_corner (links fs) s) n (here s)) ≡ trip.Ended m e → e < 3 * n
    end_below m e q =
        let v = walk (next_corner (links fs) s) n (here s) in
        rw (← ended_is (stop_of v) (length (passed v)) (last_of 0 (passed v)) m e q) last-below

  -- ---- what the Rust asks of a face whose links are not looked up

  pub next-vert-is : (s : ℕ) → s < 3 * n → next_vert_of (bare_at w at (s / 3)) (vert (get_or w (at + s) 0)) ≡ Some (vert (corner fs (onward s)))
  next-vert-is s h = (reads w at at n p.listed.room (λ s h. p.apart.each s (rw size h)) s h).next-vert

  pub prev-vert-is : (s : ℕ) → s < 3 * n → prev_vert_of (bare_at w at (s / 3)) (vert (get_or w (at + s) 0)) ≡ Some (vert (corner fs (backward s)))
  prev-vert-is s h = (reads w at at n p.listed.room (λ s h. p.apart.each s (rw size h)) s h).prev-vert

  pub other-vert-is : (s : ℕ) → s < 3 * n → other_vert_of (bare_at w at (s / 3)) (vert (get_or w (at + s) 0)) (vert (get_or w (at + onward s) 0)) ≡ Some (vert (corner fs (backward s)))
  other-vert-is s h = (reads w at at n p.listed.room (λ s h. p.apart.each s (rw size h)) s h).other-vert
