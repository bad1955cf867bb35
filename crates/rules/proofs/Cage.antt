-- A cage that passes the checks is sound.
use mathlib.Core.Path.{◌≡◌, sym, ap, ◌∙◌}
use Prim.Native.Nat.{ℕ, suc, ◌-◌, ◌*◌, ◌/◌, ◌<◌, ◌≤◌}
use native.Mathlib.Omega.{arith}
use mathlib.Core.Bool.{Bool, not}
use mathlib.Core.List.{List}
use mathlib.Core.Option.{Option, none}
use lib.Dec.{T, eqb, eqb→eq, nltb→le}
use lib.Ieee.Fits.{eq→eqb}
use lib.ListN.{length, get_or, length-map}
use Rattle.lists.specs.Lists.{count, find, found, keep, tally}
use Rattle.rules.specs.Mesh.{corner, links, last_corner, fan, corners, cage}
use Rattle.rules.specs.Position.{Numbers}
use Rattle.rules.specs.Refusals.{refusal, parted, fans_of, size_refusal}
use Rattle.lists.proofs.Places.{length-count, get_or-count, get_d_map, Look, nowhere, there, look, length-keep, last-at}
use Rattle.lists.proofs.Counting.{Kept, kept, tally-without, tally-at}
use Rattle.rules.proofs.Refine.{Good}
use Rattle.rules.proofs.Checks.{Shape, Fans, stages-of, shape_of, range-of, fans-of, good-list}
use Rattle.rules.proofs.Turns.{Turned, turned, covers, corners_at}
use Rattle.rules.proofs.Sound.{Sound}

-- a vertex that is used starts at a corner of its own
pub record Starts (fs : List ℕ) (v s : ℕ) : Type 0 where
  pub below : s < length fs
  pub at : corner fs s ≡ v

used-at : (fs : List ℕ) (v : ℕ) (o : Option ℕ) → Look (eqb v) fs 0 o → T (found o) → (i : ℕ) × (i < length fs) × (corner fs i ≡ v)
used-at fs v _ (nowhere h) t = absurd t
used-at fs v _ (there i f) t = (i, f.below, sym (eqb→eq v (get_or fs i 0) f.passes))

last-starts : (fs : List ℕ) (v i : ℕ) → i < length fs → corner fs i ≡ v → Starts fs v (last_corner fs v)
last-starts fs v i h e =
    let p : ℕ → Bool = λ s. eqb (corner fs s) v in
    let ks = keep p (count 0 (length fs)) in
    let one : length ks ≡ suc _ = length-keep p (count 0 (length fs)) ∙ tally-without p i (length fs) h (eq→eqb e) in
    let k : Kept p 0 (length fs) (length ks - 1) (get_or ks (length ks - 1) 0) = kept p 0 (length fs) (length ks - 1) (omega arith) in
    let last : last_corner fs v ≡ get_or ks (length ks - 1) 0 = last-at 0 ks (omega arith) in
    rw last (record { below = omega (arith, k.below); at = eqb→eq (corner fs (get_or ks (length ks - 1) 0)) v k.passes })

-- by goodness and the checks 9 and 10
module _ (v n : ℕ) (fs : List ℕ) (g : Good v n fs) (used : (u : ℕ) → u < v → T (found (find (eqb u) fs))) where
  pub start : (u : ℕ) → u < v → Starts fs u (last_corner fs u)
  start u h = let w = used-at fs u (find (eqb u) fs) (look (eqb u) 0 fs) (used u h) in last-starts fs u w.0 w.1 w.2

  start-below : (u : ℕ) → u < v → last_corner fs u < 3 * n
  start-below u h = omega (arith, (start u h).below, g.size)

  pub start_is : (u : ℕ) → u < v → get_or (cage v fs).starts u 0 ≡ last_corner fs u
  unfolding cage
  start_is u h = get_d_map (last_corner fs) (count 0 v) u 0 0 (rw (length-count 0 v) h) ∙ ap (last_corner fs) (get_or-count 0 v u 0 h ∙ omega arith)

  -- every fan of the cage ends, round or from rim to rim
  pub cage-turned : (u : ℕ) → u < v → Turned n fs (last_corner fs u) (fans_of v fs u)
  cage-turned u h = rw (start_is u h) (turned v n fs g (last_corner fs u) (start-below u h))

  module _ (together : (u : ℕ) → u < v → T (not (parted fs (fans_of v fs) u))) where
    enough : (u : ℕ) → u < v → corners_at n fs u ≤ length (corners (fan (links fs) (last_corner fs u)))
    enough u h =
        let b = nltb→le (length (corners (fans_of v fs u))) (tally (eqb u) fs) (together u h) in
        rw (← g.size, ← (tally-at (eqb u) fs)) (rw (start_is u h) at b)

    sized : length (cage v fs).starts ≡ v
    unfolding cage
    sized = length-map (count 0 v) (last_corner fs) ∙ length-count 0 v

    pub sound-cage : Sound n (cage v fs)
    unfolding cage
    sound-cage = record {
      good = g;
      sized = sized;
      below = λ u h. rw (start_is u h) (start-below u h);
      starts = λ u h. rw (start_is u h) (start u h).at;
      whole = λ u x h k q.
          rw (start_is u h) (covers v n fs g (last_corner fs u) (start-below u h)
          (rw (start u h).at (enough u h)) x k (q ∙ sym (start u h).at));
    }

-- ---- what is accepted

pub record Accepted (𝓝 : Numbers) (l : ℕ) (fs : List ℕ) (xs : List 𝓝.N) : Type 0 where
  pub shape : Shape l (length fs) (length xs)
  pub allowed : (i : ℕ) → i < length xs → T (𝓝.allowed (get_or xs i 𝓝.nought))
  pub fans : Fans (length xs / 3) fs
  pub sound : Sound (length fs / 3) (cage (length xs / 3) fs)
  pub size : size_refusal l (length xs / 3) fs ≡ none

pub accepted : (𝓝 : Numbers) (l : ℕ) (fs : List ℕ) (xs : List 𝓝.N) → refusal 𝓝 l fs xs ≡ none → Accepted 𝓝 l fs xs
accepted 𝓝 l fs xs e =
    let s = stages-of 𝓝 l fs xs e in
    let shape = shape_of l (length fs) (length xs) s.shape in
    let fans = fans-of (length xs / 3) fs s.fans in
    let g = good-list (length xs / 3) fs shape.indices s.faces in
    record {
      shape = shape;
      allowed = range-of 𝓝 xs s.range;
      fans = fans;
      sound = sound-cage (length xs / 3) (length fs / 3) fs g fans.used fans.together;
      size = s.size;
    }
