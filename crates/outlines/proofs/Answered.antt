-- What an answer says: the needed length over the control cage, the loops as an outline, a closed cage, and which outcome stands behind an answer.
use Rattle.std.specs.Prelude.{Err, Ok}
use mathlib.Core.Path.{◌≡◌, refl, sym, ap, ◌∙◌}
use Prim.Native.Nat.{ℕ, ◌+◌, ◌*◌, ◌/◌, ◌^◌, ◌<◌, ◌≤◌}
use native.Mathlib.Omega.{arith}
use native.Mathlib.Decide.{dec_lt}
use mathlib.Core.List.{List, []}
use mathlib.Core.Option.{none}
use lib.IntN.{ℤ}
use lib.ListN.{length, get_or}
use Rattle.lists.specs.Lists.{count, keep, gather}
use Rattle.rules.specs.Mesh.{links, rims, Mesh, cage}
use Rattle.rules.specs.Position.{whole}
use Rattle.rules.specs.Levels.{first, last}
use Rattle.rules.specs.Refusals.{refusal, Room}
use Rattle.rules.specs.Answers.{outcome}
use Rattle.rules.specs.declared.Refusal.{Refusal}
use Rattle.rules.specs.declared.Counts.{Counts}
use Rattle.rules.specs.Outcome.{Outcome}
use Rattle.rules.proofs.Sound.{Sound}
use Rattle.rules.proofs.Levels.{level, faces_at, mesh-levels, rims-level}
use Rattle.rules.proofs.Cage.{accepted}
use Rattle.outlines.specs.Loops.{begins, outlines, listing, outline_of, outline_outcome, traced}
use Rattle.outlines.specs.IsOutline.{IsOutline}
use Rattle.outlines.specs.declared.Outline.{Outline}
use Rattle.outlines.proofs.Counted.{loops-are}
use Rattle.outlines.proofs.IsOutline.{first-is, is-outline, closed_none}
use Rattle.outlines.proofs.Levels.{starts-level}
use Rattle.outlines.proofs.Unique.{one-outline}
use Rattle.outlines.proofs.Accepted.{final-sound, loops-count, listed-count, room-needed, outcome-refused, outcome-short, outcome-done}

-- ---- a cage that is accepted

module _ (l : ℕ) (fs : List ℕ) (xs : List ℤ) (e : refusal whole l fs xs ≡ none) where
  abbrev control : Mesh
  control = cage (length xs / 3) fs

  abbrev final : Mesh
  final = (last whole l fs xs).mesh

  mesh-is : final ≡ level l control
  mesh-is = mesh-levels whole l (first whole fs xs)

  sound : Sound (length fs / 3) control
  sound = (accepted whole l fs xs e).sound

  ends : Sound (faces_at l (length fs / 3)) final
  ends = final-sound l fs xs e

  pub rims-over-cage : rims (links final.faces) ≡ 2 ^ l * rims (links fs)
  unfolding cage
  rims-over-cage = ap (λ (m : Mesh). rims (links m.faces)) mesh-is ∙ rims-level l (length fs / 3) control sound

  -- "loops": as many as the control cage has
  pub loops-kept : length (outlines final) ≡ length (outlines control)
  unfolding cage
  loops-kept = loops-count l fs xs e ∙ sym (loops-are (length fs / 3) control sound)

  -- each begins at the vertex of the control cage at which it began
  pub firsts-kept : (i : ℕ) → i < length (outlines final) → get_or (get_or (outlines final) i []) 0 0 ≡ get_or (get_or (outlines control) i []) 0 0
  firsts-kept i h =
      first-is (faces_at l (length fs / 3)) final ends i h
      ∙ ap (λ (us : List ℕ). get_or us i 0)
      (ap (λ (m : Mesh). keep (begins m.faces (links m.faces)) (count 0 m.verts)) mesh-is ∙ starts-level l (length fs / 3) control sound)
      ∙ sym (first-is (length fs / 3) control sound i (omega (arith, h, loops-kept)))

  -- "vertices listed": two for each one, level by level
  pub listed-over-cage : length (gather (λ r. r) (outlines final)) ≡ 2 ^ l * rims (links fs)
  listed-over-cage = listed-count l fs xs e ∙ rims-over-cage

  -- the needed length, from the control cage alone
  pub room-over-cage : length (listing (outlines final)) ≡ 2 ^ l * rims (links fs) + length (outlines control)
  room-over-cage = room-needed l fs xs e ∙ omega (arith, rims-over-cage, loops-kept, loops-count l fs xs e)

  pub outlined : IsOutline final (outlines final)
  outlined = is-outline (faces_at l (length fs / 3)) final ends

  -- what is listed are vertices of the last level
  pub listed_below : (i j : ℕ) → i < length (outlines final) → j < length (get_or (outlines final) i []) → get_or (get_or (outlines final) i []) j 0 < final.verts
  listed_below i j h k =
      let r = outlined.follows i j h k in
      omega (arith, r.from, ends.good.below r.side (omega (arith, r.below, ends.good.size)))

  pub no_other : (rs : List (List ℕ)) → IsOutline final rs → rs ≡ outlines final
  no_other = one-outline (faces_at l (length fs / 3)) final ends

  pub closed-has-none : rims (links fs) ≡ 0 → outlines final ≡ []
  closed-has-none z =
      closed_none (faces_at l (length fs / 3)) final ends (rims-over-cage ∙ ap (λ (r : ℕ). 2 ^ l * r) z ∙ omega arith)

-- ---- the outcome behind an answer

pub behind-refused : (o : Outcome) (rs : List (List ℕ)) (r : Refusal) → Err r ≡ traced o rs → o ≡ Err r
behind-refused (Ok c) rs r e = absurd (let z : ◌≡◌ {A = ℕ} 0 1 = cc in omega arith)
behind-refused (Err q) rs r e = cc

pub record Behind (o : Outcome) (rs : List (List ℕ)) (k : Outline) : Type 0 where
  pub counts : Counts
  pub is : o ≡ Ok counts
  pub tells : k ≡ outline_of rs

pub behind-outlined : (o : Outcome) (rs : List (List ℕ)) (k : Outline) → Ok k ≡ traced o rs → Behind o rs k
behind-outlined (Ok c) rs k e = record { counts = c; is = refl; tells = cc }
behind-outlined (Err q) rs k e = absurd (let z : ◌≡◌ {A = ℕ} 0 1 = cc in omega arith)

module _ (rooms : Counts → List Room) (n l : ℕ) (fs : List ℕ) (xs : List ℤ) where
  abbrev needed : ℕ
  needed = length (listing (outlines (last whole l fs xs).mesh))

  -- 20 alone is new: any other outcome is the whole call's
  pub data Either : Type 0 where
    as-whole : outline_outcome rooms n l fs xs ≡ outcome whole rooms l fs xs → Either
    list-short : (c : Counts) → outcome whole rooms l fs xs ≡ Ok c → n < needed → outline_outcome rooms n l fs xs ≡ Err (record { number = 20; place = 0 }) → Either

  pub either : Either
  either = go (outcome whole rooms l fs xs) refl
    where
      go : (o : Outcome) → outcome whole rooms l fs xs ≡ o → Either
      go (Err r) e = as-whole (outcome-refused rooms n l fs xs r e ∙ sym e)
      go (Ok c) e = at (dec_lt n needed)
        where
          at : Dec (n < needed) → Either
          at (yes h) = list-short c e h (outcome-short rooms n l fs xs c e h)
          at (no h) = as-whole (outcome-done rooms n l fs xs c e (omega arith) ∙ sym e)

  -- a success is the whole call's, and the list fits
  pub succeeded : (k : Counts) → outline_outcome rooms n l fs xs ≡ Ok k → (outcome whole rooms l fs xs ≡ Ok k) × (needed ≤ n)
  succeeded k q = go either (dec_lt n needed)
    where
      clash : {X : Type 0} (r : Refusal) → outline_outcome rooms n l fs xs ≡ Err r → X
      clash r z = absurd (let y : Err r ≡ Ok k = sym z ∙ q in let x : ◌≡◌ {A = ℕ} 0 1 = cc in omega arith)

      go : Either → Dec (n < needed) → (outcome whole rooms l fs xs ≡ Ok k) × (needed ≤ n)
      go (list-short c e h z) x = clash (record { number = 20; place = 0 }) z
      go (as-whole e) (no h) = (sym e ∙ q, omega arith)
      go (as-whole e) (yes h) = clash (record { number = 20; place = 0 }) (outcome-short rooms n l fs xs k (sym e ∙ q) h)
