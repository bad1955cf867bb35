-- One sheet more of the loop: what it leaves is what the definition has next.
use Rattle.std.specs.Prelude.{Err, Ok}
use Prim.Native.Nat.{ℕ, suc, ◌+◌, ◌*◌, ◌≤◌, ◌<◌}
use mathlib.Core.Path.{◌≡◌, refl, sym, ap, ◌∙◌}
use mathlib.Core.List.{List, [], ◌∷◌, ◌++◌}
use native.Mathlib.Omega.{arith}
use native.Mathlib.Nat.{zero-add}
use lib.IntN.{ℤ}
use lib.ListN.{length, get_or, take, drop, length-drop, length-append}
use lib.Seq.{sets, drop-cons, drop-drop, drop-length}
use Rattle.lists.proofs.Stores.{sets-next}
use Rattle.rules.specs.Answers.{answer}
use Rattle.rules.specs.Outcome.{Outcome}
use Rattle.loopsubdiv.proofs.Outcomes.{whole_room_lem}
use Rattle.sheet.proofs.Calls.{done}
use Rattle.rules.specs.Calls.{Buffers}
use Rattle.alphabet.specs.Sheets.{alone, free, One, Done, next, all_of, cut, total, nothing, taken, taken_indices, Left}

pub five : (r : Outcome) → length (answer r) ≡ 5
five (Ok c) = refl
five (Err r) = refl

-- read entry by entry
pub each : (s : List ℕ) (r : Outcome) → s ≡ answer r → get_or s 0 0 ∷ get_or s 1 0 ∷ get_or s 2 0 ∷ get_or s 3 0 ∷ get_or s 4 0 ∷ [] ≡ answer r
each s (Ok c) e = rw e refl
each s (Err r) e = rw e refl

-- what a sheet takes is there
pub takes : (t : Buffers ℤ) (p q : ℕ) (b : List ℕ) (r : Outcome) → r ≡ alone (free p q t) b → p ≤ length t.positions → q ≤ length t.indices
    → (p + taken r ≤ length t.positions) × (q + taken_indices r ≤ length t.indices)
unfolding alone
takes t p q b (Err r) e h k = (omega arith, omega arith)
takes t p q b (Ok c) e h k =
    let d = done _ b c (sym e) in
    let w = whole_room_lem _ _ _ _ c d.room in
    (omega (arith, w.positions, length-drop p t.positions), omega (arith, w.indices, length-drop q t.indices))

pub record Held (bytes lengths : List ℕ) (t₀ : Buffers ℤ) (slots₀ : List ℕ) (t : Buffers ℤ) (slots : List ℕ) (at p q i : ℕ) : Type 0 where
  pub turns : i ≤ length lengths
  pub bytes_left : at + total (drop i lengths) ≡ length bytes
  pub told : List ℕ
  pub told-long : length told ≡ 5 * i
  pub slots-are : slots ≡ sets slots₀ 0 told
  pub p-fits : p ≤ length t.positions
  pub q-fits : q ≤ length t.indices
  pub from-here : all_of (nothing t₀) (cut lengths bytes) ≡ all_of (record { positions = p; indices = q; told = told; room = t }) (cut (drop i lengths) (drop at bytes))

pub held_first : (bytes lengths : List ℕ) (t : Buffers ℤ) (slots : List ℕ) → total lengths ≡ length bytes → Held bytes lengths t slots t slots 0 0 0 0
held_first bytes lengths t slots e =
    record { turns = omega arith; bytes_left = zero-add _ ∙ e; told = []; told-long = refl; slots-are = refl; p-fits = omega arith; q-fits = omega arith; from-here = refl }

module _ (bytes lengths : List ℕ) (t₀ : Buffers ℤ) (slots₀ : List ℕ) (t : Buffers ℤ) (slots : List ℕ) (at p q i : ℕ) (h : Held bytes lengths t₀ slots₀ t slots at p q i) where
  pub within : i < length lengths → at + get_or lengths i 0 ≤ length bytes
  within l =
      let e = ap total (drop-cons lengths i 0 l) in
      omega (arith, h.bytes_left)

  pub held_more : i < length lengths → (r : Outcome) (t' : Buffers ℤ) (slots' : List ℕ) → One (record { old = t; new = t' }) p q (take (get_or lengths i 0) (drop at bytes)) r → slots' ≡ sets slots (5 * i) (answer r)
      → length t'.positions ≡ length t.positions → length t'.indices ≡ length t.indices
      → Held bytes lengths t₀ slots₀ t' slots' (at + get_or lengths i 0) (p + taken r) (q + taken_indices r) (i + 1)
  unfolding next all_of cut
  held_more l r t' slots' o s a b =
      let n = get_or lengths i 0 in
      let e : drop i lengths ≡ n ∷ drop (i + 1) lengths = drop-cons lengths i 0 l ∙ ap (λ (k : ℕ). n ∷ drop k lengths) (let z : suc i ≡ i + 1 = omega arith in z) in
      let f = ap total e in
      let w = takes t p q (take n (drop at bytes)) r o.answer h.p-fits h.q-fits in
      let g = h.told-long in
      record {
        turns = omega arith;
        bytes_left = omega (arith, h.bytes_left);
        told = h.told ++ answer r;
        told-long = length-append h.told (answer r) ∙ omega (arith, five r);
        slots-are = s ∙ ap (λ (x : List ℕ). sets x (5 * i) (answer r)) h.slots-are ∙ sets-next h.told (answer r) slots₀ 0 (5 * i) (zero-add _ ∙ g);
        p-fits = omega (arith, w.0);
        q-fits = omega (arith, w.1);
        from-here = h.from-here ∙ rw (e, drop-drop n at bytes, o.room, o.answer) refl;
      }

  pub held-last : i ≡ length lengths → Left (all_of (nothing t₀) (cut lengths bytes)) (record { old = t₀; new = t }) (record { old = slots₀; new = slots })
  unfolding all_of cut
  held-last e =
      let d : drop i lengths ≡ [] = ap (λ (k : ℕ). drop k lengths) e ∙ drop-length lengths in
      let k = rw d at h.from-here in
      record { room = sym (ap (λ (z : Done). z.room) k); slots = h.slots-are ∙ sym (ap (λ (z : Done). sets slots₀ 0 z.told) k) }
