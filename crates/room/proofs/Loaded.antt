-- The control cage at the front of the words is held there.
use mathlib.Core.Path.{◌≡◌, refl, sym, ap, ap₂, ◌∙◌}
use Prim.Native.Nat.{ℕ, ◌+◌, ◌*◌, ◌/◌, ◌≤◌}
use native.Mathlib.Omega.{arith}
use native.Mathlib.Nat.{zero-add}
use mathlib.Core.Logic.{inl}
use mathlib.Core.List.{List, [], ◌∷◌, ◌++◌, map, append_assoc}
use mathlib.Core.Option.{Option}
use lib.ListN.{length, length-append, length-map}
use lib.Seq.{sets, length-sets}
use Rattle.lists.specs.Lists.{part}
use Rattle.lists.proofs.Stores.{part_of, sets-next, drop-after, part-outside}
use Rattle.rules.specs.Mesh.{links, cage}
use Rattle.rules.proofs.Sides.{length-links}
use Rattle.faces.specs.Words.{coded, link_of, Holds}
use Rattle.faces.proofs.Held.{link-coded}
use Rattle.cage.proofs.Rounds.{length-starts}
use Rattle.room.specs.Held.{Kept, loaded}

-- three runs, one after the other: together, and each by itself
module _ {A : Type 0} (w a b c : List A) (n : ℕ) (e : length a ≡ n) (f : length b ≡ n) where
  pub run_on : sets (sets (sets w 0 a) n b) (2 * n) c ≡ sets w 0 (a ++ (b ++ c))
  run_on =
      ap (λ (x : List A). sets x (2 * n) c) (sets-next a b w 0 n (omega arith))
      ∙ sets-next (a ++ b) c w 0 (2 * n) (simp length-append (omega arith))
      ∙ ap (λ (x : List A). sets w 0 x) (append_assoc a b c)

  module _ (room : 2 * n + length c ≤ length w) where
    first : part 0 n (sets w 0 (a ++ (b ++ c))) ≡ a
    first =
        ap (part 0 n) (sym run_on)
        ∙ part-outside c (sets (sets w 0 a) n b) (2 * n) 0 n (inl (omega arith))
        ∙ part-outside b (sets w 0 a) n 0 n (inl (omega arith))
        ∙ part_of a w 0 n e (omega arith)

    second : part n n (sets w 0 (a ++ (b ++ c))) ≡ b
    second =
        ap (part n n) (sym run_on)
        ∙ part-outside c (sets (sets w 0 a) n b) (2 * n) n n (inl (omega arith))
        ∙ part_of b (sets w 0 a) n n f (rw (length-sets w 0 a) (omega arith))

    third : (k : ℕ) → length c ≡ k → part (2 * n) k (sets w 0 (a ++ (b ++ c))) ≡ c
    third k q =
        ap (part (2 * n) k) (sym run_on)
        ∙ part_of c (sets (sets w 0 a) n b) (2 * n) k q (rw (length-sets (sets w 0 a) n b, length-sets w 0 a) (omega arith))

linked : (ls : List (Option ℕ)) → map link_of (map coded ls) ≡ ls
linked [] = refl
linked (o ∷ ls) = ap₂ {C = List (Option ℕ)} (λ p l. p ∷ l) (link-coded o) (linked ls)

module _ (v n : ℕ) (fs w : List ℕ) (size : length fs ≡ 3 * n) (room : 2 * length fs + v ≤ length w) where
  long : length (map coded (links fs)) ≡ length fs
  long = length-map (links fs) coded ∙ length-links fs

  pub loaded-length : length (loaded v fs) ≡ 2 * length fs + v
  loaded-length = simp (length-append, length-map, length-links, length-starts) (omega arith)

  pub loaded-held : Holds (sets w 0 (loaded v fs)) 0 (cage v fs)
  unfolding cage
  loaded-held =
      let fit : 2 * length fs + length (cage v fs).starts ≤ length w = omega (arith, length-starts v fs) in
      let f : 3 * (length fs / 3) ≡ length fs = omega arith in
      let g : 6 * (length fs / 3) ≡ 2 * length fs = omega arith in
      record {
        faces = rw f (first w fs (map coded (links fs)) (cage v fs).starts (length fs) refl long fit);
        links = rw (f, zero-add) (ap (λ (l : List ℕ). map link_of l) (second w fs (map coded (links fs)) (cage v fs).starts (length fs) refl long fit) ∙ linked (links fs));
        starts = rw (g, zero-add) (third w fs (map coded (links fs)) (cage v fs).starts (length fs) refl long fit v (length-starts v fs));
        room = rw (length-sets w 0 (loaded v fs)) (omega arith);
      }

  pub loaded-kept : (k : ℕ) → 2 * length fs + v ≤ k → Kept k (sets w 0 (loaded v fs)) w
  loaded-kept k h = record { long = length-sets w 0 (loaded v fs); rest = drop-after (loaded v fs) w 0 k (omega (arith, loaded-length)) }
