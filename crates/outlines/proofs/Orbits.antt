-- A loop as the sides met by going on from one of them: each side of a loop has the same loop, turned.
use mathlib.Core.Path.{◌≡◌, refl, sym, ap, ◌∙◌}
use Prim.Native.Nat.{ℕ, zero, suc, ◌+◌, ◌-◌, ◌*◌, ◌/◌, ◌%◌, ◌<◌, ◌≤◌, zero-le, suc-le-suc}
use native.Mathlib.Nat.{not-suc-le-zero, div-add-mod', mod-lt}
use native.Mathlib.Omega.{arith}
use native.Mathlib.Decide.{dec_lt}
use mathlib.Core.Bool.{not}
use mathlib.Core.List.{List, map}
use mathlib.Core.Option.{Option, none, some}
use lib.Dec.{T, T_not, ltb, lt→ltb, ltb→lt}
use lib.ListN.{length, get_or, length-map}
use Rattle.lists.specs.Lists.{find, found, last_of}
use Rattle.lists.proofs.Places.{last-at, get_d_map, find_none, find-some}
use Rattle.rules.specs.Mesh.{corner, links, here, Mesh}
use Rattle.rules.proofs.Walks.{trail, chain, last-stop}
use Rattle.rules.proofs.Turns.{step-some, step-home}
use Rattle.rules.proofs.Sound.{Sound, In, in-at}
use Rattle.outlines.specs.Loops.{next_rim, around, begins}
use Rattle.outlines.proofs.Rims.{Rim, leaving-is, leave-one, step, rim-of, closes}

abbrev pub or_zero : Option ℕ → ℕ
or_zero none = 0
or_zero (some s) = s

module _ (n : ℕ) (m : Mesh) (w : Sound n m) where
  abbrev fs : List ℕ
  fs = m.faces

  -- i sides further along the rim
  abbrev pub hop : ℕ → ℕ → ℕ
  hop zero s = s
  hop (suc i) s = or_zero (next_rim fs (links fs) (hop i s))

  pub hop-add : (a b s : ℕ) → hop (a + b) s ≡ hop a (hop b s)
  hop-add zero b s = let e : 0 + b ≡ b = omega arith in ap (λ (z : ℕ). hop z s) e
  hop-add (suc a) b s = let e : suc a + b ≡ suc (a + b) = omega arith in ap (λ (z : ℕ). hop z s) e ∙ ap (λ (z : ℕ). or_zero (next_rim fs (links fs) z)) (hop-add a b s)

  module _ (s : ℕ) (r : Rim n m w s) where
    abbrev pub loop : List ℕ
    loop = trail (step n m w s r) (3 * n) (here s)

    pub around-is : around fs (links fs) s ≡ loop
    unfolding around
    around-is = ap (λ (k : ℕ). trail (step n m w s r) k (here s)) w.good.size

    pub filled : 0 < length loop
    filled = at (3 * n) (omega (arith, r.below))
      where
        at : (k : ℕ) → 0 < k → 0 < length (trail (step n m w s r) k (here s))
        at zero h = absurd (not-suc-le-zero h)
        at (suc k) h = suc-le-suc zero-le

    first : get_or loop 0 0 ≡ s
    first = at (3 * n) (omega (arith, r.below))
      where
        at : (k : ℕ) → 0 < k → get_or (trail (step n m w s r) k (here s)) 0 0 ≡ s
        at zero h = absurd (not-suc-le-zero h)
        at (suc k) h = refl

    pub at-hop : (i : ℕ) → i < length loop → get_or loop i 0 ≡ hop i s
    at-hop zero h = first
    at-hop (suc i) h =
        let c = (step-some s (get_or loop (suc i) 0) (next_rim fs (links fs) (get_or loop i 0)) (chain (step n m w s r) (3 * n) (here s) i h)).0 in
        sym (ap or_zero (sym (ap (next_rim fs (links fs)) (at-hop i (omega arith))) ∙ c))

    -- after as many as it has it is back
    pub back : hop (length loop) s ≡ s
    back =
        let k = length loop - 1 in
        let e : length loop ≡ suc k = omega (arith, filled) in
        let l = rw (closes n m w s r) at (last-stop (step n m w s r) (3 * n) s 0) in
        let z = step-home s (next_rim fs (links fs) (last_of 0 loop)) l in
        let q : get_or loop k 0 ≡ hop k s = at-hop k (omega (arith, filled)) in
        ap (λ (x : ℕ). hop x s) e ∙ ap (λ (x : ℕ). or_zero (next_rim fs (links fs) x)) (sym q ∙ sym (last-at 0 loop filled)) ∙ ap or_zero z

    back-times : (q : ℕ) → hop (q * length loop) s ≡ s
    back-times zero = let e : 0 * length loop ≡ 0 = omega arith in ap (λ (z : ℕ). hop z s) e
    back-times (suc q) =
        let e : suc q * length loop ≡ q * length loop + length loop = omega arith in
        ap (λ (z : ℕ). hop z s) e ∙ hop-add (q * length loop) (length loop) s ∙ ap (hop (q * length loop)) back ∙ back-times q

    -- all that is met on the way is in the loop
    pub hop-in : (i : ℕ) → In loop (hop i s)
    hop-in i =
        let k = length loop in
        let h = mod-lt i {m = k} filled in
        let e : i ≡ i % k + (i / k) * k = omega (arith, div-add-mod' i k) in
        in-at loop (i % k) (hop i s) h (at-hop (i % k) h ∙ sym (ap (λ (z : ℕ). hop z s) e ∙ hop-add (i % k) ((i / k) * k) s ∙ ap (hop (i % k)) (back-times (i / k))))

    pub rim-in : (t : ℕ) → In loop t → Rim n m w t
    rim-in t i = rw (← i.is) (rim-of n m w s r (3 * n) i.place i.below)

  -- a side in the loop of another has that other in its own
  pub in-sym : (s t : ℕ) (r : Rim n m w s) (q : Rim n m w t) → In (loop s r) t → In (loop t q) s
  in-sym s t r q i =
      let k = length (loop s r) in
      let a : hop i.place s ≡ t = sym (at-hop s r i.place i.below) ∙ i.is in
      let e : k ≡ (k - i.place) + i.place = omega (arith, i.below) in
      let b : hop (k - i.place) t ≡ s = ap (hop (k - i.place)) (sym a) ∙ sym (hop-add (k - i.place) i.place s) ∙ ap (λ (z : ℕ). hop z s) (sym e) ∙ back s r in
      rw b at (hop-in t q (k - i.place))

  pub in-trans : (s t x : ℕ) (r : Rim n m w s) (q : Rim n m w t) → In (loop s r) t → In (loop t q) x → In (loop s r) x
  in-trans s t x r q i j =
      let a : hop i.place s ≡ t = sym (at-hop s r i.place i.below) ∙ i.is in
      let b : hop j.place t ≡ x = sym (at-hop t q j.place j.below) ∙ j.is in
      let c : hop (j.place + i.place) s ≡ x = hop-add j.place i.place s ∙ ap (hop j.place) a ∙ b in
      rw c at (hop-in s r (j.place + i.place))

  -- ---- no vertex of a loop is below the one at which it begins

  pub none-lower : (s : ℕ) (r : Rim n m w s) → T (begins fs (links fs) (corner fs s)) → (t : ℕ) → In (loop s r) t → corner fs s ≤ corner fs t
  none-lower s r b t i = go (dec_lt (corner fs t) (corner fs s))
    where
      b' : T (not (found (find (λ u. ltb u (corner fs s)) (map (corner fs) (loop s r)))))
      b' = rw (leaving-is n m w s r, around-is s r) at b

      go : Dec (corner fs t < corner fs s) → corner fs s ≤ corner fs t
      go (no l) = omega arith
      go (yes l) =
          let e = none_of (find (λ u. ltb u (corner fs s)) (map (corner fs) (loop s r))) b' in
          let h : i.place < length (map (corner fs) (loop s r)) = rw (length-map (loop s r) (corner fs)) i.below in
          let f = find_none (λ u. ltb u (corner fs s)) 0 (map (corner fs) (loop s r)) e i.place h in
          let g = get_d_map (corner fs) (loop s r) i.place 0 0 i.below ∙ ap (corner fs) i.is in
          absurd (T_not (ltb (corner fs t) (corner fs s)) (rw g at f) (lt→ltb (corner fs t) (corner fs s) l))
        where
          none_of : (o : Option ℕ) → T (not (found o)) → o ≡ none
          none_of none k = refl
          none_of (some x) k = absurd k

  -- two loops with a side in common begin at one side: "Every rim side stands in exactly one loop"
  pub one-start : (s t x : ℕ) (r : Rim n m w s) (q : Rim n m w t) → T (begins fs (links fs) (corner fs s)) → T (begins fs (links fs) (corner fs t)) → In (loop s r) x → In (loop t q) x → s ≡ t
  one-start s t x r q b d i j =
      let p = rim-in s r x i in
      let st = in-trans s x t r p i (in-sym t x q p j) in
      let ts = in-trans t x s q p j (in-sym s x r p i) in
      leave-one n m w s t r q (omega (arith, none-lower s r b t st, none-lower t q d s ts))

  -- ---- every rim side stands in a loop that begins

  pub record Stands (x : ℕ) : Type 0 where
    pub start : ℕ
    pub rim : Rim n m w start
    pub begun : T (begins fs (links fs) (corner fs start))
    pub among : In (loop start rim) x

  pub stands : (k x : ℕ) → corner fs x < k → Rim n m w x → Stands x
  stands zero x h r = absurd (not-suc-le-zero h)
  stands (suc k) x h r = go (λ t l q. stands k t l q) (find (λ u. ltb u (corner fs x)) (map (corner fs) (loop x r))) refl
    where
      go : ((t : ℕ) → corner fs t < k → Rim n m w t → Stands t) → (o : Option ℕ) → find (λ u. ltb u (corner fs x)) (map (corner fs) (loop x r)) ≡ o → Stands x
      go rec none e = record { start = x; rim = r; begun = rw (leaving-is n m w x r, around-is x r, e) tt; among = hop-in x r 0 }
      go rec (some i) e =
          let f = find-some (λ u. ltb u (corner fs x)) 0 (map (corner fs) (loop x r)) i e in
          let b : i < length (loop x r) = rw (length-map (loop x r) (corner fs)) at f.below in
          let t = get_or (loop x r) i 0 in
          let l : corner fs t < corner fs x = ltb→lt (corner fs t) (corner fs x) (rw (get_d_map (corner fs) (loop x r) i 0 0 b) at f.passes) in
          let it : In (loop x r) t = in-at (loop x r) i t b refl in
          let q = rim-in x r t it in
          let y = rec t (omega arith) q in
          record { start = y.start; rim = y.rim; begun = y.begun; among = in-trans y.start t x y.rim q y.among (in-sym x t r q it) }
