-- Marks tell where loops begin: a loop not met before begins where it is met first.
use mathlib.Core.Path.{◌≡◌, refl, sym, ap, ◌∙◌}
use mathlib.Core.Logic.{◌≢◌}
use Prim.Native.Nat.{ℕ, suc, ◌+◌, ◌-◌, ◌<◌, ◌≤◌}
use native.Mathlib.Nat.{not-suc-le-zero}
use native.Mathlib.Omega.{arith}
use native.Mathlib.Decide.{dec_lt, ℕ_discrete}
use mathlib.Core.Bool.{Bool, true, false}
use mathlib.Core.List.{List}
use mathlib.Core.Option.{Option, none, some}
use lib.Dec.{T, eqb}
use lib.ListN.{length, get_or}
use borrow.Author.Tests.{eq-eqb, ne_eqb}
use Rattle.lists.specs.Lists.{bit}
use Rattle.rules.specs.Mesh.{corner, links, Mesh}
use Rattle.rules.proofs.Fans.{T_true}
use Rattle.rules.proofs.Sound.{In, in-at}
use Rattle.faces.specs.Words.{coded}
use Rattle.outlines.specs.Loops.{leaving, around, begins}
use Rattle.outlines.specs.Pieces.{sides_of, Traceable, Painted, vertex_of, Marked, Firsts}
use Rattle.outlines.proofs.Rims.{Rim, leaving-some, leaving-is, leave-one}
use Rattle.outlines.proofs.Orbits.{loop, around-is, hop-in, rim-in, none-lower, one-start, Stands, stands}
use Rattle.outlines.proofs.Counted.{start_of}
use Rattle.outlines.proofs.Steps.{mesh_of, faces_of}

pub marked-none : (v : ℕ) (fs ms : List ℕ) → v ≤ length ms → ((i : ℕ) → get_or ms i 0 ≡ 0) → Marked v fs 0 ms
marked-none v fs ms h z = record { long = h; on = λ u i k. absurd (not-suc-le-zero k); later = λ u i k t b. z _; none-on = λ u k e. z u }

not_T : (b : Bool) → (T b → ⊥) → b ≡ false
not_T true f = absurd (f tt)
not_T false f = refl

module _ (v : ℕ) (fs : List ℕ) (t : Traceable v fs) where
  abbrev n : ℕ
  n = faces_of v fs t

  abbrev m : Mesh
  m = mesh_of v fs t

  abbrev ls : List (Option ℕ)
  ls = links fs

  abbrev Side : ℕ → Type 0
  Side s = Rim n m t.sound s

  abbrev Starts : ℕ → Type 0
  Starts s = Stands n m t.sound s

  sides-are : (s : ℕ) (r : Side s) → sides_of fs ls (leaving fs ls (corner fs s)) ≡ loop n m t.sound s r
  sides-are s r = ap (sides_of fs ls) (leaving-is n m t.sound s r) ∙ around-is n m t.sound s r

  -- where a rim side's loop begins
  start-at : (s : ℕ) → Side s → Starts s
  start-at s r = stands n m t.sound (suc (corner fs s)) s (omega arith) r

  mark_of : (k x : ℕ) (ms : List ℕ) → Marked v fs k ms → (st : Starts x) → corner fs st.start < k → get_or ms (corner fs x) 0 ≡ corner fs st.start + 1
  mark_of k x ms a st h =
      let e = sides-are st.start st.rim in
      let q : get_or (sides_of fs ls (leaving fs ls (corner fs st.start))) st.among.place 0 ≡ x = ap (λ (l : List ℕ). get_or l st.among.place 0) e ∙ st.among.is in
      ap (λ (z : ℕ). get_or ms (corner fs z) 0) (sym q) ∙ a.on (corner fs st.start) st.among.place h st.begun (rw e st.among.below)

  zero_of : (k x : ℕ) (ms : List ℕ) → Marked v fs k ms → (st : Starts x) → k ≤ corner fs st.start → get_or ms (corner fs x) 0 ≡ 0
  zero_of k x ms a st h =
      let e = sides-are st.start st.rim in
      let q : get_or (sides_of fs ls (leaving fs ls (corner fs st.start))) st.among.place 0 ≡ x = ap (λ (l : List ℕ). get_or l st.among.place 0) e ∙ st.among.is in
      ap (λ (z : ℕ). get_or ms (corner fs z) 0) (sym q) ∙ a.later (corner fs st.start) st.among.place h st.begun (rw e st.among.below)

  -- ---- no loop begins at u

  marked-same : (u : ℕ) (ms : List ℕ) → begins fs ls u ≡ false → Marked v fs u ms → Marked v fs (u + 1) ms
  marked-same u ms e a = record {
    long = a.long;
    on = λ x i h b k. a.on x i (below x h b) b k;
    later = λ x i h b k. a.later x i (omega arith) b k;
    none-on = a.none-on;
  }
    where
      below : (x : ℕ) → x < u + 1 → T (begins fs ls x) → x < u
      below x h b = go (ℕ_discrete x u)
        where
          go : Dec (x ≡ u) → x < u
          go (yes q) = absurd (rw e at (rw q at b))
          go (no q) = omega arith

  pub begins-none : (u : ℕ) → leaving fs ls u ≡ none → begins fs ls u ≡ false
  begins-none u e = rw e refl

  -- one at which a loop begins has no mark yet
  begins-old : (u s : ℕ) (ms : List ℕ) → leaving fs ls u ≡ some s → (get_or ms u 0 ≡ 0 → ⊥) → Marked v fs u ms → begins fs ls u ≡ false
  begins-old u s ms e z a = not_T (begins fs ls u) (λ b.
      let x = leaving-some n m t.sound u s e in
      let st : Starts s = record { start = s; rim = x.0; begun = rw x.1 b; among = hop-in n m t.sound s x.0 0 } in
      z (ap (λ (y : ℕ). get_or ms y 0) (sym x.1) ∙ zero_of u s ms a st (omega (arith, x.1))))

  begins-new : (u s : ℕ) (ms : List ℕ) → leaving fs ls u ≡ some s → get_or ms u 0 ≡ 0 → Marked v fs u ms → T (begins fs ls u)
  begins-new u s ms e z a =
      let x = leaving-some n m t.sound u s e in
      let st = start-at s x.0 in
      let l = none-lower n m t.sound st.start st.rim st.begun s st.among in
      go x st l (dec_lt (corner fs st.start) u)
    where
      go : Side s × (corner fs s ≡ u) → (st : Starts s) → corner fs st.start ≤ corner fs s → Dec (corner fs st.start < u) → T (begins fs ls u)
      go x st l (yes h) = absurd (omega (arith, mark_of u s ms a st h, ap (λ (y : ℕ). get_or ms y 0) x.1, z))
      go x st l (no h) = let q : corner fs st.start ≡ u = omega (arith, l, x.1) in rw q at st.begun

  pub mark-none : (u : ℕ) (ms : List ℕ) → leaving fs ls u ≡ none → Marked v fs u ms → (0 ≡ bit (begins fs ls u)) × Marked v fs (u + 1) ms
  mark-none u ms e a = let b = begins-none u e in (sym (ap bit b), marked-same u ms b a)

  pub mark-old : (u s : ℕ) (ms : List ℕ) → leaving fs ls u ≡ some s → (get_or ms u 0 ≡ 0 → ⊥) → Marked v fs u ms → (0 ≡ bit (begins fs ls u)) × Marked v fs (u + 1) ms
  mark-old u s ms e z a = let b = begins-old u s ms e z a in (sym (ap bit b), marked-same u ms b a)

  -- ---- a loop begins at u

  module _ (u s : ℕ) (ms new : List ℕ) (e : leaving fs ls u ≡ some s) (z : get_or ms u 0 ≡ 0) (a : Marked v fs u ms)
      (p : Painted (vertex_of fs s) (length (around fs ls s)) (u + 1) new ms) where
    r : Side s
    r = (leaving-some n m t.sound u s e).0

    from : corner fs s ≡ u
    from = (leaving-some n m t.sound u s e).1

    begun : T (begins fs ls (corner fs s))
    begun = rw from (begins-new u s ms e z a)

    -- a vertex of it is on no other loop
    other : (x : ℕ) (st : Starts x) → corner fs st.start ≢ u → (i : ℕ) → i < length (around fs ls s) → vertex_of fs s i ≢ corner fs x
    other x st d i h q =
        let l = around-is n m t.sound s r in
        let k : i < length (loop n m t.sound s r) = rw l at h in
        let j : In (loop n m t.sound s r) (get_or (loop n m t.sound s r) i 0) = in-at (loop n m t.sound s r) i _ k refl in
        let q' : corner fs (get_or (loop n m t.sound s r) i 0) ≡ corner fs x = ap (λ (y : List ℕ). corner fs (get_or y i 0)) (sym l) ∙ q in
        let y = leave-one n m t.sound (get_or (loop n m t.sound s r) i 0) x (rim-in n m t.sound s r _ j) (rim-in n m t.sound st.start st.rim x st.among) q' in
        let o = one-start n m t.sound s st.start x r st.rim begun st.begun (rw y at j) st.among in
        d (ap (corner fs) (sym o) ∙ from)

    stand_of : (x i : ℕ) → T (begins fs ls x) → i < length (sides_of fs ls (leaving fs ls x)) → (y : ℕ) → get_or (sides_of fs ls (leaving fs ls x)) i 0 ≡ y → (st : Starts y) × (corner fs st.start ≡ x)
    stand_of x i b h y q =
        let k = start_of n m t.sound x b in
        (record { start = k.side; rim = k.rim; begun = k.begun; among = in-at (loop n m t.sound k.side k.rim) i y (rw k.sides at h) (rw k.sides at q) }, k.from)

    pub marked-new : Marked v fs (u + 1) new
    marked-new = record {
      long = omega (arith, a.long, p.long);
      on = λ x i h b k. on-at x i h b k (ℕ_discrete x u);
      later = λ x i h b k.
          (let st = stand_of x i b k (get_or (sides_of fs ls (leaving fs ls x)) i 0) refl in
          p.rest _ (other _ st.0 (λ q. omega (arith, q, st.1, h))) ∙ a.later x i (omega arith) b k);
      none-on = λ x h q. p.rest x (λ i k y. off x i q k y) ∙ a.none-on x h q;
    }
      where
        on-at : (x i : ℕ) → x < u + 1 → T (begins fs ls x) → i < length (sides_of fs ls (leaving fs ls x)) → Dec (x ≡ u) → get_or new (corner fs (get_or (sides_of fs ls (leaving fs ls x)) i 0)) 0 ≡ x + 1
        on-at x i h b k (yes q) = rw (q, e) (p.on i (rw (q, e) at k))
        on-at x i h b k (no q) =
            let st = stand_of x i b k (get_or (sides_of fs ls (leaving fs ls x)) i 0) refl in
            p.rest _ (other _ st.0 (λ y. q (sym st.1 ∙ y))) ∙ a.on x i (omega arith) b k

        off : (x i : ℕ) → leaving fs ls x ≡ none → i < length (around fs ls s) → vertex_of fs s i ≡ x → ⊥
        off x i q k y =
            let l = around-is n m t.sound s r in
            let c : i < length (loop n m t.sound s r) = rw l at k in
            let d = rim-in n m t.sound s r (get_or (loop n m t.sound s r) i 0) (in-at (loop n m t.sound s r) i _ c refl) in
            let g : corner fs (get_or (loop n m t.sound s r) i 0) ≡ x = ap (λ (w : List ℕ). corner fs (get_or w i 0)) (sym l) ∙ y in
            clash (sym q ∙ ap (leaving fs ls) (sym g) ∙ leaving-is n m t.sound _ d)
          where
            clash : {w : ℕ} → none ≡ some w → ⊥
            clash j = let z : ◌≡◌ {A = ℕ} 0 1 = cc in omega arith

    pub mark-new : (1 ≡ bit (begins fs ls u)) × Marked v fs (u + 1) new
    mark-new = (sym (ap bit (T_true (begins fs ls u) (begins-new u s ms e z a))), marked-new)

  -- ---- all of them

  pub firsts-all : (ms : List ℕ) → Marked v fs v ms → Firsts v fs ms
  firsts-all ms a = record { is = λ u h. go u h (leaving fs ls u) refl }
    where
      go : (u : ℕ) → u < v → (o : Option ℕ) → leaving fs ls u ≡ o → eqb (get_or ms u 0) (u + 1) ≡ begins fs ls u
      go u h none e = ne_eqb (get_or ms u 0) (u + 1) (λ q. omega (arith, a.none-on u h e, q)) ∙ sym (begins-none u e)
      go u h (some s) e = at x st (ℕ_discrete (corner fs st.start) u)
        where
          x : Side s × (corner fs s ≡ u)
          x = leaving-some n m t.sound u s e

          st : Starts s
          st = start-at s x.0

          mark : get_or ms u 0 ≡ corner fs st.start + 1
          mark = ap (λ (y : ℕ). get_or ms y 0) (sym x.1) ∙ mark_of v s ms a st (t.sound.good.below st.start st.rim.below)

          at : Side s × (corner fs s ≡ u) → Starts s → Dec (corner fs st.start ≡ u) → eqb (get_or ms u 0) (u + 1) ≡ begins fs ls u
          at _ _ (yes q) = eq-eqb (get_or ms u 0) (u + 1) (mark ∙ ap (λ (y : ℕ). y + 1) q) ∙ sym (T_true (begins fs ls u) (rw q at st.begun))
          at _ _ (no q) = ne_eqb (get_or ms u 0) (u + 1) (λ y. q (omega (arith, mark, y))) ∙ sym (not_T (begins fs ls u) (λ b.
              q (ap (corner fs) (one-start n m t.sound st.start s s st.rim x.0 st.begun (rw x.1 b) st.among (hop-in n m t.sound s x.0 0)) ∙ x.1)))

-- what a word of the table tells
pub word_none : (w : ℕ) (o : Option ℕ) → w ≡ coded o → w ≡ 0 → o ≡ none
word_none w none e z = refl
word_none w (some x) e z = absurd (omega (arith, e, z))

pub word_some : (w : ℕ) (o : Option ℕ) → w ≡ coded o → (w ≡ 0 → ⊥) → o ≡ some (w - 1)
word_some w none e z = absurd (z e)
word_some w (some x) e z = let q : x ≡ w - 1 = omega (arith, e) in ap some q

pub record First (fs : List ℕ) (s : ℕ) : Type 0 where
  pub below : s < length fs
  pub again : leaving fs (links fs) (corner fs s) ≡ some s

pub first-of : (v : ℕ) (fs : List ℕ) (t : Traceable v fs) (u s : ℕ) → leaving fs (links fs) u ≡ some s → First fs s
first-of v fs t u s e =
    let x = leaving-some (faces_of v fs t) (mesh_of v fs t) t.sound u s e in
    record { below = omega (arith, x.0.below, t.sound.good.size); again = ap (leaving fs (links fs)) x.1 ∙ e }
