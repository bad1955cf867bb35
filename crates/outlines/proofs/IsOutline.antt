-- The loops are an outline: each follows the rim from its lowest vertex, in order, and every rim side stands in exactly one.
use mathlib.Core.Path.{◌≡◌, refl, sym, ap, ◌∙◌}
use mathlib.Core.Logic.{◌≢◌}
use Prim.Native.Nat.{ℕ, zero, suc, ◌+◌, ◌-◌, ◌*◌, ◌/◌, ◌%◌, ◌<◌, ◌≤◌}
use native.Mathlib.Nat.{not-suc-le-zero, div-add-mod', mod-lt}
use native.Mathlib.Omega.{arith}
use native.Mathlib.Decide.{dec_lt, ℕ_discrete}
use mathlib.Core.Bool.{Bool, true, false}
use mathlib.Core.List.{List, [], ◌∷◌, ◌++◌, map}
use mathlib.Core.Option.{Option, none, some}
use lib.Dec.{T}
use lib.ListN.{length, get_or, length-map}
use Rattle.lists.specs.Lists.{pick, count, keep, tally}
use Rattle.lists.proofs.Places.{get_d_map, keep-suc, rank-le}
use Rattle.lists.proofs.Counting.{Kept, kept, tally-without}
use Rattle.rules.specs.Mesh.{corner, links, rims, Mesh}
use Rattle.rules.proofs.Fans.{T_true}
use Rattle.rules.proofs.Sound.{Sound, In, in-at}
use Rattle.outlines.specs.Loops.{is_rim, leaving, next_rim, loop_of, loop_at, begins, outlines}
use Rattle.outlines.specs.IsOutline.{Runs, Stood, IsOutline}
use Rattle.outlines.specs.Pieces.{sides_of}
use Rattle.outlines.proofs.Rims.{Rim, test-rim, leave-one, next-is, no-twice}
use Rattle.outlines.proofs.Orbits.{or_zero, hop, loop, filled, at-hop, back, hop-in, in-trans, rim-in, none-lower, one-start, Stands, stands}
use Rattle.outlines.proofs.Counted.{start_of, rims-are, in_left, in_right}

none_kept : (p : ℕ → Bool) (v : ℕ) → ((u : ℕ) → T (p u) → ⊥) → keep p (count 0 v) ≡ []
none_kept p zero h = refl
none_kept p (suc v) h = keep-suc p 0 v ∙ ap (λ (l : List ℕ). l ++ pick (p (0 + v)) ((0 + v) ∷ []) []) (none_kept p v h) ∙ go (p (0 + v)) (h (0 + v))
  where
    go : (b : Bool) → (T b → ⊥) → [] ++ pick b ((0 + v) ∷ []) [] ≡ []
    go true f = absurd (f tt)
    go false f = refl

in-keep : (p : ℕ → Bool) (v u : ℕ) → u < v → T (p u) → In (keep p (count 0 v)) u
in-keep p zero u h t = absurd (not-suc-le-zero h)
in-keep p (suc v) u h t = rw (keep-suc p 0 v) (go (in-keep p v u) (ℕ_discrete u v))
  where
    go : (u < v → T (p u) → In (keep p (count 0 v)) u) → Dec (u ≡ v) → In (keep p (count 0 v) ++ pick (p (0 + v)) ((0 + v) ∷ []) []) u
    go rec (no q) = in_left (keep p (count 0 v)) (pick (p (0 + v)) ((0 + v) ∷ []) []) u (rec (omega arith) t)
    go rec (yes q) =
        let e : 0 + v ≡ u = omega arith in
        in_right (keep p (count 0 v)) (pick (p (0 + v)) ((0 + v) ∷ []) []) u (rw (e, T_true (p u) t) (in-at (u ∷ []) 0 u (omega arith) refl))

pub mod-small : (x y : ℕ) → x < y → x % y ≡ x
mod-small x y h = go (x / y) refl
  where
    go : (q : ℕ) → x / y ≡ q → x % y ≡ x
    go zero e = let z : (x / y) * y ≡ 0 * y = ap (λ (k : ℕ). k * y) e in omega (arith, div-add-mod' x y, z)
    go (suc q) e = let z : (x / y) * y ≡ suc q * y = ap (λ (k : ℕ). k * y) e in absurd (omega (arith, div-add-mod' x y, z))

pub mod-all : (y : ℕ) → 0 < y → y % y ≡ 0
mod-all y h = go (y / y) refl
  where
    go : (q : ℕ) → y / y ≡ q → y % y ≡ 0
    go zero e = let z : (y / y) * y ≡ 0 * y = ap (λ (k : ℕ). k * y) e in absurd (omega (arith, div-add-mod' y y, z, mod-lt y {m = y} h))
    go (suc q) e = let z : (y / y) * y ≡ suc q * y = ap (λ (k : ℕ). k * y) e in omega (arith, div-add-mod' y y, z)

module _ (n : ℕ) (m : Mesh) (w : Sound n m) where
  abbrev fs : List ℕ
  fs = m.faces

  abbrev ls : List (Option ℕ)
  ls = links fs

  abbrev us : List ℕ
  us = keep (begins fs ls) (count 0 m.verts)

  many : length (outlines m) ≡ length us
  unfolding outlines
  many = length-map us (loop_at fs ls)

  loop-as : (o : Option ℕ) → loop_of fs ls o ≡ map (corner fs) (sides_of fs ls o)
  loop-as none = refl
  loop-as (some s) = refl

  -- loop i
  record Loop (i : ℕ) : Type 0 where
    at : ℕ
    spot : at ≡ get_or us i 0
    kept_at : Kept (begins fs ls) 0 m.verts i at
    side : ℕ
    rim : Rim n m w side
    from : corner fs side ≡ at
    begun : T (begins fs ls (corner fs side))
    is : get_or (outlines m) i [] ≡ map (corner fs) (loop n m w side rim)

  loop-at : (i : ℕ) → i < length (outlines m) → Loop i
  unfolding outlines
  loop-at i h =
      let k : i < length us = rw (length-map us (loop_at fs ls)) at h in
      let q = kept (begins fs ls) 0 m.verts i k in
      let s = start_of n m w (get_or us i 0) q.passes in
      record {
        at = get_or us i 0;
        spot = refl;
        kept_at = q;
        side = s.side;
        rim = s.rim;
        from = s.from;
        begun = s.begun;
        is = get_d_map (loop_at fs ls) us i 0 [] k ∙ loop-as (leaving fs ls (get_or us i 0)) ∙ ap (map (corner fs)) s.sides;
      }

  abbrev sides : (i : ℕ) → Loop i → List ℕ
  sides i a = loop n m w a.side a.rim

  long : (i : ℕ) (a : Loop i) → length (get_or (outlines m) i []) ≡ length (sides i a)
  long i a = ap (λ (l : List ℕ). length l) a.is ∙ length-map (sides i a) (corner fs)

  vertex : (i : ℕ) (a : Loop i) (j : ℕ) → j < length (sides i a) → get_or (get_or (outlines m) i []) j 0 ≡ corner fs (get_or (sides i a) j 0)
  vertex i a j h = ap (λ (l : List ℕ). get_or l j 0) a.is ∙ get_d_map (corner fs) (sides i a) j 0 0 h

  first : (i : ℕ) (a : Loop i) → get_or (get_or (outlines m) i []) 0 0 ≡ corner fs a.side
  first i a = vertex i a 0 (filled n m w a.side a.rim) ∙ ap (corner fs) (at-hop n m w a.side a.rim 0 (filled n m w a.side a.rim))

  -- loop i begins at the i-th of the vertices at which one begins
  pub first-is : (i : ℕ) → i < length (outlines m) → get_or (get_or (outlines m) i []) 0 0 ≡ get_or (keep (begins m.faces (links m.faces)) (count 0 m.verts)) i 0
  first-is i h = let a = loop-at i h in first i a ∙ a.from ∙ a.spot

  rim-at : (i : ℕ) (a : Loop i) (j : ℕ) → j < length (sides i a) → Rim n m w (get_or (sides i a) j 0)
  rim-at i a j h = rim-in n m w a.side a.rim (get_or (sides i a) j 0) (in-at (sides i a) j _ h refl)

  -- the side after side j, round the end
  after : (i : ℕ) (a : Loop i) (j : ℕ) → j < length (sides i a) → get_or (sides i a) ((j + 1) % length (sides i a)) 0 ≡ hop n m w (suc j) a.side
  after i a j h = go (dec_lt (suc j) (length (sides i a)))
    where
      go : Dec (suc j < length (sides i a)) → get_or (sides i a) ((j + 1) % length (sides i a)) 0 ≡ hop n m w (suc j) a.side
      go (yes l) =
          let e : (j + 1) % length (sides i a) ≡ suc j = mod-small (j + 1) (length (sides i a)) (omega arith) ∙ omega arith in
          rw e (at-hop n m w a.side a.rim (suc j) l)
      go (no l) =
          let q : j + 1 ≡ length (sides i a) = omega arith in
          let e : (j + 1) % length (sides i a) ≡ 0 = rw q (mod-all (length (sides i a)) (filled n m w a.side a.rim)) in
          let z : length (sides i a) ≡ suc j = omega arith in
          rw e (at-hop n m w a.side a.rim 0 (filled n m w a.side a.rim) ∙ sym (back n m w a.side a.rim) ∙ ap (λ (x : ℕ). hop n m w x a.side) z)

  runs : (i : ℕ) (a : Loop i) (j : ℕ) → j < length (sides i a) → Runs m (corner fs (get_or (sides i a) j 0)) (corner fs (hop n m w (suc j) a.side))
  runs i a j h =
      let r = rim-at i a j h in
      let x = next-is n m w (get_or (sides i a) j 0) r in
      let e : hop n m w (suc j) a.side ≡ x.0 = ap (λ (z : ℕ). or_zero (next_rim fs ls z)) (sym (at-hop n m w a.side a.rim j h)) ∙ ap or_zero x.2 in
      record { side = get_or (sides i a) j 0; below = omega (arith, r.below, w.good.size); lone = r.lone; from = refl; to = sym x.3 ∙ ap (corner fs) (sym e) }

  same-loop : (i k : ℕ) (a : Loop i) (b : Loop k) → a.at ≡ b.at → i ≡ k
  same-loop i k a b e = sym a.kept_at.rank ∙ ap (λ (z : ℕ). tally (begins fs ls) (count 0 (z - 0))) e ∙ b.kept_at.rank

  pub is-outline : IsOutline m (outlines m)
  is-outline = record {
    filled = λ i h. (let a = loop-at i h in omega (arith, long i a, filled n m w a.side a.rim));
    follows = λ i j h k. follow i j (loop-at i h) k;
    lowest = λ i j h p k. low i j (loop-at i h) p k;
    order = λ i k h l. (let a = loop-at i (omega arith) in let b = loop-at k l in in_order i k a b h);
    each = λ s h e. stood s h e;
    once = λ x p q. alone x p q (loop-at p.loop p.among) (loop-at q.loop q.among);
  }
    where
      follow : (i j : ℕ) (a : Loop i) → j < length (get_or (outlines m) i []) → Runs m (get_or (get_or (outlines m) i []) j 0) (get_or (get_or (outlines m) i []) ((j + 1) % length (get_or (outlines m) i [])) 0)
      follow i j a k =
          let h : j < length (sides i a) = rw (long i a) at k in
          let p = mod-lt (j + 1) {m = length (sides i a)} (filled n m w a.side a.rim) in
          rw (long i a, vertex i a j h, vertex i a ((j + 1) % length (sides i a)) p, after i a j h) (runs i a j h)

      low : (i j : ℕ) (a : Loop i) → 0 < j → j < length (get_or (outlines m) i []) → get_or (get_or (outlines m) i []) 0 0 < get_or (get_or (outlines m) i []) j 0
      low i j a p k =
          let h : j < length (sides i a) = rw (long i a) at k in
          let l = none-lower n m w a.side a.rim a.begun (get_or (sides i a) j 0) (in-at (sides i a) j _ h refl) in
          let f = at-hop n m w a.side a.rim 0 (filled n m w a.side a.rim) in
          let d : corner fs a.side ≢ corner fs (get_or (sides i a) j 0) = λ q. no-twice n m w a.side a.rim (3 * n) 0 j p h (f ∙ leave-one n m w a.side (get_or (sides i a) j 0) a.rim (rim-at i a j h) q) in
          rw (first i a, vertex i a j h) (strict (corner fs a.side) (corner fs (get_or (sides i a) j 0)) l d)
        where
          strict : (x y : ℕ) → x ≤ y → x ≢ y → x < y
          strict x y l d = go (dec_lt x y)
            where
              go : Dec (x < y) → x < y
              go (yes z) = z
              go (no z) = absurd (d (omega arith))

      in_order : (i k : ℕ) (a : Loop i) (b : Loop k) → i < k → get_or (get_or (outlines m) i []) 0 0 < get_or (get_or (outlines m) k []) 0 0
      in_order i k a b h = rw (first i a, first k b, a.from, b.from) (go (dec_lt a.at b.at))
        where
          go : Dec (a.at < b.at) → a.at < b.at
          go (yes z) = z
          go (no z) =
              let p = ap (λ (x : ℕ). tally (begins fs ls) (count 0 x)) (zero-off a.at) in
              let q = ap (λ (x : ℕ). tally (begins fs ls) (count 0 x)) (zero-off b.at) in
              absurd (omega (arith, rank-le (begins fs ls) b.at a.at (omega arith), sym p ∙ a.kept_at.rank, sym q ∙ b.kept_at.rank))
            where
              zero-off : (x : ℕ) → x - 0 ≡ x
              zero-off x = omega arith

      stood : (s : ℕ) → s < length fs → get_or ls s none ≡ none → Stood (outlines m) (corner fs s)
      stood s h e =
          let r : Rim n m w s = record { below = omega (arith, w.good.size); lone = e } in
          let st = stands n m w (suc (corner fs s)) s (omega arith) r in
          let u = in-keep (begins fs ls) m.verts (corner fs st.start) (w.good.below st.start st.rim.below) st.begun in
          let k : u.place < length (outlines m) = rw many u.below in
          at st u.place k (loop-at u.place k) u.is
        where
          at : (st : Stands n m w s) (i : ℕ) (k : i < length (outlines m)) (a : Loop i) → get_or us i 0 ≡ corner fs st.start → Stood (outlines m) (corner fs s)
          at st i k a q =
              let e : a.side ≡ st.start = leave-one n m w a.side st.start a.rim st.rim (a.from ∙ a.spot ∙ q) in
              let z = hop-in n m w a.side a.rim 0 in
              let j : In (sides i a) st.start = in-at (sides i a) z.place st.start z.below (z.is ∙ e) in
              let y = in-trans n m w a.side st.start s a.rim st.rim j st.among in
              record { loop = i; place = y.place; among = k; below = rw (long i a) y.below; is = vertex i a y.place y.below ∙ ap (corner fs) y.is }

      alone : (x : ℕ) (p q : Stood (outlines m) x) → Loop p.loop → Loop q.loop → (p.loop ≡ q.loop) × (p.place ≡ q.place)
      alone x p q a b =
          let h : p.place < length (sides p.loop a) = rw (long p.loop a) at p.below in
          let k : q.place < length (sides q.loop b) = rw (long q.loop b) at q.below in
          let c : corner fs (get_or (sides p.loop a) p.place 0) ≡ corner fs (get_or (sides q.loop b) q.place 0) = sym (vertex p.loop a p.place h) ∙ p.is ∙ sym q.is ∙ vertex q.loop b q.place k in
          let e = leave-one n m w _ _ (rim-at p.loop a p.place h) (rim-at q.loop b q.place k) c in
          let o = one-start n m w a.side b.side (get_or (sides p.loop a) p.place 0) a.rim b.rim a.begun b.begun (in-at (sides p.loop a) p.place _ h refl) (in-at (sides q.loop b) q.place _ k (sym e)) in
          let l = same-loop p.loop q.loop a b (sym a.from ∙ ap (corner fs) o ∙ b.from) in
          let z : length (sides q.loop b) ≡ length (sides p.loop a) = sym (long q.loop b) ∙ ap (λ (i : ℕ). length (get_or (outlines m) i [])) (sym l) ∙ long p.loop a in
          let k' : q.place < length (sides p.loop a) = omega (arith, k, z) in
          let y : get_or (sides p.loop a) p.place 0 ≡ get_or (sides p.loop a) q.place 0 =
          e ∙ at-hop n m w b.side b.rim q.place k ∙ ap (hop n m w q.place) (sym o) ∙ sym (at-hop n m w a.side a.rim q.place k') in
          (l, place p.place q.place a h k' y)
        where
          place : (i j : ℕ) (a : Loop p.loop) → i < length (sides p.loop a) → j < length (sides p.loop a) → get_or (sides p.loop a) i 0 ≡ get_or (sides p.loop a) j 0 → i ≡ j
          place i j a h k e = go (dec_lt i j) (dec_lt j i)
            where
              go : Dec (i < j) → Dec (j < i) → i ≡ j
              go (yes l) r = absurd (no-twice n m w a.side a.rim (3 * n) i j l k e)
              go (no l) (yes r) = absurd (no-twice n m w a.side a.rim (3 * n) j i r h (sym e))
              go (no l) (no r) = omega arith

  -- a closed mesh has no loops
  pub closed_none : rims ls ≡ 0 → outlines m ≡ []
  unfolding outlines
  closed_none e = ap (map (loop_at fs ls)) (none_kept (begins fs ls) m.verts (λ u t. let s = start_of n m w u t in some-rim s.side s.rim))
    where
      some-rim : (s : ℕ) → Rim n m w s → ⊥
      some-rim s r = omega (arith, e, rims-are n m w, tally-without (is_rim fs ls) s (3 * n) r.below (test-rim n m w s r))
