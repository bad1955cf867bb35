-- How many vertices are listed: as many as there are rim sides, loop by loop.
use mathlib.Core.Path.{◌≡◌, refl, sym, ap, ◌∙◌}
use mathlib.Core.Logic.{◌≢◌, ◌⊎◌, inl, inr}
use Prim.Native.Nat.{ℕ, zero, suc, ◌+◌, ◌*◌, ◌<◌, zero-le, suc-le-suc}
use native.Mathlib.Nat.{le_of_suc-le-suc, not-suc-le-zero}
use native.Mathlib.Omega.{arith}
use native.Mathlib.Decide.{dec_lt}
use mathlib.Core.Bool.{Bool, true, false, not}
use mathlib.Core.List.{List, [], ◌∷◌, ◌++◌, map, append-nil}
use mathlib.Core.Option.{Option, none, some}
use lib.Dec.{T, T_not, eqb}
use lib.Ieee.Fits.{and_i, and_l, and_r, eq→eqb}
use lib.ListN.{length, get_or, length-map, length-append}
use Rattle.lists.specs.Lists.{pick, count, found, keep, tally, gather}
use Rattle.lists.proofs.Places.{rank-suc, keep-suc, gather_append, length-keep}
use Rattle.lists.proofs.Counting.{without, tally-without, tally-places}
use Rattle.rules.specs.Mesh.{corner, links, rims, Mesh}
use Rattle.rules.proofs.Sides.{length-links}
use Rattle.rules.proofs.Fans.{eqb-false, T_true}
use Rattle.rules.proofs.Sound.{Sound, In, in-at}
use Rattle.outlines.specs.Loops.{is_rim, leaving, around, loop_of, loop_at, begins, outlines, listing}
use Rattle.outlines.specs.Pieces.{sides_of}
use Rattle.outlines.proofs.Rims.{Rim, rim-test, test-rim, leaving-some, leaving-is, no-twice}
use Rattle.outlines.proofs.Orbits.{loop, around-is, rim-in, one-start, Stands, stands}

-- ---- lists without repetition

pub record Distinct (l : List ℕ) : Type 0 where
  pub apart : (i j : ℕ) → i < j → j < length l → get_or l i 0 ≢ get_or l j 0

pub in_tail : (x : ℕ) (xs : List ℕ) (y : ℕ) → In (x ∷ xs) y → y ≢ x → In xs y
in_tail x xs y w d = go w.place w.below w.is
  where
    go : (k : ℕ) → k < suc (length xs) → get_or (x ∷ xs) k 0 ≡ y → In xs y
    go zero h e = absurd (d (sym e))
    go (suc k) h e = in-at xs k y (le_of_suc-le-suc h) e

pub in-later : (x : ℕ) (xs : List ℕ) (y : ℕ) → In xs y → In (x ∷ xs) y
in-later x xs y w = in-at (x ∷ xs) (suc w.place) y (suc-le-suc w.below) w.is

pub in-none : {X : Type 0} (y : ℕ) → In [] y → X
in-none y w = absurd (not-suc-le-zero w.below)

pub in_left : (a b : List ℕ) (y : ℕ) → In a y → In (a ++ b) y
in_left [] b y w = in-none y w
in_left (x ∷ a) b y w = go (in_left a b y) w.place w.below w.is
  where
    go : (In a y → In (a ++ b) y) → (k : ℕ) → k < suc (length a) → get_or (x ∷ a) k 0 ≡ y → In (x ∷ (a ++ b)) y
    go rec zero h e = in-at (x ∷ (a ++ b)) 0 y (suc-le-suc zero-le) e
    go rec (suc k) h e = in-later x (a ++ b) y (rec (in-at a k y (le_of_suc-le-suc h) e))

pub in_right : (a b : List ℕ) (y : ℕ) → In b y → In (a ++ b) y
in_right [] b y w = w
in_right (x ∷ a) b y w = in-later x (a ++ b) y (in_right a b y w)

pub in_either : (a b : List ℕ) (y : ℕ) → In (a ++ b) y → In a y ⊎ In b y
in_either [] b y w = inr w
in_either (x ∷ a) b y w = go (in_either a b y) w.place w.below w.is
  where
    on : In a y ⊎ In b y → In (x ∷ a) y ⊎ In b y
    on (inl u) = inl (in-later x a y u)
    on (inr u) = inr u

    go : (In (a ++ b) y → In a y ⊎ In b y) → (k : ℕ) → k < suc (length (a ++ b)) → get_or (x ∷ (a ++ b)) k 0 ≡ y → In (x ∷ a) y ⊎ In b y
    go rec zero h e = inl (in-at (x ∷ a) 0 y (suc-le-suc zero-le) e)
    go rec (suc k) h e = on (rec (in-at (a ++ b) k y (le_of_suc-le-suc h) e))

pub distinct_tail : (x : ℕ) (xs : List ℕ) → Distinct (x ∷ xs) → Distinct xs
distinct_tail x xs d = record { apart = λ i j h k. d.apart (suc i) (suc j) (suc-le-suc h) (suc-le-suc k) }

distinct_more : (x : ℕ) (xs : List ℕ) → Distinct xs → (In xs x → ⊥) → Distinct (x ∷ xs)
distinct_more x xs d f = record { apart = go }
  where
    go : (i j : ℕ) → i < j → j < suc (length xs) → get_or (x ∷ xs) i 0 ≢ get_or (x ∷ xs) j 0
    go zero zero h k e = not-suc-le-zero h
    go zero (suc j) h k e = f (in-at xs j x (le_of_suc-le-suc k) (sym e))
    go (suc i) zero h k e = not-suc-le-zero h
    go (suc i) (suc j) h k e = d.apart i j (le_of_suc-le-suc h) (le_of_suc-le-suc k) e

pub distinct_append : (a b : List ℕ) → Distinct a → Distinct b → ((x : ℕ) → In a x → In b x → ⊥) → Distinct (a ++ b)
distinct_append [] b p q f = q
distinct_append (x ∷ a) b p q f =
    distinct_more x (a ++ b) (distinct_append a b (distinct_tail x a p) q (λ y u v. f y (in-later x a y u) v)) (λ w. go (in_either a b x w))
  where
    go : In a x ⊎ In b x → ⊥
    go (inl u) = p.apart 0 (suc u.place) (suc-le-suc zero-le) (suc-le-suc u.below) (sym u.is)
    go (inr u) = f x (in-at (x ∷ a) 0 x (suc-le-suc zero-le) refl) u

none_pass : (p : ℕ → Bool) (n : ℕ) → ((x : ℕ) → x < n → T (p x) → ⊥) → tally p (count 0 n) ≡ 0
none_pass p zero h = refl
none_pass p (suc n) h = rank-suc p n ∙ go (p n) (h n (omega arith)) (none_pass p n (λ x k. h x (omega arith)))
  where
    go : (b : Bool) → (T b → ⊥) → tally p (count 0 n) ≡ 0 → tally p (count 0 n) + Rattle.lists.specs.Lists.bit b ≡ 0
    go true f e = absurd (f tt)
    go false f e = omega (arith, e)

-- a list of all that pass, each once, is as long as they are many
pub count-list : (l : List ℕ) (p : ℕ → Bool) (n : ℕ) → Distinct l → ((x : ℕ) → In l x → (x < n) × T (p x)) → ((x : ℕ) → x < n → T (p x) → In l x) → length l ≡ tally p (count 0 n)
count-list [] p n d i o = sym (none_pass p n (λ x h t. in-none x (o x h t)))
count-list (x ∷ xs) p n d i o =
    let a = i x (in-at (x ∷ xs) 0 x (suc-le-suc zero-le) refl) in
    ap suc (count-list xs (without p x) n (distinct_tail x xs d) inside outside) ∙ sym (tally-without p x n a.0 a.1)
  where
    other : (y : ℕ) → In xs y → y ≢ x
    other y w e = d.apart 0 (suc w.place) (suc-le-suc zero-le) (suc-le-suc w.below) (sym (w.is ∙ e))

    inside : (y : ℕ) → In xs y → (y < n) × T (without p x y)
    inside y w =
        let b = i y (in-later x xs y w) in
        (b.0, and_i (p y) (not (eqb y x)) b.1 (rw (eqb-false y x (other y w)) tt))

    outside : (y : ℕ) → y < n → T (without p x y) → In xs y
    outside y h t = in_tail x xs y (o y h (and_l (p y) (not (eqb y x)) t)) (λ e. T_not (eqb y x) (and_r (p y) (not (eqb y x)) t) (eq→eqb e))

-- ---- the sides of the loops that begin below k, one loop after the other

module _ (n : ℕ) (m : Mesh) (w : Sound n m) where
  abbrev fs : List ℕ
  fs = m.faces

  abbrev ls : List (Option ℕ)
  ls = links fs

  abbrev pub sides_at : ℕ → List ℕ
  sides_at u = sides_of fs ls (leaving fs ls u)

  abbrev pub flat : ℕ → List ℕ
  flat k = gather sides_at (keep (begins fs ls) (count 0 k))

  flat-suc : (k : ℕ) → flat (suc k) ≡ flat k ++ pick (begins fs ls k) (sides_at k) []
  flat-suc k =
      let e : 0 + k ≡ k = omega arith in
      ap (gather sides_at) (keep-suc (begins fs ls) 0 k)
      ∙ gather_append sides_at (keep (begins fs ls) (count 0 k)) (pick (begins fs ls (0 + k)) ((0 + k) ∷ []) [])
      ∙ ap (λ (z : ℕ). flat k ++ gather sides_at (pick (begins fs ls z) (z ∷ []) [])) e
      ∙ ap (λ (l : List ℕ). flat k ++ l) (go (begins fs ls k))
    where
      go : (b : Bool) → gather sides_at (pick b (k ∷ []) []) ≡ pick b (sides_at k) []
      go true = append-nil (sides_at k)
      go false = refl

  -- what a vertex at which a loop begins has
  pub record Start (k : ℕ) : Type 0 where
    pub side : ℕ
    pub rim : Rim n m w side
    pub from : corner fs side ≡ k
    pub begun : T (begins fs ls (corner fs side))
    pub sides : sides_at k ≡ loop n m w side rim

  pub start_of : (k : ℕ) → T (begins fs ls k) → Start k
  start_of k t = go (leaving fs ls k) refl
    where
      go : (o : Option ℕ) → leaving fs ls k ≡ o → Start k
      go none e = absurd (rw e at t)
      go (some s) e =
          let x = leaving-some n m w k s e in
          record { side = s; rim = x.0; from = x.1; begun = rw x.1 t; sides = ap (sides_of fs ls) e ∙ around-is n m w s x.0 }

  pub record Below (k x : ℕ) : Type 0 where
    pub stand : Stands n m w x
    pub under : corner fs stand.start < k

  flat_in : (k x : ℕ) → In (flat k) x → Below k x
  flat_in zero x i = in-none x i
  flat_in (suc k) x i = at (flat_in k x) (begins fs ls k) refl (in_either (flat k) (pick (begins fs ls k) (sides_at k) []) x (rw (flat-suc k) at i))
    where
      more : Below k x → Below (suc k) x
      more b = record { stand = b.stand; under = omega (arith, b.under) }

      here-at : T (begins fs ls k) → In (sides_at k) x → Below (suc k) x
      here-at t j =
          let s = start_of k t in
          record { stand = record { start = s.side; rim = s.rim; begun = s.begun; among = rw s.sides at j }; under = omega (arith, s.from) }

      at : (In (flat k) x → Below k x) → (b : Bool) → begins fs ls k ≡ b → In (flat k) x ⊎ In (pick (begins fs ls k) (sides_at k) []) x → Below (suc k) x
      at rec b e (inl j) = more (rec j)
      at rec true e (inr j) = here-at (rw e tt) (rw e at j)
      at rec false e (inr j) = in-none x (rw e at j)

  in-flat : (k x : ℕ) (st : Stands n m w x) → corner fs st.start < k → In (flat k) x
  in-flat zero x st h = absurd (not-suc-le-zero h)
  in-flat (suc k) x st h = rw (flat-suc k) (go (in-flat k x st) (dec_lt (corner fs st.start) k))
    where
      go : (corner fs st.start < k → In (flat k) x) → Dec (corner fs st.start < k) → In (flat k ++ pick (begins fs ls k) (sides_at k) []) x
      go rec (yes l) = in_left (flat k) (pick (begins fs ls k) (sides_at k) []) x (rec l)
      go rec (no l) =
          let e : corner fs st.start ≡ k = omega arith in
          let b : T (begins fs ls k) = rw e at st.begun in
          in_right (flat k) (pick (begins fs ls k) (sides_at k) []) x
          (rw (T_true (begins fs ls k) b, leaving-as k st.start st.rim e, around-is n m w st.start st.rim) st.among)
        where
          leaving-as : (k s : ℕ) → Rim n m w s → corner fs s ≡ k → leaving fs ls k ≡ some s
          leaving-as k s r e = ap (leaving fs ls) (sym e) ∙ leaving-is n m w s r

  distinct-flat : (k : ℕ) → Distinct (flat k)
  distinct-flat zero = record { apart = λ i j h k. absurd (not-suc-le-zero k) }
  distinct-flat (suc k) = rw (flat-suc k) (go (distinct-flat k) (begins fs ls k) refl)
    where
      go : Distinct (flat k) → (b : Bool) → begins fs ls k ≡ b → Distinct (flat k ++ pick b (sides_at k) [])
      go rec false e = distinct_append (flat k) [] rec (record { apart = λ i j h k. absurd (not-suc-le-zero k) }) (λ x u v. in-none x v)
      go rec true e =
          let s = start_of k (rw e tt) in
          rw s.sides (distinct_append (flat k) (loop n m w s.side s.rim) rec
          (record { apart = no-twice n m w s.side s.rim (3 * n) })
          (λ x u v.
          let b = flat_in k x u in
          let q = one-start n m w s.side b.stand.start x s.rim b.stand.rim s.begun b.stand.begun v b.stand.among in
          let z : corner fs b.stand.start ≡ k = ap (corner fs) (sym q) ∙ s.from in
          absurd (omega (arith, z, b.under))))

  -- all rim sides, each once
  flat-rims : length (flat m.verts) ≡ tally (is_rim fs ls) (count 0 (3 * n))
  flat-rims = count-list (flat m.verts) (is_rim fs ls) (3 * n) (distinct-flat m.verts)
      (λ x i. let b = flat_in m.verts x i in let r = rim-in n m w b.stand.start b.stand.rim x b.stand.among in (r.below, test-rim n m w x r))
      (λ x h t.
      let r = rim-test n m w x h t in
      let st = stands n m w (suc (corner fs x)) x (omega arith) r in
      in-flat m.verts x st (w.good.below st.start st.rim.below))

  pub rims-are : rims ls ≡ tally (is_rim fs ls) (count 0 (3 * n))
  rims-are =
      tally-places (λ l. not (found l)) none ls 0 (is_rim fs ls) (λ k h. let e : 0 + k ≡ k = omega arith in ap (is_rim fs ls) e)
      ∙ ap (λ (z : ℕ). tally (is_rim fs ls) (count 0 z)) (length-links fs ∙ w.good.size)

  length-loops : (us : List ℕ) → length (gather (λ r. r) (map (loop_at fs ls) us)) ≡ length (gather sides_at us)
  length-loops [] = refl
  length-loops (u ∷ us) =
      length-append (loop_at fs ls u) (gather (λ r. r) (map (loop_at fs ls) us))
      ∙ omega (arith, go (leaving fs ls u), length-loops us)
      ∙ sym (length-append (sides_at u) (gather sides_at us))
    where
      go : (o : Option ℕ) → length (loop_of fs ls o) ≡ length (sides_of fs ls o)
      go none = refl
      go (some s) = length-map (around fs ls s) (corner fs)

  -- "vertices listed": as many as there are rim sides
  pub listed-is-rims : length (gather (λ r. r) (outlines m)) ≡ rims ls
  unfolding outlines
  listed-is-rims = length-loops (keep (begins fs ls) (count 0 m.verts)) ∙ flat-rims ∙ sym rims-are

  pub loops-are : length (outlines m) ≡ tally (begins fs ls) (count 0 m.verts)
  unfolding outlines
  loops-are = length-map (keep (begins fs ls) (count 0 m.verts)) (loop_at fs ls) ∙ length-keep (begins fs ls) (count 0 m.verts)

-- each loop takes one entry more, for its length
pub length-listing : (rs : List (List ℕ)) → length (listing rs) ≡ length (gather (λ r. r) rs) + length rs
length-listing [] = refl
length-listing (r ∷ rs) =
    ap suc (length-append r (listing rs)) ∙ omega (arith, length-listing rs, length-append r (gather (λ r. r) rs))
