-- Request 6: the marks in words from level to level.
use Prim.Native.Nat.{ℕ, zero, suc, ◌+◌, ◌*◌, ◌/◌, ◌%◌, ◌≤◌, ◌<◌}
use mathlib.Core.Path.{◌≡◌, refl, sym, ap, ap₂, ◌∙◌}
use mathlib.Core.Logic.{◌⊎◌}
use mathlib.Core.Bool.{Bool, true, false, ◌||◌}
use mathlib.Core.List.{List, [], ◌∷◌}
use native.Mathlib.Omega.{arith}
use native.Mathlib.Numerals.{add-one}
use lib.Dec.{eqb}
use lib.ListN.{length, get_or, set, length-map}
use lib.Seq.{sets, ext_get_or, get_or-set_same, get_or-set_other}
use borrow.Author.Tests.{eqb-false, eq-eqb, ne_eqb}
use native.Mathlib.Decide.{ℕ_discrete}
use Rattle.lists.specs.Lists.{pick, count, gather, part}
use Rattle.lists.proofs.Places.{length-count, get_or-count, get_d_map, length-gather, get_or-gather}
use Rattle.lists.proofs.Stores.{piece-read, piece-more, part_of, get_d_part}
use Rattle.rules.specs.Sharp.{sharp, marks_by, finer_marks}
use Rattle.rules.proofs.Both.{finer-at}
use Rattle.marks.specs.Marks.{mark_of, marks_in, four_marks, marks_from, with_bit}

-- the mark of a side is a bit of its face's word
pub mark-at : (w : List ℕ) (at n s : ℕ) → s < 3 * n → sharp (marks_in w at n) s ≡ mark_of (get_or w (at + s / 3) 0) (s % 3)
unfolding marks_in
mark-at w at n s h =
    get_d_map (λ s. mark_of (get_or w (at + s / 3) 0) (s % 3)) (count 0 (3 * n)) s 0 false (rw (length-count 0 (3 * n)) h)
    ∙ (let e : get_or (count 0 (3 * n)) s 0 ≡ s = get_or-count 0 (3 * n) s 0 h ∙ omega arith in ap (λ (z : ℕ). mark_of (get_or w (at + z / 3) 0) (z % 3)) e)

-- the words of one face more
pub marks-more : (l : List ℕ) (from to n f : ℕ) → f < n → (from + n ≤ to) ⊎ (to + 4 * n ≤ from) → (w x : List ℕ) → w ≡ sets l to (gather (marks_from (part from n l)) (count 0 f))
    → x ≡ sets w (to + 4 * f) (four_marks (get_or w (from + f) 0)) → x ≡ sets l to (gather (marks_from (part from n l)) (count 0 (f + 1)))
marks-more l from to n f h apart w x e q =
    let g = marks_from (part from n l) in
    let old = piece-read g 4 (λ _. refl) l to n f h from n f 0 h apart in
    q ∙ rw (e, old) (piece-more g 4 (λ _. refl) l to n f h (to + 4 * f) refl)

-- bit by bit
div2 : (q r : ℕ) → r < 2 → (2 * q + r) / 2 ≡ q
div2 q r h = omega arith

mod2 : (q r : ℕ) → r < 2 → (2 * q + r) % 2 ≡ r
mod2 q r h = omega arith

div4 : (q r : ℕ) → r < 4 → (4 * q + r) / 4 ≡ q
div4 q r h = omega arith

record Bits (w a b q : ℕ) : Type 0 where
  low : w % 2 ≡ a
  mid : w / 2 % 2 ≡ b
  high : w / 4 % 2 ≡ q % 2

bits : (w a b q : ℕ) → a < 2 → b < 2 → w ≡ 4 * q + 2 * b + a → Bits w a b q
bits w a b q ha hb e =
    let f : w ≡ 2 * (2 * q + b) + a = omega arith in
    let g : w ≡ 4 * q + (2 * b + a) = omega arith in
    record {
      low = ap (λ (z : ℕ). z % 2) f ∙ mod2 (2 * q + b) a ha;
      mid = ap (λ (z : ℕ). z % 2) (ap (λ (z : ℕ). z / 2) f ∙ div2 (2 * q + b) a ha) ∙ mod2 q b hb;
      high = ap (λ (z : ℕ). z % 2) (ap (λ (z : ℕ). z / 4) g ∙ div4 q (2 * b + a) (omega arith));
    }

-- a word in its two low bits and the rest
record Split (x : ℕ) : Type 0 where
  b : ℕ
  q : ℕ
  small : b < 2
  is : x ≡ 4 * q + 2 * b + x % 2
  mid : x / 2 ≡ 2 * q + b
  high : x / 4 ≡ q
  four : x % 4 ≡ 2 * b + x % 2

split : (x : ℕ) → Split x
split x =
    let h = x / 2 in
    let e : x ≡ 2 * h + x % 2 = omega arith in
    let f : h ≡ 2 * (h / 2) + h % 2 = omega arith in
    let k : h % 2 < 2 = omega arith in
    let l : x % 2 < 2 = omega arith in
    let s : x ≡ 4 * (h / 2) + (2 * (h % 2) + x % 2) = omega (arith, e, f) in
    record {
      b = h % 2;
      q = h / 2;
      small = k;
      is = omega (arith, s);
      mid = f;
      high = ap (λ (z : ℕ). z / 4) s ∙ div4 (h / 2) (2 * (h % 2) + x % 2) (omega (arith, k, l));
      four = (let d : x ≡ 4 * (x / 4) + x % 4 = omega arith in let y : x / 4 ≡ h / 2 = ap (λ (z : ℕ). z / 4) s ∙ div4 (h / 2) (2 * (h % 2) + x % 2) (omega (arith, k, l)) in omega (arith, s, d, y));
    }

abbrev is1 : ℕ → Bool
is1 z = eqb z 1

module _ (x : ℕ) (a b c : Bool) (ea : eqb (x % 2) 1 ≡ a) (eb : eqb (x / 2 % 2) 1 ≡ b) (ec : eqb (x / 4 % 2) 1 ≡ c) where
  d : Split x
  d = split x

  own : Bits x (x % 2) d.b d.q
  own = bits x (x % 2) d.b d.q (omega arith) d.small d.is

  child0 : (mark_of (x % 2 + 4 * (x / 4)) 0 ≡ a) × ((mark_of (x % 2 + 4 * (x / 4)) 1 ≡ false) × (mark_of (x % 2 + 4 * (x / 4)) 2 ≡ c))
  child0 =
      let k = bits (x % 2 + 4 * (x / 4)) (x % 2) 0 d.q (omega arith) (omega arith) (omega (arith, d.high)) in
      (ap is1 k.low ∙ ea, (ap is1 k.mid, ap is1 (k.high ∙ sym own.high) ∙ ec))

  child1 : (mark_of (x % 4) 0 ≡ a) × ((mark_of (x % 4) 1 ≡ b) × (mark_of (x % 4) 2 ≡ false))
  child1 =
      let k = bits (x % 4) (x % 2) d.b 0 (omega arith) d.small (omega (arith, d.four)) in
      (ap is1 k.low ∙ ea, (ap is1 (k.mid ∙ sym own.mid) ∙ eb, ap is1 k.high))

  child2 : (mark_of (2 * (x / 2)) 0 ≡ false) × ((mark_of (2 * (x / 2)) 1 ≡ b) × (mark_of (2 * (x / 2)) 2 ≡ c))
  child2 =
      let k = bits (2 * (x / 2)) 0 d.b d.q (omega arith) d.small (omega (arith, d.mid)) in
      (ap is1 k.low, (ap is1 (k.mid ∙ sym own.mid) ∙ eb, ap is1 (k.high ∙ sym own.high) ∙ ec))

-- side r of the twelve of face f, whose word is x
twelve-marks : (ms : List Bool) (f x : ℕ) → eqb (x % 2) 1 ≡ sharp ms (3 * f) → eqb (x / 2 % 2) 1 ≡ sharp ms (3 * f + 1) → eqb (x / 4 % 2) 1 ≡ sharp ms (3 * f + 2)
    → (r : ℕ) → r < 12 → mark_of (get_or (four_marks x) (r / 3) 0) (r % 3) ≡ get_or (marks_by ms f) r false
twelve-marks ms f x a b c zero h = (child0 x _ _ _ a b c).0
twelve-marks ms f x a b c (suc zero) h = (child0 x _ _ _ a b c).1.0
twelve-marks ms f x a b c (suc (suc zero)) h = (child0 x _ _ _ a b c).1.1
twelve-marks ms f x a b c (suc (suc (suc zero))) h = (child1 x _ _ _ a b c).0
twelve-marks ms f x a b c (suc (suc (suc (suc zero)))) h = (child1 x _ _ _ a b c).1.0
twelve-marks ms f x a b c (suc (suc (suc (suc (suc zero))))) h = (child1 x _ _ _ a b c).1.1
twelve-marks ms f x a b c (suc (suc (suc (suc (suc (suc zero)))))) h = (child2 x _ _ _ a b c).0
twelve-marks ms f x a b c (suc (suc (suc (suc (suc (suc (suc zero))))))) h = (child2 x _ _ _ a b c).1.0
twelve-marks ms f x a b c (suc (suc (suc (suc (suc (suc (suc (suc zero)))))))) h = (child2 x _ _ _ a b c).1.1
twelve-marks ms f x a b c (suc (suc (suc (suc (suc (suc (suc (suc (suc zero))))))))) h = refl
twelve-marks ms f x a b c (suc (suc (suc (suc (suc (suc (suc (suc (suc (suc zero)))))))))) h = refl
twelve-marks ms f x a b c (suc (suc (suc (suc (suc (suc (suc (suc (suc (suc (suc zero))))))))))) h = refl
twelve-marks ms f x a b c (suc (suc (suc (suc (suc (suc (suc (suc (suc (suc (suc (suc r)))))))))))) h = absurd (omega arith)

pub length-marks : (w : List ℕ) (at n : ℕ) → length (marks_in w at n) ≡ 3 * n
unfolding marks_in
length-marks w at n = length-map (count 0 (3 * n)) _ ∙ length-count 0 (3 * n)

length-finer-marks : (n : ℕ) (ms : List Bool) → length (finer_marks n ms) ≡ 12 * n
unfolding finer_marks
length-finer-marks n ms = length-gather (marks_by ms) 12 (λ f. refl) (count 0 n) ∙ ap (λ (z : ℕ). 12 * z) (length-count 0 n)

-- the marks that were written are the finer ones
pub marks-grown : (l : List ℕ) (from to n : ℕ) → to + 4 * n ≤ length l
    → marks_in (sets l to (gather (marks_from (part from n l)) (count 0 n))) to (4 * n) ≡ finer_marks n (marks_in l from n)
marks-grown l from to n room =
    ext_get_or false _ _ (length-marks w to (4 * n) ∙ sym (length-finer-marks n ms ∙ omega arith)) (λ s b. at s (omega (arith, length-marks w to (4 * n))))
  where
    w : List ℕ
    w = sets l to (gather (marks_from (part from n l)) (count 0 n))

    ms : List Bool
    ms = marks_in l from n

    long : length (gather (marks_from (part from n l)) (count 0 n)) ≡ 4 * n
    long = length-gather (marks_from (part from n l)) 4 (λ _. refl) (count 0 n) ∙ ap (λ (z : ℕ). 4 * z) (length-count 0 n)

    word : (f j : ℕ) → f < n → j < 4 → get_or w (to + (4 * f + j)) 0 ≡ get_or (four_marks (get_or l (from + f) 0)) j 0
    word f j h k =
        let e : get_or (count 0 n) f 0 ≡ f = get_or-count 0 n f 0 h ∙ omega arith in
        sym (get_d_part w to (4 * n) (4 * f + j) 0 (omega arith))
        ∙ ap (λ (x : List ℕ). get_or x (4 * f + j) 0) (part_of (gather (marks_from (part from n l)) (count 0 n)) l to (4 * n) long room)
        ∙ get_or-gather (marks_from (part from n l)) 4 (λ _. refl) (count 0 n) f j 0 0 (rw (length-count 0 n) h) k
        ∙ ap (λ (z : ℕ). get_or (four_marks (get_or (part from n l) z 0)) j 0) e
        ∙ ap (λ (z : ℕ). get_or (four_marks z) j 0) (get_d_part l from n f 0 h)

    old : (f k : ℕ) → f < n → k < 3 → mark_of (get_or l (from + f) 0) k ≡ sharp ms (3 * f + k)
    old f k h b =
        let e : (3 * f + k) / 3 ≡ f = omega arith in
        let d : (3 * f + k) % 3 ≡ k = omega arith in
        sym (mark-at l from n (3 * f + k) (omega arith) ∙ ap₂ (λ (i j : ℕ). mark_of (get_or l (from + i) 0) j) e d)

    at : (s : ℕ) → s < 3 * (4 * n) → get_or (marks_in w to (4 * n)) s false ≡ get_or (finer_marks n ms) s false
    at s b =
        let f = s / 12 in
        let r = s % 12 in
        let hf : f < n = omega arith in
        let q : s / 3 ≡ 4 * f + r / 3 = omega arith in
        let d : s % 3 ≡ r % 3 = omega arith in
        let z : 3 * f + 0 ≡ 3 * f = omega arith in
        mark-at w to (4 * n) s b
        ∙ ap₂ (λ (i j : ℕ). mark_of (get_or w (to + i) 0) j) q d
        ∙ ap (λ (x : ℕ). mark_of x (r % 3)) (word f (r / 3) hf (omega arith))
        ∙ twelve-marks ms f (get_or l (from + f) 0) (old f 0 hf (omega arith) ∙ ap (sharp ms) z) (old f 1 hf (omega arith)) (old f 2 hf (omega arith)) r (omega arith)
        ∙ sym (finer-at n ms s f r hf (omega arith) (omega arith))

-- ---- one mark more

one_of : (y : ℕ) → y < 2 → (eqb y 1 ≡ false) → y ≡ 0
one_of y h e = let z = eqb-false y 1 e in omega arith

-- bit j of the word x with bit k set
module _ (x : ℕ) where
  s₀ : Split x
  s₀ = split x

  own₀ : Bits x (x % 2) s₀.b s₀.q
  own₀ = bits x (x % 2) s₀.b s₀.q (omega arith) s₀.small s₀.is

  bit0 : (c : Bool) → eqb (x % 2) 1 ≡ c → (j : ℕ) → j < 3 → mark_of (pick c x (x + 1)) j ≡ eqb j 0 || mark_of x j
  bit0 true e zero h = e
  bit0 true e (suc zero) h = refl
  bit0 true e (suc (suc zero)) h = refl
  bit0 true e (suc (suc (suc j))) h = absurd (omega arith)
  bit0 false e j h =
      let z = one_of (x % 2) (omega arith) e in
      let k = bits (x + 1) 1 s₀.b s₀.q (omega arith) s₀.small (omega (arith, s₀.is, z)) in
      go k j h
    where
      go : Bits (x + 1) 1 s₀.b s₀.q → (j : ℕ) → j < 3 → mark_of (x + 1) j ≡ eqb j 0 || mark_of x j
      go k zero h = ap is1 k.low
      go k (suc zero) h = ap is1 (k.mid ∙ sym own₀.mid)
      go k (suc (suc zero)) h = ap is1 (k.high ∙ sym own₀.high)
      go k (suc (suc (suc j))) h = absurd (omega arith)

  bit1 : (c : Bool) → eqb (x / 2 % 2) 1 ≡ c → (j : ℕ) → j < 3 → mark_of (pick c x (x + 2)) j ≡ eqb j 1 || mark_of x j
  bit1 true e zero h = refl
  bit1 true e (suc zero) h = e
  bit1 true e (suc (suc zero)) h = refl
  bit1 true e (suc (suc (suc j))) h = absurd (omega arith)
  bit1 false e j h =
      let z = one_of (x / 2 % 2) (rw own₀.mid s₀.small) e in
      let y : s₀.b ≡ 0 = sym own₀.mid ∙ z in
      let k = bits (x + 2) (x % 2) 1 s₀.q (omega arith) (omega arith) (omega (arith, s₀.is, y)) in
      go k j h
    where
      go : Bits (x + 2) (x % 2) 1 s₀.q → (j : ℕ) → j < 3 → mark_of (x + 2) j ≡ eqb j 1 || mark_of x j
      go k zero h = ap is1 k.low
      go k (suc zero) h = ap is1 k.mid
      go k (suc (suc zero)) h = ap is1 (k.high ∙ sym own₀.high)
      go k (suc (suc (suc j))) h = absurd (omega arith)

  bit2 : (c : Bool) → eqb (x / 4 % 2) 1 ≡ c → (j : ℕ) → j < 3 → mark_of (pick c x (x + 4)) j ≡ eqb j 2 || mark_of x j
  bit2 true e zero h = refl
  bit2 true e (suc zero) h = refl
  bit2 true e (suc (suc zero)) h = e
  bit2 true e (suc (suc (suc j))) h = absurd (omega arith)
  bit2 false e j h =
      let z = one_of (x / 4 % 2) (omega arith) e in
      let q = s₀.q in
      let y : q % 2 ≡ 0 = sym own₀.high ∙ z in
      let k = bits (x + 4) (x % 2) s₀.b (q + 1) (omega arith) s₀.small (omega (arith, s₀.is)) in
      go k (let o : (q + 1) % 2 ≡ 1 = omega (arith, y) in o) j h
    where
      go : Bits (x + 4) (x % 2) s₀.b (s₀.q + 1) → (s₀.q + 1) % 2 ≡ 1 → (j : ℕ) → j < 3 → mark_of (x + 4) j ≡ eqb j 2 || mark_of x j
      go k o zero h = ap is1 k.low
      go k o (suc zero) h = ap is1 (k.mid ∙ sym own₀.mid)
      go k o (suc (suc zero)) h = ap is1 (k.high ∙ o)
      go k o (suc (suc (suc j))) h = absurd (omega arith)

  pub bit-set : (k j : ℕ) → k < 3 → j < 3 → mark_of (with_bit x k) j ≡ eqb j k || mark_of x j
  bit-set zero j h l = bit0 (eqb (x % 2) 1) refl j l
  bit-set (suc zero) j h l = bit1 (eqb (x / 2 % 2) 1) refl j l
  bit-set (suc (suc zero)) j h l = bit2 (eqb (x / 4 % 2) 1) refl j l
  bit-set (suc (suc (suc k))) j h l = absurd (omega arith)

-- side t after side s was marked
pub mark_set : (w : List ℕ) (at n s t : ℕ) → at + n ≤ length w → s < 3 * n → t < 3 * n
    → sharp (marks_in (set w (at + s / 3) (with_bit (get_or w (at + s / 3) 0) (s % 3))) at n) t ≡ eqb t s || sharp (marks_in w at n) t
mark_set w at n s t room hs ht =
    mark-at y at n t ht ∙ go (ℕ_discrete (t / 3) (s / 3)) ∙ ap (λ (b : Bool). eqb t s || b) (sym (mark-at w at n t ht))
  where
    y : List ℕ
    y = set w (at + s / 3) (with_bit (get_or w (at + s / 3) 0) (s % 3))

    go : Dec (t / 3 ≡ s / 3) → mark_of (get_or y (at + t / 3) 0) (t % 3) ≡ eqb t s || mark_of (get_or w (at + t / 3) 0) (t % 3)
    go (yes e) =
        let g : get_or y (at + t / 3) 0 ≡ with_bit (get_or w (at + t / 3) 0) (s % 3) =
        ap (λ (i : ℕ). get_or y (at + i) 0) e ∙ get_or-set_same w (at + s / 3) (with_bit (get_or w (at + s / 3) 0) (s % 3)) 0 (omega arith)
        ∙ ap (λ (i : ℕ). with_bit (get_or w (at + i) 0) (s % 3)) (sym e) in
        let q : eqb (t % 3) (s % 3) ≡ eqb t s = same (ℕ_discrete t s) in
        ap (λ (z : ℕ). mark_of z (t % 3)) g ∙ bit-set (get_or w (at + t / 3) 0) (s % 3) (t % 3) (omega arith) (omega arith)
        ∙ ap (λ (b : Bool). b || mark_of (get_or w (at + t / 3) 0) (t % 3)) q
      where
        same : Dec (t ≡ s) → eqb (t % 3) (s % 3) ≡ eqb t s
        same (yes f) = eq-eqb (t % 3) (s % 3) (ap (λ (z : ℕ). z % 3) f) ∙ sym (eq-eqb t s f)
        same (no f) = ne_eqb (t % 3) (s % 3) (λ z. f (omega arith)) ∙ sym (ne_eqb t s f)
    go (no f) =
        ap (λ (z : ℕ). mark_of z (t % 3)) (get_or-set_other w (at + s / 3) (at + t / 3) (with_bit (get_or w (at + s / 3) 0) (s % 3)) 0 (λ z. f (omega arith)))
        ∙ sym (ap (λ (b : Bool). b || mark_of (get_or w (at + t / 3) 0) (t % 3)) (ne_eqb t s (λ z. f (ap (λ (u : ℕ). u / 3) z))))
