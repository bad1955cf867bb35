-- Slot by slot: a text put into a part of a buffer, and what is left to put.
use Prim.Native.Nat.{ℕ, suc, ◌+◌, ◌-◌, ◌*◌, ◌≤◌, ◌<◌}
use mathlib.Core.Path.{◌≡◌, refl, sym, ap, ap₂, ◌∙◌, subst}
use mathlib.Core.Logic.{◌≢◌}
use mathlib.Core.List.{List, [], ◌++◌, append_assoc, append-nil}
use native.Mathlib.Omega.{arith}
use lib.IntN.{ℤ}
use lib.ListN.{length, get_or, take, drop, length-drop, take-append-drop}
use lib.Seq.{sets, sets-eq, length-sets, drop-drop, get_or-drop, take_all, length-take-le, drop-append-le}
use borrow.Author.Tests.{eq-eqb, ne_eqb}
use Rattle.listing.specs.Text.{Put, mesh_text, refused_text}
use Rattle.listing.proofs.Laws.{put-put}
use Rattle.fontcut.specs.Output.{slot_text, slot_texts, sums}

-- what a part from p to the end is
pub rest : {A : Type 0} (l : List A) (p : ℕ) → take (length l - p) (drop p l) ≡ drop p l
rest l p = take_all (length l - p) (drop p l) (rw (length-drop p l) (omega arith))

-- said of any numbers, since omega would look into an array of half a million
pub as_long : (k x y : ℕ) → y ≡ x → k ≤ x → k ≤ y
as_long k x y e h = omega arith

-- one slot
pub slot-refused : (s : List ℕ) (ps : List ℤ) (is : List ℕ) → get_or s 0 0 ≢ 0 → slot_text s ps is ≡ refused_text (record { number = get_or s 0 0; place = get_or s 1 0 })
unfolding slot_text
slot-refused s ps is h = rw (ne_eqb (get_or s 0 0) 0 h) refl

pub slot-mesh : (s : List ℕ) (ps : List ℤ) (is : List ℕ) → get_or s 0 0 ≡ 0 → slot_text s ps is ≡ mesh_text (record { vertices = get_or s 2 0; faces = get_or s 3 0; rims = get_or s 4 0 }) ps is
unfolding slot_text
slot-mesh s ps is e = rw (eq-eqb (get_or s 0 0) 0 e) refl

-- a text in the front of a part, said of the whole
back : (text : List ℕ) (at m : ℕ) (piece : List ℕ) → at + m ≤ length text → length piece ≤ m →
    take at text ++ (sets (take m (drop at text)) 0 piece ++ drop m (drop at text)) ≡ sets text at piece
back text at m piece h k =
    let x = drop at text in
    let n = length piece in
    let w : length (take m x) ≡ m = length-take-le m x (omega (arith, length-drop at text)) in
    let s : sets (take m x) 0 piece ≡ piece ++ drop (0 + n) (take m x) = sets-eq piece (take m x) 0 (omega (arith, w)) in
    let y : drop (0 + n) (take m x) ++ drop m x ≡ drop (at + n) text =
    sym (drop-append-le (0 + n) (take m x) (drop m x) (omega (arith, w))) ∙ ap (drop (0 + n)) (take-append-drop m x) ∙ drop-drop (0 + n) at text
    ∙ ap (λ (i : ℕ). drop i text) (let z : at + (0 + n) ≡ at + n = omega arith in z) in
    ap (λ (l : List ℕ). take at text ++ (l ++ drop m x)) s ∙ ap (λ (l : List ℕ). take at text ++ l) (append_assoc piece (drop (0 + n) (take m x)) (drop m x) ∙ ap (λ (l : List ℕ). piece ++ l) y)
    ∙ sym (append_assoc (take at text) piece (drop (at + n) text)) ∙ sym (sets-eq piece text at (omega arith))

put_back : (text : List ℕ) (at m : ℕ) (piece left : List ℕ) (r : ℕ) → at + m ≤ length text → r ≤ m → Put (take m (drop at text)) 0 piece left r →
    Put text at piece (take at text ++ (left ++ drop m (drop at text))) (at + r)
put_back text at m piece left r h k d =
    let e = d.next-is in
    record {
      text = ap (λ (l : List ℕ). take at text ++ (l ++ drop m (drop at text))) d.text ∙ back text at m piece h (omega arith);
      next-is = omega (arith, e);
    }

module _ (s : List ℕ) (n : ℕ) (ps : List ℤ) (is : List ℕ) where
  -- the slots from k on
  left-of : (k : ℕ) → k < n → n - k ≡ suc (n - (k + 1))
  left-of k h = omega arith

  next-slot : (k : ℕ) → drop 5 (drop (5 * k) s) ≡ drop (5 * (k + 1)) s
  next-slot k = drop-drop 5 (5 * k) s ∙ ap (λ (i : ℕ). drop i s) (let z : 5 * k + 5 ≡ 5 * (k + 1) = omega arith in z)

  sums-more : (j k : ℕ) → k < n → sums j (n - k) (drop (5 * k) s) ≡ 3 * get_or s (5 * k + j) 0 + sums j (n - (k + 1)) (drop (5 * (k + 1)) s)
  unfolding sums
  sums-more j k h =
      ap (λ (m : ℕ). sums j m (drop (5 * k) s)) (left-of k h)
      ∙ ap₂ {C = ℕ} (λ a l. 3 * a + sums j (n - (k + 1)) l) (get_or-drop (5 * k) s j 0) (next-slot k)

  abbrev vertices : ℕ → ℕ
  vertices k = get_or s (5 * k + 2) 0

  abbrev faces : ℕ → ℕ
  faces k = get_or s (5 * k + 3) 0

  texts-more : (k p q : ℕ) → k < n → slot_texts (n - k) (drop (5 * k) s) (drop p ps) (drop q is)
      ≡ slot_text (drop (5 * k) s) (take (3 * vertices k) (drop p ps)) (take (3 * faces k) (drop q is)) ++ slot_texts (n - (k + 1)) (drop (5 * (k + 1)) s) (drop (p + 3 * vertices k) ps) (drop (q + 3 * faces k) is)
  unfolding slot_texts
  texts-more k p q h =
      let x = drop (5 * k) s in
      let m = n - (k + 1) in
      ap (λ (m : ℕ). slot_texts m x (drop p ps) (drop q is)) (left-of k h)
      ∙ ap₂ {C = List ℕ} (λ v f. slot_text x (take (3 * v) (drop p ps)) (take (3 * f) (drop q is)) ++ slot_texts m (drop 5 x) (drop (3 * v) (drop p ps)) (drop (3 * f) (drop q is))) (get_or-drop (5 * k) s 2 0) (get_or-drop (5 * k) s 3 0)
      ∙ ap (λ (l : List ℕ). slot_text x (take (3 * vertices k) (drop p ps)) (take (3 * faces k) (drop q is)) ++ l)
      (ap (λ (l : List ℕ). slot_texts m l (drop (3 * vertices k) (drop p ps)) (drop (3 * faces k) (drop q is))) (next-slot k) ∙ ap₂ {C = List ℕ} (λ a b. slot_texts m (drop (5 * (k + 1)) s) a b) (drop-drop (3 * vertices k) p ps) (drop-drop (3 * faces k) q is))

  pub record Along (text₀ text : List ℕ) (at p q k : ℕ) : Type 0 where
    pub turns : k ≤ n
    pub positions : p + sums 2 (n - k) (drop (5 * k) s) ≤ length ps
    pub indices : q + sums 3 (n - k) (drop (5 * k) s) ≤ length is
    pub small : 3 * at ≤ 204 * k + 68 * p + 65 * q
    pub so_far : List ℕ
    pub put : Put text₀ 0 so_far text at
    pub whole : so_far ++ slot_texts (n - k) (drop (5 * k) s) (drop p ps) (drop q is) ≡ slot_texts n s ps is

  pub along-first : (text : List ℕ) → sums 2 n s ≤ length ps → sums 3 n s ≤ length is → Along text text 0 0 0 0
  along-first text a b =
      let z : n - 0 ≡ n = omega arith in
      let x : 0 + sums 2 n s ≤ length ps = omega arith in
      let y : 0 + sums 3 n s ≤ length is = omega arith in
      record {
        turns = omega arith;
        positions = subst (λ (m : ℕ). 0 + sums 2 m s ≤ length ps) (sym z) x;
        indices = subst (λ (m : ℕ). 0 + sums 3 m s ≤ length is) (sym z) y;
        small = omega arith;
        so_far = [];
        put = record { text = refl; next-is = refl };
        whole = ap (λ (m : ℕ). slot_texts m s ps is) z;
      }

  module _ (text₀ text : List ℕ) (at p q k : ℕ) (a : Along text₀ text at p q k) (h : k < n) where
    -- the slot's own output is there
    pub there : (p + 3 * vertices k ≤ length ps) × (q + 3 * faces k ≤ length is)
    there = (omega (arith, a.positions, sums-more 2 k h), omega (arith, a.indices, sums-more 3 k h))

    -- and so is room for its text
    pub text-fits : 204 * n + 68 * length ps + 65 * length is ≤ 3 * length text → at + 68 + 68 * vertices k + 65 * faces k ≤ length text
    text-fits r = let t = there in omega (arith, a.small, t.0, t.1)

    -- what the slot is lent
    abbrev five : List ℕ
    five = take (length s - 5 * k) (drop (5 * k) s)

    abbrev own : List ℤ
    own = take (p + 3 * vertices k - p) (drop p ps)

    abbrev own-indices : List ℕ
    own-indices = take (q + 3 * faces k - q) (drop q is)

    abbrev room : ℕ
    room = at + 68 + 68 * vertices k + 65 * faces k - at

    own_is : own ≡ take (3 * vertices k) (drop p ps)
    own_is = ap (λ (m : ℕ). take m (drop p ps)) (let z : p + 3 * vertices k - p ≡ 3 * vertices k = omega arith in z)

    own-indices-are : own-indices ≡ take (3 * faces k) (drop q is)
    own-indices-are = ap (λ (m : ℕ). take m (drop q is)) (let z : q + 3 * faces k - q ≡ 3 * faces k = omega arith in z)

    pub asks : 5 * n ≤ length s → 204 * n + 68 * length ps + 65 * length is ≤ 3 * length text →
        (5 ≤ length five) × (3 * get_or five 2 0 ≤ length own) × (3 * get_or five 3 0 ≤ length own-indices) × (68 + 68 * get_or five 2 0 + 65 * get_or five 3 0 ≤ length (take room (drop at text)))
    asks f r =
        let t = there in
        let x = text-fits r in
        let d = rest s (5 * k) in
        let v : get_or five 2 0 ≡ vertices k = ap (λ (l : List ℕ). get_or l 2 0) d ∙ get_or-drop (5 * k) s 2 0 in
        let w : get_or five 3 0 ≡ faces k = ap (λ (l : List ℕ). get_or l 3 0) d ∙ get_or-drop (5 * k) s 3 0 in
        let lf : length five ≡ length s - 5 * k = ap length d ∙ length-drop (5 * k) s in
        let lp : length own ≡ p + 3 * vertices k - p = length-take-le (p + 3 * vertices k - p) (drop p ps) (omega (arith, length-drop p ps, t.0)) in
        let li : length own-indices ≡ q + 3 * faces k - q = length-take-le (q + 3 * faces k - q) (drop q is) (omega (arith, length-drop q is, t.1)) in
        let lt : length (take room (drop at text)) ≡ room = length-take-le room (drop at text) (omega (arith, length-drop at text, x)) in
        (omega (arith, lf), omega (arith, v, lp), omega (arith, w, li), omega (arith, v, w, lt))

    pub step_fits : 204 * n + 68 * length ps + 65 * length is ≤ 3 * length text → (r : ℕ) → r ≤ length (take room (drop at text)) → at + r ≤ length text
    step_fits f r g =
        let x = text-fits f in
        let lt : length (take room (drop at text)) ≡ room = length-take-le room (drop at text) (omega (arith, length-drop at text, x)) in
        omega (arith, lt, x)

    pub along-more : 204 * n + 68 * length ps + 65 * length is ≤ 3 * length text → (left : List ℕ) (r : ℕ) → r ≤ length (take room (drop at text)) →
        Put (take room (drop at text)) 0 (slot_text five own own-indices) left r →
        Along text₀ (take at text ++ (left ++ drop room (drop at text))) (at + r) (p + 3 * vertices k) (q + 3 * faces k) (k + 1)
    along-more f left r g d =
        let piece = slot_text (drop (5 * k) s) (take (3 * vertices k) (drop p ps)) (take (3 * faces k) (drop q is)) in
        let o = slot_texts (n - (k + 1)) (drop (5 * (k + 1)) s) (drop (p + 3 * vertices k) ps) (drop (q + 3 * faces k) is) in
        let x = text-fits f in
        let lt : length (take room (drop at text)) ≡ room = length-take-le room (drop at text) (omega (arith, length-drop at text, x)) in
        let u : slot_text five own own-indices ≡ piece =
        ap (λ (l : List ℕ). slot_text l own own-indices) (rest s (5 * k)) ∙ ap₂ {C = List ℕ} (λ y z. slot_text (drop (5 * k) s) y z) own_is own-indices-are in
        let e = subst (λ (l : List ℕ). Put (take room (drop at text)) 0 l left r) u d in
        record {
          turns = omega arith;
          positions = omega (arith, a.positions, sums-more 2 k h);
          indices = omega (arith, a.indices, sums-more 3 k h);
          small = omega (arith, a.small, lt);
          so_far = a.so_far ++ piece;
          put = put-put a.put (put_back text at room piece left r (omega (arith, x)) (omega (arith, lt)) e);
          whole = append_assoc a.so_far piece o ∙ ap (λ (l : List ℕ). a.so_far ++ l) (sym (texts-more k p q h)) ∙ a.whole;
        }

  pub along-long : (text₀ text : List ℕ) (at p q k : ℕ) → Along text₀ text at p q k → length text ≡ length text₀
  along-long text₀ text at p q k a = ap length a.put.text ∙ length-sets text₀ 0 a.so_far

  pub along-last : (text₀ text : List ℕ) (at p q k : ℕ) → Along text₀ text at p q k → k ≡ n → Put text₀ 0 (slot_texts n s ps is) text at
  unfolding slot_texts
  along-last text₀ text at p q k a e =
      let z : n - k ≡ 0 = omega arith in
      let w : a.so_far ≡ slot_texts n s ps is =
      sym (append-nil a.so_far) ∙ ap (λ (m : ℕ). a.so_far ++ slot_texts m (drop (5 * k) s) (drop p ps) (drop q is)) (sym z) ∙ a.whole in
      subst (λ (l : List ℕ). Put text₀ 0 l text at) w a.put
