-- One turn of each loop of the code.
use mathlib.Core.Path.{◌≡◌, refl, sym, ap, ◌∙◌}
use Prim.Native.Nat.{ℕ, zero, suc, ◌+◌, ◌-◌, ◌*◌, ◌/◌, ◌%◌, ◌^◌, ◌<◌, ◌≤◌, zero-le, suc-le-suc}
use native.Mathlib.Nat.{le_of_suc-le-suc, not-suc-le-zero}
use native.Mathlib.Omega.{arith}
use native.Mathlib.Decide.{ℕ_discrete}
use mathlib.Core.Bool.{Bool, true, false, not}
use mathlib.Core.List.{List, [], ◌∷◌, ◌++◌, map}
use mathlib.Core.Option.{Option, none, some}
use lib.Dec.{T, eqb, ltb}
use lib.Ieee.Fits.{and_l, and_r}
use lib.ListN.{length, get_or, set, take, length-set, length-map, length-append, get_or-append}
use lib.Seq.{sets, take-suc, length-take-le, get_or-append-add, get_or-set_same, get_or-set_other, get_or-take}
use borrow.Author.Tests.{ltb-true, ltb-false, eq-eqb, ne_eqb}
use Rattle.lists.specs.Lists.{pick, count, lowest, gather}
use Rattle.lists.proofs.Places.{length-gather, lowest-none, get_d_map, find-some, length-count}
use Rattle.lists.proofs.Stores.{sets-gather}
use Rattle.rules.specs.Mesh.{onward, backward, corner, links, Step, home, off, here, closed, long, walk, passed, stop_of, step_to, Mesh}
use Rattle.rules.proofs.Sides.{on_below}
use Rattle.rules.proofs.Links.{restart-below}
use Rattle.rules.proofs.Levels.{faces_at}
use Rattle.faces.specs.Words.{coded}
use Rattle.cage.specs.Chains.{last_below}
use Rattle.cage.proofs.Chains.{last_more, last-at, last-nowhere}
use Rattle.cage.proofs.Across.{coded-at}
use Rattle.outlines.specs.Loops.{is_rim, leaving, next_rim, around}
use Rattle.outlines.specs.Pieces.{first_half, second_half, pieces, Within, Traceable, leaves_at, Leaving, Left, step_word, Painted, Final}
use Rattle.outlines.proofs.Rims.{Rim, rim-test, leaving-some, leave-one, closes, few, rim-of}

-- ---- pieces

pub length-pieces : (l s : ℕ) → length (pieces l s) ≡ 2 ^ l
length-pieces zero s = omega arith
length-pieces (suc l) s =
    let p : 2 ^ suc l ≡ 2 * 2 ^ l = omega arith in
    let a = length-append (pieces l (first_half s)) (pieces l (second_half s) ++ []) in
    let b = length-append (pieces l (second_half s)) [] in
    a ∙ omega (arith, b, length-pieces l (first_half s), length-pieces l (second_half s), p)

append-empty : (l : List ℕ) → l ++ [] ≡ l
append-empty [] = refl
append-empty (x ∷ l) = ap {B = List ℕ} (λ z. x ∷ z) (append-empty l)

-- piece j lies in the first half or in the second
pub piece-turn : (l s j : ℕ) → get_or (pieces (suc l) s) j 0 ≡ get_or (pieces l (pick (ltb j (2 ^ l)) (first_half s) (second_half s))) (pick (ltb j (2 ^ l)) j (j - 2 ^ l)) 0
piece-turn l s j = go (ltb j (2 ^ l)) refl
  where
    go : (b : Bool) → ltb j (2 ^ l) ≡ b → get_or (pieces (suc l) s) j 0 ≡ get_or (pieces l (pick b (first_half s) (second_half s))) (pick b j (j - 2 ^ l)) 0
    go true e = get_or-append (pieces l (first_half s)) (pieces l (second_half s) ++ []) 0 j (rw (length-pieces l (first_half s)) (ltb-true j (2 ^ l) e))
    go false e =
        let h = ltb-false j (2 ^ l) e in
        let q : j ≡ length (pieces l (first_half s)) + (j - 2 ^ l) = omega (arith, length-pieces l (first_half s), h) in
        ap (λ (z : ℕ). get_or (pieces l (first_half s) ++ (pieces l (second_half s) ++ [])) z 0) q
        ∙ get_or-append-add (pieces l (first_half s)) (pieces l (second_half s) ++ []) (j - 2 ^ l) 0
        ∙ ap (λ (z : List ℕ). get_or z (j - 2 ^ l) 0) (append-empty (pieces l (second_half s)))

pub piece_store : (fs : List ℕ) (l s j : ℕ) → j < 2 ^ l → corner fs (get_or (pieces l s) j 0) ≡ get_or (map (corner fs) (pieces l s)) j 0
piece_store fs l s j h = sym (get_d_map (corner fs) (pieces l s) j 0 0 (rw (length-pieces l s) h))

pub length-stored : (fs : List ℕ) (l s : ℕ) → length (map (corner fs) (pieces l s)) ≡ 2 ^ l
length-stored fs l s = length-map (pieces l s) (corner fs) ∙ length-pieces l s

faces-up : (l n : ℕ) → n ≤ faces_at l n
faces-up zero n = omega arith
faces-up (suc l) n = omega (arith, faces-up l (4 * n))

pub within-side : (n l s : ℕ) → Within n l s → s < n
within-side n l s w = omega (arith, w.below, w.most, faces-up l w.faces)

second_below : (s n : ℕ) → s < 3 * n → second_half s < 3 * (4 * n)
second_below s n h = let a = restart-below (onward s) n (on_below s n h) in at (Rattle.rules.specs.Mesh.restart (onward s)) a
  where
    at : (x : ℕ) → x < 3 * (4 * n) → backward x < 3 * (4 * n)
    at x k = omega arith

pub within-turn : (n l s : ℕ) (b : Bool) → Within n (suc l) s → Within n l (pick b (first_half s) (second_half s))
within-turn n l s true w = record { faces = 4 * w.faces; below = restart-below s w.faces w.below; most = w.most }
within-turn n l s false w = record { faces = 4 * w.faces; below = second_below s w.faces w.below; most = w.most }

-- of a side with m more levels to come, the half in which the piece lies, of h pieces, with one level less to come
pub record Turned (n l m h t i : ℕ) : Type 0 where
  pub piece : get_or (pieces m t) i 0 ≡ get_or (pieces l (pick (ltb i h) (first_half t) (second_half t))) (pick (ltb i h) i (i - h)) 0
  pub rest : pick (ltb i h) i (i - h) < 2 ^ l
  pub within : Within n l (pick (ltb i h) (first_half t) (second_half t))

pub turn-of : (n l m h t i : ℕ) → m ≡ l + 1 → h ≡ 2 ^ l → i < 2 ^ m → Within n m t → Turned n l m h t i
turn-of n l m h t i p e k w =
    let a : m ≡ suc l = omega (arith, p) in
    let q : 2 ^ suc l ≡ 2 * 2 ^ l = omega arith in
    let j = rw a at k in
    record { piece = rw (a, e) (piece-turn l t i); rest = rw e (go (ltb i (2 ^ l)) refl (omega (arith, j, q))); within = rw e (within-turn n l t (ltb i (2 ^ l)) (rw a at w)) }
  where
    go : (c : Bool) → ltb i (2 ^ l) ≡ c → i < 2 * 2 ^ l → pick c i (i - 2 ^ l) < 2 ^ l
    go true y z = ltb-true i (2 ^ l) y
    go false y z = omega (arith, ltb-false i (2 ^ l) y)

-- ---- walks told by words

pub first_word : (next : ℕ → Step) (k : ℕ) (st : Step) → (stop_of (walk next k st) ≡ long → ⊥) → step_word st ≡ get_or (map suc (passed (walk next k st))) 0 0
first_word next zero home l = refl
first_word next zero off l = refl
first_word next zero (here s) l = absurd (l refl)
first_word next (suc k) home l = refl
first_word next (suc k) off l = refl
first_word next (suc k) (here s) l = refl

pub next-words : (next : ℕ → Step) (k : ℕ) (st : Step) → (stop_of (walk next k st) ≡ long → ⊥) → (i : ℕ) → i < length (passed (walk next k st))
    → step_word (next (get_or (passed (walk next k st)) i 0)) ≡ get_or (map suc (passed (walk next k st))) (suc i) 0
next-words next zero home l i h = absurd (not-suc-le-zero h)
next-words next zero off l i h = absurd (not-suc-le-zero h)
next-words next zero (here s) l i h = absurd (l refl)
next-words next (suc k) home l i h = absurd (not-suc-le-zero h)
next-words next (suc k) off l i h = absurd (not-suc-le-zero h)
next-words next (suc k) (here s) l zero h = first_word next k (next s) l
next-words next (suc k) (here s) l (suc i) h = next-words next k (next s) l i (le_of_suc-le-suc h)

-- a word that is not 0 tells the side, and 0 the end
pub record Told (l : List ℕ) (n w : ℕ) : Type 0 where
  pub below : n < length l
  pub is : w - 1 ≡ get_or l n 0

pub word_in : (l : List ℕ) (n w : ℕ) → w ≡ get_or (map suc l) n 0 → 0 < w → Told l n w
word_in [] n w e h = absurd (omega (arith, e))
word_in (x ∷ l) zero w e h = record { below = suc-le-suc zero-le; is = omega (arith, e) }
word_in (x ∷ l) (suc n) w e h = let r = word_in l n w e h in record { below = suc-le-suc r.below; is = r.is }

pub word_out : (l : List ℕ) (n : ℕ) → n ≤ length l → get_or (map suc l) n 0 ≡ 0 → n ≡ length l
word_out [] n h e = omega arith
word_out (x ∷ l) zero h e = absurd (omega (arith, e))
word_out (x ∷ l) (suc n) h e = ap suc (word_out l n (le_of_suc-le-suc h) e)

module _ (v : ℕ) (fs : List ℕ) (t : Traceable v fs) where
  abbrev pub mesh_of : Mesh
  mesh_of = record { verts = v; faces = fs; starts = t.starts }

  abbrev pub faces_of : ℕ
  faces_of = length fs / 3

  pub size : length fs ≡ 3 * faces_of
  size = t.sound.good.size

  pub rim-from : (s : ℕ) → leaving fs (links fs) (corner fs s) ≡ some s → Rim faces_of mesh_of t.sound s
  rim-from s e = (leaving-some faces_of mesh_of t.sound (corner fs s) s e).0

  module _ (s : ℕ) (e : leaving fs (links fs) (corner fs s) ≡ some s) where
    abbrev L : List ℕ
    L = around fs (links fs) s

    not-long : stop_of (walk (λ x. step_to s (next_rim fs (links fs) x)) (length fs) (here s)) ≡ long → ⊥
    not-long q =
        let a = closes faces_of mesh_of t.sound s (rim-from s e) in
        clash (sym a ∙ ap (λ (k : ℕ). stop_of (walk (λ x. step_to s (next_rim fs (links fs) x)) k (here s))) (sym size) ∙ q)
      where
        clash : closed ≡ long → ⊥
        clash z = let y : ◌≡◌ {A = ℕ} 0 1 = cc in omega arith

    pub word_first : s + 1 ≡ get_or (map suc L) 0 0
    unfolding around
    word_first = let q : s + 1 ≡ suc s = omega arith in q ∙ first_word (λ x. step_to s (next_rim fs (links fs) x)) (length fs) (here s) not-long

    pub word_next : (i : ℕ) → i < length L → step_word (step_to s (next_rim fs (links fs) (get_or L i 0))) ≡ get_or (map suc L) (i + 1) 0
    unfolding around
    word_next i h =
        let q : i + 1 ≡ suc i = omega arith in
        next-words (λ x. step_to s (next_rim fs (links fs) x)) (length fs) (here s) not-long i h ∙ ap (λ (z : ℕ). get_or (map suc (passed (walk (λ x. step_to s (next_rim fs (links fs) x)) (length fs) (here s)))) z 0) (sym q)

    pub side-below : (i : ℕ) → i < length L → get_or L i 0 < length fs
    unfolding around
    side-below i h = omega (arith, (rim-of faces_of mesh_of t.sound s (rim-from s e) (length fs) i h).below, size)

    pub loop-few : length L ≤ length fs
    unfolding around
    loop-few = omega (arith, few faces_of mesh_of t.sound s (rim-from s e) (length fs), size)

    pub vertex-below : (i : ℕ) → i < length L → corner fs (get_or L i 0) < v
    vertex-below i h = t.sound.good.below (get_or L i 0) (omega (arith, side-below i h, size))

  -- ---- the rim side that leaves each vertex

  pub left-all : (ms : List ℕ) → Leaving fs (length fs) ms → Left fs ms
  left-all ms l = record { word = λ u h. l.word u h ∙ at u }
    where
      off_at : (b : Bool) → T (not b) → b ≡ false
      off_at true k = absurd k
      off_at false k = refl

      other : (u i j : ℕ) → Rim faces_of mesh_of t.sound i → corner fs i ≡ u → i < j → j < length fs → (b : Bool) → leaves_at fs u j ≡ b → b ≡ false
      other u i j r c h k false q = refl
      other u i j r c h k true q =
          let p : T (leaves_at fs u j) = rw q tt in
          let x = rim-test faces_of mesh_of t.sound j (omega (arith, size)) (and_l (is_rim fs (links fs) j) (eqb (corner fs j) u) p) in
          let y = lib.Dec.eqb→eq (corner fs j) u (and_r (is_rim fs (links fs) j) (eqb (corner fs j) u) p) in
          absurd (let z = leave-one faces_of mesh_of t.sound i j r x (c ∙ sym y) in omega arith)

      at : (u : ℕ) → last_below (leaves_at fs u) (length fs) ≡ coded (leaving fs (links fs) u)
      at u = go (leaving fs (links fs) u) refl
        where
          go : (o : Option ℕ) → leaving fs (links fs) u ≡ o → last_below (leaves_at fs u) (length fs) ≡ coded o
          go none e = last-nowhere (leaves_at fs u) (length fs) (λ j h. off_at (leaves_at fs u j) (lowest-none (leaves_at fs u) (length fs) e j h))
          go (some i) e =
              let x = leaving-some faces_of mesh_of t.sound u i e in
              let b : i < length fs = omega (arith, x.0.below, size) in
              last-at (leaves_at fs u) (length fs) i b (rw (x.0.lone, x.1, eq-eqb u u refl) refl) (λ j h k. other u i j x.0 x.1 h k (leaves_at fs u j) refl)

-- one more side: a rim side, or none
pub leaving-rim : (fs ms : List ℕ) (s : ℕ) → get_or (links fs) s none ≡ none → corner fs s < length ms → Leaving fs s ms → Leaving fs (s + 1) (set ms (corner fs s) (s + 1))
leaving-rim fs ms s e h l = record { word = λ u k. go u (rw (length-set ms (corner fs s) (s + 1)) at k) (ℕ_discrete u (corner fs s)) }
  where
    go : (u : ℕ) → u < length ms → Dec (u ≡ corner fs s) → get_or (set ms (corner fs s) (s + 1)) u 0 ≡ last_below (leaves_at fs u) (s + 1)
    go u k (yes q) =
        let p : leaves_at fs (corner fs s) s ≡ true = rw (e, eq-eqb (corner fs s) (corner fs s) refl) refl in
        rw q (get_or-set_same ms (corner fs s) (s + 1) 0 h ∙ sym (last_more (leaves_at fs (corner fs s)) s ∙ rw p refl))
    go u k (no q) =
        let p : leaves_at fs u s ≡ false = rw (e, ne_eqb (corner fs s) u (λ z. q (sym z))) refl in
        get_or-set_other ms (corner fs s) u (s + 1) 0 q ∙ l.word u k ∙ sym (last_more (leaves_at fs u) s ∙ rw p refl)

pub leaving-inner : (fs ms : List ℕ) (s x : ℕ) → get_or (links fs) s none ≡ some x → Leaving fs s ms → Leaving fs (s + 1) ms
leaving-inner fs ms s x e l = record { word = λ u k. let p : leaves_at fs u s ≡ false = rw e refl in l.word u k ∙ sym (last_more (leaves_at fs u) s ∙ rw p refl) }

-- what a link word tells
pub link-word-at : (fs ws : List ℕ) (s : ℕ) → s < length fs → take (length fs) ws ≡ map coded (links fs) → get_or ws s 0 ≡ coded (get_or (links fs) s none)
link-word-at fs ws s h e = sym (get_or-take (length fs) ws s 0 h) ∙ ap (λ (l : List ℕ). get_or l s 0) e ∙ coded-at fs s h

pub leaving-yes : (fs ws ms : List ℕ) (s : ℕ) → s < length fs → take (length fs) ws ≡ map coded (links fs) → get_or ws s 0 ≡ 0 → corner fs s < length ms → Leaving fs s ms → Leaving fs (s + 1) (set ms (corner fs s) (s + 1))
leaving-yes fs ws ms s h q z k l = go (get_or (links fs) s none) refl
  where
    go : (o : Option ℕ) → get_or (links fs) s none ≡ o → Leaving fs (s + 1) (set ms (corner fs s) (s + 1))
    go none e = leaving-rim fs ms s e k l
    go (some x) e = absurd (omega (arith, z, link-word-at fs ws s h q ∙ ap coded e))

pub leaving-no : (fs ws ms : List ℕ) (s : ℕ) → s < length fs → take (length fs) ws ≡ map coded (links fs) → (get_or ws s 0 ≡ 0 → ⊥) → Leaving fs s ms → Leaving fs (s + 1) ms
leaving-no fs ws ms s h q z l = go (get_or (links fs) s none) refl
  where
    go : (o : Option ℕ) → get_or (links fs) s none ≡ o → Leaving fs (s + 1) ms
    go none e = absurd (z (link-word-at fs ws s h q ∙ ap coded e))
    go (some x) e = leaving-inner fs ms s x e l

-- ---- the next side by its word

pub lowest-few : (p : ℕ → Bool) (n : ℕ) → coded (lowest p n) ≤ n
lowest-few p n = go (lowest p n) refl
  where
    go : (o : Option ℕ) → lowest p n ≡ o → coded o ≤ n
    go none e = omega arith
    go (some i) e = omega (arith, (find-some p 0 (count 0 n) i e).below, length-count 0 n)

pub step-home : (first w : ℕ) (o : Option ℕ) → w ≡ coded o → w ≡ first + 1 → 0 ≡ step_word (step_to first o)
step-home first w none e q = absurd (omega (arith, e, q))
step-home first w (some t) e q = let z : t ≡ first = omega (arith, e, q) in rw (eq-eqb t first z) refl

pub step-on : (first w : ℕ) (o : Option ℕ) → w ≡ coded o → (w ≡ first + 1 → ⊥) → w ≡ step_word (step_to first o)
step-on first w none e q = e
step-on first w (some t) e q = let z : t ≡ first → ⊥ = λ y. q (omega (arith, e, y)) in e ∙ rw (ne_eqb t first z) refl

-- ---- marks

pub painted-none : (f : ℕ → ℕ) (k : ℕ) (ms : List ℕ) → Painted f 0 k ms ms
painted-none f k ms = record { long = refl; on = λ i h. absurd (not-suc-le-zero h); rest = λ u h. refl }

pub painted-more : (f : ℕ → ℕ) (n k : ℕ) (ms old : List ℕ) → f n < length ms → Painted f n k ms old → Painted f (n + 1) k (set ms (f n) k) old
painted-more f n k ms old h p = record {
  long = length-set ms (f n) k ∙ p.long;
  on = λ i l. at i l (ℕ_discrete (f i) (f n));
  rest = λ u l. get_or-set_other ms (f n) u k 0 (λ e. l n (omega arith) (sym e)) ∙ p.rest u (λ i b. l i (omega arith));
}
  where
    at : (i : ℕ) → i < n + 1 → Dec (f i ≡ f n) → get_or (set ms (f n) k) (f i) 0 ≡ k
    at i l (yes e) = rw e (get_or-set_same ms (f n) k 0 h)
    at i l (no e) =
        let d : i ≡ n → ⊥ = λ q. e (ap f q) in
        get_or-set_other ms (f n) (f i) k 0 e ∙ p.on i (omega arith)

-- ---- the list

pub room_for : (a all n len r : ℕ) → a + all * len ≤ r → n < len → (a + all * n) + all ≤ r
room_for a all n len r h k = go (len - suc n) (omega arith)
  where
    go : (d : ℕ) → len ≡ suc n + d → (a + all * n) + all ≤ r
    go d e = let q : all * len ≡ all * (suc n + d) = ap (λ (z : ℕ). all * z) e in omega (arith, h, q)

-- one more side of a loop, in its pieces
pub loop-store : (g : ℕ → List ℕ) (m : ℕ) → ((x : ℕ) → length (g x) ≡ m) → (xs l : List ℕ) (at n : ℕ) → n < length xs
    → sets (sets l at (gather g (take n xs))) (at + m * n) (g (get_or xs n 0)) ≡ sets l at (gather g (take (n + 1) xs))
loop-store g m each xs l at n h =
    let e : at + length (gather g (take n xs)) ≡ at + m * n = ap (λ (z : ℕ). at + z) (length-gather g m each (take n xs) ∙ ap (λ (z : ℕ). m * z) (length-take-le n xs (omega arith))) in
    let q : n + 1 ≡ suc n = omega arith in
    sets-gather g (take n xs) (get_or xs n 0) l at (at + m * n) e
    ∙ ap (λ (z : List ℕ). sets l at (gather g z)) (sym (take-suc xs n 0 h) ∙ ap (λ (z : ℕ). take z xs) (sym q))

pub within-cage : (fs out : List ℕ) (l s : ℕ) → length fs % 3 ≡ 0 → s < length fs → Final l fs out → Within (length out) l s
within-cage fs out l s h k f = record { faces = length fs / 3; below = omega arith; most = f.long }
