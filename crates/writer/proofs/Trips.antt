-- Both round trips: reading what was written, and writing what was read.
use Prim.Native.Nat.{ℕ, zero, suc, ◌+◌, ◌-◌, ◌*◌, ◌/◌, ◌≤◌, ◌<◌}
use mathlib.Core.Path.{◌≡◌, refl, sym, ap, ◌∙◌}
use mathlib.Core.Bool.{Bool, true, false, not, ◌||◌}
use mathlib.Core.List.{List, [], ◌∷◌, ◌++◌, append_assoc, append-nil, map, map-append}
use mathlib.Core.Option.{none}
use native.Mathlib.Omega.{arith}
use lib.Dec.{ltb, eqb, eqb→eq, leb, nleb→lt, leb→le}
use lib.IntN.{ℤ, pos, negsuc, nat_abs}
use lib.ListN.{length, get_or, take, drop, length-append, length-drop, take-append-drop, length-map}
use lib.Seq.{take_at, drop_at, get_or-take, get_or-drop, length-take-le, take_all, drop-drop}
use borrow.Author.Tests.{le-ltb, eq-eqb, not-false}
use Rattle.lists.specs.Lists.{gather, rows, part}
use Rattle.lists.proofs.Places.{find_none, get_d_map}
use Rattle.lists.proofs.Stores.{length-rows}
use Rattle.rules.specs.Position.{whole}
use Rattle.rules.specs.Refusals.{Room, list_refusal, mesh_refusal}
use Rattle.rules.specs.Answers.{outcome}
use Rattle.rules.specs.Sheets.{word_at, signed, words_of, coords_of, trailer, sheet_verts, sheet_faces, sheet_levels, bad_sheet, vertex_block, face_block, sheet_indices, sheet_coords, sheet_outcome, bytes_of, unsigned, sheet_bytes}
use Rattle.rules.specs.declared.Counts.{Counts}
use Rattle.rules.proofs.Checks.{check-none, or-none, range-of}
use Rattle.reader.proofs.Laws.{good_length}
use Rattle.reader.proofs.Read.{read-outcome}
use Rattle.writer.proofs.Back.{signed_back, unsigned_back}
use Rattle.writer.proofs.Lists.{Words, Bytes, word-past, word-at, words_back, blocks-back}
use Rattle.writer.proofs.Puts.{bytes-long, coords-long}
use Rattle.writer.proofs.Writes.{Passed, passed}

-- ---- numbers that are signed, one by one

pub coords-map : (c : List ℕ) (n : ℕ) → coords_of c n ≡ map signed (words_of c n)
unfolding rows
coords-map c zero = refl
coords-map c (suc n) =
    ap (λ (v : List ℤ). v ++ (signed (word_at c (4 * n)) ∷ [])) (coords-map c n)
    ∙ sym (map-append signed (words_of c n) (word_at c (4 * n) ∷ []))

pub record Within (xs : List ℤ) : Type 0 where
  pub each : (i : ℕ) → i < length xs → nat_abs (get_or xs i (pos 0)) ≤ 1000000000

within-tail : (x : ℤ) (xs : List ℤ) → Within (x ∷ xs) → Within xs
within-tail x xs h = record { each = λ i l. h.each (suc i) (omega arith) }

pub signs-back : (xs : List ℤ) → Within xs → map signed (map unsigned xs) ≡ xs
signs-back [] h = refl
signs-back (x ∷ xs) h =
    let a : signed (unsigned x) ≡ x = signed_back x (h.each 0 (omega arith)) in
    ap (λ (z : ℤ). z ∷ map signed (map unsigned xs)) a ∙ ap (λ (v : List ℤ). x ∷ v) (signs-back xs (within-tail x xs h))

small : (z : ℤ) → nat_abs z ≤ 1000000000 → unsigned z < 4294967296
small (pos n) h = omega arith
small (negsuc n) h = omega arith

pub signs-words : (xs : List ℤ) → Within xs → Words (map unsigned xs)
signs-words xs h = record { each = λ i l. let k : i < length xs = omega (arith, length-map xs unsigned) in rw (get_d_map unsigned xs i (pos 0) 0 k) (small (get_or xs i (pos 0)) (h.each i k)) }

-- ---- what checks 1 to 12 say of the numbers

pub within_of : (l : ℕ) (fs : List ℕ) (xs : List ℤ) → Passed whole l fs xs → Within xs
within_of l fs xs p = record { each = λ i h. leb→le _ _ (range-of whole xs p.range i h) }

pub corners-words : (l : ℕ) (fs : List ℕ) (xs : List ℤ) → Passed whole l fs xs → Words fs
unfolding list_refusal
corners-words l fs xs p =
    let v = length xs / 3 in
    let s = p.shape.verts in
    record { each = λ i h. let t = nleb→lt v (get_or fs i 0) (find_none (λ u. leb v u) 0 fs (check-none 5 _ (or-none _ _ p.list).0) i h) in omega (arith, s) }

good-when : (b : List ℕ) (v f : ℕ) → trailer b 0 ≡ 0 → sheet_verts b ≡ v → trailer b 8 ≡ 12 * v → sheet_faces b ≡ f → length b ≡ 12 * v + 12 * f + 20 → bad_sheet b ≡ false
good-when b v f o a s c n =
    let x : trailer b 8 ≡ 12 * sheet_verts b = s ∙ ap (λ (k : ℕ). 12 * k) (sym a) in
    let y : length b ≡ 12 * sheet_verts b + 12 * sheet_faces b + 20 = n ∙ omega (arith, a, c) in
    rw (le-ltb (length b) 20 (omega arith), eq-eqb (trailer b 0) 0 o, eq-eqb (trailer b 8) (12 * sheet_verts b) x, eq-eqb (length b) (12 * sheet_verts b + 12 * sheet_faces b + 20) y) refl

-- ---- "Reading what was written gives the lists back"

module _ (l : ℕ) (fs : List ℕ) (xs : List ℤ) (e : mesh_refusal whole l fs xs ≡ none) where
  p : Passed whole l fs xs
  p = passed whole l fs xs e

  abbrev b : List ℕ
  b = sheet_bytes l fs xs

  abbrev v : ℕ
  v = length xs / 3

  abbrev f : ℕ
  f = length fs / 3

  abbrev vs : List ℕ
  vs = gather bytes_of (map unsigned xs)

  abbrev cs : List ℕ
  cs = gather bytes_of fs

  abbrev ts : List ℕ
  ts = gather bytes_of (0 ∷ v ∷ 12 * v ∷ f ∷ l ∷ [])

  v-few : v ≤ 4096
  v-few = p.shape.verts

  f-few : f ≤ 4096
  f-few = p.shape.faces

  l-few : l ≤ 7
  l-few = p.shape.levels

  three-v : length xs ≡ 3 * v
  three-v = omega (arith, p.shape.coords)

  three-f : length fs ≡ 3 * f
  three-f = omega (arith, p.shape.indices)

  vs-long : length vs ≡ 12 * v
  vs-long = omega (arith, coords-long xs, three-v)

  cs-long : length cs ≡ 12 * f
  cs-long = omega (arith, bytes-long fs, three-f)

  ts-long : length ts ≡ 20
  ts-long = refl

  apart : b ≡ (vs ++ cs) ++ ts
  unfolding sheet_bytes
  apart = sym (append_assoc vs cs ts)

  long : length b ≡ 12 * v + 12 * f + 20
  long = ap length apart ∙ length-append (vs ++ cs) ts ∙ omega (arith, length-append vs cs, vs-long, cs-long, ts-long)

  trailer-is : (j : ℕ) → trailer b j ≡ word_at ts j
  trailer-is j =
      let k : length b - 20 + j ≡ length (vs ++ cs) + j = omega (arith, long, length-append vs cs, vs-long, cs-long) in
      ap (word_at b) k ∙ ap (λ (c : List ℕ). word_at c (length (vs ++ cs) + j)) apart ∙ word-past (vs ++ cs) ts j

  offset-is : trailer b 0 ≡ 0
  offset-is = trailer-is 0 ∙ word-at [] 0 (gather bytes_of (v ∷ 12 * v ∷ f ∷ l ∷ [])) (omega arith)

  verts-is : sheet_verts b ≡ v
  verts-is = trailer-is 4 ∙ word-at (0 ∷ []) v (gather bytes_of (12 * v ∷ f ∷ l ∷ [])) (omega (arith, v-few))

  start_is : trailer b 8 ≡ 12 * v
  start_is = trailer-is 8 ∙ word-at (0 ∷ v ∷ []) (12 * v) (gather bytes_of (f ∷ l ∷ [])) (omega (arith, v-few))

  faces-is : sheet_faces b ≡ f
  faces-is = trailer-is 12 ∙ word-at (0 ∷ v ∷ 12 * v ∷ []) f (gather bytes_of (l ∷ [])) (omega (arith, f-few))

  pub levels-back : sheet_levels b ≡ l
  levels-back = trailer-is 16 ∙ word-at (0 ∷ v ∷ 12 * v ∷ f ∷ []) l [] (omega (arith, l-few))

  pub good-back : bad_sheet b ≡ false
  good-back = good-when b v f offset-is verts-is start_is faces-is long

  vertex-back : vertex_block b ≡ vs
  unfolding vertex_block sheet_bytes
  vertex-back = rw (good-back, verts-is) (take_at vs (cs ++ ts) (12 * v) vs-long)

  face-back : face_block b ≡ cs
  unfolding face_block sheet_bytes
  face-back = rw (good-back, verts-is, faces-is) (ap (take (12 * f)) (drop_at vs (cs ++ ts) (12 * v) vs-long) ∙ take_at cs ts (12 * f) cs-long)

  pub coords-back : sheet_coords b ≡ xs
  coords-back =
      let h = within_of l fs xs p in
      let n = length-map xs unsigned in
      let w : words_of vs (length xs) ≡ map unsigned xs =
      ap (λ (c : List ℕ). words_of c (length xs)) (sym (append-nil vs)) ∙ words_back (map unsigned xs) [] (signs-words xs h) (length xs) (omega (arith, n)) ∙ take_all (length xs) (map unsigned xs) (omega (arith, n)) in
      ap (λ (c : List ℕ). coords_of c (3 * sheet_verts b)) vertex-back ∙ ap (λ (k : ℕ). coords_of vs (3 * k)) verts-is ∙ ap (coords_of vs) (sym three-v)
      ∙ coords-map vs (length xs) ∙ ap (map signed) w ∙ signs-back xs h

  pub indices-back : sheet_indices b ≡ fs
  indices-back =
      ap (λ (c : List ℕ). words_of c (3 * sheet_faces b)) face-back ∙ ap (λ (k : ℕ). words_of cs (3 * k)) faces-is ∙ ap (words_of cs) (sym three-f)
      ∙ ap (λ (c : List ℕ). words_of c (length fs)) (sym (append-nil cs)) ∙ words_back fs [] (corners-words l fs xs p) (length fs) (omega arith) ∙ take_all (length fs) fs (omega arith)

  -- a written sheet is cut as its lists are
  pub cut-as-lists : (rooms : Counts → List Room) → sheet_outcome rooms b ≡ outcome whole rooms l fs xs
  cut-as-lists rooms =
      read-outcome rooms b good-back ∙ ap (λ (k : ℕ). outcome whole rooms k (sheet_indices b) (sheet_coords b)) levels-back
      ∙ ap (λ (c : List ℕ). outcome whole rooms l c (sheet_coords b)) indices-back ∙ ap (outcome whole rooms l fs) coords-back

-- ---- "writing what was read .. gives the same bytes"

bytes_take : (c : List ℕ) (n : ℕ) → n ≤ length c → Bytes c → Bytes (take n c)
bytes_take c n l h = record { each = λ i k. let m : i < n = omega (arith, length-take-le n c l) in rw (get_or-take n c i 0 m) (h.each i (omega arith)) }

bytes_drop : (c : List ℕ) (n : ℕ) → Bytes c → Bytes (drop n c)
bytes_drop c n h = record { each = λ i k. rw (get_or-drop n c i 0) (h.each (n + i) (omega (arith, length-drop n c))) }

word_below : (c : List ℕ) → Bytes c → (i : ℕ) → i + 4 ≤ length c → word_at c i < 4294967296
word_below c h i l = omega (arith, h.each i (omega arith), h.each (i + 1) (omega arith), h.each (i + 2) (omega arith), h.each (i + 3) (omega arith))

words-signed : (c : List ℕ) → Bytes c → (n : ℕ) → 4 * n ≤ length c → map unsigned (coords_of c n) ≡ words_of c n
unfolding rows
words-signed c h zero l = refl
words-signed c h (suc n) l =
    map-append unsigned (coords_of c n) (signed (word_at c (4 * n)) ∷ [])
    ∙ ap (λ (v : List ℕ). v ++ (unsigned (signed (word_at c (4 * n))) ∷ [])) (words-signed c h n (omega arith))
    ∙ ap (λ (w : ℕ). words_of c n ++ (w ∷ [])) (unsigned_back (word_at c (4 * n)) (word_below c h (4 * n) (omega arith)))

or-false : (a b : Bool) → (a || b) ≡ false → (a ≡ false) × (b ≡ false)
or-false true b e = absurd (let z : ◌≡◌ {A = ℕ} 0 1 = cc in omega arith)
or-false false b e = (refl, e)

word-drop : (c : List ℕ) (n j : ℕ) → word_at (drop n c) j ≡ word_at c (n + j)
word-drop c n j =
    let x : n + (j + 1) ≡ n + j + 1 = omega arith in
    let y : n + (j + 2) ≡ n + j + 2 = omega arith in
    let z : n + (j + 3) ≡ n + j + 3 = omega arith in
    rw (get_or-drop n c j 0, get_or-drop n c (j + 1) 0, get_or-drop n c (j + 2) 0, get_or-drop n c (j + 3) 0, x, y, z) refl

is-equal : (a b : ℕ) → not (eqb a b) ≡ false → a ≡ b
is-equal a b e = eqb→eq a b (rw (not-false (eqb a b) e) tt)

pub one_each : {A : Type 0} (g : ℕ → A) (n : ℕ) → length (rows (λ k. g k ∷ []) n) ≡ n
one_each g n = length-rows (λ k. g k ∷ []) 1 (λ k. refl) n ∙ omega arith

three-parts : (c : List ℕ) (m n k : ℕ) → m + n ≡ k → take m c ++ (take n (drop m c) ++ drop k c) ≡ c
three-parts c m n k e = rw (← e, ← (drop-drop n m c), take-append-drop n (drop m c)) (take-append-drop m c)

five-same : {a b c d e a' b' c' d' e' : ℕ} → a ≡ a' → b ≡ b' → c ≡ c' → d ≡ d' → e ≡ e' → ◌≡◌ {A = List ℕ} (a ∷ b ∷ c ∷ d ∷ e ∷ []) (a' ∷ b' ∷ c' ∷ d' ∷ e' ∷ [])
five-same p q r s t = cc

module _ (b : List ℕ) (h : Bytes b) (good : bad_sheet b ≡ false) where
  abbrev nv : ℕ
  nv = sheet_verts b

  abbrev nf : ℕ
  nf = sheet_faces b

  b-long : length b ≡ 12 * nv + 12 * nf + 20
  b-long = good_length b good

  tests : (trailer b 0 ≡ 0) × (trailer b 8 ≡ 12 * nv)
  tests =
      let x = or-false (ltb (length b) 20 || not (eqb (trailer b 0) 0) || not (eqb (trailer b 8) (12 * nv))) (not (eqb (length b) (12 * nv + 12 * nf + 20))) good in
      let y = or-false (ltb (length b) 20 || not (eqb (trailer b 0) 0)) (not (eqb (trailer b 8) (12 * nv))) x.0 in
      let z = or-false (ltb (length b) 20) (not (eqb (trailer b 0) 0)) y.0 in
      (is-equal (trailer b 0) 0 z.1, is-equal (trailer b 8) (12 * nv) y.1)

  first_block : gather bytes_of (map unsigned (sheet_coords b)) ≡ take (12 * nv) b
  unfolding vertex_block
  first_block =
      let c = take (12 * nv) b in
      let n = length-take-le (12 * nv) b (omega (arith, b-long)) in
      let k = bytes_take b (12 * nv) (omega (arith, b-long)) h in
      rw good
      (ap (gather bytes_of) (words-signed c k (3 * nv) (omega (arith, n))) ∙ blocks-back c k (3 * nv) (omega (arith, n)) ∙ take_all (4 * (3 * nv)) c (omega (arith, n)))

  second_block : gather bytes_of (sheet_indices b) ≡ part (12 * nv) (12 * nf) b
  unfolding face_block
  second_block =
      let d = drop (12 * nv) b in
      let c = take (12 * nf) d in
      let m = length-drop (12 * nv) b in
      let n = length-take-le (12 * nf) d (omega (arith, b-long, m)) in
      let k = bytes_take d (12 * nf) (omega (arith, b-long, m)) (bytes_drop b (12 * nv) h) in
      rw good
      (blocks-back c k (3 * nf) (omega (arith, n)) ∙ take_all (4 * (3 * nf)) c (omega (arith, n)))

  last_block : gather bytes_of (0 ∷ nv ∷ 12 * nv ∷ nf ∷ sheet_levels b ∷ []) ≡ drop (length b - 20) b
  unfolding rows
  last_block =
      let d = drop (length b - 20) b in
      let m = length-drop (length b - 20) b in
      let k = blocks-back d (bytes_drop b (length b - 20) h) 5 (omega (arith, b-long, m)) in
      let w = word-drop b (length b - 20) in
      let t = tests in
      ap (gather bytes_of) (five-same (sym (w 0 ∙ t.0)) (sym (w 4)) (sym (w 8 ∙ t.1)) (sym (w 12)) (sym (w 16))) ∙ k ∙ take_all 20 d (omega (arith, b-long, m))

  pub write-back : sheet_bytes (sheet_levels b) (sheet_indices b) (sheet_coords b) ≡ b
  unfolding sheet_bytes
  write-back =
      let x : length (sheet_coords b) / 3 ≡ nv = omega (arith, one_each (λ k. signed (word_at (vertex_block b) (4 * k))) (3 * nv)) in
      let y : length (sheet_indices b) / 3 ≡ nf = omega (arith, one_each (λ k. word_at (face_block b) (4 * k)) (3 * nf)) in
      let e : 12 * nv + 12 * nf ≡ length b - 20 = omega (arith, b-long) in
      rw (x, y, first_block, second_block, last_block) (three-parts b (12 * nv) (12 * nf) (length b - 20) e)
