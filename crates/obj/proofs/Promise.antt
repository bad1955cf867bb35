-- Request [13], of every call that keeps its promise: one outcome, nothing written by a refusal, the rest unchanged, both round trips.
use Prim.Native.Nat.{ℕ, ◌*◌, ◌/◌, ◌≤◌}
use mathlib.Core.Path.{◌≡◌, refl, sym, ap, ◌∙◌}
use mathlib.Core.Bool.{Bool, true, false, ◌||◌}
use mathlib.Core.List.{List}
use native.Mathlib.Omega.{arith}
use lib.Dec.{ltb}
use lib.IntN.{ℤ}
use lib.ListN.{length, take, drop}
use Rattle.std.proofs.Common.{Result, Ok, Err}
use lib.Seq.{sets}
use borrow.Author.Tests.{le-ltb, ltb-false}
use Rattle.lists.specs.Lists.{pick}
use Rattle.lists.proofs.Stores.{drop-after, part_of}
use Rattle.rules.specs.Calls.{Lent}
use Rattle.rules.specs.declared.Refusal.{Refusal}
use Rattle.obj.specs.Form.{obj_text, has_text}
use Rattle.obj.specs.Reading.{Reading, lists, wrong, read_obj}
use Rattle.obj.specs.Calls.{text_of, text_left, TextCall, text_answer, TextTold, coords_of, corners_of, lists_by, lists_of, lists_left, ListsCall, lists_answer, ListsTold}
use Rattle.obj.specs.declared.Lists.{Lists}
use Rattle.obj.proofs.Exact.{write-back}
use Rattle.obj.proofs.Round.{Fits, fits, read_back}

-- ---- what an answer says

unlike : {A : Type 0} {r : Refusal} {a : A} → Err r ≡ Ok a → ⊥
unlike e = cc

pub record Wrote (room : ℕ) (xs : List ℤ) (fs : List ℕ) (n : ℕ) : Type 0 where
  pub has : has_text xs fs ≡ true
  pub long : n ≡ length (obj_text xs fs)
  pub fits_in : n ≤ room

pub wrote : (room : ℕ) (xs : List ℤ) (fs : List ℕ) (n : ℕ) → text_of room xs fs ≡ Ok n → Wrote room xs fs n
unfolding text_of
wrote room xs fs n e = go (has_text xs fs) (ltb room (length (obj_text xs fs))) refl refl e
  where
    go : (t u : Bool) → has_text xs fs ≡ t → ltb room (length (obj_text xs fs)) ≡ u
        → ◌≡◌ {A = Result ℕ Refusal} (pick t (pick u (Err (record { number = 22; place = 0 })) (Ok (length (obj_text xs fs)))) (Err (record { number = 25; place = 0 }))) (Ok n) → Wrote room xs fs n
    go true true h k e = absurd (unlike e)
    go true false h k e = let m : length (obj_text xs fs) ≡ n = cc in let l = ltb-false room (length (obj_text xs fs)) k in record { has = h; long = sym m; fits_in = omega arith }
    go false u h k e = absurd (unlike e)

pub record WasRead (room_x room_f : ℕ) (r : Reading) (v f : ℕ) : Type 0 where
  pub is : r ≡ lists (coords_of r) (corners_of r)
  pub coords-long : length (coords_of r) ≡ 3 * v
  pub corners-long : length (corners_of r) ≡ 3 * f
  pub coords-fit : length (coords_of r) ≤ room_x
  pub corners-fit : length (corners_of r) ≤ room_f

read_by : (room_x room_f : ℕ) (r : Reading) (v f : ℕ) → ((xs : List ℤ) (fs : List ℕ) → r ≡ lists xs fs → Fits xs fs) → lists_by room_x room_f r ≡ Ok (record { vertices = v; faces = f }) → WasRead room_x room_f r v f
read_by room_x room_f (wrong n) v f h e = absurd (unlike e)
read_by room_x room_f (lists xs fs) v f h e = go (ltb room_x (length xs)) (ltb room_f (length fs)) refl refl e
  where
    go : (t u : Bool) → ltb room_x (length xs) ≡ t → ltb room_f (length fs) ≡ u
        → ◌≡◌ {A = Result Lists Refusal} (pick (t || u) (Err (record { number = 24; place = 0 })) (Ok (record { vertices = length xs / 3; faces = length fs / 3 }))) (Ok (record { vertices = v; faces = f })) → WasRead room_x room_f (lists xs fs) v f
    go true u x y k = absurd (unlike k)
    go false true x y k = absurd (unlike k)
    go false false x y k =
        let e : ◌≡◌ {A = Lists} (record { vertices = length xs / 3; faces = length fs / 3 }) (record { vertices = v; faces = f }) = cc in
        let p : length xs / 3 ≡ v = ap (λ (l : Lists). l.vertices) e in
        let q : length fs / 3 ≡ f = ap (λ (l : Lists). l.faces) e in
        let s = h xs fs refl in
        let m = s.thirds in let n = s.corner-thirds in
        record { is = refl; coords-long = omega arith; corners-long = omega arith; coords-fit = ltb-false room_x (length xs) x; corners-fit = ltb-false room_f (length fs) y }

pub was_read : (room_x room_f : ℕ) (b : List ℕ) (v f : ℕ) → lists_of room_x room_f b ≡ Ok (record { vertices = v; faces = f }) → WasRead room_x room_f (read_obj b) v f
unfolding lists_of
was_read room_x room_f b v f e = read_by room_x room_f (read_obj b) v f (λ xs fs h. fits xs fs (write-back b xs fs h).0) e

-- lists of 98,304 numbers have room for every text
pub always-room : (b : List ℕ) (xs : List ℤ) (fs : List ℕ) → read_obj b ≡ lists xs fs → (length xs ≤ 98304) × (length fs ≤ 98304)
always-room b xs fs e =
    let s = fits xs fs (write-back b xs fs e).0 in
    let m = s.thirds in let n = s.corner-thirds in let v = s.few in let f = s.few-faces in
    (omega arith, omega arith)

-- ---- two outcomes that are allowed are one

module _ (xs : List ℤ) (fs : List ℕ) (ts us : Lent (List ℕ)) (e : ts.old ≡ us.old) where
  pub one-text : (r q : Result ℕ Refusal) → TextCall xs fs ts r → TextCall xs fs us q → (r ≡ q) × (ts.new ≡ us.new)
  one-text r q c d =
      let a : r ≡ q = c.answer ∙ ap (λ (b : List ℕ). text_of (length b) xs fs) e ∙ sym d.answer in
      (a, c.text ∙ ap (λ (w : Result ℕ Refusal). text_left w (obj_text xs fs) ts.old) a ∙ ap (text_left q (obj_text xs fs)) e ∙ sym d.text)

  pub one-text-told : (told also : List ℕ) → TextTold xs fs ts told → TextTold xs fs us also → (told ≡ also) × (ts.new ≡ us.new)
  one-text-told told also c d =
      let o = one-text c.answer d.answer c.kept d.kept in
      (c.three ∙ ap (λ (w : Result ℕ Refusal). text_answer w) o.0 ∙ sym d.three, o.1)

module _ (b : List ℕ) (xs ys : Lent (List ℤ)) (fs gs : Lent (List ℕ)) (e : xs.old ≡ ys.old) (k : fs.old ≡ gs.old) where
  pub one-mesh-read : (r q : Result Lists Refusal) → ListsCall b xs fs r → ListsCall b ys gs q → (r ≡ q) × (xs.new ≡ ys.new) × (fs.new ≡ gs.new)
  one-mesh-read r q c d =
      let a : r ≡ q = c.answer ∙ ap (λ (l : List ℤ). lists_of (length l) (length fs.old) b) e ∙ ap (λ (l : List ℕ). lists_of (length ys.old) (length l) b) k ∙ sym d.answer in (
        a,
        c.coords ∙ ap (λ (w : Result Lists Refusal). lists_left w (coords_of (read_obj b)) xs.old) a ∙ ap (lists_left q (coords_of (read_obj b))) e ∙ sym d.coords,
        c.corners ∙ ap (λ (w : Result Lists Refusal). lists_left w (corners_of (read_obj b)) fs.old) a ∙ ap (lists_left q (corners_of (read_obj b))) k ∙ sym d.corners,
      )

  pub one-mesh-told : (told also : List ℕ) → ListsTold b xs fs told → ListsTold b ys gs also → (told ≡ also) × (xs.new ≡ ys.new) × (fs.new ≡ gs.new)
  one-mesh-told told also c d =
      let o = one-mesh-read c.answer d.answer c.kept d.kept in
      (c.four ∙ ap (λ (w : Result Lists Refusal). lists_answer w) o.0 ∙ sym d.four, o.1, o.2)

-- ---- written, then read

read_as : (room_x room_f : ℕ) (b : List ℕ) (xs : List ℤ) (fs : List ℕ) → read_obj b ≡ lists xs fs → length xs ≤ room_x → length fs ≤ room_f → lists_of room_x room_f b ≡ Ok (record { vertices = length xs / 3; faces = length fs / 3 })
unfolding lists_of
read_as room_x room_f b xs fs e h k = rw (e, le-ltb room_x (length xs) h, le-ltb room_f (length fs) k)

module _ (xs : List ℤ) (fs : List ℕ) (ts : Lent (List ℕ)) where
  pub refused-writes-nothing : (r : Refusal) → TextCall xs fs ts (Err r) → ts.new ≡ ts.old
  refused-writes-nothing r c = c.text

  module _ (n : ℕ) (c : TextCall xs fs ts (Ok n)) where
    w : Wrote (length ts.old) xs fs n
    w = wrote (length ts.old) xs fs n (sym c.answer)

    pub text_in-front : take n ts.new ≡ obj_text xs fs
    text_in-front = ap (take n) c.text ∙ part_of (obj_text xs fs) ts.old 0 n (sym w.long) (omega (arith, w.fits_in))

    pub rest-unchanged : drop n ts.new ≡ drop n ts.old
    rest-unchanged = ap (drop n) c.text ∙ drop-after (obj_text xs fs) ts.old 0 n (omega (arith, w.long))

    back : read_obj (take n ts.new) ≡ lists xs fs
    back = ap read_obj text_in-front ∙ read_back xs fs w.has

    -- "Reading what was written gives the same mesh"
    pub write-then-read : (ys : Lent (List ℤ)) (gs : Lent (List ℕ)) (r : Result Lists Refusal) → length xs ≤ length ys.old → length fs ≤ length gs.old → ListsCall (take n ts.new) ys gs r
        → (r ≡ Ok (record { vertices = length xs / 3; faces = length fs / 3 })) × (ys.new ≡ sets ys.old 0 xs) × (gs.new ≡ sets gs.old 0 fs)
    write-then-read ys gs r h k d =
        let b = take n ts.new in
        let a : r ≡ Ok (record { vertices = length xs / 3; faces = length fs / 3 }) = d.answer ∙ read_as (length ys.old) (length gs.old) b xs fs back h k in (
          a,
          d.coords ∙ ap (λ (q : Result Lists Refusal). lists_left q (coords_of (read_obj b)) ys.old) a ∙ ap (λ (q : Reading). sets ys.old 0 (coords_of q)) back,
          d.corners ∙ ap (λ (q : Result Lists Refusal). lists_left q (corners_of (read_obj b)) gs.old) a ∙ ap (λ (q : Reading). sets gs.old 0 (corners_of q)) back,
        )

-- ---- read, then written

module _ (b : List ℕ) (xs : Lent (List ℤ)) (fs : Lent (List ℕ)) where
  pub refusal-leaves-lists : (r : Refusal) → ListsCall b xs fs (Err r) → (xs.new ≡ xs.old) × (fs.new ≡ fs.old)
  refusal-leaves-lists r c = (c.coords, c.corners)

  module _ (v f : ℕ) (c : ListsCall b xs fs (Ok (record { vertices = v; faces = f }))) where
    u : WasRead (length xs.old) (length fs.old) (read_obj b) v f
    u = was_read (length xs.old) (length fs.old) b v f (sym c.answer)

    pub coords-in-front : take (3 * v) xs.new ≡ coords_of (read_obj b)
    coords-in-front = ap (take (3 * v)) c.coords ∙ part_of (coords_of (read_obj b)) xs.old 0 (3 * v) u.coords-long (omega (arith, u.coords-fit, u.coords-long))

    pub corners-in-front : take (3 * f) fs.new ≡ corners_of (read_obj b)
    corners-in-front = ap (take (3 * f)) c.corners ∙ part_of (corners_of (read_obj b)) fs.old 0 (3 * f) u.corners-long (omega (arith, u.corners-fit, u.corners-long))

    pub lists-rest : (drop (3 * v) xs.new ≡ drop (3 * v) xs.old) × (drop (3 * f) fs.new ≡ drop (3 * f) fs.old)
    lists-rest = (
      ap (drop (3 * v)) c.coords ∙ drop-after (coords_of (read_obj b)) xs.old 0 (3 * v) (omega (arith, u.coords-long)),
      ap (drop (3 * f)) c.corners ∙ drop-after (corners_of (read_obj b)) fs.old 0 (3 * f) (omega (arith, u.corners-long)),
    )

    -- "Read exactly that form back": what was read is written as the same bytes
    pub read-then-write : (ts : Lent (List ℕ)) (n : ℕ) → TextCall (take (3 * v) xs.new) (take (3 * f) fs.new) ts (Ok n) → take n ts.new ≡ b
    read-then-write ts n d =
        text_in-front (take (3 * v) xs.new) (take (3 * f) fs.new) ts n d
        ∙ ap (λ (l : List ℤ). obj_text l (take (3 * f) fs.new)) coords-in-front
        ∙ ap (λ (l : List ℕ). obj_text (coords_of (read_obj b)) l) corners-in-front
        ∙ (write-back b (coords_of (read_obj b)) (corners_of (read_obj b)) u.is).1
