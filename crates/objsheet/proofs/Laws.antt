-- What decides what `objsheet` makes: 16, the reader, the writer. 24 is never answered.
use Prim.Native.Nat.{ℕ, ◌-◌, ◌*◌, ◌≤◌, ◌<◌}
use mathlib.Core.Path.{◌≡◌, refl, sym, ap, ◌∙◌, subst}
use mathlib.Core.Bool.{Bool, true, false}
use mathlib.Core.List.{List, [], ◌∷◌}
use native.Mathlib.Omega.{arith}
use lib.Dec.{ltb}
use lib.IntN.{ℤ}
use lib.ListN.{length, get_or, take, replicate, length-replicate}
use borrow.Author.Tests.{lt-ltb, le-ltb, le-leb, lt-leb}
use Rattle.lists.specs.Lists.{pick}
use Rattle.rules.specs.Calls.{Lent}
use Rattle.rules.specs.declared.Refusal.{Refusal}
use Rattle.writer.specs.Writing.{written_of}
use Rattle.std.specs.Prelude.{Result, Ok, Err, Some, None}
use Rattle.writer.proofs.Promise.{wrote, unlike}
use Rattle.obj.specs.Reading.{Reading, lists, wrong, read_obj}
use Rattle.obj.specs.Calls.{coords_of, corners_of, lists_by, lists_of, ListsCall}
use Rattle.obj.specs.declared.Lists.{Lists}
use Rattle.obj.proofs.Promise.{was_read, always-room, coords-in-front, corners-in-front}
use Rattle.objsheet.specs.Making.{levels_of, most_text, refused_by, made_of, made}

-- how long a lent room is: said of any number, so that nothing is counted
pub so-long : {A : Type 0} (n : ℕ) (a : A) → n ≡ length (replicate n a)
so-long n a = sym (length-replicate n a)

-- ---- the word

pub no_word : (w : List ℕ) → (length w ≡ 1 → ⊥) → None ≡ levels_of w
no_word [] h = refl
no_word (c ∷ []) h = absurd (h refl)
no_word (c ∷ d ∷ w) h = refl

module _ (c : ℕ) where
  too-low : c < 48 → None ≡ levels_of (c ∷ [])
  too-low h = simp (lt-leb 48 c h)

  too-high : 48 ≤ c → 57 < c → None ≡ levels_of (c ∷ [])
  too-high l h = simp (le-leb 48 c l, lt-leb c 57 h)

  a-digit : 48 ≤ c → c ≤ 57 → Some (c - 48) ≡ levels_of (c ∷ [])
  a-digit l h = simp (le-leb 48 c l, le-leb c 57 h)

one_byte : (w : List ℕ) → length w ≡ 1 → w ≡ get_or w 0 0 ∷ []
one_byte [] e = absurd (omega arith)
one_byte (c ∷ []) e = refl
one_byte (c ∷ d ∷ w) e = absurd (omega arith)

module _ (w : List ℕ) (c : ℕ) (l : length w ≡ 1) (at : c ≡ get_or w 0 0) where
  is : w ≡ c ∷ []
  is = one_byte w l ∙ ap (λ (x : ℕ). x ∷ []) (sym at)

  pub word_low : c < 48 → None ≡ levels_of w
  word_low h = too-low c h ∙ ap levels_of (sym is)

  pub word-high : 48 ≤ c → 57 < c → None ≡ levels_of w
  word-high k h = too-high c k h ∙ ap levels_of (sym is)

  pub word-digit : 48 ≤ c → c ≤ 57 → Some (c - 48) ≡ levels_of w
  word-digit k h = a-digit c k h ∙ ap levels_of (sym is)

-- ---- what the reader left

pub lists-are : (xs : List ℤ) (fs b : List ℕ) (r : Result Lists Refusal) → 98304 ≡ length xs → 98304 ≡ length fs → r ≡ lists_of (length xs) (length fs) b → r ≡ lists_of 98304 98304 b
lists-are xs fs b r x f e = e ∙ ap (λ (n : ℕ). lists_of n (length fs) b) (sym x) ∙ ap (λ (n : ℕ). lists_of 98304 n b) (sym f)

pub record Front (b : List ℕ) (xs : Lent (List ℤ)) (fs : Lent (List ℕ)) (v f : ℕ) : Type 0 where
  pub coords : take (3 * v) xs.new ≡ coords_of (read_obj b)
  pub corners : take (3 * f) fs.new ≡ corners_of (read_obj b)
  pub coords-long : length (coords_of (read_obj b)) ≡ 3 * v
  pub corners-long : length (corners_of (read_obj b)) ≡ 3 * f
  pub coords-fit : 3 * v ≤ length xs.old
  pub corners-fit : 3 * f ≤ length fs.old

pub front : (b : List ℕ) (xs : Lent (List ℤ)) (fs : Lent (List ℕ)) (r : Result Lists Refusal) (v f : ℕ) → ListsCall b xs fs r → r ≡ Ok (record { vertices = v; faces = f }) → Front b xs fs v f
front b xs fs r v f c e =
    let d = subst (λ (q : Result Lists Refusal). ListsCall b xs fs q) e c in
    let u = was_read (length xs.old) (length fs.old) b v f (sym d.answer) in
    record {
      coords = coords-in-front b xs fs v f d;
      corners = corners-in-front b xs fs v f d;
      coords-long = u.coords-long;
      corners-long = u.corners-long;
      coords-fit = omega (arith, u.coords-long, u.coords-fit);
      corners-fit = omega (arith, u.corners-long, u.corners-fit);
    }

-- ---- the text

unlike-lists : {l : Lists} {q : Refusal} → Ok l ≡ Err q → ⊥
unlike-lists e = cc

-- the same refusal of a reading and of a sheet
refused-as : (n : ℕ) (q : Refusal) → ◌≡◌ {A = Result Lists Refusal} (Err (record { number = 23; place = n })) (Err q) → ◌≡◌ {A = Result ℕ Refusal} (Err (record { number = 23; place = n })) (Err q)
refused-as n q e = cc

module _ (room l : ℕ) (b : List ℕ) where
  pub over : most_text < length b → refused_by 16 0 ≡ made room l b
  unfolding made
  over h = rw (lt-ltb most_text (length b) h)

  not-over : length b ≤ most_text → made_of room l (read_obj b) ≡ made room l b
  unfolding made
  not-over h = rw (le-ltb most_text (length b) h)

  by_place : (r : Reading) (q : Refusal) → ((xs : List ℤ) (fs : List ℕ) → r ≡ lists xs fs → (length xs ≤ 98304) × (length fs ≤ 98304)) → lists_by 98304 98304 r ≡ Err q
      → Err q ≡ made_of room l r
  by_place (wrong n) q f e = sym (refused-as n q e)
  by_place (lists xs fs) q f e = let k = f xs fs refl in absurd (unlike-lists (rw (le-ltb 98304 (length xs) k.0, le-ltb 98304 (length fs) k.1) at e))

  pub not-read : length b ≤ most_text → (q : Refusal) → lists_of 98304 98304 b ≡ Err q → Err q ≡ made room l b
  unfolding lists_of
  not-read h q e = by_place (read_obj b) q (always-room b) e ∙ not-over h

  pub by-writer : length b ≤ most_text → (r : Result ℕ Refusal) (v f : ℕ) → lists_of 98304 98304 b ≡ Ok (record { vertices = v; faces = f }) → r ≡ written_of room l (corners_of (read_obj b)) (coords_of (read_obj b)) → r ≡ made room l b
  by-writer h r v f e k = k ∙ sym (ap (made_of room l) (was_read 98304 98304 b v f e).is) ∙ not-over h

  made_by : (r : Reading) (n : ℕ) → made_of room l r ≡ Ok n → n ≤ room
  made_by (wrong p) n e = absurd (unlike e)
  made_by (lists xs fs) n e = (wrote room l fs xs n e).fits

  -- a sheet fits the room that is lent for it
  pub fits : (n : ℕ) → made room l b ≡ Ok n → n ≤ room
  unfolding made
  fits n e = go (ltb most_text (length b)) e
    where
      go : (t : Bool) → pick t (refused_by 16 0) (made_of room l (read_obj b)) ≡ Ok n → n ≤ room
      go true e = absurd (unlike e)
      go false e = made_by (read_obj b) n e
