-- Request [13], the calls: what each answers, and what it leaves.
use Rattle.std.specs.Prelude.{ℕ, ◌/◌, ◌≡◌, ◌||◌, List, [], ◌∷◌, ltb, ℤ, length, Result, Ok, Err}
use Rattle.std.proofs.lemmas.List.Edits.{sets}
use Rattle.lists.specs.Lists.{pick}
use Rattle.rules.specs.Calls.{Lent}
use Rattle.rules.specs.declared.Refusal.{Refusal}
use Rattle.obj.specs.Form.{obj_text, has_text}
use Rattle.obj.specs.Reading.{Reading, lists, wrong, read_obj}
use Rattle.obj.specs.declared.Lists.{Lists}

-- ---- writing: 25, then 22

unfoldable pub text_of : ℕ → List ℤ → List ℕ → Result ℕ Refusal
text_of room xs fs =
    let n = length (obj_text xs fs) in
    let written = pick (ltb room n) (Err (record { number = 22; place = 0 })) (Ok n) in
    pick (has_text xs fs) written (Err (record { number = 25; place = 0 }))

-- "None writes anything"
abbrev pub text_left : Result ℕ Refusal → List ℕ → List ℕ → List ℕ
text_left (Ok n) new old = sets old 0 new
text_left (Err r) new old = old

-- `write_obj`: coordinates, corners, the lent text, the answer
pub record TextCall (xs : List ℤ) (fs : List ℕ) (ts : Lent (List ℕ)) (r : Result ℕ Refusal) : Type 0 where
  pub answer : r ≡ text_of (length ts.old) xs fs
  pub text : ts.new ≡ text_left r (obj_text xs fs) ts.old

-- for C, the answer in three numbers: refusal number or 0, place, length
abbrev pub text_answer : Result ℕ Refusal → List ℕ
text_answer (Ok n) = 0 ∷ 0 ∷ n ∷ []
text_answer (Err r) = r.number ∷ r.place ∷ 0 ∷ []

pub record TextTold (xs : List ℤ) (fs : List ℕ) (ts : Lent (List ℕ)) (told : List ℕ) : Type 0 where
  pub answer : Result ℕ Refusal
  pub kept : TextCall xs fs ts answer
  pub three : told ≡ text_answer answer

-- ---- reading: 23, then 24

abbrev pub coords_of : Reading → List ℤ
coords_of (lists xs fs) = xs
coords_of (wrong n) = []

abbrev pub corners_of : Reading → List ℕ
corners_of (lists xs fs) = fs
corners_of (wrong n) = []

abbrev pub lists_by : ℕ → ℕ → Reading → Result Lists Refusal
lists_by room_x room_f (wrong n) = Err (record { number = 23; place = n })
lists_by room_x room_f (lists xs fs) =
    pick (ltb room_x (length xs) || ltb room_f (length fs)) (Err (record { number = 24; place = 0 })) (Ok (record { vertices = length xs / 3; faces = length fs / 3 }))

unfoldable pub lists_of : ℕ → ℕ → List ℕ → Result Lists Refusal
lists_of room_x room_f b = lists_by room_x room_f (read_obj b)

abbrev pub lists_left : {A : Type 0} → Result Lists Refusal → List A → List A → List A
lists_left (Ok l) new old = sets old 0 new
lists_left (Err r) new old = old

-- `read_obj`: the text, the lent lists, the answer
pub record ListsCall (b : List ℕ) (xs : Lent (List ℤ)) (fs : Lent (List ℕ)) (r : Result Lists Refusal) : Type 0 where
  pub answer : r ≡ lists_of (length xs.old) (length fs.old) b
  pub coords : xs.new ≡ lists_left r (coords_of (read_obj b)) xs.old
  pub corners : fs.new ≡ lists_left r (corners_of (read_obj b)) fs.old

-- for C, the answer in four numbers: refusal number or 0, place, vertices, faces
abbrev pub lists_answer : Result Lists Refusal → List ℕ
lists_answer (Ok l) = 0 ∷ 0 ∷ l.vertices ∷ l.faces ∷ []
lists_answer (Err r) = r.number ∷ r.place ∷ 0 ∷ 0 ∷ []

pub record ListsTold (b : List ℕ) (xs : Lent (List ℤ)) (fs : Lent (List ℕ)) (told : List ℕ) : Type 0 where
  pub answer : Result Lists Refusal
  pub kept : ListsCall b xs fs answer
  pub four : told ≡ lists_answer answer
