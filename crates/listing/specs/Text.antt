-- docs/RULES.md, Answers: the text of a plate, "vertices, faces, rim sides; then x y z; then corners"; and "refused 9 at 3". Bytes of ASCII, each line ending in a
-- line feed.
use Rattle.std.specs.Prelude.{ℕ, zero, suc, ◌+◌, ◌-◌, ◌*◌, ◌/◌, ◌%◌, ◌≡◌, List, [], ◌∷◌, ◌++◌, ltb, ℤ, pos, negsuc, length, get_or, Err, Ok}
use Rattle.std.proofs.lemmas.List.Edits.{sets}
use Rattle.lists.specs.Lists.{pick, rows}
use Rattle.rules.specs.declared.Counts.{Counts}
use Rattle.rules.specs.declared.Refusal.{Refusal}
use Rattle.rules.specs.Outcome.{Outcome}

-- the last digit
abbrev pub digit : ℕ → List ℕ
digit n = (48 + n % 10) ∷ []

-- decimal without leading zeros, at most one digit more than the turns
unfoldable pub decimal : ℕ → ℕ → List ℕ
decimal zero n = digit n
decimal (suc turns) n = let more = decimal turns (n / 10) in pick (ltb n 10) (digit n) (more ++ digit n)

-- a number of 64 bits has at most 20
unfoldable pub numeral : ℕ → List ℕ
numeral n = decimal 19 n

unfoldable pub signed_numeral : ℤ → List ℕ
signed_numeral (pos n) = numeral n
signed_numeral (negsuc n) = 45 ∷ numeral (suc n)

-- a word, three numbers with a space before each, a line feed
abbrev pub spaced : List ℕ → List ℕ
spaced t = 32 ∷ t

abbrev pub three : List ℕ → List ℕ → List ℕ → List ℕ
three x y z = spaced x ++ (spaced y ++ (spaced z ++ (10 ∷ [])))

abbrev pub line : List ℕ → List ℕ → List ℕ → List ℕ → List ℕ
line w x y z = w ++ three x y z

-- "mesh"
unfoldable pub mesh_line : Counts → List ℕ
mesh_line c = line (109 ∷ 101 ∷ 115 ∷ 104 ∷ []) (numeral c.vertices) (numeral c.faces) (numeral c.rims)

-- "v"
unfoldable pub vertex_line : List ℤ → ℕ → List ℕ
vertex_line ps v =
    line (118 ∷ []) (signed_numeral (get_or ps (3 * v) (pos 0))) (signed_numeral (get_or ps (3 * v + 1) (pos 0))) (signed_numeral (get_or ps (3 * v + 2) (pos 0)))

-- "f"
unfoldable pub face_line : List ℕ → ℕ → List ℕ
face_line fs f = line (102 ∷ []) (numeral (get_or fs (3 * f) 0)) (numeral (get_or fs (3 * f + 1) 0)) (numeral (get_or fs (3 * f + 2) 0))

unfoldable pub mesh_text : Counts → List ℤ → List ℕ → List ℕ
mesh_text c ps fs = mesh_line c ++ (rows (vertex_line ps) c.vertices ++ rows (face_line fs) c.faces)

-- "refused", " at"
unfoldable pub refused_text : Refusal → List ℕ
refused_text r =
    (114 ∷ 101 ∷ 102 ∷ 117 ∷ 115 ∷ 101 ∷ 100 ∷ []) ++ (spaced (numeral r.number) ++ ((32 ∷ 97 ∷ 116 ∷ []) ++ (spaced (numeral r.place) ++ (10 ∷ []))))

-- of an input as a whole: place 0
abbrev pub refused_by : ℕ → List ℕ
refused_by n = refused_text (record { number = n; place = 0 })

abbrev pub text_of : Outcome → List ℤ → List ℕ → List ℕ
text_of (Ok c) ps fs = mesh_text c ps fs
text_of (Err r) ps fs = refused_text r

-- moved up by 2^31, so that a sign is told by comparing
abbrev pub bias : ℤ → ℕ
bias (pos n) = n + 2147483648
bias (negsuc n) = 2147483648 - suc n

-- ---- a piece of text put at a place of a lent buffer, and the place after it

pub record Put (before : List ℕ) (at : ℕ) (piece after : List ℕ) (next : ℕ) : Type 0 where
  pub text : after ≡ sets before at piece
  pub next-is : next ≡ at + length piece
