-- Places of 23, texts with their lists, and answers in numbers.
use Rattle.std.specs.Prelude.{◌≡◌, refl, List, [], ◌∷◌, ◌++◌, map, ℕ, ℤ, pos, negsuc}
use Rattle.lists.specs.Lists.{rows}
use Rattle.listing.specs.Text.{decimal, numeral, signed_numeral, vertex_line, face_line}
use Rattle.obj.specs.Form.{obj_text, has_text}
use Rattle.obj.specs.Calls.{text_of, text_answer, lists_of, lists_answer}
use Rattle.spots.specs.Spots.{turn}
use Rattle.obj.specs.Reading.{Reading, lists, wrong, next, read_from, read_obj}

-- "v 0 0 0", a line feed
abbrev one : List ℕ
one = 118 ∷ 32 ∷ 48 ∷ 32 ∷ 48 ∷ 32 ∷ 48 ∷ 10 ∷ []

pub record Case : Type 0 where
  pub text : List ℕ
  pub wanted : Reading

abbrev bad : List ℕ → ℕ → Case
bad t n = record { text = t; wanted = wrong n }

abbrev good : List ℕ → List ℤ → List ℕ → Case
good t xs fs = record { text = t; wanted = lists xs fs }

abbrev pub table : List Case
table =
    good [] [] []
    ∷ good one (pos 0 ∷ pos 0 ∷ pos 0 ∷ []) []
    ∷ good (one ++ (102 ∷ 32 ∷ 49 ∷ 32 ∷ 49 ∷ 32 ∷ 49 ∷ 10 ∷ [])) (pos 0 ∷ pos 0 ∷ pos 0 ∷ []) (0 ∷ 0 ∷ 0 ∷ [])
    ∷ good (118 ∷ 32 ∷ 45 ∷ 49 ∷ 50 ∷ 32 ∷ 48 ∷ 32 ∷ 55 ∷ 10 ∷ []) (negsuc 11 ∷ pos 0 ∷ pos 7 ∷ []) []
    ∷ bad (102 ∷ 32 ∷ 49 ∷ 32 ∷ 49 ∷ 32 ∷ 49 ∷ []) 0  -- f 1 1 1
    ∷ bad (118 ∷ 32 ∷ 48 ∷ 32 ∷ 48 ∷ 32 ∷ 45 ∷ 48 ∷ []) 7  -- v 0 0 -0
    ∷ bad (118 ∷ 32 ∷ 48 ∷ 48 ∷ []) 3  -- v 00
    ∷ bad (118 ∷ 32 ∷ 49 ∷ 48 ∷ 48 ∷ 48 ∷ 48 ∷ 48 ∷ 48 ∷ 48 ∷ 48 ∷ 49 ∷ []) 11  -- v 1000000001
    ∷ bad (118 ∷ 32 ∷ 45 ∷ 49 ∷ 48 ∷ 48 ∷ 48 ∷ 48 ∷ 48 ∷ 48 ∷ 48 ∷ 48 ∷ 49 ∷ []) 12  -- v -1000000001
    ∷ bad (118 ∷ 32 ∷ 45 ∷ []) 3  -- v -
    ∷ bad (118 ∷ 32 ∷ 45 ∷ 45 ∷ 49 ∷ []) 3  -- v --1
    ∷ bad (118 ∷ 32 ∷ 43 ∷ 49 ∷ []) 2  -- v +1
    ∷ bad (118 ∷ 32 ∷ 32 ∷ 48 ∷ []) 2  -- v  0
    ∷ bad (118 ∷ 32 ∷ 48 ∷ 32 ∷ 48 ∷ 10 ∷ []) 5  -- v 0 0⏎
    ∷ bad (118 ∷ 32 ∷ 48 ∷ 32 ∷ 48 ∷ 32 ∷ 48 ∷ []) 7  -- v 0 0 0
    ∷ bad (118 ∷ 32 ∷ 48 ∷ 32 ∷ 48 ∷ 32 ∷ 48 ∷ 32 ∷ 48 ∷ []) 7  -- v 0 0 0 0
    ∷ bad (118 ∷ 32 ∷ 48 ∷ 32 ∷ 48 ∷ 32 ∷ 48 ∷ 32 ∷ 10 ∷ []) 7  -- v 0 0 0 ⏎
    ∷ bad (118 ∷ 32 ∷ 48 ∷ 32 ∷ 48 ∷ 32 ∷ 48 ∷ 13 ∷ 10 ∷ []) 7  -- v 0 0 0␍⏎
    ∷ bad (one ++ (118 ∷ [])) 9  -- v 0 0 0⏎v
    ∷ bad (one ++ (10 ∷ [])) 8  -- v 0 0 0⏎⏎
    ∷ bad (one ++ (102 ∷ 32 ∷ 50 ∷ [])) 10  -- v 0 0 0⏎f 2
    ∷ bad (one ++ (102 ∷ 32 ∷ 48 ∷ [])) 10  -- v 0 0 0⏎f 0
    ∷ bad (one ++ (102 ∷ 32 ∷ 48 ∷ 49 ∷ [])) 10  -- v 0 0 0⏎f 01
    ∷ bad (one ++ (102 ∷ 32 ∷ 45 ∷ 49 ∷ [])) 10  -- v 0 0 0⏎f -1
    ∷ bad (one ++ (102 ∷ 32 ∷ 49 ∷ 47 ∷ 49 ∷ [])) 11  -- v 0 0 0⏎f 1/1
    ∷ bad (one ++ (102 ∷ 32 ∷ 49 ∷ 32 ∷ 49 ∷ [])) 13  -- v 0 0 0⏎f 1 1
    ∷ bad (one ++ (102 ∷ 32 ∷ 49 ∷ 32 ∷ 49 ∷ 32 ∷ 49 ∷ 10 ∷ one)) 16  -- v 0 0 0⏎f 1 1 1⏎v 0 0 0⏎
    ∷ bad (one ++ (102 ∷ 32 ∷ 49 ∷ 32 ∷ 49 ∷ 32 ∷ 49 ∷ 10 ∷ 102 ∷ 32 ∷ 49 ∷ 32 ∷ 49 ∷ 32 ∷ 49 ∷ 49 ∷ [])) 23  -- v 0 0 0⏎f 1 1 1⏎f 1 1 11
    ∷ bad (35 ∷ 32 ∷ 120 ∷ []) 0  -- # x
    ∷ bad (118 ∷ 110 ∷ 32 ∷ 48 ∷ []) 1  -- vn 0
    ∷ bad (86 ∷ []) 0  -- V
    ∷ bad (118 ∷ 32 ∷ 48 ∷ 46 ∷ 53 ∷ []) 3  -- v 0.5
    ∷ []

pub all_hold : map (λ c. read_obj c.text) table ≡ map (λ c. c.wanted) table
unfolding turn next read_from read_obj
all_hold = refl

-- T at level 1: 80 bytes, room for 79 and for 80; and what 25 refuses
abbrev T-coords : List ℤ
T-coords = pos 1 ∷ pos 1 ∷ pos 0 ∷ pos 5 ∷ pos 1 ∷ pos 0 ∷ pos 1 ∷ pos 5 ∷ pos 0 ∷ pos 4 ∷ pos 0 ∷ pos 0 ∷ pos 4 ∷ pos 4 ∷ pos 0 ∷ pos 0 ∷ pos 4 ∷ pos 0 ∷ []

abbrev T-corners : List ℕ
T-corners = 0 ∷ 3 ∷ 5 ∷ 3 ∷ 1 ∷ 4 ∷ 5 ∷ 4 ∷ 2 ∷ 3 ∷ 4 ∷ 5 ∷ []

pub told :
    map text_answer
    (text_of 79 T-coords T-corners ∷ text_of 80 T-coords T-corners ∷ text_of 0 [] []
    ∷ text_of 99 (pos 0 ∷ pos 0 ∷ pos 0 ∷ []) (0 ∷ 0 ∷ 1 ∷ [])
    ∷ text_of 99 (pos 0 ∷ pos 0 ∷ pos 0 ∷ []) (0 ∷ 0 ∷ [])
    ∷ text_of 99 (pos 0 ∷ pos 0 ∷ []) []
    ∷ text_of 99 (pos 0 ∷ pos 0 ∷ pos 1000000001 ∷ []) []
    ∷ text_of 99 (pos 0 ∷ pos 0 ∷ negsuc 1000000000 ∷ []) []
    ∷ text_of 99 [] (0 ∷ 0 ∷ 0 ∷ []) ∷ [])
    ≡ (22 ∷ 0 ∷ 0 ∷ []) ∷ (0 ∷ 0 ∷ 80 ∷ []) ∷ (0 ∷ 0 ∷ 0 ∷ [])
    ∷ (25 ∷ 0 ∷ 0 ∷ []) ∷ (25 ∷ 0 ∷ 0 ∷ []) ∷ (25 ∷ 0 ∷ 0 ∷ []) ∷ (25 ∷ 0 ∷ 0 ∷ []) ∷ (25 ∷ 0 ∷ 0 ∷ []) ∷ (25 ∷ 0 ∷ 0 ∷ []) ∷ []
unfolding rows decimal numeral signed_numeral vertex_line face_line obj_text has_text text_of
told = refl

-- room for the lists: 2 and 3, 3 and 2, 3 and 3
abbrev small : List ℕ
small = one ++ (102 ∷ 32 ∷ 49 ∷ 32 ∷ 49 ∷ 32 ∷ 49 ∷ 10 ∷ [])

pub rooms : map lists_answer (lists_of 2 3 small ∷ lists_of 3 2 small ∷ lists_of 3 3 small ∷ lists_of 0 0 (35 ∷ []) ∷ [])
    ≡ (24 ∷ 0 ∷ 0 ∷ 0 ∷ []) ∷ (24 ∷ 0 ∷ 0 ∷ 0 ∷ []) ∷ (0 ∷ 0 ∷ 1 ∷ 1 ∷ []) ∷ (23 ∷ 0 ∷ 0 ∷ 0 ∷ []) ∷ []
unfolding turn next read_from read_obj lists_of
rooms = refl

pub written : obj_text (negsuc 11 ∷ pos 0 ∷ pos 7 ∷ []) (0 ∷ 0 ∷ 0 ∷ [])
    ≡ 118 ∷ 32 ∷ 45 ∷ 49 ∷ 50 ∷ 32 ∷ 48 ∷ 32 ∷ 55 ∷ 10 ∷ 102 ∷ 32 ∷ 49 ∷ 32 ∷ 49 ∷ 32 ∷ 49 ∷ 10 ∷ []
unfolding rows decimal numeral signed_numeral vertex_line face_line obj_text
written = refl
