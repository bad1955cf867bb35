-- What the P cases do not show, since they are symmetric sums: which way a ring turns and where it starts, and the order of rounded operations. Rings and
-- start faces vertex by vertex, and the bits of f32 normals and positions, as the mended Rust gives them with the table's sines: what
-- that table is made of. The table, and the one statement, are proofs/Orders.antt.
use Rattle.std.specs.Prelude.{◌≡◌, ℕ, ◌/◌, List, [], ◌∷◌, ◌++◌, map, length, ℤ, pos, negsuc, Float}
use Rattle.std.specs.Float.{binary32}
use Rattle.std.specs.Float.Ieee.{of_int, of_bits, to_bits}
use Rattle.lists.specs.Lists.{count}
use Rattle.vectors.specs.declared.Vec3.{Vec3}
use Rattle.rules.specs.Mesh.{links, fan, valence, ring, Mesh, cage, refined}
use Rattle.rules.specs.Position.{single}
use Rattle.rules.specs.Levels.{coord, last, positions}
use Rattle.rules.specs.Tangents.{Pair, three_of, normals}

-- ---- beside T and H: two faces; an open plate with rim valences from 2 to 5; and a closed fan of three on which every order of additions shows

abbrev pub plate-faces : List ℕ
plate-faces = 0 ∷ 1 ∷ 2 ∷ 0 ∷ 2 ∷ 3 ∷ []

abbrev pub fringe-faces : List ℕ
fringe-faces = 0 ∷ 1 ∷ 2 ∷ 0 ∷ 2 ∷ 3 ∷ 0 ∷ 3 ∷ 4 ∷ 0 ∷ 4 ∷ 5 ∷ 2 ∷ 1 ∷ 6 ∷ []

abbrev pub fringe-points : List ℤ
fringe-points = pos 0 ∷ pos 0 ∷ pos 0 ∷ pos 8 ∷ pos 0 ∷ pos 1 ∷ pos 6 ∷ pos 6 ∷ pos 0 ∷ pos 0 ∷ pos 8 ∷ pos 2 ∷ negsuc 6 ∷ pos 5 ∷ pos 1 ∷ negsuc 7 ∷ pos 0 ∷ pos 3 ∷ pos 11 ∷ pos 7 ∷ negsuc 0 ∷ []

abbrev pub cap-faces : List ℕ
cap-faces = 0 ∷ 1 ∷ 2 ∷ 0 ∷ 2 ∷ 3 ∷ 0 ∷ 3 ∷ 1 ∷ []

abbrev pub cap-points : List ℤ
cap-points = negsuc 8390079 ∷ negsuc 5 ∷ negsuc 12 ∷ pos 6 ∷ pos 8234390 ∷ negsuc 16769072 ∷ negsuc 14 ∷ pos 523254 ∷ pos 13 ∷ pos 642971 ∷ pos 511095 ∷ pos 2500 ∷ []

-- ---- a row for each vertex: its start face, its valence and its ring; or three words

abbrev pub around : Mesh → List (List ℕ)
around m = let ls = links m.faces in map (λ s. let f = fan ls s in s / 3 ∷ valence f ∷ ring m.faces f) m.starts

abbrev pub one_level : ℕ → List ℕ → Mesh
one_level v fs = refined (cage v fs) (links fs)

abbrev pub words : List Float → List (List ℕ)
words xs = map (λ v. map (λ c. to_bits binary32 (coord single xs c v)) (count 0 3)) (count 0 (length xs / 3))

abbrev pub normal_bits : ℕ → List ℕ → List ℤ → List (List ℕ)
normal_bits l fs xs = words (normals (last single l fs (map (of_int binary32) xs)))

abbrev pub position_bits : ℕ → List ℕ → List ℤ → List (List ℕ)
position_bits l fs xs = words (positions single (last single l fs (map (of_int binary32) xs)))

abbrev pub whole3 : ℤ → ℤ → ℤ → Vec3
whole3 x y z = record { x = of_int binary32 x; y = of_int binary32 y; z = of_int binary32 z }

abbrev pub tangent_bits : Pair → List (List ℕ)
tangent_bits p = words (three_of p.s) ++ words (three_of p.t)

-- a ring of four whose terms in S are all -0 in y, and in T in x
abbrev pub signed-ring : List Vec3
signed-ring =
    record { x = of_int binary32 (negsuc 0); y = of_bits binary32 0x80000000; z = of_int binary32 (pos 1) }
    ∷ record { x = of_bits binary32 0x80000000; y = of_int binary32 (negsuc 0); z = of_int binary32 (pos 2) }
    ∷ whole3 (negsuc 0) (pos 0) (pos 3)
    ∷ whole3 (pos 0) (negsuc 2) (pos 5)
    ∷ []

-- a rim ring of five with full significands
abbrev pub full-ring : List Vec3
full-ring =
    whole3 (negsuc 7609194) (negsuc 1132313) (pos 15663787)
    ∷ whole3 (negsuc 3625890) (pos 12468736) (negsuc 15378737)
    ∷ whole3 (pos 11666953) (pos 4778808) (pos 2018285)
    ∷ whole3 (negsuc 1822370) (negsuc 13447985) (negsuc 14925808)
    ∷ whole3 (pos 8994416) (pos 4918147) (pos 4483230)
    ∷ []

pub record Case : Type 0 where
  pub got : List (List ℕ)
  pub wanted : List (List ℕ)

abbrev pub case : List (List ℕ) → List (List ℕ) → Case
case g w = record { got = g; wanted = w }

-- the table as the statement itself: as a definition of its own it is computed much more slowly
abbrev pub Hold : List Case → Type 0
Hold t = map (λ c. c.got) t ≡ map (λ c. c.wanted) t
