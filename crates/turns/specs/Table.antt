-- The table of sine and cosine: a row for each m from 3 to the largest valence, and in it k / m of a half turn for k from 0 to m. Each number is the
-- whole number nearest to 2 ^ 24 times the value; `proofs/Rule.antt` proves that of all of them.
use Rattle.std.specs.Prelude.{◌≡◌, List, [], ◌∷◌, ℕ, ◌+◌, ◌-◌, ◌*◌, ◌/◌, ◌<◌, ℤ, pos, neg_ℤ, T, length, get_or}
use Rattle.std.specs.Float.{binary32}
use Rattle.std.specs.Float.Ieee.{in_float}

-- where k / m stands
abbrev pub place : ℕ → ℕ → ℕ
place k m = m * (m + 1) / 2 - 6 + k

abbrev neg : ℕ → ℤ
neg n = neg_ℤ (pos n)

unfoldable pub cos_table : List ℤ
cos_table =
    pos 16777216 ∷ pos 8388608 ∷ neg 8388608 ∷ neg 16777216 ∷
    pos 16777216 ∷ pos 11863283 ∷ pos 0 ∷ neg 11863283 ∷ neg 16777216 ∷
    pos 16777216 ∷ pos 13573053 ∷ pos 5184445 ∷ neg 5184445 ∷ neg 13573053 ∷ neg 16777216 ∷
    pos 16777216 ∷ pos 14529495 ∷ pos 8388608 ∷ pos 0 ∷ neg 8388608 ∷ neg 14529495 ∷ neg 16777216 ∷
    pos 16777216 ∷ pos 15115749 ∷ pos 10460423 ∷ pos 3733282 ∷ neg 3733282 ∷ neg 10460423 ∷ neg 15115749 ∷ neg 16777216 ∷
    pos 16777216 ∷ pos 15500126 ∷ pos 11863283 ∷ pos 6420363 ∷ pos 0 ∷ neg 6420363 ∷ neg 11863283 ∷ neg 15500126 ∷ neg 16777216 ∷
    pos 16777216 ∷ pos 15765426 ∷ pos 12852093 ∷ pos 8388608 ∷ pos 2913333 ∷ neg 2913333 ∷ neg 8388608 ∷ neg 12852093 ∷ neg 15765426 ∷ neg 16777216 ∷
    pos 16777216 ∷ pos 15956081 ∷ pos 13573053 ∷ pos 9861400 ∷ pos 5184445 ∷ pos 0 ∷ neg 5184445 ∷ neg 9861400 ∷ neg 13573053 ∷ neg 15956081 ∷ neg 16777216 ∷
    pos 16777216 ∷ pos 16097621 ∷ pos 14113892 ∷ pos 10986740 ∷ pos 6969507 ∷ pos 2387647 ∷ neg 2387647 ∷ neg 6969507 ∷ neg 10986740 ∷ neg 14113892 ∷ neg 16097621 ∷ neg 16777216 ∷
    pos 16777216 ∷ pos 16205546 ∷ pos 14529495 ∷ pos 11863283 ∷ pos 8388608 ∷ pos 4342263 ∷ pos 0 ∷ neg 4342263 ∷ neg 8388608 ∷ neg 11863283 ∷ neg 14529495 ∷ neg 16205546 ∷ neg 16777216 ∷
    pos 16777216 ∷ pos 16289701 ∷ pos 14855487 ∷ pos 12557927 ∷ pos 9530545 ∷ pos 5949283 ∷ pos 2022270 ∷ neg 2022270 ∷ neg 5949283 ∷ neg 9530545 ∷ neg 12557926 ∷ neg 14855487 ∷ neg 16289701 ∷ neg 16777216 ∷
    pos 16777216 ∷ pos 16356576 ∷ pos 15115749 ∷ pos 13116956 ∷ pos 10460423 ∷ pos 7279361 ∷ pos 3733282 ∷ pos 0 ∷ neg 3733282 ∷ neg 7279361 ∷ neg 10460423 ∷ neg 13116956 ∷ neg 15115749 ∷ neg 16356576 ∷ neg 16777216 ∷
    pos 16777216 ∷ pos 16410594 ∷ pos 15326749 ∷ pos 13573053 ∷ pos 11226149 ∷ pos 8388608 ∷ pos 5184445 ∷ pos 1753697 ∷ neg 1753697 ∷ neg 5184445 ∷ neg 8388608 ∷ neg 11226149 ∷ neg 13573053 ∷ neg 15326749 ∷ neg 16410594 ∷ neg 16777216 ∷
    pos 16777216 ∷ pos 16454846 ∷ pos 15500126 ∷ pos 13949745 ∷ pos 11863283 ∷ pos 9320922 ∷ pos 6420363 ∷ pos 3273072 ∷ pos 0 ∷ neg 3273072 ∷ neg 6420363 ∷ neg 9320922 ∷ neg 11863283 ∷ neg 13949745 ∷ neg 15500126 ∷ neg 16454846 ∷ neg 16777216 ∷
    pos 16777216 ∷ pos 16491552 ∷ pos 15644288 ∷ pos 14264277 ∷ pos 12398512 ∷ pos 10110531 ∷ pos 7478249 ∷ pos 4591303 ∷ pos 1548006 ∷ neg 1548006 ∷ neg 4591303 ∷ neg 7478249 ∷ neg 10110531 ∷ neg 12398512 ∷ neg 14264277 ∷ neg 15644288 ∷ neg 16491552 ∷ neg 16777216 ∷
    pos 16777216 ∷ pos 16522332 ∷ pos 15765426 ∷ pos 14529495 ∷ pos 12852093 ∷ pos 10784187 ∷ pos 8388608 ∷ pos 5738146 ∷ pos 2913333 ∷ pos 0 ∷ neg 2913333 ∷ neg 5738146 ∷ neg 8388608 ∷ neg 10784187 ∷ neg 12852093 ∷ neg 14529495 ∷ neg 15765426 ∷ neg 16522332 ∷ neg 16777216 ∷
    pos 16777216 ∷ pos 16548397 ∷ pos 15868180 ∷ pos 14755121 ∷ pos 13239581 ∷ pos 11362899 ∷ pos 9176267 ∷ pos 6739331 ∷ pos 4118563 ∷ pos 1385452 ∷ neg 1385452 ∷ neg 4118563 ∷ neg 6739331 ∷ neg 9176267 ∷ neg 11362899 ∷ neg 13239581 ∷ neg 14755121 ∷ neg 15868180 ∷ neg 16548397 ∷ neg 16777216 ∷
    pos 16777216 ∷ pos 16570661 ∷ pos 15956081 ∷ pos 14948609 ∷ pos 13573053 ∷ pos 11863283 ∷ pos 9861400 ∷ pos 7616697 ∷ pos 5184445 ∷ pos 2624535 ∷ pos 0 ∷ neg 2624535 ∷ neg 5184445 ∷ neg 7616697 ∷ neg 9861400 ∷ neg 11863283 ∷ neg 13573053 ∷ neg 14948609 ∷ neg 15956081 ∷ neg 16570661 ∷ neg 16777216 ∷
    pos 16777216 ∷ pos 16589828 ∷ pos 16031851 ∷ pos 15115749 ∷ pos 13861986 ∷ pos 12298570 ∷ pos 10460423 ∷ pos 8388608 ∷ pos 6129405 ∷ pos 3733282 ∷ pos 1253763 ∷ neg 1253763 ∷ neg 3733282 ∷ neg 6129405 ∷ neg 8388608 ∷ neg 10460423 ∷ neg 12298570 ∷ neg 13861986 ∷ neg 15115749 ∷ neg 16031851 ∷ neg 16589828 ∷ neg 16777216 ∷
    pos 16777216 ∷ pos 16606448 ∷ pos 16097621 ∷ pos 15261092 ∷ pos 14113892 ∷ pos 12679374 ∷ pos 10986740 ∷ pos 9070448 ∷ pos 6969507 ∷ pos 4726688 ∷ pos 2387647 ∷ pos 0 ∷ neg 2387647 ∷ neg 4726688 ∷ neg 6969507 ∷ neg 9070448 ∷ neg 10986740 ∷ neg 12679374 ∷ neg 14113892 ∷ neg 15261092 ∷ neg 16097621 ∷ neg 16606448 ∷ neg 16777216 ∷
    pos 16777216 ∷ pos 16620952 ∷ pos 16155071 ∷ pos 15388252 ∷ pos 14334779 ∷ pos 13014276 ∷ pos 11451342 ∷ pos 9675090 ∷ pos 7718611 ∷ pos 5618348 ∷ pos 3413425 ∷ pos 1144918 ∷ neg 1144918 ∷ neg 3413425 ∷ neg 5618348 ∷ neg 7718611 ∷ neg 9675090 ∷ neg 11451342 ∷ neg 13014276 ∷ neg 14334779 ∷ neg 15388252 ∷ neg 16155071 ∷ neg 16620952 ∷ neg 16777216 ∷
    pos 16777216 ∷ pos 16633685 ∷ pos 16205546 ∷ pos 15500126 ∷ pos 14529495 ∷ pos 13310260 ∷ pos 11863283 ∷ pos 10213322 ∷ pos 8388608 ∷ pos 6420363 ∷ pos 4342263 ∷ pos 2189866 ∷ pos 0 ∷ neg 2189866 ∷ neg 4342263 ∷ neg 6420363 ∷ neg 8388608 ∷ neg 10213322 ∷ neg 11863283 ∷ neg 13310260 ∷ neg 14529495 ∷ neg 15500126 ∷ neg 16205546 ∷ neg 16633685 ∷ neg 16777216 ∷ []

unfoldable pub sin_table : List ℤ
sin_table =
    pos 0 ∷ pos 14529495 ∷ pos 14529495 ∷ pos 0 ∷
    pos 0 ∷ pos 11863283 ∷ pos 16777216 ∷ pos 11863283 ∷ pos 0 ∷
    pos 0 ∷ pos 9861400 ∷ pos 15956081 ∷ pos 15956081 ∷ pos 9861400 ∷ pos 0 ∷
    pos 0 ∷ pos 8388608 ∷ pos 14529495 ∷ pos 16777216 ∷ pos 14529495 ∷ pos 8388608 ∷ pos 0 ∷
    pos 0 ∷ pos 7279361 ∷ pos 13116956 ∷ pos 16356576 ∷ pos 16356576 ∷ pos 13116956 ∷ pos 7279361 ∷ pos 0 ∷
    pos 0 ∷ pos 6420363 ∷ pos 11863283 ∷ pos 15500126 ∷ pos 16777216 ∷ pos 15500126 ∷ pos 11863283 ∷ pos 6420363 ∷ pos 0 ∷
    pos 0 ∷ pos 5738146 ∷ pos 10784187 ∷ pos 14529495 ∷ pos 16522332 ∷ pos 16522332 ∷ pos 14529495 ∷ pos 10784187 ∷ pos 5738146 ∷ pos 0 ∷
    pos 0 ∷ pos 5184445 ∷ pos 9861400 ∷ pos 13573053 ∷ pos 15956081 ∷ pos 16777216 ∷ pos 15956081 ∷ pos 13573053 ∷ pos 9861400 ∷ pos 5184445 ∷ pos 0 ∷
    pos 0 ∷ pos 4726688 ∷ pos 9070448 ∷ pos 12679374 ∷ pos 15261092 ∷ pos 16606448 ∷ pos 16606448 ∷ pos 15261092 ∷ pos 12679374 ∷ pos 9070448 ∷ pos 4726688 ∷ pos 0 ∷
    pos 0 ∷ pos 4342263 ∷ pos 8388608 ∷ pos 11863283 ∷ pos 14529495 ∷ pos 16205546 ∷ pos 16777216 ∷ pos 16205546 ∷ pos 14529495 ∷ pos 11863283 ∷ pos 8388608 ∷ pos 4342263 ∷ pos 0 ∷
    pos 0 ∷ pos 4015051 ∷ pos 7796761 ∷ pos 11125352 ∷ pos 13807378 ∷ pos 15686969 ∷ pos 16654891 ∷ pos 16654891 ∷ pos 15686969 ∷ pos 13807378 ∷ pos 11125352 ∷ pos 7796761 ∷ pos 4015051 ∷ pos 0 ∷
    pos 0 ∷ pos 3733282 ∷ pos 7279361 ∷ pos 10460423 ∷ pos 13116956 ∷ pos 15115749 ∷ pos 16356576 ∷ pos 16777216 ∷ pos 16356576 ∷ pos 15115749 ∷ pos 13116956 ∷ pos 10460423 ∷ pos 7279361 ∷ pos 3733282 ∷ pos 0 ∷
    pos 0 ∷ pos 3488179 ∷ pos 6823909 ∷ pos 9861400 ∷ pos 12467901 ∷ pos 14529495 ∷ pos 15956081 ∷ pos 16685309 ∷ pos 16685309 ∷ pos 15956081 ∷ pos 14529495 ∷ pos 12467901 ∷ pos 9861400 ∷ pos 6823909 ∷ pos 3488179 ∷ pos 0 ∷
    pos 0 ∷ pos 3273072 ∷ pos 6420363 ∷ pos 9320922 ∷ pos 11863283 ∷ pos 13949745 ∷ pos 15500126 ∷ pos 16454846 ∷ pos 16777216 ∷ pos 16454846 ∷ pos 15500126 ∷ pos 13949745 ∷ pos 11863283 ∷ pos 9320922 ∷ pos 6420363 ∷ pos 3273072 ∷ pos 0 ∷
    pos 0 ∷ pos 3082805 ∷ pos 6060629 ∷ pos 8832066 ∷ pos 11302737 ∷ pos 13388507 ∷ pos 15018348 ∷ pos 16136757 ∷ pos 16705647 ∷ pos 16705647 ∷ pos 16136757 ∷ pos 15018348 ∷ pos 13388507 ∷ pos 11302737 ∷ pos 8832066 ∷ pos 6060629 ∷ pos 3082805 ∷ pos 0 ∷
    pos 0 ∷ pos 2913333 ∷ pos 5738146 ∷ pos 8388608 ∷ pos 10784187 ∷ pos 12852093 ∷ pos 14529495 ∷ pos 15765426 ∷ pos 16522332 ∷ pos 16777216 ∷ pos 16522332 ∷ pos 15765426 ∷ pos 14529495 ∷ pos 12852093 ∷ pos 10784187 ∷ pos 8388608 ∷ pos 5738146 ∷ pos 2913333 ∷ pos 0 ∷
    pos 0 ∷ pos 2761439 ∷ pos 5447553 ∷ pos 7985072 ∷ pos 10304779 ∷ pos 12343399 ∷ pos 14045323 ∷ pos 15364127 ∷ pos 16263838 ∷ pos 16719913 ∷ pos 16719913 ∷ pos 16263838 ∷ pos 15364127 ∷ pos 14045323 ∷ pos 12343399 ∷ pos 10304779 ∷ pos 7985072 ∷ pos 5447553 ∷ pos 2761439 ∷ pos 0 ∷
    pos 0 ∷ pos 2624535 ∷ pos 5184445 ∷ pos 7616697 ∷ pos 9861400 ∷ pos 11863283 ∷ pos 13573053 ∷ pos 14948609 ∷ pos 15956081 ∷ pos 16570661 ∷ pos 16777216 ∷ pos 16570661 ∷ pos 15956081 ∷ pos 14948609 ∷ pos 13573053 ∷ pos 11863283 ∷ pos 9861400 ∷ pos 7616697 ∷ pos 5184445 ∷ pos 2624535 ∷ pos 0 ∷
    pos 0 ∷ pos 2500514 ∷ pos 4945171 ∷ pos 7279361 ∷ pos 9450942 ∷ pos 11411405 ∷ pos 13116956 ∷ pos 14529495 ∷ pos 15617470 ∷ pos 16356576 ∷ pos 16730304 ∷ pos 16730304 ∷ pos 16356576 ∷ pos 15617470 ∷ pos 14529495 ∷ pos 13116956 ∷ pos 11411405 ∷ pos 9450942 ∷ pos 7279361 ∷ pos 4945171 ∷ pos 2500514 ∷ pos 0 ∷
    pos 0 ∷ pos 2387647 ∷ pos 4726688 ∷ pos 6969507 ∷ pos 9070448 ∷ pos 10986740 ∷ pos 12679374 ∷ pos 14113892 ∷ pos 15261092 ∷ pos 16097621 ∷ pos 16606448 ∷ pos 16777216 ∷ pos 16606448 ∷ pos 16097621 ∷ pos 15261092 ∷ pos 14113892 ∷ pos 12679374 ∷ pos 10986740 ∷ pos 9070448 ∷ pos 6969507 ∷ pos 4726688 ∷ pos 2387647 ∷ pos 0 ∷
    pos 0 ∷ pos 2284497 ∷ pos 4526439 ∷ pos 6684061 ∷ pos 8717172 ∷ pos 10587899 ∷ pos 12261393 ∷ pos 13706480 ∷ pos 14896242 ∷ pos 15808515 ∷ pos 16426305 ∷ pos 16738104 ∷ pos 16738104 ∷ pos 16426305 ∷ pos 15808515 ∷ pos 14896242 ∷ pos 13706480 ∷ pos 12261393 ∷ pos 10587899 ∷ pos 8717172 ∷ pos 6684061 ∷ pos 4526439 ∷ pos 2284497 ∷ pos 0 ∷
    pos 0 ∷ pos 2189866 ∷ pos 4342263 ∷ pos 6420363 ∷ pos 8388608 ∷ pos 10213322 ∷ pos 11863283 ∷ pos 13310260 ∷ pos 14529495 ∷ pos 15500126 ∷ pos 16205546 ∷ pos 16633685 ∷ pos 16777216 ∷ pos 16633685 ∷ pos 16205546 ∷ pos 15500126 ∷ pos 14529495 ∷ pos 13310260 ∷ pos 11863283 ∷ pos 10213322 ∷ pos 8388608 ∷ pos 6420363 ∷ pos 4342263 ∷ pos 2189866 ∷ pos 0 ∷ []

-- a lent table reaches to k / m, and an f32 holds its number there
pub record Has (xs : List ℤ) (k m : ℕ) : Type 0 where
  pub there : place k m < length xs
  pub held : T (in_float binary32 (get_or xs (place k m) (pos 0)))

-- the two lent tables
pub record Tables (cos sin : List ℤ) : Type 0 where
  pub cosines : cos ≡ cos_table
  pub sines : sin ≡ sin_table
