-- 19. Of two bytes: no sheet; lengths that add up to one, two, three; two sheets and a slot for one. Of no bytes: 64 sheets and 65, with slots for all; two sheets with room for two slots, and one entry less.
use Rattle.std.specs.Prelude.{◌≡◌, refl, List, [], ◌∷◌, map, ℕ, replicate}
use Rattle.alphabet.specs.Sheets.{number, bad_batch}

pub nineteen : map (λ (ns : List ℕ). number (7 ∷ 8 ∷ []) ns (0 ∷ 0 ∷ 0 ∷ 0 ∷ 0 ∷ [])) ([] ∷ (1 ∷ []) ∷ (2 ∷ []) ∷ (3 ∷ []) ∷ (1 ∷ 1 ∷ []) ∷ []) ≡ 19 ∷ 19 ∷ 0 ∷ 19 ∷ 19 ∷ []
unfolding number bad_batch
nineteen = refl

pub most-sheets : map (λ (n : ℕ). number [] (replicate n 0) (replicate 325 0)) (64 ∷ 65 ∷ []) ≡ 0 ∷ 19 ∷ []
unfolding number bad_batch
most-sheets = refl

pub slots : map (λ (n : ℕ). number [] (0 ∷ 0 ∷ []) (replicate n 0)) (10 ∷ 9 ∷ []) ≡ 0 ∷ 19 ∷ []
unfolding number bad_batch
slots = refl
