-- Counts known ahead.
use mathlib.Core.Path.{◌≡◌, refl, ap, ◌∙◌}
use Prim.Native.Nat.{ℕ, suc, ◌+◌, ◌-◌, ◌*◌, ◌^◌, ◌≤◌, ◌<◌}
use native.Mathlib.Nat.{pow-le-pow_right}
use native.Mathlib.Omega.{arith}
use native.Mathlib.Numerals.{add-one}
use mathlib.Core.Bool.{Bool, true, false, not}
use mathlib.Core.List.{List, [], ◌∷◌, ◌++◌, map}
use mathlib.Core.Option.{Option}
use lib.ListN.{length, get_or, take}
use lib.Seq.{take-suc}
use Rattle.lists.specs.Lists.{bit, found}
use Rattle.lists.proofs.Counting.{tally-append}
use Rattle.rules.specs.Mesh.{rims}
use Rattle.rules.specs.Levels.{Sizes, after}
use Rattle.faces.specs.Words.{link_of, links_in}

-- ---- rim sides

map-append : {A B : Type 0} (f : A → B) (a b : List A) → map f (a ++ b) ≡ map f a ++ map f b
map-append f [] b = refl
map-append f (x ∷ a) b = rw (map-append f a b)

pub rim-more : (w : List ℕ) (s : ℕ) → s < length w → rims (links_in w 0 (s + 1)) ≡ rims (links_in w 0 s) + bit (not (found (link_of (get_or w s 0))))
rim-more w s h =
    let p : Option ℕ → Bool = λ l. not (found l) in
    ap (λ (l : List ℕ). rims (map link_of l)) (ap (λ (n : ℕ). take n w) (add-one s) ∙ take-suc w s 0 h)
    ∙ ap rims (map-append link_of (take s w) (get_or w s 0 ∷ []))
    ∙ tally-append p (map link_of (take s w)) (link_of (get_or w s 0) ∷ [])
    ∙ omega arith

pub bit_le : (b : Bool) → bit b ≤ 1
bit_le true = omega arith
bit_le false = omega arith

-- ---- levels

-- faces after so few levels
pub few-faces : (i n : ℕ) → i ≤ 7 → n ≤ 4096 * 4 ^ i → n ≤ 67108864
few-faces i n h l = let m : 4 ^ i ≤ 4 ^ 7 = pow-le-pow_right (omega arith) h in omega arith

pub after_more : (l i : ℕ) (c : Sizes) → i < l → after (l - i) c ≡ after (l - (i + 1)) (record { verts = c.verts + c.edges; faces = 4 * c.faces; edges = 2 * c.edges + 3 * c.faces })
after_more l i c h = let e : l - i ≡ suc (l - (i + 1)) = omega arith in ap (λ (n : ℕ). after n c) e

pub rims-more : (l i r : ℕ) → i < l → 2 ^ (l - i) * r ≡ 2 ^ (l - (i + 1)) * (2 * r)
rims-more l i r h =
    let e : l - i ≡ suc (l - (i + 1)) = omega arith in
    let p : 2 ^ suc (l - (i + 1)) ≡ 2 * 2 ^ (l - (i + 1)) = omega arith in
    rw (e, p) (omega arith)
