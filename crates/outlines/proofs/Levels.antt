-- The loops after l levels, from the loops of the control cage: each side in its 2^l pieces, loop by loop.
use mathlib.Core.Path.{◌≡◌, refl, sym, ap, ◌∙◌}
use Prim.Native.Nat.{ℕ, zero, suc, ◌+◌, ◌*◌, ◌<◌}
use native.Mathlib.Omega.{arith}
use mathlib.Core.Bool.{Bool, true, false}
use mathlib.Core.List.{List, [], ◌∷◌, ◌++◌, map, map-append}
use mathlib.Core.Option.{Option, none, some}
use lib.Dec.{T}
use Rattle.lists.specs.Lists.{pick, count, keep, gather}
use Rattle.lists.proofs.Places.{keep-suc, gather_append}
use Rattle.rules.specs.Mesh.{corner, links, through, Mesh, refined}
use Rattle.rules.proofs.Links.{half1}
use Rattle.rules.proofs.Sound.{Sound, sound-refined}
use Rattle.rules.proofs.Levels.{level}
use Rattle.outlines.specs.Loops.{leaving, around, loop_of, begins, outlines}
use Rattle.outlines.specs.Pieces.{pieces, sides_of}
use Rattle.outlines.proofs.Rims.{leaving-some}
use Rattle.outlines.proofs.Finer.{halves, around-finer}
use Rattle.outlines.proofs.Order.{leaving-old, starts-kept}

single : (xs : List ℕ) → gather (pieces 0) xs ≡ xs
single [] = refl
single (x ∷ xs) = ap {B = List ℕ} (λ l. x ∷ l) (single xs)

twice : (l : ℕ) (xs : List ℕ) → gather (pieces l) (gather halves xs) ≡ gather (pieces (suc l)) xs
twice l [] = refl
twice l (x ∷ xs) = gather_append (pieces l) (halves x) (gather halves xs) ∙ ap (λ (z : List ℕ). gather (pieces l) (halves x) ++ z) (twice l xs)

-- two maps that agree on those kept
map-kept : {A : Type 0} (p : ℕ → Bool) (f g : ℕ → A) (n : ℕ) → ((u : ℕ) → u < n → T (p u) → f u ≡ g u) → map f (keep p (count 0 n)) ≡ map g (keep p (count 0 n))
map-kept p f g zero h = refl
map-kept {A} p f g (suc n) h =
    ap (map f) (keep-suc p 0 n)
    ∙ map-append f (keep p (count 0 n)) (pick (p (0 + n)) ((0 + n) ∷ []) [])
    ∙ ap (λ (l : List A). l ++ map f (pick (p (0 + n)) ((0 + n) ∷ []) [])) (map-kept p f g n (λ u k t. h u (omega arith) t))
    ∙ ap (λ (l : List A). map g (keep p (count 0 n)) ++ l) (at (p (0 + n)) (h (0 + n) (omega arith)))
    ∙ sym (ap (map g) (keep-suc p 0 n) ∙ map-append g (keep p (count 0 n)) (pick (p (0 + n)) ((0 + n) ∷ []) []))
  where
    at : (b : Bool) → (T b → f (0 + n) ≡ g (0 + n)) → map f (pick b ((0 + n) ∷ []) []) ≡ map g (pick b ((0 + n) ∷ []) [])
    at true k = ap {B = List A} (λ x. x ∷ []) (k tt)
    at false k = refl

-- the loop that leaves u, after l levels
abbrev pub pieces_at : ℕ → List ℕ → List (Option ℕ) → ℕ → List ℕ
pieces_at l fs ls u = gather (pieces l) (sides_of fs ls (leaving fs ls u))

pub outlines-level : (l n : ℕ) (m : Mesh) → Sound n m
    → outlines (level l m) ≡ map (λ u. map (corner (level l m).faces) (pieces_at l m.faces (links m.faces) u)) (keep (begins m.faces (links m.faces)) (count 0 m.verts))
unfolding level outlines
outlines-level zero n m w =
    map-kept (begins m.faces (links m.faces)) _ _ m.verts (λ u h t. go (leaving m.faces (links m.faces) u))
  where
    go : (o : Option ℕ) → loop_of m.faces (links m.faces) o ≡ map (corner m.faces) (gather (pieces 0) (sides_of m.faces (links m.faces) o))
    go none = refl
    go (some s) = ap (map (corner m.faces)) (sym (single (around m.faces (links m.faces) s)))
outlines-level (suc l) n m w =
    let m' = refined m (links m.faces) in
    let f : ℕ → List ℕ = λ u. map (corner (level l m').faces) (pieces_at l m'.faces (links m'.faces) u) in
    outlines-level l (4 * n) m' (sound-refined n m w)
    ∙ ap (map f) (starts-kept n m w)
    ∙ map-kept (begins m.faces (links m.faces)) f _ m.verts (λ u h t.
    ap (map (corner (level l m').faces))
    (ap (λ (o : Option ℕ). gather (pieces l) (sides_of m'.faces (links m'.faces) o)) (leaving-old n m w u h)
    ∙ go u (leaving m.faces (links m.faces) u) refl))
  where
    go : (u : ℕ) (o : Option ℕ) → leaving m.faces (links m.faces) u ≡ o
        → gather (pieces l) (sides_of (refined m (links m.faces)).faces (links (refined m (links m.faces)).faces) (through half1 o)) ≡ gather (pieces (suc l)) (sides_of m.faces (links m.faces) o)
    go u none e = refl
    go u (some s) e =
        ap (gather (pieces l)) (around-finer n m w s (leaving-some n m w u s e).0) ∙ twice l (around m.faces (links m.faces) s)

-- the loops of every level begin at the same vertices, in the same order
pub starts-level : (l n : ℕ) (m : Mesh) → Sound n m
    → keep (begins (level l m).faces (links (level l m).faces)) (count 0 (level l m).verts) ≡ keep (begins m.faces (links m.faces)) (count 0 m.verts)
unfolding level
starts-level zero n m w = refl
starts-level (suc l) n m w = starts-level l (4 * n) (refined m (links m.faces)) (sound-refined n m w) ∙ starts-kept n m w
