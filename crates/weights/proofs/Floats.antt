-- The f32 constants of the code as the fractions of docs/RULES.md, each computed; and points added to a point one at a time.
use mathlib.Core.Path.{◌≡◌, refl, ap, ◌∙◌}
use mathlib.Core.List.{List, [], ◌∷◌, ◌++◌, map}
use Prim.Native.Nat.{ℕ, suc, ◌<◌}
use lib.ListN.{length, get_or, take, length-map}
use lib.Seq.{take-suc}
use lib.Ieee.{Float, binary32, sub, mul, div, of_bits, of_int}
use Rattle.vectors.specs.declared.Vec3.{Vec3}
use Rattle.vectors.specs.Vectors.{plus, scaled}
use Rattle.rules.specs.Position.{f32, own_weight, onto, weighed}
use Rattle.weights.specs.Weights.{alike}

pub one : of_bits binary32 0x3f80_0000 ≡ f32 1
unfolding of_bits of_int
one = refl

pub two : of_bits binary32 0x4000_0000 ≡ f32 2
unfolding of_bits of_int
two = refl

pub three : of_bits binary32 0x4040_0000 ≡ f32 3
unfolding of_bits of_int
three = refl

pub eight : of_bits binary32 0x4100_0000 ≡ f32 8
unfolding of_bits of_int
eight = refl

pub half : of_bits binary32 0x3f00_0000 ≡ div binary32 (f32 1) (f32 2)
unfolding of_bits of_int div
half = refl

pub three-eighths : of_bits binary32 0x3ec0_0000 ≡ div binary32 (f32 3) (f32 8)
unfolding of_bits of_int div
three-eighths = refl

pub eighth : of_bits binary32 0x3e00_0000 ≡ div binary32 (f32 1) (f32 8)
unfolding of_bits of_int div
eighth = refl

pub fifth : of_bits binary32 0x3e4c_cccd ≡ div binary32 (f32 1) (f32 5)
unfolding of_bits of_int div
fifth = refl

pub three-sixteenths : of_bits binary32 0x3e40_0000 ≡ div binary32 (f32 3) (f32 16)
unfolding of_bits of_int div
three-sixteenths = refl

pub own_is : (b k : Float) (n : ℕ) → k ≡ f32 n → sub binary32 (of_bits binary32 0x3f80_0000) (mul binary32 k b) ≡ own_weight b n
own_is b k n e = cc one

-- ---- what a scaling, and a sum with one, give
pub weighs : (p : Vec3) {r : Vec3} {k b : Float} → r ≡ scaled p k → k ≡ b → r ≡ scaled p b
weighs p e f = e ∙ ap (scaled p) f

pub adds : (q : Vec3) {r s s' t : Vec3} {k b : Float} → r ≡ plus s t → s ≡ s' → t ≡ scaled q k → k ≡ b → r ≡ plus s' (scaled q b)
adds q {s} {b} e f g h = e ∙ ap (plus s) (weighs q g h) ∙ ap (λ (x : Vec3). plus x (scaled q b)) f

-- ---- one more point of the ring
more : (b : Float) (p : Vec3) (vs : List Vec3) (v : Vec3) → alike (onto b) p (vs ++ (v ∷ [])) ≡ plus (alike (onto b) p vs) (scaled v b)
more b p [] v = refl
more b p (w ∷ ws) v = more b (plus p (scaled w b)) ws v

pub next : (b : Float) (p : Vec3) (ring : List Vec3) (i : ℕ) (d : Vec3) → i < length ring → alike (onto b) p (take (suc i) ring) ≡ plus (alike (onto b) p (take i ring)) (scaled (get_or ring i d) b)
next b p ring i d h = ap (alike (onto b) p) (take-suc ring i d h) ∙ more b p (take i ring) (get_or ring i d)

-- the own weight stands before the ring
pub ring-is : (b : Float) (p : Vec3) (ring : List Vec3) (n : ℕ) → length ring ≡ n → alike (onto b) (scaled p (own_weight b n)) ring ≡ alike (weighed b) p ring
ring-is b p ring n h =
    let e : (f : Vec3 → Float) → length (map f ring) ≡ n = λ f. length-map ring f ∙ h in
    simp (e (λ q. q.x), e (λ q. q.y), e (λ q. q.z))
