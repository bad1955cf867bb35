-- Request 6, over all levels: a sharp edge is marked on both its faces at every level; no coordinate leaves the range; to name the side across is to name the side.
use mathlib.Core.Path.{◌≡◌, refl, sym, ap, ap₂, ◌∙◌}
use Prim.Native.Nat.{ℕ, zero, suc, ◌+◌, ◌*◌, ◌/◌, ◌<◌}
use native.Mathlib.Omega.{arith}
use mathlib.Core.Bool.{Bool, true, false, ◌||◌}
use mathlib.Core.List.{List, [], ◌∷◌}
use mathlib.Core.Option.{Option, none, some}
use lib.Dec.{eqb, eqb→eq}
use lib.ListN.{length, get_or}
use lib.IntN.{ℤ}
use borrow.Author.Tests.{eq-eqb, lt-leb}
use Rattle.lists.specs.Lists.{pick, count, later, find, found}
use Rattle.lists.proofs.Places.{gather-one, gather-same}
use Rattle.rules.specs.Mesh.{links, Mesh, cage, refined}
use Rattle.rules.specs.Position.{Numbers, whole}
use Rattle.rules.specs.Refusals.{refusal}
use Rattle.rules.specs.Sharp.{names, names_across, marks_of, finer_marks, sharp_new, sharp_limits, SharpLevel, sharp_first, sharp_finer, sharp_levels, sharp_last, sharp_positions, unlinked}
use Rattle.rules.proofs.Refine.{Good}
use Rattle.rules.proofs.Sides.{length-links}
use Rattle.rules.proofs.Faces.{link-below, link-link}
use Rattle.rules.proofs.Sound.{Sound, sound-refined}
use Rattle.rules.proofs.Levels.{refined-faces}
use Rattle.rules.proofs.Cage.{accepted}
use Rattle.rules.proofs.Range.{AllNear, In, paired, unpaired, keeps, near-cage}
use Rattle.rules.proofs.Sharp.{related-sharp-new, related-sharp-limits}
use Rattle.rules.proofs.Both.{Both, both-finer, both_first, later-none, found-later}

-- ---- both faces, at every level

pub both-refined : (n : ℕ) (m : Mesh) (ms : List Bool) → Sound n m → Both n (links m.faces) ms → Both (4 * n) (links (refined m (links m.faces)).faces) (finer_marks n ms)
both-refined n m ms w b = rw (refined-faces n m w) (both-finer m.verts n m.faces w.good ms b)

module _ (𝓝 : Numbers) where
  -- of level a
  pub record BothAt (a : SharpLevel 𝓝) : Type 0 where
    pub sound : Sound (length a.mesh.faces / 3) a.mesh
    pub both : Both (length a.mesh.faces / 3) (links a.mesh.faces) a.marks

  both-with : (n : ℕ) (a : SharpLevel 𝓝) → Sound n a.mesh → Both n (links a.mesh.faces) a.marks → BothAt a
  both-with n a w b =
      let e : length a.mesh.faces / 3 ≡ n = omega (arith, w.good.size) in
      record { sound = rw e w; both = rw e b }

  pub both-next : (a : SharpLevel 𝓝) → BothAt a → BothAt (sharp_finer 𝓝 a)
  unfolding sharp_finer
  both-next a h =
      let n = length a.mesh.faces / 3 in
      both-with (4 * n) (record { mesh = refined a.mesh (links a.mesh.faces); marks = finer_marks n a.marks; points = sharp_new 𝓝 a.mesh (links a.mesh.faces) a.marks a.points })
      (sound-refined n a.mesh h.sound) (both-refined n a.mesh a.marks h.sound h.both)

  pub both-levels : (k : ℕ) (a : SharpLevel 𝓝) → BothAt a → BothAt (sharp_levels 𝓝 k a)
  unfolding sharp_levels
  both-levels zero a h = h
  both-levels (suc k) a h = both-levels k (sharp_finer 𝓝 a) (both-next a h)

  -- of an accepted cage with an accepted list, level k
  pub both_at : (n k : ℕ) (l fs : List ℕ) (xs : List 𝓝.N) → refusal 𝓝 n fs xs ≡ none → find (unlinked (links fs)) l ≡ none → BothAt (sharp_last 𝓝 k l fs xs)
  unfolding cage
  both_at n k l fs xs e f = both-levels k (sharp_first 𝓝 l fs xs) (first-both (accepted 𝓝 n fs xs e).sound)
    where
      first-both : Sound (length fs / 3) (cage (length xs / 3) fs) → BothAt (sharp_first 𝓝 l fs xs)
      first-both w = both-with (length fs / 3) (sharp_first 𝓝 l fs xs) w (both_first (length xs / 3) (length fs / 3) fs w.good l f)

  -- one level more
  pub sharp-more : (k : ℕ) (a : SharpLevel 𝓝) → sharp_levels 𝓝 (k + 1) a ≡ sharp_finer 𝓝 (sharp_levels 𝓝 k a)
  unfolding sharp_levels
  sharp-more zero a = refl
  sharp-more (suc k) a = let e : suc k + 1 ≡ suc (k + 1) = omega arith in rw e (sharp-more k (sharp_finer 𝓝 a))

-- ---- range

pub near-sharp-new : (m : Mesh) (ls : List (Option ℕ)) (ms : List Bool) (xs : List ℤ) → AllNear xs → AllNear (sharp_new whole m ls ms xs)
near-sharp-new m ls ms xs h = unpaired (related-sharp-new whole whole (λ e. In) keeps 0 xs xs (paired h) m ls ms)

pub near-sharp-limits : (m : Mesh) (ls : List (Option ℕ)) (ms : List Bool) (xs : List ℤ) → AllNear xs → AllNear (sharp_limits whole m ls ms xs)
near-sharp-limits m ls ms xs h = unpaired (related-sharp-limits whole whole (λ e. In) keeps 0 xs xs (paired h) m ls ms)

pub near-sharp-levels : (k : ℕ) (a : SharpLevel whole) → AllNear a.points → AllNear (sharp_levels whole k a).points
unfolding sharp_levels sharp_finer
near-sharp-levels zero a h = h
near-sharp-levels (suc k) a h = near-sharp-levels k (sharp_finer whole a) (near-sharp-new a.mesh (links a.mesh.faces) a.marks a.points h)

-- at every level k, and at the limit there
pub near-sharp-at : (n k : ℕ) (l fs : List ℕ) (xs : List ℤ) → refusal whole n fs xs ≡ none
    → AllNear (sharp_last whole k l fs xs).points × AllNear (sharp_positions whole (sharp_last whole k l fs xs))
unfolding sharp_positions
near-sharp-at n k l fs xs e =
    let h = near-sharp-levels k (sharp_first whole l fs xs) (near-cage n fs xs e) in
    let a = sharp_last whole k l fs xs in
    (h, near-sharp-limits a.mesh (links a.mesh.faces) a.marks a.points h)

-- ---- "marked on both faces": to name the side across is to name the side

abbrev leads : ℕ → Option ℕ → Bool
leads s none = false
leads s (some y) = eqb y s

-- does naming s mark side x, with link o
abbrev touches : ℕ → ℕ → Option ℕ → Bool
touches s x o = eqb x s || leads s o

names_more : (s x : ℕ) (l : List ℕ) → names (s ∷ l) x ≡ eqb x s || names l x
names_more s x l = go (eqb x s)
  where
    go : (b : Bool) → found (pick b (some 0) (later (find (eqb x) l))) ≡ b || names l x
    go true = refl
    go false = found-later (find (eqb x) l)

across-more : (s : ℕ) (l : List ℕ) (o : Option ℕ) → names_across (s ∷ l) o ≡ leads s o || names_across l o
across-more s l none = refl
across-more s l (some y) = names_more s y l

shuffle : (a b c d : Bool) → (a || b) || (c || d) ≡ (a || c) || (b || d)
shuffle true b c d = refl
shuffle false true true d = refl
shuffle false true false d = refl
shuffle false false c d = refl

or-true : (b : Bool) → b || true ≡ true
or-true true = refl
or-true false = refl

marked_by : (s x : ℕ) (l : List ℕ) (o : Option ℕ) → names (s ∷ l) x || names_across (s ∷ l) o ≡ touches s x o || (names l x || names_across l o)
marked_by s x l o = rw (names_more s x l, across-more s l o) (shuffle (eqb x s) (names l x) (leads s o) (names_across l o))

some_same : {x y : ℕ} → some x ≡ some y → x ≡ y
some_same e = cc

eqb_is : (x y : ℕ) → eqb x y ≡ true → x ≡ y
eqb_is x y e = eqb→eq x y (rw e tt)

eqb-self : (x : ℕ) → eqb x x ≡ true
eqb-self x = eq-eqb x x refl

module _ (v n : ℕ) (fs : List ℕ) (g : Good v n fs) (s t : ℕ) (h : s < 3 * n) (e : get_or (links fs) s none ≡ some t) where
  abbrev ls : List (Option ℕ)
  ls = links fs

  back : get_or ls t none ≡ some s
  back = link-link v n fs g s t h e

  -- a side that is neither is marked by neither
  apart : (x : ℕ) → x < 3 * n → eqb x s ≡ false → eqb x t ≡ false → (o : Option ℕ) → get_or ls x none ≡ o → leads s o ≡ leads t o
  apart x k a b none q = refl
  apart x k a b (some y) q = go (eqb y s) refl (eqb y t) refl
    where
      go : (c : Bool) → eqb y s ≡ c → (d : Bool) → eqb y t ≡ d → eqb y s ≡ eqb y t
      go true c d f =
          let z : some x ≡ some t = sym (link-link v n fs g x s k (q ∙ ap some (eqb_is y s c))) ∙ e in
          let w : eqb x t ≡ true = eq-eqb x t (some_same z) in
          absurd (let p : true ≡ false = sym w ∙ b in let u : ◌≡◌ {A = ℕ} 0 1 = cc in omega arith)
      go false c true f =
          let z : some x ≡ some s = sym (link-link v n fs g x t k (q ∙ ap some (eqb_is y t f))) ∙ back in
          let w : eqb x s ≡ true = eq-eqb x s (some_same z) in
          absurd (let p : true ≡ false = sym w ∙ a in let u : ◌≡◌ {A = ℕ} 0 1 = cc in omega arith)
      go false c false f = c ∙ sym f

  touch-same : (x : ℕ) → x < 3 * n → touches s x (get_or ls x none) ≡ touches t x (get_or ls x none)
  touch-same x k = go (eqb x s) refl (eqb x t) refl
    where
      go : (b : Bool) → eqb x s ≡ b → (c : Bool) → eqb x t ≡ c → touches s x (get_or ls x none) ≡ touches t x (get_or ls x none)
      go true b c d =
          let o : get_or ls x none ≡ some t = ap (λ (z : ℕ). get_or ls z none) (eqb_is x s b) ∙ e in
          ap₂ (λ (y : Bool) (p : Option ℕ). y || leads s p) b o
          ∙ sym (ap (λ (p : Option ℕ). eqb x t || leads t p) o ∙ ap (λ (y : Bool). eqb x t || y) (eqb-self t) ∙ or-true (eqb x t))
      go false b true d =
          let o : get_or ls x none ≡ some s = ap (λ (z : ℕ). get_or ls z none) (eqb_is x t d) ∙ back in
          ap (λ (p : Option ℕ). eqb x s || leads s p) o ∙ ap (λ (y : Bool). eqb x s || y) (eqb-self s) ∙ or-true (eqb x s)
          ∙ sym (ap (λ (y : Bool). y || leads t (get_or ls x none)) d)
      go false b false d = ap₂ (λ (y w : Bool). y || w) (b ∙ sym d) (apart x k b d (get_or ls x none) refl)

  pub across-marks : (l : List ℕ) → marks_of ls (s ∷ l) ≡ marks_of ls (t ∷ l)
  unfolding marks_of
  across-marks l =
      sym (gather-one (mark (s ∷ l)) (count 0 (length ls)))
      ∙ gather-same (λ x. mark (s ∷ l) x ∷ []) (λ x. mark (t ∷ l) x ∷ []) (length ls) (λ x k. ap (λ (b : Bool). b ∷ []) (same x (omega (arith, length-links fs, g.size))))
      ∙ gather-one (mark (t ∷ l)) (count 0 (length ls))
    where
      mark : List ℕ → ℕ → Bool
      mark l x = names l x || names_across l (get_or ls x none)

      same : (x : ℕ) → x < 3 * n → mark (s ∷ l) x ≡ mark (t ∷ l) x
      same x k =
          marked_by s x l (get_or ls x none) ∙ ap (λ (b : Bool). b || (names l x || names_across l (get_or ls x none))) (touch-same x k)
          ∙ sym (marked_by t x l (get_or ls x none))

-- and so is every level, in either kind of number
pub across-last : (𝓝 : Numbers) (n : ℕ) (fs : List ℕ) (xs : List 𝓝.N) (k s t : ℕ) (l : List ℕ) → refusal 𝓝 n fs xs ≡ none → s < length fs → get_or (links fs) s none ≡ some t
    → sharp_last 𝓝 k (s ∷ l) fs xs ≡ sharp_last 𝓝 k (t ∷ l) fs xs
unfolding cage
across-last 𝓝 n fs xs k s t l e h q = go (accepted 𝓝 n fs xs e).sound
  where
    go : Sound (length fs / 3) (cage (length xs / 3) fs) → sharp_last 𝓝 k (s ∷ l) fs xs ≡ sharp_last 𝓝 k (t ∷ l) fs xs
    go w =
        ap (λ (ms : List Bool). sharp_levels 𝓝 k (record { mesh = cage (length xs / 3) fs; marks = ms; points = xs }))
        (across-marks (length xs / 3) (length fs / 3) fs w.good s t (omega (arith, w.good.size)) q l)

-- ---- lists that name the same sides are accepted alike

module _ (p : ℕ → Bool) where
  named-fails : (l : List ℕ) (x : ℕ) → find p l ≡ none → names l x ≡ true → p x ≡ false
  named-fails [] x e q = absurd (let z : ◌≡◌ {A = ℕ} 0 1 = cc in omega arith)
  named-fails (y ∷ l) x e q = go (λ f. named-fails l x f) (p y) refl e (eqb x y) refl (sym (names_more y x l) ∙ q)
    where
      go : (find p l ≡ none → names l x ≡ true → p x ≡ false) → (a : Bool) → p y ≡ a → pick a (some 0) (later (find p l)) ≡ none → (b : Bool) → eqb x y ≡ b → b || names l x ≡ true → p x ≡ false
      go rec true u f b c d = absurd (let z : ◌≡◌ {A = ℕ} 0 1 = cc in omega arith)
      go rec false u f true c d = ap p (eqb_is x y c) ∙ u
      go rec false u f false c d = rec (later-none (find p l) f) d

  all-fail : (l : List ℕ) → ((x : ℕ) → names l x ≡ true → p x ≡ false) → find p l ≡ none
  all-fail [] h = refl
  all-fail (y ∷ l) h =
      let a : p y ≡ false = h y (names_more y y l ∙ ap (λ (b : Bool). b || names l y) (eqb-self y)) in
      rw (a, all-fail l (λ x q. h x (names_more y x l ∙ ap (λ (b : Bool). eqb x y || b) q ∙ or-true (eqb x y))))

pub same-linked : (ls : List (Option ℕ)) (l k : List ℕ) → ((s : ℕ) → names l s ≡ names k s) → find (unlinked ls) l ≡ none → find (unlinked ls) k ≡ none
same-linked ls l k h e = all-fail (unlinked ls) k (λ x q. named-fails (unlinked ls) l x e (h x ∙ q))

-- and so are a list and that with the side across for its first
pub across-linked : (v n : ℕ) (fs : List ℕ) → Good v n fs → (s t : ℕ) (l : List ℕ) → s < 3 * n → get_or (links fs) s none ≡ some t → find (unlinked (links fs)) (s ∷ l) ≡ none → find (unlinked (links fs)) (t ∷ l) ≡ none
across-linked v n fs g s t l h q e =
    let b = link-below v n fs g s t h q in
    let a : unlinked (links fs) t ≡ false = rw (lt-leb (length (links fs)) t (omega (arith, length-links fs, g.size)), link-link v n fs g s t h q) refl in
    rw a (go (unlinked (links fs) s) e)
  where
    go : (c : Bool) → pick c (some 0) (later (find (unlinked (links fs)) l)) ≡ none → later (find (unlinked (links fs)) l) ≡ none
    go true f = absurd (let z : ◌≡◌ {A = ℕ} 0 1 = cc in omega arith)
    go false f = f
