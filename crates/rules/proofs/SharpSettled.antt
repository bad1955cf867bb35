-- Request 6 beside request 5: at a vertex that is an end of no marked side all goes as with no marks, so its exact limit position does not change there when a level is
-- applied first, and the whole answers at two numbers of levels differ by rounding alone.
use mathlib.Core.Path.{◌≡◌, refl, sym, ap, ap₂, subst, ◌∙◌}
use Prim.Native.Nat.{ℕ, zero, suc, ◌+◌, ◌-◌, ◌*◌, ◌/◌, ◌<◌, ◌≤◌, min, suc-le-suc, zero-le}
use native.Mathlib.Omega.{arith}
use mathlib.Core.Bool.{Bool, true, false}
use mathlib.Core.List.{List, [], ◌∷◌, ◌++◌, map}
use mathlib.Core.Option.{Option, none, some}
use lib.Dec.{leb, leb→le, nleb→lt}
use lib.ListN.{length, get_or, length-map, get_or-append}
use lib.Seq.{get_or-append-add}
use lib.IntN.{ℤ, nat_abs, ◌-ℤ◌}
use Rattle.lists.specs.Lists.{count, find, keep, gather, last_of}
use Rattle.lists.proofs.Places.{length-count, get_or-count, length-gather, get_or-gather}
use Rattle.whole.specs.Fraction.{Fraction, of_whole, ◌≈F◌}
use Rattle.whole.proofs.Nearness.{near_of, close-eq, close-near}
use Rattle.whole.proofs.Value.{≈F-trans, ≈F-refl}
use Rattle.rules.specs.Mesh.{onward, backward, corner, links, restart, firsts, first_of, Fan, inner, rim, endless, corners, fan, ring, Mesh, cage, refined}
use Rattle.rules.specs.Position.{Stage, refining, limit, ring_rule, rim_rule, Numbers, whole, exact}
use Rattle.rules.specs.Levels.{ends, coord, three, blended, new_positions, limits, finer, positions}
use Rattle.rules.specs.Refusals.{refusal}
use Rattle.rules.specs.Sharp.{sharp, names, names_across, marks_of, finer_marks, creased, sharp_moved, sharp_edge, sharp_new, sharp_limits, SharpLevel, sharp_first, sharp_finer, sharp_levels, sharp_last, sharp_positions, sharp_exact, unlinked, EndOfNone}
use Rattle.rules.proofs.Sides.{on-back, length-links}
use Rattle.rules.proofs.Refine.{Good, mid_of, mid-below, back_below}
use Rattle.rules.proofs.Faces.{link-twins}
use Rattle.rules.proofs.Links.{restart-below}
use Rattle.rules.proofs.Number.{first-of}
use Rattle.rules.proofs.Fans.{map_fan}
use Rattle.rules.proofs.Turns.{fan-corners}
use Rattle.rules.proofs.Rings.{spokes, old-fan, old-ring}
use Rattle.rules.proofs.Sound.{Sound, sound-refined, old-start}
use Rattle.rules.proofs.Levels.{refined-faces}
use Rattle.rules.proofs.Cage.{accepted}
use Rattle.rules.proofs.Related.{Filled, round, fringe, lost, filled}
use Rattle.rules.proofs.Spokes.{three-at, limit-at, old-at, new-at}
use Rattle.rules.proofs.Settled.{limit-stays, gap, ≈F-as}
use Rattle.rules.proofs.Sharp.{sharp-demand-3}
use Rattle.rules.proofs.Both.{Both, mark-half1, mark-half2, both_first, marks-at}
use Rattle.rules.proofs.Marked.{BothAt, both-next}

-- ---- each of a list

pub data Each (P : ℕ → Type 0) : List ℕ → Type 0 where
  nil : Each P []
  cons : {x : ℕ} {xs : List ℕ} → P x → Each P xs → Each P (x ∷ xs)

each_at : (P : ℕ → Type 0) (xs : List ℕ) → ((k : ℕ) → k < length xs → P (get_or xs k 0)) → Each P xs
each_at P [] h = nil
each_at P (x ∷ xs) h = cons (h 0 (suc-le-suc zero-le)) (each_at P xs (λ k l. h (suc k) (suc-le-suc l)))

each_map : (P Q : ℕ → Type 0) (f : ℕ → ℕ) → ((x : ℕ) → P x → Q (f x)) → {xs : List ℕ} → Each P xs → Each Q (map f xs)
each_map P Q f h nil = nil
each_map P Q f h (cons a e) = cons (h _ a) (each_map P Q f h e)

each-so : (P Q : ℕ → Type 0) → ((x : ℕ) → P x → Q x) → {xs : List ℕ} → Each P xs → Each Q xs
each-so P Q h nil = nil
each-so P Q h (cons a e) = cons (h _ a) (each-so P Q h e)

keep-each : (P : ℕ → Type 0) (p : ℕ → Bool) → ((x : ℕ) → P x → p x ≡ false) → {xs : List ℕ} → Each P xs → keep p xs ≡ []
keep-each P p h nil = refl
keep-each P p h (cons {x} {xs} a e) = rw (h x a) (keep-each P p h e)

last-each : (P : ℕ → Type 0) {d : ℕ} → P d → {xs : List ℕ} → Each P xs → P (last_of d xs)
last-each P a nil = a
last-each P a (cons b e) = last-each P b e

ends-each : (P : ℕ → Type 0) {x : ℕ} {xs : List ℕ} → Each P (x ∷ xs) → Each P (ends (x ∷ xs))
ends-each P (cons a e) = cons a (cons (last-each P a e) nil)

map_each : {A : Type 0} (f g : ℕ → A) {xs : List ℕ} → Each (λ x. f x ≡ g x) xs → map f xs ≡ map g xs
map_each f g nil = refl
map_each {A} f g (cons a e) = ap₂ {C = List A} (λ y ys. y ∷ ys) a (map_each f g e)

-- ---- a corner whose two sides, that which leaves it and that which comes to it, are not marked

pub record Plain (n : ℕ) (ms : List Bool) (x : ℕ) : Type 0 where
  pub below : x < 3 * n
  pub leaves : sharp ms x ≡ false
  pub comes : sharp ms (backward x) ≡ false

plain-finer : (n : ℕ) (ms : List Bool) (x : ℕ) → Plain n ms x → Plain (4 * n) (finer_marks n ms) (restart x)
plain-finer n ms x h =
    let e : backward (restart (onward (backward x))) ≡ backward (restart x) = ap (λ (z : ℕ). backward (restart z)) (on-back x) in
    record {
      below = restart-below x n h.below;
      leaves = mark-half1 n ms x h.below ∙ h.leaves;
      comes = ap (sharp (finer_marks n ms)) (sym e) ∙ mark-half2 n ms (backward x) (back_below x n h.below) ∙ h.comes;
    }

-- such a side
record Dull (n : ℕ) (ms : List Bool) (x : ℕ) : Type 0 where
  pub below : x < 3 * n
  pub mark : sharp ms x ≡ false

spokes-dull : (n : ℕ) (ms : List Bool) (f : Fan) → Filled f → Each (Plain n ms) (corners f) → Each (Dull n ms) (spokes f)
spokes-dull n ms _ (round {x} {cs}) e = each-so (Plain n ms) (Dull n ms) (λ x h. record { below = h.below; mark = h.leaves }) e
spokes-dull n ms _ (fringe {x} {cs}) (cons a e) =
    cons (record { below = a.below; mark = a.leaves })
    (each_map (Plain n ms) (Dull n ms) backward (λ x h. record { below = back_below x n h.below; mark = h.comes }) (cons a e))
spokes-dull n ms _ lost e = nil

corners-as : (f : Fan) → corners (map_fan restart f) ≡ map restart (corners f)
corners-as (inner cs) = refl
corners-as (rim cs) = refl
corners-as endless = refl

-- ---- the rule of a vertex, all of whose corners are plain, is the old one; and it asks for its ring alone

module _ (𝓝 : Numbers) (p : Stage) (fs : List ℕ) (v : ℕ) where
  creased-plain : (n : ℕ) (ms : List Bool) (xs : List 𝓝.N) (f : Fan) → Filled f → Each (Plain n ms) (corners f) → (c : ℕ) → creased 𝓝 p fs ms xs v f c ≡ blended 𝓝 p fs xs v f c
  creased-plain n ms xs _ (round {x} {cs}) e c =
      let vs = ring fs (inner (x ∷ cs)) in
      rw (keep-each (Plain n ms) (sharp ms) (λ x h. h.leaves) e)
      (ap (λ (k : ℕ). 𝓝.blend (ring_rule p k) (coord 𝓝 xs c v) (map (coord 𝓝 xs c) vs)) (length-map (x ∷ cs) (λ s. corner fs (onward s))))
  creased-plain n ms xs _ (fringe {x} {cs}) e c = rw (keep-each (Plain n ms) (λ s. sharp ms (backward s)) (λ x h. h.comes) e)
  creased-plain n ms xs _ lost e c = refl

  blended-same : (xs ys : List 𝓝.N) (f : Fan) (c : ℕ) → Filled f → coord 𝓝 xs c v ≡ coord 𝓝 ys c v → Each (λ u. coord 𝓝 xs c u ≡ coord 𝓝 ys c u) (ring fs f)
      → blended 𝓝 p fs xs v f c ≡ blended 𝓝 p fs ys v f c
  blended-same xs ys _ c (round {x} {cs}) h e = ap₂ (λ (a : 𝓝.N) (b : List 𝓝.N). 𝓝.blend (ring_rule p (length (x ∷ cs))) a b) h (map_each (coord 𝓝 xs c) (coord 𝓝 ys c) e)
  blended-same xs ys _ c (fringe {x} {cs}) h e =
      ap₂ (λ (a : 𝓝.N) (b : List 𝓝.N). 𝓝.blend (rim_rule p) a b) h (map_each (coord 𝓝 xs c) (coord 𝓝 ys c) (ends-each (λ u. coord 𝓝 xs c u ≡ coord 𝓝 ys c u) e))
  blended-same xs ys _ c lost h e = h

-- ---- coordinates after a level with marks, by vertex and axis

module _ (𝓝 : Numbers) (m : Mesh) (ls : List (Option ℕ)) (ms : List Bool) (xs : List 𝓝.N) where
  vertex-at : (p : Stage) (u c : ℕ) → u < m.verts → c < 3
      → get_or (gather (sharp_moved 𝓝 p m ls ms xs) (count 0 m.verts)) (3 * u + c) 𝓝.nought ≡ creased 𝓝 p m.faces ms xs u (fan ls (get_or m.starts u 0)) c
  unfolding sharp_moved
  vertex-at p u c h k =
      get_or-gather (sharp_moved 𝓝 p m ls ms xs) 3 (λ a. refl) (count 0 m.verts) u c 0 𝓝.nought (rw (length-count 0 m.verts) h) k
      ∙ ap (λ (z : ℕ). get_or (sharp_moved 𝓝 p m ls ms xs z) c 𝓝.nought) (get_or-count 0 m.verts u 0 h ∙ omega arith)
      ∙ three-at 𝓝 (creased 𝓝 p m.faces ms xs u (fan ls (get_or m.starts u 0))) c k

  sharp-limit-at : (u c : ℕ) → u < m.verts → c < 3 → coord 𝓝 (sharp_limits 𝓝 m ls ms xs) c u ≡ creased 𝓝 limit m.faces ms xs u (fan ls (get_or m.starts u 0)) c
  unfolding sharp_limits
  sharp-limit-at u c h k = vertex-at limit u c h k

  old-length : length (gather (sharp_moved 𝓝 refining m ls ms xs) (count 0 m.verts)) ≡ 3 * m.verts
  unfolding sharp_moved
  old-length = length-gather (sharp_moved 𝓝 refining m ls ms xs) 3 (λ a. refl) (count 0 m.verts) ∙ ap (λ (z : ℕ). 3 * z) (length-count 0 m.verts)

  sharp-old-at : (u c : ℕ) → u < m.verts → c < 3 → coord 𝓝 (sharp_new 𝓝 m ls ms xs) c u ≡ creased 𝓝 refining m.faces ms xs u (fan ls (get_or m.starts u 0)) c
  unfolding sharp_new
  sharp-old-at u c h k =
      get_or-append (gather (sharp_moved 𝓝 refining m ls ms xs) (count 0 m.verts)) _ 𝓝.nought (3 * u + c) (omega (arith, old-length))
      ∙ vertex-at refining u c h k

  sharp-new-at : (i c : ℕ) → i < length (firsts ls) → c < 3
      → coord 𝓝 (sharp_new 𝓝 m ls ms xs) c (m.verts + i) ≡ sharp_edge 𝓝 m.faces xs (get_or (firsts ls) i 0) (sharp ms (get_or (firsts ls) i 0)) (get_or ls (get_or (firsts ls) i 0) none) c
  unfolding sharp_new
  sharp-new-at i c h k =
      let a = gather (sharp_moved 𝓝 refining m ls ms xs) (count 0 m.verts) in
      let f : ℕ → List 𝓝.N = λ s. three 𝓝 (sharp_edge 𝓝 m.faces xs s (sharp ms s) (get_or ls s none)) in
      let e : 3 * (m.verts + i) + c ≡ length a + (3 * i + c) = omega (arith, old-length) in
      ap (λ (z : ℕ). get_or (a ++ gather f (firsts ls)) z 𝓝.nought) e
      ∙ get_or-append-add a (gather f (firsts ls)) (3 * i + c) 𝓝.nought
      ∙ get_or-gather f 3 (λ s. refl) (firsts ls) i c 0 𝓝.nought h k
      ∙ three-at 𝓝 (sharp_edge 𝓝 m.faces xs (get_or (firsts ls) i 0) (sharp ms (get_or (firsts ls) i 0)) (get_or ls (get_or (firsts ls) i 0) none)) c k

-- ---- one level

more-marked : (m : Mesh) (v : ℕ) → v < m.verts → v < (refined m (links m.faces)).verts
unfolding refined
more-marked m v h = omega arith

-- every corner of the fan of u
abbrev pub PlainAt : ℕ → Mesh → List Bool → ℕ → Type 0
PlainAt n m ms u = Each (Plain n ms) (corners (fan (links m.faces) (get_or m.starts u 0)))

module _ (n : ℕ) (m : Mesh) (w : Sound n m) where
  abbrev ls : List (Option ℕ)
  ls = links m.faces

  abbrev fine : Mesh
  fine = refined m (links m.faces)

  start_is : (u : ℕ) → u < m.verts → get_or fine.starts u 0 ≡ restart (get_or m.starts u 0)
  unfolding refined
  start_is u h = old-start m.verts n m.faces w.good m.starts w.sized u h

  fan-is : (u : ℕ) → u < m.verts → fan (links fine.faces) (get_or fine.starts u 0) ≡ map_fan restart (fan ls (get_or m.starts u 0))
  fan-is u h = rw (refined-faces n m w, start_is u h) (old-fan m.verts n m.faces w.good (get_or m.starts u 0) (w.below u h))

  ring-is : (u : ℕ) → u < m.verts → ring fine.faces (fan (links fine.faces) (get_or fine.starts u 0)) ≡ map (mid_of m.verts m.faces) (spokes (fan ls (get_or m.starts u 0)))
  ring-is u h = rw (refined-faces n m w, start_is u h) (old-ring m.verts n m.faces w.good (get_or m.starts u 0) (w.below u h))

  pub plain_more : (ms : List Bool) (u : ℕ) → u < m.verts → PlainAt n m ms u → PlainAt (4 * n) fine (finer_marks n ms) u
  plain_more ms u h e =
      let f = fan ls (get_or m.starts u 0) in
      let q : map restart (corners f) ≡ corners (fan (links fine.faces) (get_or fine.starts u 0)) = sym (ap corners (fan-is u h) ∙ corners-as f) in
      subst (λ (cs : List ℕ). Each (Plain (4 * n) (finer_marks n ms)) cs) q (each_map (Plain n ms) (Plain (4 * n) (finer_marks n ms)) restart (plain-finer n ms) e)

  module _ (ms : List Bool) (b : Both n (links m.faces) ms) (ys : List Fraction) (c : ℕ) (axis : c < 3) where
    abbrev new : List Fraction
    new = new_positions exact m (links m.faces) ys

    abbrev marked : List Fraction
    marked = sharp_new exact m (links m.faces) ms ys

    first-dull : (s : ℕ) → Dull n ms s → sharp ms (get_or (firsts ls) (mid_of m.verts m.faces s - m.verts) 0) ≡ false
    first-dull s d = ap (sharp ms) (first-of m.verts n m.faces w.good s d.below) ∙ go (get_or ls s none) refl
      where
        side : (t : ℕ) → get_or ls s none ≡ some t → (z : Bool) → leb s t ≡ z → sharp ms (min s t) ≡ false
        side t e true q = let k : min s t ≡ s = omega (arith, leb→le s t (rw q tt)) in rw k d.mark
        side t e false q = let k : min s t ≡ t = omega (arith, nleb→lt s t (rw q tt)) in rw k (sym (b.same s t d.below e) ∙ d.mark)

        go : (o : Option ℕ) → get_or ls s none ≡ o → sharp ms (first_of s o) ≡ false
        go none e = d.mark
        go (some t) e = side t e (leb s t) refl

    mid-same : (s : ℕ) → Dull n ms s → coord exact marked c (mid_of m.verts m.faces s) ≡ coord exact new c (mid_of m.verts m.faces s)
    mid-same s d =
        let i = mid_of m.verts m.faces s - m.verts in
        let x = get_or (firsts ls) i 0 in
        let e : m.verts + i ≡ mid_of m.verts m.faces s = omega arith in
        let k : i < length (firsts ls) = omega (arith, mid-below m.verts n m.faces w.good s d.below) in
        let p : coord exact marked c (m.verts + i) ≡ coord exact new c (m.verts + i) =
        sharp-new-at exact m ls ms ys i c k axis ∙ ap (λ (z : Bool). sharp_edge exact m.faces ys x z (get_or ls x none) c) (first-dull s d) ∙ sym (new-at exact m ls ys i c k axis) in
        ap (coord exact marked c) (sym e) ∙ p ∙ ap (coord exact new c) e

    pub sharp-stays-at : (u : ℕ) → u < m.verts → PlainAt n m ms u → coord exact (sharp_limits exact fine (links fine.faces) (finer_marks n ms) marked) c u ≈F coord exact (sharp_limits exact m ls ms ys) c u
    unfolding positions finer
    sharp-stays-at u h e =
        let s = get_or m.starts u 0 in
        let f = fan ls s in
        let g = fan (links fine.faces) (get_or fine.starts u 0) in
        let full = filled ls s in
        let full' = filled (links fine.faces) (get_or fine.starts u 0) in
        let own : coord exact marked c u ≡ coord exact new c u =
        sharp-old-at exact m ls ms ys u c h axis ∙ creased-plain exact refining m.faces u n ms ys f full e c ∙ sym (old-at exact m ls ys u c h axis) in
        let ring-same = subst (λ (vs : List ℕ). Each (λ v. coord exact marked c v ≡ coord exact new c v) vs) (sym (ring-is u h))
        (each_map (Dull n ms) (λ v. coord exact marked c v ≡ coord exact new c v) (mid_of m.verts m.faces) mid-same (spokes-dull n ms f full e)) in
        let above = more-marked m u h in
        let p : coord exact (sharp_limits exact fine (links fine.faces) (finer_marks n ms) marked) c u ≡ coord exact (limits exact fine (links fine.faces) new) c u =
        sharp-limit-at exact fine (links fine.faces) (finer_marks n ms) marked u c above axis
        ∙ creased-plain exact limit fine.faces u (4 * n) (finer_marks n ms) marked g full' (plain_more ms u h e) c
        ∙ blended-same exact limit fine.faces u marked new g c full' own ring-same
        ∙ sym (limit-at exact fine (links fine.faces) new u c above axis) in
        let q : coord exact (sharp_limits exact m ls ms ys) c u ≡ coord exact (limits exact m ls ys) c u =
        sharp-limit-at exact m ls ms ys u c h axis ∙ creased-plain exact limit m.faces u n ms ys f full e c ∙ sym (limit-at exact m ls ys u c h axis) in
        ≈F-as p q (limit-stays n (record { mesh = m; points = ys }) w u c h axis)

-- ---- any number of levels

plain-next : (a : SharpLevel exact) → BothAt exact a → (v : ℕ) → v < a.mesh.verts → PlainAt (length a.mesh.faces / 3) a.mesh a.marks v
    → PlainAt (length (sharp_finer exact a).mesh.faces / 3) (sharp_finer exact a).mesh (sharp_finer exact a).marks v
unfolding sharp_finer
plain-next a b v h e =
    let n = length a.mesh.faces / 3 in
    let q : length (refined a.mesh (links a.mesh.faces)).faces / 3 ≡ 4 * n = omega (arith, (sound-refined n a.mesh b.sound).good.size) in
    rw q (plain_more n a.mesh b.sound a.marks v h e)

pub sharp-limits-stay : (l : ℕ) (a : SharpLevel exact) → BothAt exact a → (v c : ℕ) → v < a.mesh.verts → c < 3 → PlainAt (length a.mesh.faces / 3) a.mesh a.marks v
    → coord exact (sharp_positions exact (sharp_levels exact l a)) c v ≈F coord exact (sharp_positions exact a) c v
unfolding sharp_levels sharp_finer sharp_positions
sharp-limits-stay zero a b v c h k e = ≈F-refl _
sharp-limits-stay (suc l) a b v c h k e =
    ≈F-trans (sharp-limits-stay l (sharp_finer exact a) (both-next exact a b) v c (more-marked a.mesh v h) k (plain-next a b v h e))
    (sharp-stays-at (length a.mesh.faces / 3) a.mesh b.sound a.marks b.both a.points c k v h e)

-- ---- the control cage: an end of no listed side

module _ (v n : ℕ) (fs : List ℕ) (g : Good v n fs) (l : List ℕ) (u : ℕ) (apart : EndOfNone l fs u) where
  not-from : (s : ℕ) → corner fs s ≡ u → names l s ≡ false
  not-from s e = go (names l s) refl
    where
      go : (b : Bool) → names l s ≡ b → b ≡ false
      go true q = absurd (apart.from s q e)
      go false q = refl

  not-to : (s : ℕ) → corner fs (onward s) ≡ u → names l s ≡ false
  not-to s e = go (names l s) refl
    where
      go : (b : Bool) → names l s ≡ b → b ≡ false
      go true q = absurd (apart.to s q e)
      go false q = refl

  dull : (s : ℕ) → s < 3 * n → names l s ≡ false → ((t : ℕ) → get_or (links fs) s none ≡ some t → names l t ≡ false) → sharp (marks_of (links fs) l) s ≡ false
  dull s h a b = marks-at (links fs) l s (omega (arith, length-links fs, g.size)) ∙ rw a (go (get_or (links fs) s none) refl)
    where
      go : (o : Option ℕ) → get_or (links fs) s none ≡ o → names_across l o ≡ false
      go none q = refl
      go (some t) q = b t q

  plain-corner : (x : ℕ) → x < 3 * n → corner fs x ≡ u → Plain n (marks_of (links fs) l) x
  plain-corner x h e =
      let y = backward x in
      let k = back_below x n h in
      let c : corner fs (onward y) ≡ u = ap (corner fs) (on-back x) ∙ e in
      record {
        below = h;
        leaves = dull x h (not-from x e) (λ t q. not-to t ((link-twins v n fs g x t h q).to ∙ e));
        comes = dull y k (not-to y c) (λ t q. not-from t ((link-twins v n fs g y t k q).from ∙ c));
      }

  plain-first : (s : ℕ) → s < 3 * n → corner fs s ≡ u → Each (Plain n (marks_of (links fs) l)) (corners (fan (links fs) s))
  plain-first s h e =
      let c = fan-corners v n fs g s h in
      each_at (Plain n (marks_of (links fs) l)) (corners (fan (links fs) s)) (λ k j. plain-corner (get_or (corners (fan (links fs) s)) k 0) (c.below k j) (c.at k j ∙ e))

-- the exact limit position at n levels is that at none
pub sharp-exact-stays : (n : ℕ) (l fs : List ℕ) (xs : List ℤ) → Sound (length fs / 3) (cage (length xs / 3) fs) → find (unlinked (links fs)) l ≡ none → (v c : ℕ) → v < length xs / 3 → c < 3 → EndOfNone l fs v
    → coord exact (sharp_exact n l fs xs) c v ≈F coord exact (sharp_exact 0 l fs xs) c v
unfolding sharp_levels cage
sharp-exact-stays n l fs xs w f v c h k e =
    let q = length-map xs of_whole in
    sharp-limits-stay n (sharp_first exact l fs (map of_whole xs)) (record { sound = rw q w; both = both_first (length xs / 3) (length fs / 3) fs w.good l f }) v c (rw q h) k
    (rw q (plain-first (length xs / 3) (length fs / 3) fs w.good l v e _ (w.below v h) (w.starts v h)))

pub sharp-proof-and-plate : (n k : ℕ) (l fs : List ℕ) (xs : List ℤ) → refusal whole n fs xs ≡ none → find (unlinked (links fs)) l ≡ none → (v c : ℕ) → v < length xs / 3 → c < 3 → EndOfNone l fs v
    → nat_abs (coord whole (sharp_positions whole (sharp_last whole n l fs xs)) c v -ℤ coord whole (sharp_positions whole (sharp_last whole k l fs xs)) c v) * 2 ≤ n + k + 2
sharp-proof-and-plate n k l fs xs p f v c h j e =
    let w = (accepted whole n fs xs p).sound in
    let a = close-eq (near_of (sharp-demand-3 n l fs xs c v)) (sharp-exact-stays n l fs xs w f v c h j e) in
    let b = close-eq (near_of (sharp-demand-3 k l fs xs c v)) (sharp-exact-stays k l fs xs w f v c h j e) in
    omega (arith, gap (coord whole (sharp_positions whole (sharp_last whole n l fs xs)) c v) (coord whole (sharp_positions whole (sharp_last whole k l fs xs)) c v) (close-near a b))
