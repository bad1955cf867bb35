-- What the checks establish of a mesh, and that one level keeps it.
use mathlib.Core.Path.{◌≡◌, refl, sym, ap, ◌∙◌}
use Prim.Native.Nat.{ℕ, ◌+◌, ◌-◌, ◌*◌, ◌/◌, ◌<◌}
use native.Mathlib.Omega.{arith}
use native.Mathlib.Decide.{dec_lt}
use mathlib.Core.List.{List, [], ◌∷◌, ◌++◌, map}
use mathlib.Core.Option.{Option, none, some}
use lib.ListN.{length, get_or, length-map, length-append, get_or-append}
use lib.Seq.{get_or-append-add}
pub use Rattle.rules.specs.Sound.{In, Sound}
use Rattle.rules.specs.Mesh.{onward, corner, links, restart, fourth, firsts, Fan, inner, rim, endless, fan, corners, Mesh, refined}
use Rattle.lists.proofs.Places.{get_d_map}
use Rattle.rules.proofs.Sides.{Twins}
use Rattle.rules.proofs.Refine.{Good, Shares, itself, across, finer_of, mid_of, good-finer, edges, Kind, first, second, cut, core, kind, link-is, middle-shares, at-restart, at-fourth}
use Rattle.rules.proofs.Links.{half2, restart-below, fourth-below}
use Rattle.rules.proofs.Fans.{map_fan, fan-finer}
use Rattle.rules.proofs.Number.{first-at}
use Rattle.rules.proofs.Turns.{fan-ends}
use Rattle.rules.proofs.Edges.{fan-inner, fan-rim}

pub in-at : (cs : List ℕ) (k x : ℕ) → k < length cs → get_or cs k 0 ≡ x → In cs x
in-at cs k x h e = record { place = k; below = h; is = e }

pub in_map : (r : ℕ → ℕ) (cs : List ℕ) (x : ℕ) → In cs x → In (map r cs) (r x)
in_map r cs x w =
    in-at (map r cs) w.place (r x) (rw (length-map cs r) w.below) (get_d_map r cs w.place 0 0 w.below ∙ ap r w.is)

pub corners-as : (r : ℕ → ℕ) (f : Fan) → corners (map_fan r f) ≡ map r (corners f)
corners-as r (inner cs) = refl
corners-as r (rim cs) = refl
corners-as r endless = refl

module _ (v n : ℕ) (fs : List ℕ) (g : Good v n fs) where
  -- the corners of an old vertex
  old-whole : (s x : ℕ) → s < 3 * n → x < 3 * (4 * n) → corner (finer_of v n fs) x ≡ corner fs s
      → ((y : ℕ) → y < 3 * n → corner fs y ≡ corner fs s → In (corners (fan (links fs) s)) y)
      → In (corners (fan (links (finer_of v n fs)) (restart s))) x
  old-whole s x h k e w = go (kind v n fs g x k)
    where
      go : Kind v n fs g x → In (corners (fan (links (finer_of v n fs)) (restart s))) x
      go (first y hy q p) =
          rw (fan-finer v n fs g s h (fan-ends v n fs g s h), corners-as restart (fan (links fs) s), q)
          (in_map restart (corners (fan (links fs) s)) y (w y hy (sym p.from ∙ e)))
      go (second y hy q p) = absurd (omega (arith, p.from, g.below s h))
      go (cut y hy q p) = absurd (omega (arith, p.from, g.below s h))
      go (core y hy q p) = absurd (omega (arith, p.from, g.below s h))

  -- the corners of a new one
  new-whole : (s x : ℕ) → s < 3 * n → x < 3 * (4 * n) → corner (finer_of v n fs) x ≡ mid_of v fs s
      → In (corners (fan (links (finer_of v n fs)) (fourth s))) x
  new-whole s x h k e = go (get_or (links fs) s none) refl (kind v n fs g x k)
    where
      six : ℕ → List ℕ
      six t = fourth s ∷ half2 s ∷ onward (restart t) ∷ fourth t ∷ half2 t ∷ onward (restart s) ∷ []

      three : List ℕ
      three = half2 s ∷ fourth s ∷ onward (restart s) ∷ []

      share : (y : ℕ) → y < 3 * n → corner (finer_of v n fs) x ≡ mid_of v fs y → Shares fs s y
      share y hy q = middle-shares v n fs g s y h hy (sym e ∙ q)

      other : (y t : ℕ) → Twins fs s y → get_or (links fs) s none ≡ some t → y ≡ t
      other y t w l = let r = link-is v n fs g s y h w in cc

      lone : {X : Type 0} (y : ℕ) → Twins fs s y → get_or (links fs) s none ≡ none → X
      lone y w l = let r = link-is v n fs g s y h w in absurd (let z : ◌≡◌ {A = ℕ} 0 1 = cc in omega arith)

      go : (o : Option ℕ) → get_or (links fs) s none ≡ o → Kind v n fs g x → In (corners (fan (links (finer_of v n fs)) (fourth s))) x
      go none l (first y hy q p) = absurd (omega (arith, p.from, g.below y hy))
      go none l (second y hy q p) = rw (fan-rim v n fs g s h l) (at (share y hy p.from))
        where
          at : Shares fs s y → In three x
          at (itself r) = in-at three 0 x (omega arith) (sym (q ∙ ap half2 r))
          at (across r) = lone y r l
      go none l (cut y hy q p) = rw (fan-rim v n fs g s h l) (at (share y hy p.from))
        where
          at : Shares fs s y → In three x
          at (itself r) = in-at three 2 x (omega arith) (sym (q ∙ ap (λ (z : ℕ). onward (restart z)) r))
          at (across r) = lone y r l
      go none l (core y hy q p) = rw (fan-rim v n fs g s h l) (at (share y hy p.from))
        where
          at : Shares fs s y → In three x
          at (itself r) = in-at three 1 x (omega arith) (sym (q ∙ ap fourth r))
          at (across r) = lone y r l
      go (some t) l (first y hy q p) = absurd (omega (arith, p.from, g.below y hy))
      go (some t) l (second y hy q p) = rw (fan-inner v n fs g s t h l) (at (share y hy p.from))
        where
          at : Shares fs s y → In (six t) x
          at (itself r) = in-at (six t) 1 x (omega arith) (sym (q ∙ ap half2 r))
          at (across r) = in-at (six t) 4 x (omega arith) (sym (q ∙ ap half2 (other y t r l)))
      go (some t) l (cut y hy q p) = rw (fan-inner v n fs g s t h l) (at (share y hy p.from))
        where
          at : Shares fs s y → In (six t) x
          at (itself r) = in-at (six t) 5 x (omega arith) (sym (q ∙ ap (λ (z : ℕ). onward (restart z)) r))
          at (across r) = in-at (six t) 2 x (omega arith) (sym (q ∙ ap (λ (z : ℕ). onward (restart z)) (other y t r l)))
      go (some t) l (core y hy q p) = rw (fan-inner v n fs g s t h l) (at (share y hy p.from))
        where
          at : Shares fs s y → In (six t) x
          at (itself r) = in-at (six t) 0 x (omega arith) (sym (q ∙ ap fourth r))
          at (across r) = in-at (six t) 3 x (omega arith) (sym (q ∙ ap fourth (other y t r l)))

  -- the starts of the refined mesh
  module _ (ss : List ℕ) (sized : length ss ≡ v) where
    abbrev pub fresh : List ℕ
    fresh = map restart ss ++ map fourth (firsts (links fs))

    fresh-sized : length fresh ≡ v + edges v n fs g
    fresh-sized = simp (length-append, length-map) (omega arith)

    pub old-start : (u : ℕ) → u < v → get_or fresh u 0 ≡ restart (get_or ss u 0)
    old-start u h =
        get_or-append (map restart ss) (map fourth (firsts (links fs))) 0 u (rw (length-map ss restart) (omega arith))
        ∙ get_d_map restart ss u 0 0 (omega arith)

    pub new-start : (i : ℕ) → i < edges v n fs g → get_or fresh (v + i) 0 ≡ fourth (get_or (firsts (links fs)) i 0)
    new-start i h =
        let e : length (map restart ss) ≡ v = length-map ss restart ∙ sized in
        ap (λ (z : ℕ). get_or fresh (z + i) 0) (sym e)
        ∙ get_or-append-add (map restart ss) (map fourth (firsts (links fs))) i 0
        ∙ get_d_map fourth (firsts (links fs)) i 0 0 h

-- one level keeps it
pub sound-refined : (n : ℕ) (m : Mesh) → Sound n m → Sound (4 * n) (refined m (links m.faces))
unfolding refined
sound-refined n m w =
    let fs = m.faces in
    let v = m.verts in
    let g = w.good in
    let ss = m.starts in
    let a : length fs / 3 ≡ n = omega (arith, g.size) in
    rw a (record {
      good = good-finer v n fs g;
      sized = fresh-sized v n fs g ss w.sized;
      below = λ u h. below u h (dec_lt u v);
      starts = λ u h. at u h (dec_lt u v);
      whole = λ u x h k e. whole u x h k e (dec_lt u v);
    })
  where
    v : ℕ
    v = m.verts

    fs : List ℕ
    fs = m.faces

    g : Good v n fs
    g = w.good

    new : List ℕ
    new = map restart m.starts ++ map fourth (firsts (links fs))

    low : (u : ℕ) → u < v → get_or new u 0 ≡ restart (get_or m.starts u 0)
    low u h = old-start v n fs g m.starts w.sized u h

    high : (u : ℕ) → u < v + edges v n fs g → ¬ (u < v) → get_or new u 0 ≡ fourth (get_or (firsts (links fs)) (u - v) 0)
    high u h l =
        let e : v + (u - v) ≡ u = omega arith in
        rw e at (new-start v n fs g m.starts w.sized (u - v) (omega arith))

    below : (u : ℕ) → u < v + edges v n fs g → Dec (u < v) → get_or new u 0 < 3 * (4 * n)
    below u h (yes l) = rw (low u l) (restart-below (get_or m.starts u 0) n (w.below u l))
    below u h (no l) = rw (high u h l) (fourth-below (get_or (firsts (links fs)) (u - v) 0) n (first-at v n fs g (u - v) (omega arith)).below)

    at : (u : ℕ) → u < v + edges v n fs g → Dec (u < v) → corner (finer_of v n fs) (get_or new u 0) ≡ u
    at u h (yes l) = rw (low u l) (at-restart v n fs g (get_or m.starts u 0) (w.below u l) ∙ w.starts u l)
    at u h (no l) =
        let f = first-at v n fs g (u - v) (omega arith) in
        rw (high u h l) (at-fourth v n fs g (get_or (firsts (links fs)) (u - v) 0) f.below ∙ f.is ∙ omega arith)

    whole : (u x : ℕ) → u < v + edges v n fs g → x < 3 * (4 * n) → corner (finer_of v n fs) x ≡ u → Dec (u < v) → In (corners (fan (links (finer_of v n fs)) (get_or new u 0))) x
    whole u x h k e (yes l) =
        rw (low u l) (old-whole v n fs g (get_or m.starts u 0) x (w.below u l) k (e ∙ sym (w.starts u l)) (λ y hy q. w.whole u y l hy (q ∙ w.starts u l)))
    whole u x h k e (no l) =
        let f = first-at v n fs g (u - v) (omega arith) in
        rw (high u h l) (new-whole v n fs g (get_or (firsts (links fs)) (u - v) 0) x f.below k (e ∙ sym (f.is ∙ omega arith)))
