-- Request 6: what the rules give by the count of sharp and rim edges is what the definition gives over the fan.
use mathlib.Core.Path.{◌≡◌, refl, ap, ap₂, ◌∙◌}
use mathlib.Core.Logic.{◌≢◌}
use Prim.Native.Nat.{ℕ, zero, suc, ◌+◌, ◌-◌, ◌*◌, ◌≤◌, ◌<◌}
use native.Mathlib.Omega.{arith}
use mathlib.Core.Bool.{Bool, true, false}
use mathlib.Core.List.{List, [], ◌∷◌}
use lib.ListN.{length, get_or, take, length-map}
use lib.Seq.{sets, length-sets}
use lib.IntN.{ℤ}
use borrow.Author.Tests.{lt-ltb, le-ltb, eq-eqb, ne_eqb}
use Rattle.lists.specs.Lists.{pick, part, keep}
use Rattle.lists.proofs.Places.{get_d_map, last-at}
use Rattle.lists.proofs.Stores.{part_of}
use Rattle.turns.specs.Turns.{most_valence}
use Rattle.rules.specs.Mesh.{onward, backward, corner, links, Fan, inner, rim, endless, fan, ring, Mesh}
use Rattle.rules.specs.Position.{Stage, Numbers}
use Rattle.rules.specs.Levels.{coord, three}
use Rattle.rules.specs.Sharp.{sharp, creases, by_creases, creased, sharp_moved}
use Rattle.rules.proofs.Sides.{on_below}
use Rattle.rules.proofs.Refine.{Good, back_below}
use Rattle.rules.proofs.Turns.{Turned, round, fringe, fan-ends}
use Rattle.rules.proofs.Sound.{Sound}
use Rattle.rules.proofs.Levels.{Small}
use Rattle.rules.proofs.Range.{AllNear}
use Rattle.faces.specs.Words.{links_in, Holds}
use Rattle.faces.proofs.Held.{faces-held, fan-held, start_is, start-ring}
use Rattle.weights.specs.Lent.{by_ring, Readable, AllReadable}
use Rattle.weights.proofs.Joins.{fan_at, ring_at, readable, three-by, filled, below, turns, ring-filled, ring-few, ring-readable}
use Rattle.creases.specs.declared.rings.SharpRing.{SharpRing}
use Rattle.creases.specs.Rings.{sharp_ring_of}
use Rattle.creases.specs.Counted.{by_count, Creasable}

module _ (𝓝 : Numbers) (s : Stage) (xs : List 𝓝.N) (v : ℕ) (vs : List ℕ) where
  pub by_count_lem : (es : List ℕ) (c : ℕ) → by_count 𝓝 s xs v vs (length es) (get_or es 0 0) (get_or es 1 0) c ≡ by_creases 𝓝 s xs v vs es c
  by_count_lem [] c = refl
  by_count_lem (a ∷ []) c = refl
  by_count_lem (a ∷ b ∷ []) c = refl
  by_count_lem (a ∷ b ∷ d ∷ es) c = rw (le-ltb (suc (suc (suc (length es)))) 2 (omega arith), ne_eqb (suc (suc (suc (length es)))) 2 (λ z. omega arith))

  -- by the tests that the code makes
  pub count-ring : (k a b : ℕ) → k < 2 → three 𝓝 (by_ring 𝓝 s xs v false vs) ≡ three 𝓝 (by_count 𝓝 s xs v vs k a b)
  count-ring k a b h = rw (lt-ltb k 2 h)

  pub count-pair : (k a b : ℕ) → k ≡ 2 → three 𝓝 (by_ring 𝓝 s xs v true (a ∷ b ∷ [])) ≡ three 𝓝 (by_count 𝓝 s xs v vs k a b)
  count-pair k a b h = rw (le-ltb k 2 (omega arith), eq-eqb k 2 h)

  pub count-stay : (k a b : ℕ) → 2 ≤ k → (k ≡ 2 → ⊥) → three 𝓝 (λ c. coord 𝓝 xs c v) ≡ three 𝓝 (by_count 𝓝 s xs v vs k a b)
  count-stay k a b h f = rw (le-ltb k 2 h, ne_eqb k 2 f)

  by-creased : (fs : List ℕ) (ms : List Bool) (f : Fan) → f ≢ endless → vs ≡ ring fs f → (c : ℕ)
      → by_count 𝓝 s xs v vs (length (creases fs ms f)) (get_or (creases fs ms f) 0 0) (get_or (creases fs ms f) 1 0) c ≡ creased 𝓝 s fs ms xs v f c
  by-creased fs ms (inner cs) e q c = by_count_lem (creases fs ms (inner cs)) c ∙ ap (λ (l : List ℕ). by_creases 𝓝 s xs v l (creases fs ms (inner cs)) c) q
  by-creased fs ms (rim cs) e q c = by_count_lem (creases fs ms (rim cs)) c ∙ ap (λ (l : List ℕ). by_creases 𝓝 s xs v l (creases fs ms (rim cs)) c) q
  by-creased fs ms endless e q c = absurd (e refl)

pub pair_readable : {xs : List ℤ} {a b : ℕ} → Readable xs a → Readable xs b → AllReadable xs (a ∷ b ∷ [])
pair_readable {xs} {a} {b} p q = record { few = omega arith; at = go }
  where
    go : (k : ℕ) → k < 2 → Readable xs (get_or (a ∷ b ∷ []) k 0)
    go zero h = p
    go (suc zero) h = q
    go (suc (suc k)) h = absurd (omega arith)

-- what holds of each holds of those that are kept
all-kept : (P : ℕ → Type 0) (p : ℕ → Bool) (l : List ℕ) → ((k : ℕ) → k < length l → P (get_or l k 0)) → (k : ℕ) → k < length (keep p l) → P (get_or (keep p l) k 0)
all-kept P p [] h k b = absurd (omega arith)
all-kept P p (x ∷ l) h k b = go (all-kept P p l (λ i c. h (suc i) (omega arith))) (p x) k b
  where
    go : ((k : ℕ) → k < length (keep p l) → P (get_or (keep p l) k 0)) → (c : Bool) (k : ℕ) → k < length (pick c (x ∷ keep p l) (keep p l)) → P (get_or (pick c (x ∷ keep p l) (keep p l)) k 0)
    go rec true zero b = h 0 (omega arith)
    go rec true (suc k) b = rec k (omega arith)
    go rec false k b = rec k b

module _ (v n : ℕ) (fs : List ℕ) (g : Good v n fs) (s : ℕ) (ms : List Bool) where
  crease-below : (f : Fan) → Turned n fs s f → (k : ℕ) → k < length (creases fs ms f) → get_or (creases fs ms f) k 0 < v
  crease-below _ (round cs r) k h =
      let ks = keep (sharp ms) cs in
      let l : k < length ks = omega (arith, length-map ks (λ (x : ℕ). corner fs (onward x))) in
      rw (get_d_map (λ (x : ℕ). corner fs (onward x)) ks k 0 0 l)
      (g.below (onward (get_or ks k 0)) (on_below (get_or ks k 0) n (all-kept (λ x. x < 3 * n) (sharp ms) cs (λ i b. r.corners.below i b) k l)))
  crease-below _ (fringe cs r) zero h = below v n fs g s (rim cs) (fringe cs r) 0 (filled v n fs g s (rim cs) (fringe cs r))
  crease-below _ (fringe cs r) (suc zero) h =
      let vs = ring fs (rim cs) in
      let o = filled v n fs g s (rim cs) (fringe cs r) in
      rw (last-at 0 vs o) (below v n fs g s (rim cs) (fringe cs r) (length vs - 1) (omega arith))
  crease-below _ (fringe cs r) (suc (suc k)) h =
      let ks = keep (λ x. sharp ms (backward x)) cs in
      let l : k < length ks = omega (arith, length-map ks (λ (x : ℕ). corner fs (backward x))) in
      rw (get_d_map (λ (x : ℕ). corner fs (backward x)) ks k 0 0 l)
      (g.below (backward (get_or ks k 0)) (back_below (get_or ks k 0) n (all-kept (λ x. x < 3 * n) (λ x. sharp ms (backward x)) cs (λ i b. r.corners.below i b) k l)))

-- ---- the ring of vertex u with its sharp edges, as `sharp_ring` leaves it in lent numbers o that were l, of a mesh that stands in words w
module _ (w : List ℕ) (at n : ℕ) (m : Mesh) (h : Holds w at m) (p : Sound n m) (few : Small most_valence m) (u : ℕ) (k : u < m.verts) (ms : List Bool)
    (x : SharpRing) (e : x ≡ sharp_ring_of (part at (3 * n) w) ms (fan (links_in w (at + 3 * n) (3 * n)) (get_or w (at + 6 * n + u) 0)))
    (l o : List ℕ) (long : most_valence ≤ length l) (f : o ≡ sets l 0 (ring (part at (3 * n) w) (fan (links_in w (at + 3 * n) (3 * n)) (get_or w (at + 6 * n + u) 0)))) where
  is : x ≡ sharp_ring_of m.faces ms (fan_at m u)
  is =
      e ∙ ap₂ (λ (a : List ℕ) (b : Fan). sharp_ring_of a ms b) (faces-held w at n m h p.good) (fan-held w at n m h p.good (get_or w (at + 6 * n + u) 0))
      ∙ ap (λ (s : ℕ). sharp_ring_of m.faces ms (fan (links m.faces) s)) (start_is w at n m h p u k)

  stored : o ≡ sets l 0 (ring_at m u)
  stored = f ∙ ap (sets l 0) (start-ring w at n m h p u k)

  counted : x.n ≡ length (ring_at m u)
  counted = ap (λ (y : SharpRing). y.n) is

  pub sharp-fits : x.n ≤ length o
  sharp-fits = omega (arith, counted, ring-few n m p few u k, ap length stored ∙ length-sets l 0 (ring_at m u))

  pub sharp-lent : take x.n o ≡ ring_at m u
  sharp-lent = ap₂ (λ (j : ℕ) (y : List ℕ). take j y) counted stored ∙ part_of (ring_at m u) l 0 (length (ring_at m u)) refl (omega (arith, ring-few n m p few u k))

  pub sharp-readable : {xs : List ℤ} → 3 * m.verts ≤ length xs → AllNear xs → Readable xs u × ((0 < length (take x.n o)) × AllReadable xs (take x.n o))
  sharp-readable r a = rw sharp-lent (readable r a k, (ring-filled n m p few u k, ring-readable n m p few u k r a))

  pub sharp-ends : {xs : List ℤ} → 3 * m.verts ≤ length xs → AllNear xs → Creasable xs x.creases x.a x.b
  sharp-ends r a =
      let es = creases m.faces ms (fan_at m u) in
      let c : x.creases ≡ length es = ap (λ (y : SharpRing). y.creases) is in
      let below_at : (i : ℕ) → i < length es → get_or es i 0 < m.verts = crease-below m.verts n m.faces p.good (get_or m.starts u 0) ms (fan_at m u) (turns n m p few u k) in
      let ea : x.a ≡ get_or es 0 0 = ap (λ (y : SharpRing). y.a) is in
      let eb : x.b ≡ get_or es 1 0 = ap (λ (y : SharpRing). y.b) is in
      record { ends = λ q. (rw ea (readable r a (below_at 0 (omega (arith, c, q)))), rw eb (readable r a (below_at 1 (omega (arith, c, q))))) }

  pub sharp-moved : (𝓝 : Numbers) (s : Stage) (xs q : List 𝓝.N) → q ≡ three 𝓝 (by_count 𝓝 s xs u (take x.n o) x.creases x.a x.b) → q ≡ sharp_moved 𝓝 s m (links m.faces) ms xs u
  unfolding sharp_moved
  sharp-moved 𝓝 s xs q r =
      r ∙ ap₂ (λ (vs : List ℕ) (y : SharpRing). three 𝓝 (by_count 𝓝 s xs u vs y.creases y.a y.b)) sharp-lent is
      ∙ three-by 𝓝 s m.faces xs u _ _ (by-creased 𝓝 s xs u (ring_at m u) m.faces ms (fan_at m u) (fan-ends m.verts n m.faces p.good (get_or m.starts u 0) (p.below u k)) refl)
