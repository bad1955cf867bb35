-- The rules over two kinds of number on one mesh: if numbers related to a degree e give numbers related to e + 1 under each rule, then all that the levels
-- and the limit make of them is related, a degree further at each step.
use mathlib.Core.Path.{◌≡◌, sym, ap, ◌∙◌}
use Prim.Native.Nat.{ℕ, zero, suc, ◌+◌, ◌*◌, ◌/◌, zero-le, suc-le-suc}
use native.Mathlib.Omega.{arith}
use mathlib.Core.List.{List, ◌∷◌, map}
use mathlib.Core.Option.{Option, none, some}
use lib.ListN.{length, get_or, length-map}
use Rattle.lists.specs.Lists.{count, last_of}
use Rattle.lists.proofs.Pairs.{Pairs, nil, cons, pairs-at, pairs-append, pairs-map, pairs-gather}
use Rattle.rules.specs.Mesh.{onward, corner, links, here, Stop, closed, ended, long, walk, passed, stop_of, next_corner, prev_corner, Fan, inner, rim, endless, rim_fan, fan_of, fan, ring, Mesh, cage, firsts, refined}
use Rattle.rules.specs.Position.{Stage, refining, limit, Rule, ring_rule, rim_rule, Numbers}
use Rattle.rules.specs.Levels.{ends, coord, three, blended, moved, edge_at, new_positions, limits, first, finer, levels, last, positions}
use Rattle.rules.proofs.Levels.{level, mesh-levels}
use Rattle.rules.proofs.Weights.{AddsUp, ring-adds-up, rim-adds-up}

-- ---- a fan that ends has one corner at least, so every rule has weights that add up

pub data Filled : Fan → Type 0 where
  round : {x : ℕ} {cs : List ℕ} → Filled (inner (x ∷ cs))
  fringe : {x : ℕ} {cs : List ℕ} → Filled (rim (x ∷ cs))
  lost : Filled endless

filled-rim : (x : ℕ) (cs : List ℕ) (e : Stop) → Filled (rim_fan (x ∷ cs) e)
filled-rim x cs closed = lost
filled-rim x cs ended = fringe
filled-rim x cs long = lost

filled_of : (ls : List (Option ℕ)) (n x : ℕ) (cs : List ℕ) (e : Stop) → Filled (fan_of ls (suc n) (x ∷ cs) e)
filled_of ls n x cs closed = round
filled_of ls n x cs ended =
    let e = last_of x cs in
    let w = walk (prev_corner ls e) n (prev_corner ls e e) in
    filled-rim e (passed w) (stop_of w)
filled_of ls n x cs long = lost

filled-by : (ls : List (Option ℕ)) (s n : ℕ) → Filled (fan_of ls n (passed (walk (next_corner ls s) n (here s))) (stop_of (walk (next_corner ls s) n (here s))))
filled-by ls s zero = lost
filled-by ls s (suc n) = let w = walk (next_corner ls s) n (next_corner ls s s) in filled_of ls n s (passed w) (stop_of w)

pub filled : (ls : List (Option ℕ)) (s : ℕ) → Filled (fan ls s)
unfolding fan
filled ls s = filled-by ls s (length ls / 3)

-- ---- what a family of relations must keep

pub record Keeps (𝓝 𝓜 : Numbers) (R : ℕ → 𝓝.N → 𝓜.N → Type 0) : Type 0 where
  pub nought : (e : ℕ) → R e 𝓝.nought 𝓜.nought
  pub more : {e : ℕ} {x : 𝓝.N} {y : 𝓜.N} → R e x y → R (suc e) x y
  pub blend : {e : ℕ} {x : 𝓝.N} {y : 𝓜.N} {xs : List 𝓝.N} {ys : List 𝓜.N} (r : Rule) → AddsUp r (length xs) → R e x y → Pairs (R e) xs ys
      → R (suc e) (𝓝.blend r x xs) (𝓜.blend r y ys)
  pub halves : {e : ℕ} {a b : 𝓝.N} {c d : 𝓜.N} → R e a c → R e b d → R (suc e) (𝓝.halves a b) (𝓜.halves c d)
  pub eighths : {e : ℕ} {a b c d : 𝓝.N} {i j k l : 𝓜.N} → R e a i → R e b j → R e c k → R e d l → R (suc e) (𝓝.eighths a b c d) (𝓜.eighths i j k l)

module _ (𝓝 𝓜 : Numbers) (R : ℕ → 𝓝.N → 𝓜.N → Type 0) (K : Keeps 𝓝 𝓜 R) where
  -- ---- one level, and the limit

  module _ (e : ℕ) (xs : List 𝓝.N) (ys : List 𝓜.N) (p : Pairs (R e) xs ys) where
    pub at : (c v : ℕ) → R e (coord 𝓝 xs c v) (coord 𝓜 ys c v)
    at c v = pairs-at (R e) 𝓝.nought 𝓜.nought (K.nought e) p (3 * v + c)

    pub of-fan : (s : Stage) (fs : List ℕ) (v : ℕ) (f : Fan) → Filled f → (c : ℕ) → R (suc e) (blended 𝓝 s fs xs v f c) (blended 𝓜 s fs ys v f c)
    of-fan s fs v _ (round {x} {cs}) c =
        let vs = ring fs (inner (x ∷ cs)) in
        let a : length (map (coord 𝓝 xs c) vs) ≡ suc (length cs) = length-map vs (coord 𝓝 xs c) ∙ length-map (x ∷ cs) (λ s. corner fs (onward s)) in
        K.blend (ring_rule s (suc (length cs))) (rw a (ring-adds-up s (suc (length cs)) (suc-le-suc zero-le))) (at c v) (pairs-map (R e) (coord 𝓝 xs c) (coord 𝓜 ys c) (at c) vs)
    of-fan s fs v _ (fringe {x} {cs}) c =
        K.blend (rim_rule s) (rim-adds-up s) (at c v) (pairs-map (R e) (coord 𝓝 xs c) (coord 𝓜 ys c) (at c) (ends (ring fs (rim (x ∷ cs)))))
    of-fan s fs v _ lost c = K.more (at c v)

    pub of_three : (f : ℕ → 𝓝.N) (g : ℕ → 𝓜.N) → ((c : ℕ) → R (suc e) (f c) (g c)) → Pairs (R (suc e)) (three 𝓝 f) (three 𝓜 g)
    of_three f g h = cons (h 0) (cons (h 1) (cons (h 2) nil))

    pub related-moved : (s : Stage) (m : Mesh) (ls : List (Option ℕ)) (v : ℕ) → Pairs (R (suc e)) (moved 𝓝 s m ls xs v) (moved 𝓜 s m ls ys v)
    unfolding moved
    related-moved s m ls v = let f = fan ls (get_or m.starts v 0) in of_three _ _ (of-fan s m.faces v f (filled ls (get_or m.starts v 0)))

    pub of-edge : (fs : List ℕ) (s : ℕ) (o : Option ℕ) (c : ℕ) → R (suc e) (edge_at 𝓝 fs xs s o c) (edge_at 𝓜 fs ys s o c)
    of-edge fs s none c = K.halves (at c _) (at c _)
    of-edge fs s (some t) c = K.eighths (at c _) (at c _) (at c _) (at c _)

    pub related-new : (m : Mesh) (ls : List (Option ℕ)) → Pairs (R (suc e)) (new_positions 𝓝 m ls xs) (new_positions 𝓜 m ls ys)
    unfolding new_positions
    related-new m ls =
        pairs-append (R (suc e))
        (pairs-gather (R (suc e)) (moved 𝓝 refining m ls xs) (moved 𝓜 refining m ls ys) (related-moved refining m ls) (count 0 m.verts))
        (pairs-gather (R (suc e)) _ _ (λ s. of_three _ _ (of-edge m.faces s (get_or ls s none))) (firsts ls))

    pub related-limits : (m : Mesh) (ls : List (Option ℕ)) → Pairs (R (suc e)) (limits 𝓝 m ls xs) (limits 𝓜 m ls ys)
    unfolding limits
    related-limits m ls = pairs-gather (R (suc e)) (moved 𝓝 limit m ls xs) (moved 𝓜 limit m ls ys) (related-moved limit m ls) (count 0 m.verts)

  -- ---- all levels, from one mesh

  pub related-levels : (l e : ℕ) (m : Mesh) (xs : List 𝓝.N) (ys : List 𝓜.N) → Pairs (R e) xs ys
      → Pairs (R (e + l)) (levels 𝓝 l (record { mesh = m; points = xs })).points (levels 𝓜 l (record { mesh = m; points = ys })).points
  unfolding levels finer
  related-levels zero e m xs ys p = let a : e + 0 ≡ e = omega arith in rw a p
  related-levels (suc l) e m xs ys p =
      let ls = links m.faces in
      let a : e + suc l ≡ suc e + l = omega arith in
      rw a (related-levels l (suc e) (refined m ls) (new_positions 𝓝 m ls xs) (new_positions 𝓜 m ls ys) (related-new e xs ys p m ls))

  pub related-positions : (l e : ℕ) (m : Mesh) (xs : List 𝓝.N) (ys : List 𝓜.N) → Pairs (R e) xs ys
      → Pairs (R (suc (e + l))) (positions 𝓝 (levels 𝓝 l (record { mesh = m; points = xs }))) (positions 𝓜 (levels 𝓜 l (record { mesh = m; points = ys })))
  unfolding positions
  related-positions l e m xs ys p =
      rw (mesh-levels 𝓝 l (record { mesh = m; points = xs }), mesh-levels 𝓜 l (record { mesh = m; points = ys }))
      (related-limits (e + l) _ _ (related-levels l e m xs ys p) (level l m) (links (level l m).faces))

-- ---- the mesh does not depend on the kind of number

pub same-mesh : (𝓝 𝓜 : Numbers) (l : ℕ) (fs : List ℕ) (xs : List 𝓝.N) (ys : List 𝓜.N) → length xs ≡ length ys → (last 𝓝 l fs xs).mesh ≡ (last 𝓜 l fs ys).mesh
same-mesh 𝓝 𝓜 l fs xs ys e =
    mesh-levels 𝓝 l (first 𝓝 fs xs) ∙ ap (λ (n : ℕ). level l (cage (n / 3) fs)) e ∙ sym (mesh-levels 𝓜 l (first 𝓜 fs ys))
