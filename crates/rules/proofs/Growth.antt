-- How levels grow: one more level at the end, and every level before the last is within its sizes.
use mathlib.Core.Path.{◌≡◌, refl}
use Prim.Native.Nat.{ℕ, zero, suc, ◌+◌, ◌-◌, ◌*◌, ◌/◌, ◌≤◌, ◌<◌}
use native.Mathlib.Omega.{arith}
use native.Mathlib.Numerals.{add-one}
use native.Mathlib.Nat.{zero-add, suc-add}
use lib.ListN.{length}
use Rattle.rules.specs.Mesh.{links, Mesh, refined}
use Rattle.rules.specs.Position.{Numbers}
use Rattle.rules.specs.Levels.{Level, finer, levels}
use Rattle.rules.proofs.Sound.{Sound}
use Rattle.rules.proofs.Levels.{level, faces_at, sound-level}

-- one more level
pub levels-more : (𝓝 : Numbers) (i : ℕ) (a : Level 𝓝) → levels 𝓝 (i + 1) a ≡ finer 𝓝 (levels 𝓝 i a)
unfolding levels
levels-more 𝓝 i a = rw add-one (go i a)
  where
    go : (i : ℕ) (a : Level 𝓝) → levels 𝓝 (suc i) a ≡ finer 𝓝 (levels 𝓝 i a)
    go zero a = refl
    go (suc i) a = go i (finer 𝓝 a)

pub level-add : (i k : ℕ) (m : Mesh) → level (i + k) m ≡ level k (level i m)
unfolding level
level-add zero k m = rw zero-add
level-add (suc i) k m = rw suc-add (level-add i k (refined m (links m.faces)))

-- vertices never become fewer
grows : (k : ℕ) (m : Mesh) → m.verts ≤ (level k m).verts
unfolding level refined
grows zero m = omega arith
grows (suc k) m = omega (arith, grows k (refined m (links m.faces)))

pub verts-up : (i l : ℕ) (m : Mesh) → i ≤ l → (level i m).verts ≤ (level l m).verts
verts-up i l m h =
    let e : i + (l - i) ≡ l = omega arith in
    let g = grows (l - i) (level i m) in
    rw (← e) (rw level-add g)

faces-grow : (k n : ℕ) → n ≤ faces_at k n
faces-grow zero n = omega arith
faces-grow (suc k) n = omega (arith, faces-grow k (4 * n))

faces-add : (i k n : ℕ) → faces_at (i + k) n ≡ faces_at k (faces_at i n)
faces-add zero k n = rw zero-add
faces-add (suc i) k n = rw suc-add (faces-add i k (4 * n))

pub faces-up : (i l n : ℕ) → i ≤ l → faces_at i n ≤ faces_at l n
faces-up i l n h =
    let e : i + (l - i) ≡ l = omega arith in
    rw (← e) (rw faces-add (faces-grow (l - i) (faces_at i n)))

-- before the last level there is room for four times as many faces
pub faces-four : (i l n : ℕ) → i < l → 4 * faces_at i n ≤ faces_at l n
faces-four i l n h =
    let e : i + suc (l - suc i) ≡ l = omega arith in
    rw (← e) (rw faces-add (faces-grow (l - suc i) (4 * faces_at i n)))

pub faces-more : (i n : ℕ) → faces_at (i + 1) n ≡ 4 * faces_at i n
faces-more i n = faces-add i 1 n

-- the faces of a level, counted
pub faces-counted : (i n : ℕ) (m : Mesh) → Sound n m → length (level i m).faces / 3 ≡ faces_at i n
faces-counted i n m w = let s = sound-level i n m w in omega (arith, s.good.size)
