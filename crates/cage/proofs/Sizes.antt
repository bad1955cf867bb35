-- The counts of a control cage, known ahead.
use Rattle.std.specs.Prelude.{Ok}
use mathlib.Core.Path.{◌≡◌, refl, sym, ap, ap₂, ◌∙◌}
use Prim.Native.Nat.{ℕ, ◌+◌, ◌*◌, ◌/◌, ◌^◌}
use native.Mathlib.Omega.{arith}
use mathlib.Core.List.{List}
use mathlib.Core.Option.{Option, none, some}
use lib.ListN.{length}
use Rattle.rules.specs.Mesh.{Mesh, links, rims, firsts, cage}
use Rattle.rules.specs.Levels.{Sizes, sizes, after, last}
use Rattle.rules.specs.Position.{Numbers}
use Rattle.rules.specs.Refusals.{refusal, size_refusal}
use Rattle.rules.specs.Answers.{counted, unless}
use Rattle.rules.specs.declared.Counts.{Counts}
use Rattle.rules.specs.declared.Refusal.{Refusal}
use Rattle.rules.proofs.Cage.{accepted}
use Rattle.rules.proofs.Refine.{Good}
use Rattle.rules.proofs.Totals.{edges-twice}
use Rattle.rules.proofs.Levels.{level, mesh-levels, counts_of, counts-level, rims-level}
use Rattle.limits.specs.Sizes.{over_of}
use Rattle.cage.specs.Sizes.{cage_counts}

pub sizes-are : (v n : ℕ) (fs : List ℕ) → Good v n fs → sizes (cage v fs) ≡ record { verts = v; faces = n; edges = (3 * n + rims (links fs)) / 2 }
unfolding cage
sizes-are v n fs g =
    let a : length fs / 3 ≡ n = omega (arith, g.size) in
    let b : length (firsts (links fs)) ≡ (3 * n + rims (links fs)) / 2 = omega (arith, edges-twice v n fs g) in
    rw (a, b)

pub size_is : (l v : ℕ) (fs : List ℕ) → size_refusal l v fs ≡ over_of (cage_counts l v fs)
unfolding size_refusal
size_is l v fs = refl

abbrev put : Sizes → ℕ → Counts
put s r = record { vertices = s.verts; faces = s.faces; rims = r }

-- what is counted on the last level of an accepted cage
pub counts_of_lem : (𝓝 : Numbers) (l : ℕ) (fs : List ℕ) (xs : List 𝓝.N) → refusal 𝓝 l fs xs ≡ none → counted (last 𝓝 l fs xs).mesh ≡ cage_counts l (length xs / 3) fs
unfolding cage
counts_of_lem 𝓝 l fs xs e =
    let v = length xs / 3 in
    let n = length fs / 3 in
    let w = (accepted 𝓝 l fs xs e).sound in
    let c = counts-level l n (cage v fs) w in
    let r = rims-level l n (cage v fs) w in
    ap counted (mesh-levels 𝓝 l _) ∙ both (level l (cage v fs)) (after l (sizes (cage v fs))) (2 ^ l * rims (links fs)) c r
  where
    both : (m : Mesh) (s : Sizes) (q : ℕ) → counts_of m ≡ s → rims (links m.faces) ≡ q → counted m ≡ record { vertices = s.verts; faces = s.faces; rims = q }
    both m s q a b = ap₂ put a b

pub counts-ahead : (𝓝 : Numbers) (l : ℕ) (fs : List ℕ) (xs : List 𝓝.N)
    → unless (refusal 𝓝 l fs xs) (Ok (cage_counts l (length xs / 3) fs)) ≡ unless (refusal 𝓝 l fs xs) (Ok (counted (last 𝓝 l fs xs).mesh))
counts-ahead 𝓝 l fs xs = go (refusal 𝓝 l fs xs) refl
  where
    go : (o : Option Refusal) → refusal 𝓝 l fs xs ≡ o → unless o (Ok (cage_counts l (length xs / 3) fs)) ≡ unless o (Ok (counted (last 𝓝 l fs xs).mesh))
    go none e = ap Ok (sym (counts_of_lem 𝓝 l fs xs e))
    go (some r) e = refl
