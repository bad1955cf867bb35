-- 13 asks for nothing where no level is made: the checks 1 to 12 are the judgement at level 0.
use Rattle.std.specs.Prelude.{Err, Ok}
use Prim.Native.Nat.{ℕ, ◌/◌, ◌≤◌}
use mathlib.Core.Path.{◌≡◌, refl, sym, ap, ◌∙◌}
use mathlib.Core.List.{List}
use mathlib.Core.Option.{Option, none, some}
use native.Mathlib.Omega.{arith}
use lib.ListN.{length}
use borrow.Author.Tests.{le-ltb, eq-eqb}
use Rattle.rules.specs.Mesh.{cage}
use Rattle.rules.specs.Position.{Numbers}
use Rattle.rules.specs.Refusals.{◌or_else◌, most_in_cage, most_in_mesh, shape_refusal, range_refusal, list_refusal, fan_refusal, size_refusal, refusal, mesh_refusal}
use Rattle.rules.specs.declared.Refusal.{Refusal}
use Rattle.rules.proofs.Checks.{Shape, shape_of}
use Rattle.rules.specs.Answers.{unless}
use Rattle.rules.specs.declared.Counts.{Counts}
use Rattle.limits.specs.Verdicts.{verdict_of}
use Rattle.limits.proofs.Search.{passes}

or_nothing : (a : Option Refusal) → (a or_else none) ≡ a
or_nothing none = refl
or_nothing (some r) = refl

shape-at-0 : (l is cs : ℕ) → Shape l is cs → shape_refusal 0 is cs ≡ none
unfolding shape_refusal
shape-at-0 l is cs s = rw (eq-eqb _ 0 s.indices, eq-eqb _ 0 s.coords, le-ltb most_in_cage (is / 3) s.faces, le-ltb most_in_cage (cs / 3) s.verts)

module _ (𝓝 : Numbers) (l : ℕ) (fs : List ℕ) (xs : List 𝓝.N) (e : shape_refusal l (length fs) (length xs) ≡ none) where
  small : size_refusal 0 (length xs / 3) fs ≡ none
  unfolding size_refusal cage
  small =
      let s = shape_of l (length fs) (length xs) e in
      let f : length fs / 3 ≤ 4096 = s.faces in
      let v : length xs / 3 ≤ 4096 = s.verts in
      rw (le-ltb most_in_mesh (length fs / 3) (omega arith), le-ltb most_in_mesh (length xs / 3) (omega arith))

  pub mesh-at-0 : mesh_refusal 𝓝 l fs xs ≡ refusal 𝓝 0 fs xs
  unfolding mesh_refusal refusal
  mesh-at-0 = rw (e, shape-at-0 l (length fs) (length xs) (shape_of l (length fs) (length xs) e), small, or_nothing (fan_refusal (length xs / 3) fs)) refl

-- ---- what the two stages answer together

pub stage-no : (𝓝 : Numbers) (l : ℕ) (fs : List ℕ) (xs : List 𝓝.N) (r : Refusal) → verdict_of (shape_refusal l (length fs) (length xs)) ≡ Err r → Err r ≡ verdict_of (mesh_refusal 𝓝 l fs xs)
unfolding mesh_refusal
stage-no 𝓝 l fs xs r e =
    let v = length xs / 3 in
    go (shape_refusal l (length fs) (length xs)) (range_refusal 𝓝 xs or_else list_refusal v fs or_else fan_refusal v fs) e
  where
    go : (a b : Option Refusal) → verdict_of a ≡ Err r → Err r ≡ verdict_of (a or_else b)
    go none b e = absurd (let z : ◌≡◌ {A = ℕ} 0 1 = cc in omega arith)
    go (some x) b e = sym e

said-no : (o : Option Refusal) (c : Counts) (r : Refusal) → unless o (Ok c) ≡ Err r → Err r ≡ verdict_of o
said-no none c r e = absurd (let z : ◌≡◌ {A = ℕ} 0 1 = cc in omega arith)
said-no (some x) c r e = cc

said-pass : (o : Option Refusal) (c d : Counts) → unless o (Ok c) ≡ Ok d → (Ok tt) ≡ verdict_of o
said-pass none c d e = refl
said-pass (some x) c d e = absurd (let z : ◌≡◌ {A = ℕ} 0 1 = cc in omega arith)

module _ (𝓝 : Numbers) (l : ℕ) (fs : List ℕ) (xs : List 𝓝.N) (e : verdict_of (shape_refusal l (length fs) (length xs)) ≡ (Ok tt)) where
  at-0 : refusal 𝓝 0 fs xs ≡ mesh_refusal 𝓝 l fs xs
  at-0 = sym (mesh-at-0 𝓝 l fs xs (passes _ e))

  pub judged-no : (c : Counts) (r : Refusal) → unless (refusal 𝓝 0 fs xs) (Ok c) ≡ Err r → Err r ≡ verdict_of (mesh_refusal 𝓝 l fs xs)
  judged-no c r h = said-no (refusal 𝓝 0 fs xs) c r h ∙ ap verdict_of at-0

  pub judged-pass : (c d : Counts) → unless (refusal 𝓝 0 fs xs) (Ok c) ≡ Ok d → (Ok tt) ≡ verdict_of (mesh_refusal 𝓝 l fs xs)
  judged-pass c d h = said-pass (refusal 𝓝 0 fs xs) c d h ∙ ap verdict_of at-0
