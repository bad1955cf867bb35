-- Link words, and what they say of a side.
use Prim.Native.Nat.{ℕ, zero, suc, ◌-◌, ◌≤◌, ◌<◌}
use mathlib.Core.Path.{◌≡◌}
use mathlib.Core.Bool.{false}
use mathlib.Core.Option.{some}
use native.Mathlib.Omega.{arith}
use borrow.Author.Tests.{leb-false}
use Rattle.rules.specs.Mesh.{is_first}
use Rattle.faces.proofs.Links.{link-word}
use Rattle.faces.specs.Words.{link_of}

-- the link word of a side that was met before
pub record Later (w s : ℕ) : Type 0 where
  pub above : 0 < w
  pub below : w ≤ s
  pub is : link_of w ≡ some (w - 1)

pub later-word : (w s : ℕ) → is_first s (link_of w) ≡ false → Later w s
later-word zero s e = absurd (let z : ◌≡◌ {A = ℕ} 0 1 = cc in omega arith)
later-word (suc t) s e = record { above = omega arith; below = leb-false s t e; is = link-word (suc t) (λ q. omega arith) }
