-- For a caller whose words hold a sound mesh: what a level asks, and what it leaves, said of that mesh.
use Prim.Native.Nat.{ℕ, ◌+◌, ◌*◌, ◌≤◌, ◌<◌}
use mathlib.Core.Path.{◌≡◌, sym, ap, ap₂, ◌∙◌}
use mathlib.Core.Logic.{◌⊎◌}
use mathlib.Core.List.{List}
use lib.ListN.{length}
use Rattle.lists.specs.Lists.{part}
use Rattle.turns.specs.Turns.{most_valence}
use Rattle.rules.specs.Mesh.{Mesh, links, firsts}
use Rattle.rules.proofs.Sound.{Sound}
use Rattle.rules.proofs.Levels.{Small}
use Rattle.faces.specs.Words.{Holds}
use Rattle.faces.proofs.Held.{faces-held, links-held, starts-held}
use Rattle.levels.specs.Level.{mesh_in, Ready}
use Rattle.levels.specs.Moves.{Movable}

module _ (w : List ℕ) (at n : ℕ) (m : Mesh) (h : Holds w at m) (p : Sound n m) where
  pub mesh-is : mesh_in w at n m.verts ≡ m
  mesh-is = ap₂ {C = Mesh} (λ fs ss. record { verts = m.verts; faces = fs; starts = ss }) (faces-held w at n m h p.good) (starts-held w at n m h p.good)

  -- how many edges there are
  pub edges_are : length (firsts (links (part at (3 * n) w))) ≡ length (firsts (links m.faces))
  edges_are = ap (λ (fs : List ℕ). length (firsts (links fs))) (faces-held w at n m h p.good)

  pub ready : (to : ℕ) → at + 9 * n + m.verts ≤ length w → to + 24 * n + (m.verts + length (firsts (links m.faces))) ≤ length w →
      (at + 9 * n + m.verts ≤ to) ⊎ (to + 24 * n + (m.verts + length (firsts (links m.faces))) ≤ at) → m.verts + 12 * n + 16 < 4294967296 → Ready w at to n m.verts
  ready to a b c d = record {
    sound = rw mesh-is p;
    linked = links-held w at n m h p.good ∙ ap links (sym (faces-held w at n m h p.good));
    old = a;
    new = rw edges_are b;
    apart = rw edges_are c;
    small = d;
  }

  -- and what the moves ask, and give
  pub movable : Small most_valence m → m.verts + 3 * n < 4294967296 → Movable w at n m.verts
  movable few small = record { holds = rw mesh-is h; sound = rw mesh-is p; few = rw mesh-is few; small = small }
