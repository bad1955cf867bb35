-- The whole call with sharp sides: what its list can change, and what it cannot; demand 3, and a proof and a plate of one cage.
use Rattle.std.specs.Prelude.{Ok}
use mathlib.Core.Path.{◌≡◌, refl, sym, ap, ◌∙◌}
use Prim.Native.Nat.{ℕ, ◌+◌, ◌*◌, ◌/◌, ◌<◌, ◌≤◌}
use native.Mathlib.Omega.{arith}
use mathlib.Core.Bool.{Bool}
use mathlib.Core.List.{List, ◌∷◌}
use mathlib.Core.Option.{none, some}
use lib.IntN.{ℤ, pos, nat_abs, ◌-ℤ◌}
use lib.ListN.{length, get_or, take}
use Rattle.lists.specs.Lists.{find}
use Rattle.lists.proofs.Stores.{part_of}
use Rattle.whole.specs.Fraction.{Within}
use Rattle.rules.specs.Mesh.{Mesh, links, cage}
use Rattle.rules.specs.Position.{whole, exact}
use Rattle.rules.specs.Levels.{coord, last, positions}
use Rattle.rules.specs.Answers.{written}
use Rattle.rules.specs.Sharp.{names, SharpLevel, sharp_levels, sharp_last, sharp_positions, sharp_exact, unlinked, EndOfNone}
use Rattle.rules.specs.Calls.{Lent, Buffers, whole_room, SharpCall, WholeCall}
use Rattle.rules.specs.declared.Counts.{Counts}
use Rattle.rules.proofs.Cage.{accepted}
use Rattle.rules.proofs.Sound.{Sound}
use Rattle.rules.proofs.Sharp.{sharp-demand-3, sharp-mesh, same_names, length-sharp-positions}
use Rattle.rules.proofs.Marked.{same-linked, across-linked, across-last}
use Rattle.rules.proofs.SharpSettled.{sharp-proof-and-plate}
use Rattle.loopsubdiv.proofs.SharpOutcomes.{SharpDone, sharp-done, sharp-success, sharp-plain}
use Rattle.promises.proofs.Promises.{stands, whole-rooms, whole-faces}
use Rattle.promises.proofs.Together.{control-first}

-- ---- marks move points alone: the same call with no list succeeds too, with these counts and faces

module _ (l : ℕ) (sharp fs : List ℕ) (xs : List ℤ) (b : Lent (Buffers ℤ)) (c : Counts) (call : SharpCall l sharp fs xs b (Ok c)) where
  -- the buffers, with the positions of the call that lists none
  abbrev pub smooth : Lent (Buffers ℤ)
  smooth = record {
    old = b.old;
    new = record { positions = written (Ok c) (positions whole (last whole l fs xs)) b.old.positions; indices = b.new.indices; words = b.new.words; work = b.new.work };
  }

  pub marks-move-points-alone : WholeCall l fs xs smooth (Ok c)
  marks-move-points-alone =
      record {
        answer = sym (sharp-plain (whole_room b.old) l sharp fs xs c (sym call.answer));
        positions = refl;
        indices = call.indices;
        words = call.words;
        work = call.work;
      }

  pub accepted-list : SharpDone (whole_room b.old) l sharp fs xs c
  accepted-list = sharp-done (whole_room b.old) l sharp fs xs c (sym call.answer)

  pub sharp-faces : take (3 * c.faces) b.new.indices ≡ (last whole l fs xs).mesh.faces
  sharp-faces = whole-faces l fs xs smooth c marks-move-points-alone

  positions-long : length (sharp_positions whole (sharp_last whole l sharp fs xs)) ≡ 3 * c.vertices
  positions-long =
      length-sharp-positions whole (sharp_last whole l sharp fs xs)
      ∙ ap (λ (m : Mesh). 3 * m.verts) (sharp-mesh whole l sharp fs xs)
      ∙ ap (λ (d : Counts). 3 * d.vertices) accepted-list.counts

  room : 3 * c.vertices ≤ length b.old.positions
  room = (whole-rooms l fs xs smooth c marks-move-points-alone).positions

  pub sharp-positions : take (3 * c.vertices) b.new.positions ≡ sharp_positions whole (sharp_last whole l sharp fs xs)
  sharp-positions =
      ap (λ (x : List ℤ). take (3 * c.vertices) x) call.positions
      ∙ part_of (sharp_positions whole (sharp_last whole l sharp fs xs)) b.old.positions 0 (3 * c.vertices) positions-long (omega (arith, room))

  pub sharp-position : (v k : ℕ) → v < c.vertices → k < 3 → get_or b.new.positions (3 * v + k) (pos 0) ≡ coord whole (sharp_positions whole (sharp_last whole l sharp fs xs)) k v
  sharp-position v k h j =
      ap (λ (x : List ℤ). get_or x (3 * v + k) (pos 0)) call.positions
      ∙ stands (sharp_positions whole (sharp_last whole l sharp fs xs)) b.old.positions (3 * c.vertices) (3 * v + k) (pos 0) positions-long room (omega arith)

  -- demand 3, "with these rules in the exact mesh"
  pub sharp-demand-3-of-the-call : (v k : ℕ) → v < c.vertices → k < 3 → Within (l + 1) (get_or b.new.positions (3 * v + k) (pos 0)) (coord exact (sharp_exact l sharp fs xs) k v)
  sharp-demand-3-of-the-call v k h j = rw (sharp-position v k h j) (sharp-demand-3 l sharp fs xs k v)

  -- ---- a list is the set of edges that it names

  -- another list, that passes 18 and gives the same level
  listed-anew : (list : List ℕ) → find (unlinked (links fs)) list ≡ none → sharp_last whole l sharp fs xs ≡ sharp_last whole l list fs xs → SharpCall l list fs xs b (Ok c)
  listed-anew list q e =
      let d = accepted-list in
      record {
        answer = sym (sharp-success (whole_room b.old) l list fs xs c d.listed.passes q d.counts d.room);
        positions = call.positions ∙ ap {B = List ℤ} (λ (a : SharpLevel whole). written (Ok c) (sharp_positions whole a) b.old.positions) e;
        indices = call.indices;
        words = call.words;
        work = call.work;
      }

  -- "The list may name a side twice to no effect": in any order, and as often as one likes
  pub same-sides : (list : List ℕ) → ((s : ℕ) → names sharp s ≡ names list s) → SharpCall l list fs xs b (Ok c)
  same-sides list h =
      listed-anew list (same-linked (links fs) sharp list h accepted-list.listed.linked)
      (ap (λ (ms : List Bool). sharp_levels whole l (record { mesh = cage (length xs / 3) fs; marks = ms; points = xs })) (same_names (links fs) sharp list h))

-- "marked on both faces": the side across serves as well
pub side-across : (l s t : ℕ) (sharp fs : List ℕ) (xs : List ℤ) (b : Lent (Buffers ℤ)) (c : Counts) → s < length fs → get_or (links fs) s none ≡ some t → SharpCall l (s ∷ sharp) fs xs b (Ok c)
    → SharpCall l (t ∷ sharp) fs xs b (Ok c)
unfolding cage
side-across l s t sharp fs xs b c h q call = go (accepted whole l fs xs d.listed.passes).sound
  where
    d : SharpDone (whole_room b.old) l (s ∷ sharp) fs xs c
    d = accepted-list l (s ∷ sharp) fs xs b c call

    go : Sound (length fs / 3) (cage (length xs / 3) fs) → SharpCall l (t ∷ sharp) fs xs b (Ok c)
    go w =
        listed-anew l (s ∷ sharp) fs xs b c call (t ∷ sharp)
        (across-linked (length xs / 3) (length fs / 3) fs w.good s t sharp (omega (arith, w.good.size)) q d.listed.linked)
        (across-last whole l fs xs l s t sharp d.listed.passes h q)

-- ---- "[5] holds for vertices that are an end of no marked side": coordinate j of control vertex v, as it stands in the positions after l levels and after k

pub sharp-proof-and-plate-of-the-calls : (l k : ℕ) (sharp fs : List ℕ) (xs : List ℤ) (proof plate : Lent (Buffers ℤ)) (c d : Counts)
    → SharpCall l sharp fs xs proof (Ok c) → SharpCall k sharp fs xs plate (Ok d)
    → (v j : ℕ) → v < length xs / 3 → j < 3 → EndOfNone sharp fs v → nat_abs (get_or proof.new.positions (3 * v + j) (pos 0) -ℤ get_or plate.new.positions (3 * v + j) (pos 0)) * 2 ≤ l + k + 2
sharp-proof-and-plate-of-the-calls l k sharp fs xs proof plate c d call again v j h i e =
    let p = smooth l sharp fs xs proof c call in
    let q = smooth k sharp fs xs plate d again in
    let a = sharp-position l sharp fs xs proof c call v j (control-first l fs xs p c (marks-move-points-alone l sharp fs xs proof c call) v h) i in
    let b = sharp-position k sharp fs xs plate d again v j (control-first k fs xs q d (marks-move-points-alone k sharp fs xs plate d again) v h) i in
    let done = accepted-list l sharp fs xs proof c call in
    rw (a, b) (sharp-proof-and-plate l k sharp fs xs done.listed.passes done.listed.linked v j h i e)
