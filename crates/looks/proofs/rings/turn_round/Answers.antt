use borrow.Author.Rules.{rules}
use mathlib.Core.Path.{◌≡◌, sym, ap, ◌∙◌}
use mathlib.Core.List.{List}
use Prim.Native.Nat.{ℕ, ◌*◌, ◌<◌}
use Rattle.lists.specs.Lists.{part}
use Rattle.rules.specs.Mesh.{here, walk, links, next_corner, prev_corner, fan}
use Rattle.faces.specs.Rings.{trip_of, rim_turn, turn_of}
use Rattle.faces.specs.declared.walks.Trip.{Trip}
use Rattle.faces.proofs.Trips.{turn_by, turn_is}
use Rattle.looks.specs.Looked.{Seen}
use Rattle.looks.proofs.Walks.{faces-in, filled, end_below, next-below, prev-below}
use Rattle.looks.proofs.rings.turn_round.Goals as goal

-- the turn, by what the walk on found
turned : (w : List ℕ) (at n s : ℕ) → Seen w at n → s < 3 * n → (t : Trip) → t ≡ trip_of (walk (next_corner (links (part at (3 * n) w)) s) n (here s))
    → turn_of (fan (links (part at (3 * n) w)) s) ≡ turn_by (λ e. trip_of (walk (prev_corner (links (part at (3 * n) w)) e) n (here e))) t
turned w at n s p h t e =
    let ls = links (part at (3 * n) w) in
    turn_is ls n (filled w at n p s h) s (faces-in w at n p) ∙ ap (turn_by (λ e. trip_of (walk (prev_corner ls e) n (here e)))) (sym e)

pub walk-requires : goal.walk-requires
walk-requires c = let a = c.args in
    let p = c.requires.0 in
    record { start = c.requires.1; steps = record { asks = λ x h. (let l = p.listed in let d = p.apart in search rules); stays = λ x t h q. next-below a.words.now a.at a.nf p a.s x t h (search rules) } }

pub walk-requires-in-Ended : goal.walk-requires-in-Ended
walk-requires-in-Ended c = let a = c.args in
    let p = c.requires.0 in
    let e = c.in-Ended.end in
    let on = c.walk.ensures (next_corner (links (part a.at (3 * a.nf) a.words.now)) a.s) (record { each = λ x r b p. search rules }) in
    record {
      start = end_below a.words.now a.at a.nf p a.s c.requires.1 c.in-Ended.field-0 e (sym on ∙ c.in-Ended.is);
      steps = record { asks = λ x h. (let l = p.listed in let d = p.apart in search rules); stays = λ x t h q. prev-below a.words.now a.at a.nf p e x t h (search rules) };
    }

pub returns-in-Closed : goal.returns-in-Closed
returns-in-Closed c = let a = c.args in
    let on = c.walk.ensures (next_corner (links (part a.at (3 * a.nf) a.words.now)) a.s) (record { each = λ x r b p. search rules }) in
    sym (rw c.in-Closed.is at (turned a.words.now a.at a.nf a.s c.requires.0 c.requires.1 c.walk.result on))

pub returns-in-Ended : goal.returns-in-Ended
returns-in-Ended c = let a = c.args in
    let e = c.in-Ended.end in
    let on = c.walk.ensures (next_corner (links (part a.at (3 * a.nf) a.words.now)) a.s) (record { each = λ x r b p. search rules }) in
    let back = c.walk-in-Ended.ensures (prev_corner (links (part a.at (3 * a.nf) a.words.now)) e) (record { each = λ x r b p. search rules }) in
    sym (rw c.in-Ended.is at (turned a.words.now a.at a.nf a.s c.requires.0 c.requires.1 c.walk.result on) ∙ sym (c.rim_turn.ensures ∙ ap (λ (t : Trip). rim_turn t e) back))

pub returns-in-Long : goal.returns-in-Long
returns-in-Long c = let a = c.args in
    let on = c.walk.ensures (next_corner (links (part a.at (3 * a.nf) a.words.now)) a.s) (record { each = λ x r b p. search rules }) in
    sym (rw c.in-Long.is at (turned a.words.now a.at a.nf a.s c.requires.0 c.requires.1 c.walk.result on))
