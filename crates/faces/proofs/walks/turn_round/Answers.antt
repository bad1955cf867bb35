use borrow.Author.Rules.{rules}
use native.Mathlib.Omega.{arith}
use mathlib.Core.Path.{◌≡◌, sym, ap, ◌∙◌}
use mathlib.Core.List.{List}
use mathlib.Core.Option.{Option}
use Prim.Native.Nat.{ℕ, ◌+◌, ◌*◌, ◌<◌}
use lib.ListN.{length, get_or}
use Rattle.rules.specs.Mesh.{onward, backward, through, step_to, next_corner, prev_corner, here, walk}
use Rattle.faces.specs.Words.{link_of, links_in}
use Rattle.faces.specs.Rings.{Walkable, step_of, trip_of}
use Rattle.faces.specs.declared.walks.Step.{Step}
use Rattle.faces.specs.declared.walks.Step.TheVariants as step
use Rattle.rules.proofs.Refine.{back_below}
use Rattle.faces.proofs.Links.{next-at, next-below, prev-at, prev-below}
use Rattle.faces.specs.declared.walks.Trip.{Trip}
use Rattle.faces.specs.Rings.{rim_turn, turn_of}
use Rattle.rules.specs.Mesh.{fan}
use Rattle.faces.proofs.Trips.{turn_by, turn_is}
use Rattle.faces.proofs.Trails.{faces-in, filled, from-corner, end_below}
use Rattle.faces.proofs.walks.turn_round.Goals as goal

-- a step's answer is what the links say
module _ (w : List ℕ) (links n s : ℕ) (p : Walkable w links n s) where
  abbrev ls : List (Option ℕ)
  ls = links_in w links (3 * n)

  by-next : (x : ℕ) (r : Step) → x < 3 * n → r ≡ step_of (step_to s (through onward (link_of (get_or w (links + x) 0)))) → r ≡ step_of (next_corner ls s x)
  by-next x r b e = e ∙ sym (ap step_of (next-at w links n s p s x b))

  by-prev : (h x : ℕ) (r : Step) → x < 3 * n → r ≡ step_of (step_to h (link_of (get_or w (links + backward x) 0))) → r ≡ step_of (prev_corner ls h x)
  by-prev h x r b e = e ∙ sym (ap step_of (prev-at w links n s p h x b))

  -- the turn, by what the walk on found
  turned : (t : Trip) → t ≡ trip_of (walk (next_corner ls s) n (here s)) → turn_of (fan ls s) ≡ turn_by (λ e. trip_of (walk (prev_corner ls e) n (here e))) t
  turned t e = turn_is ls n (filled w links n s p) s (faces-in w links n s p) ∙ ap (turn_by (λ e. trip_of (walk (prev_corner ls e) n (here e)))) (sym e)

pub walk-requires : goal.walk-requires
walk-requires c = let a = c.args in
    record {
      start = c.requires.start;
      steps = record {
        asks = λ x h. (let k : a.links + x < length a.words.now = omega (arith, c.requires.room) in search rules);
        stays = λ x t h p. next-below a.words.now a.links a.nf a.s c.requires a.s x t h (sym (by-next a.words.now a.links a.nf a.s c.requires x (step.Here t) h (search rules)));
      };
    }

pub walk-requires-in-Ended : goal.walk-requires-in-Ended
walk-requires-in-Ended c = let a = c.args in
    let e = c.in-Ended.end in
    let q = from-corner a.words.now a.links a.nf a.s c.requires e
    (end_below a.words.now a.links a.nf a.s c.requires c.in-Ended.field-0 e (sym (c.walk.ensures (next_corner (links_in a.words.now a.links (3 * a.nf)) a.s) (record { each = λ x r b p. by-next a.words.now a.links a.nf a.s c.requires x r b (search rules) })) ∙ c.in-Ended.is)) in
    record {
      start = q.start;
      steps = record {
        asks = λ x h. (let k : a.links + backward x < length a.words.now = omega (arith, back_below x a.nf h, q.room) in search rules);
        stays = λ x t h p. prev-below a.words.now a.links a.nf a.s c.requires e x t h (sym (by-prev a.words.now a.links a.nf a.s c.requires e x (step.Here t) h (search rules)));
      };
    }

pub returns-in-Closed : goal.returns-in-Closed
returns-in-Closed c = let a = c.args in
    let on = c.walk.ensures (next_corner (links_in a.words.now a.links (3 * a.nf)) a.s) (record { each = λ x r b p. by-next a.words.now a.links a.nf a.s c.requires x r b (search rules) }) in
    sym (rw c.in-Closed.is at (turned a.words.now a.links a.nf a.s c.requires c.walk.result on))

pub returns-in-Ended : goal.returns-in-Ended
returns-in-Ended c = let a = c.args in
    let e = c.in-Ended.end in
    let on = c.walk.ensures (next_corner (links_in a.words.now a.links (3 * a.nf)) a.s) (record { each = λ x r b p. by-next a.words.now a.links a.nf a.s c.requires x r b (search rules) }) in
    let back = c.walk-in-Ended.ensures (prev_corner (links_in a.words.now a.links (3 * a.nf)) e) (record { each = λ x r b p. by-prev a.words.now a.links a.nf a.s c.requires e x r b (search rules) }) in
    sym (rw c.in-Ended.is at (turned a.words.now a.links a.nf a.s c.requires c.walk.result on) ∙ sym (c.rim_turn.ensures ∙ ap (λ (t : Trip). rim_turn t e) back))

pub returns-in-Long : goal.returns-in-Long
returns-in-Long c = let a = c.args in
    let on = c.walk.ensures (next_corner (links_in a.words.now a.links (3 * a.nf)) a.s) (record { each = λ x r b p. by-next a.words.now a.links a.nf a.s c.requires x r b (search rules) }) in
    sym (rw c.in-Long.is at (turned a.words.now a.links a.nf a.s c.requires c.walk.result on))
