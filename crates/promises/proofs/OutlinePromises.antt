-- What the promise of `rim_loops` says: one outcome, an answer to every call, nothing written by a refusal, the whole call's own answer but for 20, when 20 is answered, and that the
-- list holds the one outline of the last level.
use Rattle.std.specs.Prelude.{Err, Ok}
use mathlib.Core.Path.{◌≡◌, refl, sym, ap, ◌∙◌, subst}
use mathlib.Core.Logic.{◌≢◌}
use Prim.Native.Nat.{ℕ, ◌+◌, ◌*◌, ◌/◌, ◌^◌, ◌<◌, ◌≤◌}
use native.Mathlib.Omega.{arith}
use mathlib.Core.List.{List, []}
use mathlib.Core.Option.{none}
use lib.IntN.{ℤ}
use lib.ListN.{length, get_or, take}
use lib.Seq.{sets}
use Rattle.lists.specs.Lists.{gather}
use Rattle.lists.proofs.Stores.{part_of}
use Rattle.rules.specs.Mesh.{Mesh, links, rims, cage}
use Rattle.rules.specs.Position.{whole}
use Rattle.rules.specs.Levels.{last}
use Rattle.rules.specs.Refusals.{refusal}
use Rattle.rules.specs.Answers.{answer, outcome, written}
use Rattle.rules.specs.Calls.{Lent, Buffers, final, Call, whole_room, WholeCall}
use Rattle.rules.specs.declared.Refusal.{Refusal}
use Rattle.rules.specs.declared.Counts.{Counts}
use Rattle.rules.specs.Outcome.{Outcome}
use Rattle.loopsubdiv.proofs.Outcomes.{done}
use Rattle.outlines.specs.Loops.{outlines, listing, outline_of, loops_of, outline_outcome, traced, OutlineCall, traced_answer, OutlineTold}
use Rattle.outlines.specs.IsOutline.{IsOutline}
use Rattle.outlines.specs.declared.Outline.{Outline}
use Rattle.outlines.specs.Loops.{Traced}
use Rattle.outlines.proofs.Accepted.{outcome-short, outcome-done}
use Rattle.outlines.proofs.Answered.{listed-over-cage, loops-kept, firsts-kept, room-over-cage, outlined, no_other, closed-has-none, behind-refused, Behind, behind-outlined, Either, as-whole, list-short, either, succeeded}
use Rattle.promises.proofs.Promises.{agree, every-call-answers as answered-by, refusal-writes-nothing as Writes-nothing}

-- refusal number or 0
abbrev pub number_of : Traced → ℕ
number_of r = get_or (traced_answer r) 0 0

two-told : (o : Outcome) (rs : List (List ℕ)) → take 2 (traced_answer (traced o rs)) ≡ take 2 (answer o)
two-told (Ok c) rs = refl
two-told (Err r) rs = refl

module _ (l : ℕ) (fs : List ℕ) (xs : List ℤ) where
  abbrev rs : List (List ℕ)
  rs = loops_of l fs xs

  abbrev control : Mesh
  control = cage (length xs / 3) fs

  -- what is asked of the buffers, beside a list
  abbrev asked : List ℕ → Buffers ℤ → Outcome
  asked list old = outline_outcome (whole_room old) (length list) l fs xs

  -- two answers that are allowed are one, if the same is lent
  pub one-outcome : (b d : Lent (Buffers ℤ)) (list also : Lent (List ℕ)) (r q : Traced) → b.old ≡ d.old → list.old ≡ also.old
      → OutlineCall l fs xs b list r → OutlineCall l fs xs d also q → r ≡ q × (b.new ≡ d.new × list.new ≡ also.new)
  one-outcome b d list also r q lent same-list c k =
      let e = ap {B = Outcome} (λ x. asked x b.old) same-list ∙ ap {B = Outcome} (λ x. asked also.old x) lent in
      let o = agree whole (final whole (last whole l fs xs)) (asked list.old) (asked also.old) b d c.outcome k.outcome e lent c.call k.call in (
        c.answer ∙ ap {B = Traced} (λ x. traced x rs) o.0 ∙ sym k.answer,
        (
          o.1,
          c.left ∙ ap {B = List ℕ} (λ x. written x (listing rs) list.old) o.0 ∙ ap {B = List ℕ} (λ x. written k.outcome (listing rs) x) same-list ∙ sym k.left,
        ),
      )

  -- every call has an answer that is allowed, whatever is lent
  pub record Answered (old : Buffers ℤ) (list : List ℕ) : Type 0 where
    pub answer : Traced
    pub new : Buffers ℤ
    pub listed : List ℕ
    pub call : OutlineCall l fs xs (record { old = old; new = new }) (record { old = list; new = listed }) answer

  pub every-call-answers : (old : Buffers ℤ) (list : List ℕ) → Answered old list
  every-call-answers old list =
      let a = answered-by whole (final whole (last whole l fs xs)) (asked list) old in
      record {
        answer = traced a.answer rs;
        new = a.new;
        listed = written a.answer (listing rs) list;
        call = record { outcome = a.answer; call = a.call; answer = refl; left = refl };
      }

  -- ---- one call

  module _ (b : Lent (Buffers ℤ)) (list : Lent (List ℕ)) where
    -- a refusal writes nothing, the list included
    pub refusal-writes-nothing : (r : Refusal) → OutlineCall l fs xs b list (Err r) → b.new ≡ b.old × list.new ≡ list.old
    refusal-writes-nothing r c =
        let e = behind-refused c.outcome rs r c.answer in (
          Writes-nothing whole (final whole (last whole l fs xs)) (asked list.old) b r (subst (λ (x : Outcome). Call whole (asked list.old) (final whole (last whole l fs xs)) b x) e c.call),
          c.left ∙ ap {B = List ℕ} (λ x. written x (listing rs) list.old) e,
        )

    -- but for 20 it is the whole call: number, place and the four buffers
    pub record AsWhole (r : Traced) : Type 0 where
      pub outcome : Outcome
      pub call : WholeCall l fs xs b outcome
      pub told : take 2 (traced_answer r) ≡ take 2 (answer outcome)

    pub as-the-whole-call : (r : Traced) → number_of r ≢ 20 → OutlineCall l fs xs b list r → AsWhole r
    as-the-whole-call r d c = go (either (whole_room b.old) (length list.old) l fs xs)
      where
        go : Either (whole_room b.old) (length list.old) l fs xs → AsWhole r
        go (as-whole e) = record {
          outcome = c.outcome;
          call = record { answer = c.call.answer ∙ e; positions = c.call.positions; indices = c.call.indices; words = c.call.words; work = c.call.work };
          told = ap (λ (z : Traced). take 2 (traced_answer z)) c.answer ∙ two-told c.outcome rs;
        }
        go (list-short k e h q) = absurd (d (ap number_of c.answer ∙ ap (λ (z : Outcome). number_of (traced z rs)) (c.call.answer ∙ q)))

    -- ---- when 20 is answered: the whole call succeeds, and the list is shorter than 2^l R + loops, both of the control cage
    module _ (k : Counts) (e : outcome whole (whole_room b.old) l fs xs ≡ Ok k) where
      passes : refusal whole l fs xs ≡ none
      passes = (done whole (whole_room b.old) l fs xs k e).passes

      abbrev needed : ℕ
      needed = 2 ^ l * rims (links fs) + length (outlines control)

      room : length (listing rs) ≡ needed
      room = room-over-cage l fs xs passes

      pub short-list-is-20 : (r : Traced) → OutlineCall l fs xs b list r → length list.old < needed → r ≡ Err (record { number = 20; place = 0 })
      short-list-is-20 r c h =
          c.answer ∙ ap (λ (z : Outcome). traced z rs) (c.call.answer ∙ outcome-short (whole_room b.old) (length list.old) l fs xs k e (omega (arith, room, h)))

      pub long-list-succeeds : (r : Traced) → OutlineCall l fs xs b list r → needed ≤ length list.old → r ≡ Ok (outline_of rs)
      long-list-succeeds r c h =
          c.answer ∙ ap (λ (z : Outcome). traced z rs) (c.call.answer ∙ outcome-done (whole_room b.old) (length list.old) l fs xs k e (omega (arith, room, h)))

    -- ---- after success

    module _ (a : Outline) (c : OutlineCall l fs xs b list (Ok a)) where
      behind : Behind c.outcome rs a
      behind = behind-outlined c.outcome rs a c.answer

      succeeds : (outcome whole (whole_room b.old) l fs xs ≡ Ok behind.counts) × (length (listing rs) ≤ length list.old)
      succeeds = succeeded (whole_room b.old) (length list.old) l fs xs behind.counts (sym c.call.answer ∙ behind.is)

      accepts : refusal whole l fs xs ≡ none
      accepts = passes behind.counts succeeds.0

      listed-front : list.new ≡ sets list.old 0 (listing rs)
      listed-front = c.left ∙ ap {B = List ℕ} (λ z. written z (listing rs) list.old) behind.is

      pub record TheOutline : Type 0 where
        -- "loops and vertices listed"
        pub loops : a.loops ≡ length (outlines control)
        pub listed : a.listed ≡ 2 ^ l * rims (links fs)
        -- loop i begins at the vertex at which loop i of the control cage begins
        pub starts : (i : ℕ) → i < a.loops → get_or (get_or rs i []) 0 0 ≡ get_or (get_or (outlines control) i []) 0 0
        -- the list: at its front the one outline of the last level, each loop after its length
        pub front : take (a.listed + a.loops) list.new ≡ listing rs
        pub outline : IsOutline (last whole l fs xs).mesh rs
        pub only : (ts : List (List ℕ)) → IsOutline (last whole l fs xs).mesh ts → ts ≡ rs

      pub what-is-listed : TheOutline
      what-is-listed =
          let e = accepts in
          let p : a.loops ≡ length (outlines control) = ap (λ (z : Outline). z.loops) behind.tells ∙ loops-kept l fs xs e in
          let q : a.listed ≡ 2 ^ l * rims (links fs) = ap (λ (z : Outline). z.listed) behind.tells ∙ listed-over-cage l fs xs e in
          let n : length (listing rs) ≡ a.listed + a.loops = omega (arith, room-over-cage l fs xs e, p, q) in
          record {
            loops = p;
            listed = q;
            starts = λ i h. firsts-kept l fs xs e i (omega (arith, h, p, loops-kept l fs xs e));
            front = ap (λ (z : List ℕ). take (a.listed + a.loops) z) listed-front ∙ part_of (listing rs) list.old 0 (a.listed + a.loops) n (omega (arith, n, succeeds.1));
            outline = outlined l fs xs e;
            only = no_other l fs xs e;
          }

      -- a cage without rim sides has no loops, and its list is left as it was
      pub closed_none : rims (links fs) ≡ 0 → a.loops ≡ 0 × (a.listed ≡ 0 × list.new ≡ list.old)
      closed_none z =
          let e = closed-has-none l fs xs accepts z in (
            ap (λ (y : Outline). y.loops) behind.tells ∙ ap (λ (y : List (List ℕ)). length y) e,
            (
              ap (λ (y : Outline). y.listed) behind.tells ∙ ap (λ (y : List (List ℕ)). length (gather (λ x. x) y)) e,
              listed-front ∙ ap (λ (y : List (List ℕ)). sets list.old 0 (listing y)) e,
            ),
          )

-- ---- for C: two answers that are allowed are told alike

pub one-outcome-told : (l : ℕ) (fs : List ℕ) (xs : List ℤ) (b d : Lent (Buffers ℤ)) (list other : Lent (List ℕ)) (told also : List ℕ) → b.old ≡ d.old → list.old ≡ other.old
    → OutlineTold l fs xs b list told → OutlineTold l fs xs d other also → told ≡ also × (b.new ≡ d.new × list.new ≡ other.new)
one-outcome-told l fs xs b d list other told also lent same-list c k =
    let e = one-outcome l fs xs b d list other c.answer k.answer lent same-list c.kept k.kept in
    (c.four ∙ ap {B = List ℕ} (λ a. traced_answer a) e.0 ∙ sym k.four, e.1)
