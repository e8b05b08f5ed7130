-- The last letter, a line that was laid from the front on, and which way a call goes. Assumes nothing.
use Rattle.std.specs.Prelude.{Err}
use mathlib.Core.Path.{◌≡◌, refl, sym, ap, ◌∙◌}
use mathlib.Core.List.{List}
use Prim.Native.Nat.{ℕ, ◌+◌, ◌≤◌, ◌<◌}
use native.Mathlib.Omega.{arith}
use borrow.Author.Tests.{le-leb, lt-leb}
use lib.ListN.{length}
use Rattle.generator.specs.Generator.{stepped}
use Rattle.generator.specs.declared.Generator.{Generator}
use Rattle.group.specs.Choice.{◌and◌, ◌≤?◌}
use Rattle.group.specs.Lent.{front, Laid}
use Rattle.group.specs.Limits.{members_most}
use Rattle.group.specs.Opening as group
use Rattle.group.specs.Opening.{Opened}
use Rattle.group.specs.declared.Refusal.{Refusal}
use Rattle.group.specs.declared.Refusal.TheVariants.{UnsoundState, Opening}
use Rattle.group.proofs.Choice.{when_ne, when_true, when_false, both_hold, first_fails, then_fails}
use Rattle.model.specs.World.{Event, hand_sequencer}
use Rattle.simulator.specs.Whole.{packets_most}
use Rattle.text.specs.LaidAt.{LaidAt}
use Rattle.text.specs.Written.{line}
use Rattle.workload.specs.Calls.{Outcome, step_of, load_at, refused, next_of}
use Rattle.workload.specs.Choice.{Chosen, drawn, chosen, event_from}
use Rattle.workload.specs.Line.{event_fields, line_room}
use Rattle.std.specs.Prelude.{Ok}
use Rattle.workload.specs.Wording.{wording_of}
use Rattle.workload.specs.declared.Load.{Load}
use Rattle.workload.specs.declared.Step.{Step}

pub chosen_last : (letter n state : ℕ) → 7 ≤ letter → record { event = hand_sequencer (drawn packets_most state); state = stepped state } ≡ chosen letter n state
unfolding chosen
chosen_last letter n state h =
    let other : (k : ℕ) → k < 7 → letter ≡ k → ⊥ = λ k l e. omega arith in
    when_ne letter 0 _ _ _ (other 0 (omega arith))
    (when_ne letter 1 _ _ _ (other 1 (omega arith))
    (when_ne letter 2 _ _ _ (other 2 (omega arith))
    (when_ne letter 3 _ _ _ (other 3 (omega arith))
    (when_ne letter 4 _ _ _ (other 4 (omega arith))
    (when_ne letter 5 _ _ _ (other 5 (omega arith))
    (when_ne letter 6 _ _ _ (other 6 (omega arith)) refl))))))

pub laid_whole : {size : ℕ} {bytes lent after : List ℕ} → LaidAt 0 bytes lent after size → Laid bytes size lent after
laid_whole {size} {bytes} f =
    let z : 0 + length bytes ≡ length bytes = omega arith in
    record { size = f.ends ∙ z; lent = f.lays ∙ rw z }

-- question 18 of more members than there may be
pub open_many : (n number : ℕ) → members_most < n → group.open_of n number 0 ≡ Err Opening
unfolding group.open_of
open_many n number h =
    sym (when_false (1 ≤? n and n ≤? members_most) (Err Opening) _ _ (then_fails (1 ≤? n) (n ≤? members_most) (lt-leb n members_most h)) refl)

-- question 1, and the line
module _ (load : Load) where
  pub next_none : load.n < 1 → next_of load ≡ refused load UnsoundState
  unfolding next_of
  next_none h = sym (when_false (1 ≤? load.n and load.n ≤? members_most) (refused load UnsoundState) _ _ (first_fails (1 ≤? load.n) (load.n ≤? members_most) (lt-leb 1 load.n h)) refl)

  pub next_many : members_most < load.n → next_of load ≡ refused load UnsoundState
  unfolding next_of
  next_many h = sym (when_false (1 ≤? load.n and load.n ≤? members_most) (refused load UnsoundState) _ _ (then_fails (1 ≤? load.n) (load.n ≤? members_most) (lt-leb load.n members_most h)) refl)

  abbrev pub line_outcome : Outcome
  line_outcome =
      record {
        load = load_at (event_from load.n load.generator.state).state load.n;
        answer = Ok tt;
        bytes = line (event_fields (event_from load.n load.generator.state).event);
      }

  pub next_line : 1 ≤ load.n → load.n ≤ members_most → next_of load ≡ line_outcome
  unfolding next_of
  next_line h k = sym (when_true (1 ≤? load.n and load.n ≤? members_most) line_outcome _ _ (both_hold (1 ≤? load.n) (load.n ≤? members_most) (le-leb 1 load.n h) (le-leb load.n members_most k)) refl)

  -- what the code made of the next event
  pub next_step : {event : Event} (generator : Generator) (written : ℕ) (before after : List ℕ) → record { event = event; state = generator.state } ≡ event_from load.n load.generator.state
      → LaidAt 0 (line (event_fields event)) before after written
      → (record { load = record { generator = generator; n = load.n }; answer = Ok tt; written = written } ≡ step_of line_outcome) × (after ≡ front line_outcome.bytes before)
  next_step generator written before after e at =
      let h = laid_whole at in
      let chose = ap (λ (c : Chosen). c.event) e in
      let state = ap (λ (c : Chosen). c.state) e in
      let size = h.size ∙ ap (λ (x : Event). length (line (event_fields x))) chose in (
        λ i. record { load = load_at (state i) load.n; answer = Ok tt; written = size i },
        h.lent ∙ ap (λ (x : Event). front (line (event_fields x)) before) chose,
      )

-- what a call gives back and leaves, by an outcome that is its own
pub done : {o p : Outcome} {step : Step} → o ≡ p → (before after : List ℕ) → step ≡ step_of p → after ≡ front p.bytes before → step.written ≤ line_room
    → (step ≡ step_of o) × ((after ≡ front o.bytes before) × ((wording_of step.answer ≡ wording_of o.answer) × (step.written ≤ line_room)))
done {o} {p} {step} e before after s l k =
    let a = s ∙ ap step_of (sym e) in
    (a, (l ∙ ap (λ (x : Outcome). front x.bytes before) (sym e), (ap (λ (x : Step). wording_of x.answer) a, k)))

-- nothing was written
pub none_within : {step : Step} {load : Load} {refusal : Refusal} → step ≡ step_of (refused load refusal) → step.written ≤ line_room
none_within {step} {load} {refusal} e = let z : step.written ≡ 0 = ap (λ (x : Step). x.written) e in omega arith
