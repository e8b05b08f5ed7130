-- Lines that are laid one behind the other, and that those of a load which is open are the lines of its events. Assumes nothing.
use mathlib.Core.Path.{◌≡◌, refl, sym, ap, ◌∙◌}
use mathlib.Core.List.{List, [], ◌++◌, append-nil, append_assoc}
use Prim.Native.Nat.{ℕ, zero, suc, ◌-◌, ◌≤◌}
use native.Mathlib.Omega.{arith}
use borrow.Author.Tests.{leb-true}
use lib.ListN.{length, take, drop}
use lib.Seq.{take_at}
use Rattle.std.specs.declared.option.Option.{Option}
use Rattle.descriptor.specs.Descriptor.{Takes}
use Rattle.descriptor.specs.declared.Sink.{Sink}
use Rattle.descriptor.proofs.Laws.{takes_none, takes_both, takes_as}
use Rattle.group.specs.Choice.{ask◌or◌then◌, ◌and◌, ◌<?◌, ◌≤?◌}
use Rattle.group.specs.Lent.{front}
use Rattle.group.specs.Limits.{members_most}
use Rattle.group.specs.Opening as group
use Rattle.group.specs.declared.Group.{Group}
use Rattle.group.specs.Opening.{Opened}
use Rattle.group.specs.declared.Refusal.{Refusal}
use Rattle.group.specs.declared.Refusal.TheVariants.{Opening, Resilience}
use Rattle.group.proofs.Choice.{when_was, both_first, both_then}
use Rattle.text.specs.LaidAt.{LaidAt}
use Rattle.text.proofs.Pieces.{laid_none, laid_then}
use Rattle.workload.specs.Calls.{step_of, load_at, opened, open_of, next_of}
use Rattle.workload.specs.Choice.{event_from, events_from}
use Rattle.workload.specs.Line.{event_lines, load_of}
use Rattle.std.specs.Prelude.{Result, Ok, Err, ⊤}
use Rattle.workload.specs.declared.Load.{Load}
use Rattle.workload.specs.declared.Step.{Step}
use Rattle.workload.proofs.Choosing.{laid_whole, next_line}
use Rattle.load.specs.Printed.{printed_of, Prints}
use Rattle.load.specs.Steps.{lines_from, Lays}

-- what was laid at the front is taken from there
pub taken : (bytes lent after : List ℕ) (size : ℕ) → after ≡ front bytes lent → size ≡ length bytes → take size after ≡ bytes
taken bytes lent after size e s = ap (take size) e ∙ take_at bytes (drop (length bytes) lent) size (sym s)

-- the loop that lays them: its start, and a turn
pub lays_none : (load : Load) (events : ℕ) (before : List ℕ) → Lays load events before before load events 0
lays_none load events before = record { lines = []; laid = laid_none 0 before (omega arith); rest = refl }

pub lays_on : {load next : Load} {events left size : ℕ} {before now after : List ℕ} (behind : Load) (end : ℕ) → Lays load events before now next left size → 1 ≤ left
    → LaidAt size (next_of next).bytes now after end → behind ≡ (next_of next).load → Lays load events before after behind (left - 1) end
unfolding lines_from
lays_on {load} {next} {events} {left} behind end h l g e =
    let s : left ≡ suc (left - 1) = omega arith in
    let r : lines_from next left ≡ (next_of next).bytes ++ lines_from behind (left - 1) = ap (lines_from next) s ∙ ap (λ (x : Load). (next_of next).bytes ++ lines_from x (left - 1)) (sym e) in
    record {
      lines = h.lines ++ (next_of next).bytes;
      laid = laid_then h.lines (next_of next).bytes h.laid g;
      rest = h.rest ∙ ap (λ (t : List ℕ). h.lines ++ t) r ∙ sym (append_assoc h.lines (next_of next).bytes (lines_from behind (left - 1)));
    }

-- of the lines of some events a sink took the first, and those of the events that are left follow
pub record Hands {W : Type 0} (contents : W → Option (List ℕ)) (load : Load) (events : ℕ) (before : Sink W) (next : Load) (left : ℕ) (after : Sink W) : Type 0 where
  pub lines : List ℕ
  pub takes : Takes contents before lines after
  pub rest : lines_from load events ≡ lines ++ lines_from next left

module _ {W : Type 0} {contents : W → Option (List ℕ)} where
  pub hands_none : (load : Load) (events : ℕ) (sink : Sink W) → Hands contents load events sink load events sink
  hands_none load events sink = record { lines = []; takes = takes_none sink; rest = refl }

  pub hands_on : {load next behind : Load} {events left fewer size : ℕ} {sink from to : Sink W} {before after : List ℕ} → Hands contents load events sink next left from
      → Lays next left before after behind fewer size → Takes contents from (take size after) to → Hands contents load events sink behind fewer to
  hands_on {behind = behind} {fewer = fewer} {size = size} {before = before} {after = after} h l t =
      let w = laid_whole l.laid in
      let e = taken l.lines before after size w.lent w.size in
      record {
        lines = h.lines ++ l.lines;
        takes = takes_both h.takes (takes_as e t);
        rest = h.rest ∙ ap (λ (r : List ℕ). h.lines ++ r) l.rest ∙ sym (append_assoc h.lines l.lines (lines_from behind fewer));
      }

  -- where no event is left, it took all
  pub hands_all : {load next : Load} {events left : ℕ} {before after : Sink W} → Hands contents load events before next left after → left ≡ 0 → Takes contents before (lines_from load events) after
  unfolding lines_from
  hands_all {next = next} h e = takes_as (sym (h.rest ∙ ap (λ (k : ℕ). h.lines ++ lines_from next k) e ∙ append-nil h.lines)) h.takes

-- the lines of a load that is open are those of its events
pub lines_events : (n : ℕ) → 1 ≤ n → n ≤ members_most → (state k : ℕ) → lines_from (load_at state n) k ≡ event_lines (events_from n state k)
unfolding lines_from event_lines events_from
lines_events n h l state zero = refl
lines_events n h l state (suc k) =
    let e = next_line (load_at state n) h l in
    rw (e, lines_events n h l (event_from n state).state k)

refused_not : {refusal : Refusal} → ◌≡◌ {A = Result ⊤ Refusal} (Err refusal) (Ok tt) → ⊥
refused_not e = let z : ◌≡◌ {A = ℕ} 0 1 = cc in omega arith

-- a group that is open has 1 to 16 members
open_within : (n number : ℕ) (g : Group) → group.open_of n number 0 ≡ Ok g → (1 ≤ g.n) × (g.n ≤ members_most)
unfolding group.open_of
open_within n number g e =
    let w = when_was (1 ≤? n and n ≤? members_most) (ask 0 <? n or Err Resilience then Ok (group.description_of n number 0)) (Err Opening) (Ok g) e (λ z. let a : ◌≡◌ {A = ℕ} 0 1 = cc in omega arith) in
    let d = when_was (0 <? n) (Ok (group.description_of n number 0)) (Err Resilience) (Ok g) w.1 (λ z. let a : ◌≡◌ {A = ℕ} 0 1 = cc in omega arith) in
    let f = d.1 in
    let m : n ≡ g.n = cc in
    let h = leb-true 1 n (both_first (1 ≤? n) (n ≤? members_most) w.0) in
    let l = leb-true n members_most (both_then (1 ≤? n) (n ≤? members_most) w.0) in
    (omega arith, omega arith)

module _ {W : Type 0} {contents : W → Option (List ℕ)} (seed n number events : ℕ) (sink : Sink W) where
  -- the first line, and the lines of the events behind it
  pub prints_whole : {step : Step} {first last : Sink W} → step ≡ step_of (open_of seed n number) → step.answer ≡ Ok tt → Takes contents sink (open_of seed n number).bytes first
      → Takes contents first (lines_from step.load events) last → Prints contents seed n number events sink (record { answer = step.answer; sink = last })
  unfolding opened printed_of load_of
  prints_whole {step} {first} {last} s w f l =
      record {
        answer = ap (λ (x : Step). x.answer) s;
        takes = go (group.open_of n number 0) refl (sym (ap (λ (x : Step). x.answer) s) ∙ w) f (takes_as (ap (λ (x : Step). lines_from x.load events) s) l);
      }
    where
      go : (o : Opened) → group.open_of n number 0 ≡ o → (opened seed o).answer ≡ Ok tt → Takes contents sink (opened seed o).bytes first → Takes contents first (lines_from (opened seed o).load events) last
          → Takes contents sink (printed_of seed events o) last
      go (Ok g) e a f l = let k = open_within n number g e in takes_both f (takes_as (lines_events g.n k.0 k.1 seed events) l)
      go (Err refusal) e a f l = absurd (refused_not a)

  pub prints_nothing : {step : Step} {refusal : Refusal} → step ≡ step_of (open_of seed n number) → step.answer ≡ Err refusal
      → Prints contents seed n number events sink (record { answer = step.answer; sink = sink })
  unfolding opened printed_of
  prints_nothing {step} {refusal} s w =
      record { answer = ap (λ (x : Step). x.answer) s; takes = go (group.open_of n number 0) (sym (ap (λ (x : Step). x.answer) s) ∙ w) }
    where
      go : (o : Opened) → (opened seed o).answer ≡ Err refusal → Takes contents sink (printed_of seed events o) sink
      go (Ok g) a = absurd (refused_not (sym a))
      go (Err refusal) a = takes_none sink
