-- What is said of a text, and at the end. Assumes nothing.
use Rattle.std.proofs.Common.{◌≡◌, refl, ap, ◌∙◌, Bool, true, false, List, ℕ, length, take}
use Rattle.std.specs.declared.option.Option.{Option}
use Rattle.descriptor.proofs.Laws.{takes_as}
use Rattle.descriptor.specs.Descriptor.{Takes}
use Rattle.descriptor.specs.declared.Sink.{Sink}
use Rattle.group.specs.Lent.{front}
use Rattle.inspection.proofs.Rows.{tabled_of}
use Rattle.inspection.specs.Table.{unopened}
use Rattle.model.specs.World.{Group}
use Rattle.player.proofs.Laws.{laid_front}
use Rattle.player.proofs.Telling.{shown_of}
use Rattle.player.specs.Feed.{State, Fed, said_of}
use Rattle.player.specs.Laws.{Quiet}
use Rattle.player.specs.Play.{opening, running, ended, closed}
use Rattle.player.specs.Player.{stage_in, phase_of, Does}
use Rattle.player.specs.declared.Fed as declared
use Rattle.player.specs.declared.Phase.{Phase}
use Rattle.player.specs.declared.Phase.TheVariants.{Opening, Running, Ended, Closed}
use Rattle.sequencer.specs.View as sequencerView
use Rattle.simulator.specs.Whole.{Rows, terminals_of, Packets, group_of, Whole}
use Rattle.stream.specs.Steps.{program_of, said_size, HandsLast}

-- a line without a text says nothing
pub quiet_of : (quiet : Bool) → Quiet (program_of quiet)
unfolding program_of unopened
quiet_of true opening = refl
quiet_of true (running g number) = refl
quiet_of true (ended g) = refl
quiet_of true closed = refl
quiet_of false stage = refl

-- the bytes said are those that the program says
pub said_is : (quiet : Bool) (phase : Phase) (g : Group) (number : ℕ) (text lent after : List ℕ) (written size : ℕ) → after ≡ front text lent → written ≡ length text
    → size ≡ said_size quiet phase written → take size after ≡ (program_of quiet).says (stage_in phase g number) text
unfolding program_of said_size unopened stage_in
said_is false phase g number text lent after written size a w e = laid_front text lent after size a (e ∙ w)
said_is true Opening g number text lent after written size a w e = ap (λ (k : ℕ). take k after) e
said_is true Running g number text lent after written size a w e = ap (λ (k : ℕ). take k after) e
said_is true Ended g number text lent after written size a w e = ap (λ (k : ℕ). take k after) e
said_is true Closed g number text lent after written size a w e = laid_front text lent after size a (e ∙ w)

-- and so of a player that did what was told
pub said_told : (quiet : Bool) {told : Fed} {r : declared.Fed} {w : Whole} {line lent after : List ℕ} {size : ℕ} → Does told r w line lent after
    → size ≡ said_size quiet (phase_of r.player.head r.player.phase) r.written → take size after ≡ said_of (program_of quiet) told
said_told quiet {told} {r} {w} {line} {lent} {after} {size} d e =
    said_is quiet (phase_of r.player.head r.player.phase) (group_of w) r.player.number told.text lent after r.written size d.output d.written e
    ∙ ap (λ (x : State). (program_of quiet).says x.stage told.text) d.state

-- what is printed at the end, of a player that did what was told
pub hands_told : {W : Type 0} {contents : W → Option (List ℕ)} (quiet : Bool) {told : Fed} {r : declared.Fed} {s : sequencerView.Stored} {numbers : List (List ℕ)} {rows : Rows} {p : Packets} {line lent after : List ℕ} {before behind : Sink W}
    → Does told r (record { sequencer = s; terminals = terminals_of r.player.head.sequencer.group numbers rows; packets = p }) line lent after
    → HandsLast contents quiet r.player s.taken s.repeats (terminals_of r.player.head.sequencer.group numbers rows) p before behind
    → s.head ≡ r.player.head.sequencer → Takes contents before ((program_of quiet).last told.state.stage) behind
hands_told {W} {contents} quiet {told} {r} {s} {numbers} {rows} {p} {line} {lent} {after} {before} {behind} d l e =
    let k =
    l (group_of (record { sequencer = s; terminals = terminals_of r.player.head.sequencer.group numbers rows; packets = p })) (tabled_of r.player.head.sequencer.group s numbers rows p)
    (record { shown = shown_of r.player.head s numbers rows p e; written = refl }) in
    takes_as (ap (λ (x : State). (program_of quiet).last x.stage) d.state) k
