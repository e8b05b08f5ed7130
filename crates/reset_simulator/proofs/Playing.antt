-- Each call is its event of the world. Assumes nothing.
use mathlib.Core.Path.{◌≡◌, refl, ap, ◌∙◌}
use mathlib.Core.Bool.{Bool, true, false}
use mathlib.Core.List.{List, [], ◌++◌, append-nil}
use mathlib.Core.Option.{Option, none, some}
use Prim.Native.Nat.{ℕ}
use native.Mathlib.Omega.{arith}
use lib.ListN.{length, take, set, get_elem?}
use lib.Seq.{take_all, set-get_or}
use Rattle.group.specs.Choice.{when◌then◌else◌, ◌<?◌, ◌and◌}
use Rattle.group.specs.Limits.{longest_packet}
use Rattle.group.specs.declared.SequenceNumber.{SequenceNumber}
use Rattle.model.specs.World.{answer_of, absent}
use Rattle.packet.specs.Packet.{written}
use Rattle.recovery.specs.Calls as terminal
use Rattle.reset.specs.World as reset
use Rattle.reset.specs.World.{Group, Happened, missing, no_terminal, with_member, with_sequencer, at_terminal, at_sequencer, happen}
use Rattle.terminal_rows.specs.Steps.{kept_size, admits_of}
use Rattle.terminal_rows.specs.declared.Call.{Call}
use Rattle.terminal_rows.specs.declared.Call.TheVariants as call
use Rattle.reset_simulator.specs.Steps.{by_sequencer, came_of, absent_at, came_at, leads, happened_at, handed_by, handed_to}

module _ (i : ℕ) (g : Group) where
  -- all bytes of a call that writes packets are the packet
  written_all : (o : terminal.Outcome)
      → (when i <? length g.terminals then with_member g i o (written (take (length o.bytes) o.bytes)) else missing g)
      ≡ (when i <? length g.terminals then with_member g i o (written o.bytes) else missing g)
  written_all o =
      ap (λ (b : List ℕ). when i <? length g.terminals then with_member g i o (written b) else missing g) (take_all (length o.bytes) o.bytes (omega arith))

  -- and of the sequencer's; a terminal without one is not there
  ordered_all : (there serves : Bool) (o : terminal.SequencerOutcome) (c : Call) → kept_size c (length o.bytes) ≡ length o.bytes → kept_size c 0 ≡ 0
      → (when there then leads g i c (when serves then by_sequencer o else absent_at (reset.terminal_at g i)) else missing g)
      ≡ (when there and serves then with_sequencer g i o else missing g)
  unfolding when◌then◌else◌ answer_of written
  ordered_all true true o c k z =
      ap (λ (b : List ℕ). record { group = record { terminals = set g.terminals i o.terminal; packets = g.packets ++ written b }; answer = answer_of (by_sequencer o).reply o.bytes })
      (ap (λ (n : ℕ). take n o.bytes) k ∙ take_all (length o.bytes) o.bytes (omega arith))
  ordered_all true false o c k z =
      ap (λ (n : ℕ). record { group = record { terminals = set g.terminals i (reset.terminal_at g i); packets = g.packets ++ written (take n []) }; answer = absent }) z
      ∙ (λ x. record { group = record { terminals = set-get_or g.terminals i no_terminal x; packets = append-nil g.packets x }; answer = absent })
  ordered_all false serves o c k z = refl

  pub submit_is : (payload : List ℕ) → happened_at call.Submit i payload g ≡ happen g (reset.submit i payload)
  unfolding happened_at came_at came_of admits_of kept_size happen answer_of when◌then◌else◌
  submit_is payload = written_all (terminal.submit_of (reset.terminal_at g i) payload longest_packet)

  pub repeat_is : (bytes : List ℕ) → happened_at call.Repeat i bytes g ≡ happen g (reset.repeat i)
  unfolding happened_at came_at came_of admits_of kept_size happen answer_of when◌then◌else◌
  repeat_is bytes = written_all (terminal.repeat_of (reset.terminal_at g i) longest_packet)

  pub status_is : (bytes : List ℕ) → happened_at call.Status i bytes g ≡ happen g (reset.status i)
  unfolding happened_at came_at came_of admits_of kept_size happen answer_of when◌then◌else◌
  status_is bytes = written_all (terminal.status_of (reset.terminal_at g i) longest_packet)

  pub take_is : (bytes : List ℕ) → happened_at call.Take i bytes g ≡ happen g (reset.take i)
  unfolding happened_at came_at came_of admits_of kept_size happen answer_of when◌then◌else◌ written
  take_is bytes = refl

  pub invite_is : (number : ℕ) (bytes : List ℕ) → happened_at (call.Invite number) i bytes g ≡ happen g (reset.invite i number)
  unfolding happened_at came_at came_of admits_of kept_size happen answer_of when◌then◌else◌
  invite_is number bytes = written_all (terminal.invite_of (reset.terminal_at g i) number longest_packet)

  pub make_is : (demand : ℕ) (bytes : List ℕ) → happened_at (call.Make demand) i bytes g ≡ happen g (reset.make i demand)
  unfolding happened_at came_at came_of admits_of kept_size happen answer_of when◌then◌else◌
  make_is demand bytes = written_all (terminal.make_of (reset.terminal_at g i) demand longest_packet)

  pub poll_is : (bytes : List ℕ) → happened_at call.Poll i bytes g ≡ happen g (reset.poll i)
  unfolding happened_at came_at came_of admits_of kept_size happen
  poll_is bytes =
      ordered_all (i <? length g.terminals) (reset.terminal_at g i).sequencing (terminal.poll_of (reset.terminal_at g i) longest_packet) call.Poll refl refl

  pub copy_is : (number : SequenceNumber) (bytes : List ℕ) → happened_at (call.Copy number) i bytes g ≡ happen g (reset.copy i number.0)
  unfolding happened_at came_at came_of admits_of kept_size happen
  copy_is number bytes =
      ordered_all (i <? length g.terminals) (reset.terminal_at g i).sequencing (terminal.copy_of (reset.terminal_at g i) number longest_packet) (call.Copy number) refl refl

  -- a packet handed over
  pub member_is : (k : ℕ) → handed_to call.Receive k i g ≡ happen g (reset.hand_member k i)
  unfolding handed_to handed_by happened_at came_at came_of admits_of kept_size happen answer_of when◌then◌else◌
  member_is k = go (get_elem? g.packets k)
    where
      go : (packet : Option (List ℕ)) → handed_by call.Receive i g packet ≡ reset.hand_to_member g i packet
      go none = refl
      go (some packet) = written_all (terminal.receive_of (reset.terminal_at g i) packet longest_packet)

  pub sequencer_is : (k : ℕ) → handed_to call.Order k i g ≡ happen g (reset.hand_sequencer k i)
  unfolding handed_to handed_by happened_at came_at came_of admits_of kept_size happen
  sequencer_is k = go (get_elem? g.packets k)
    where
      go : (packet : Option (List ℕ)) → handed_by call.Order i g packet ≡ reset.hand_to_sequencer g i packet
      go none = refl
      go (some packet) =
          ordered_all (i <? length g.terminals) (reset.terminal_at g i).sequencing (terminal.order_of (reset.terminal_at g i) packet longest_packet) call.Order refl refl
