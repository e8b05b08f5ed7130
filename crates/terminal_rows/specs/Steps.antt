-- What the small steps promise: the calls by the parts that they are lent, what is stored of them, and how many terminals are opened.
use Rattle.group.specs.Question.{all_yes}
use Rattle.std.specs.Prelude.{Ok, Err}
use Rattle.std.specs.Prelude.{Bool, true, ℕ}
use Rattle.group.specs.Question.{Verdict}
use Rattle.terminal_rows.specs.declared.Call.{Call}
use Rattle.terminal_rows.specs.declared.Call.TheVariants.{Submit, Repeat, Take, Status, Receive, Invite, Make, Order, Poll, Copy, Open}
use Rattle.terminal_rows.specs.declared.MemberCall.{MemberCall}
use Rattle.terminal_rows.specs.declared.MemberCall.TheVariants as member
use Rattle.terminal_rows.specs.declared.Part.{Part}
use Rattle.terminal_rows.specs.declared.Part.TheVariants.{Member, Whole, Sequencer}
use Rattle.terminal_rows.specs.declared.SequencerCall.{SequencerCall}
use Rattle.terminal_rows.specs.declared.SequencerCall.TheVariants as sequencer
use Rattle.terminal_rows.specs.declared.WholeCall.{WholeCall}
use Rattle.terminal_rows.specs.declared.WholeCall.TheVariants as whole

-- the calls by the parts that they are lent
unfoldable pub of_member : MemberCall → Call
of_member member.Submit = Submit
of_member member.Repeat = Repeat
of_member member.Take = Take
of_member member.Status = Status

unfoldable pub of_whole : WholeCall → Call
of_whole whole.Receive = Receive
of_whole (whole.Invite number) = Invite number
of_whole (whole.Make demand) = Make demand
of_whole (whole.Open n number resilience i) = Open n number resilience i

unfoldable pub of_sequencer : SequencerCall → Call
of_sequencer sequencer.Order = Order
of_sequencer sequencer.Poll = Poll
of_sequencer (sequencer.Copy number) = Copy number

unfoldable pub of_part : Part → Call
of_part (Member call) = of_member call
of_part (Whole call) = of_whole call
of_part (Sequencer call) = of_sequencer call

-- the length of the packet that a call wrote: a take writes a payload, and no packet
unfoldable pub kept_size : Call → ℕ → ℕ
kept_size Submit size = size
kept_size Repeat size = size
kept_size Take size = 0
kept_size Status size = size
kept_size Receive size = size
kept_size (Invite number) size = size
kept_size (Make demand) size = size
kept_size Order size = size
kept_size Poll size = size
kept_size (Copy number) size = size
kept_size (Open n number resilience i) size = size

-- the sequencer's calls need one
unfoldable pub admits_of : Call → Bool → Bool
admits_of Submit sequencing = true
admits_of Repeat sequencing = true
admits_of Take sequencing = true
admits_of Status sequencing = true
admits_of Receive sequencing = true
admits_of (Invite number) sequencing = true
admits_of (Make demand) sequencing = true
admits_of Order sequencing = sequencing
admits_of Poll sequencing = sequencing
admits_of (Copy number) sequencing = sequencing
admits_of (Open n number resilience i) sequencing = true

-- how many terminals there are once a group was opened: none where that is refused
unfoldable pub opened_with : Verdict → ℕ → ℕ
opened_with (Ok _) n = n
opened_with (Err refusal) n = 0
