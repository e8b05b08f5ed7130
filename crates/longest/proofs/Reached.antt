-- A closing round after the list of each n has the figure's length, by computation. Assumes nothing.
use mathlib.Core.Path.{◌≡◌, refl, ap, ◌∙◌}
use mathlib.Core.Bool.{Bool, true}
use Prim.Native.Nat.{ℕ}
use native.Mathlib.Omega.{arith}
use borrow.Author.Tests.{eqb-true}
use lib.ListN.{length}
use Rattle.big_endian.specs.Number.{number_at, bytes_of}
use Rattle.group.proofs.Fold.{above_each}
use Rattle.group.proofs.Lists.{le_or}
use Rattle.group.specs.Choice.{when◌then◌else◌, ◌=?◌}
use Rattle.group.specs.Fold.{all_above, least_of}
use Rattle.group.specs.Members.{lowest_of, expected_of, needed_of}
use lib.Count.{ones, ones_in}
use Rattle.group.specs.Opening.{description_of, open_of}
use Rattle.group.specs.Question.{judged}
use Rattle.history.specs.Ask.{sender_verdict, count_verdict}
use Rattle.history.specs.Note.{larger_of, table_noted, cleared_of}
use Rattle.history.specs.State.{floor_of}
use Rattle.longest.proofs.Quick.{past, leaves, run_leaves}
use Rattle.longest.specs.Slowest.{rounds, hands, holders, lasts, slowest, Reached}
use Rattle.member.specs.Calls as member
use Rattle.member.specs.State.{reach_of, acknowledged_of, fresh_member}
use Rattle.message.specs.Message.{message_of, empty_message, payload_of}
use Rattle.model.proofs.Step.{fresh_inv}
use Rattle.model.specs.Closing.{take_row, close_member, close_from}
use Rattle.model.specs.Longest.{longest_closing}
use Rattle.model.specs.World.{Group, fresh_members, fresh}
use Rattle.packet.specs.Packet.{header_of, known_kind, payload_fits, obeys, fields_verdict, read_of, header_bytes, packet_of, content_of, fields_of, written, from_elected}
use Rattle.sequencer.specs.Calls as sequencer
use Rattle.sequencer.specs.Note.{with_table, note_of}
use Rattle.sequencer.specs.State.{fresh_sequencer}
use Rattle.window.specs.Places as window

-- how long the closing round of a group is
abbrev length_of : Group → ℕ
length_of g = length (close_from g.members 0 g.sequencer.accepted.0 (length g.packets))

-- whether the list of n leads to the figure, computed with all that the line names
unfoldable leads : ℕ → Bool
unfolding when◌then◌else◌ least_of from_elected needed_of expected_of lowest_of ones ones_in open_of judged member.answered reach_of acknowledged_of member.request_packet member.status_packet member.submit_verdict member.with_waiting member.with_accepted member.with_held member.gap_up_to member.kept_of member.message_step member.broadcast_of window.larger_of window.smaller_of member.content_step member.read_step member.is_own member.with_taken member.is_ready member.took_of member.opened_of member.fresh_of window.lowest_missing window.row_end fresh_member message_of empty_message payload_of take_row close_member close_from fresh_members fresh number_at bytes_of header_of known_kind payload_fits obeys fields_verdict read_of header_bytes packet_of content_of fields_of written sequencer.answered sequencer.announced sequencer.broadcast_of sequencer.with_message sequencer.numbered_of sequencer.request_of sender_verdict count_verdict sequencer.content_step sequencer.read_step sequencer.opened_of sequencer.fresh_of larger_of table_noted cleared_of with_table note_of floor_of fresh_sequencer rounds hands holders lasts slowest past leaves
leads n = length_of (leaves (fresh n 7 0).group (slowest n)) =? longest_closing n

-- eight at a time: the steps that one declaration may take have a limit
low : all_above leads 0 8 ≡ true
unfolding leads all_above
low = refl

high : all_above leads 8 8 ≡ true
unfolding leads all_above
high = refl

leads_there : (n : ℕ) → leads n ≡ true → length_of (leaves (fresh n 7 0).group (slowest n)) ≡ longest_closing n
unfolding leads
leads_there n e = eqb-true (length_of (leaves (fresh n 7 0).group (slowest n))) (longest_closing n) e

pub reached : Reached
reached n lo hi =
    ap length_of (run_leaves (description_of n 7 0) hi (omega arith) (fresh n 7 0) (slowest n) (fresh_inv n 7 0 (record { least = lo; most = hi; resilient = lo; fits = omega arith })))
    ∙ leads_there n (le_or n 8 (λ le. above_each leads 0 8 low n lo le) (λ lt. above_each leads 8 8 high n lt hi))
