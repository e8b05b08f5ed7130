-- The table of examples holds, and so do the examples of offers, by computation. Assumes nothing.
use mathlib.Core.Path.{refl}
use lib.Count.{count_trailing_zeros, ones, ones_in}
use Rattle.group.specs.Choice.{when◌then◌else◌}
use Rattle.group.specs.Fold.{all, all_above, least_of}
use Rattle.group.specs.Members.{lowest_of, others_of, expected_of, needed_of, group_sound}
use Rattle.group.specs.Opening.{open_of}
use Rattle.group.specs.Question.{judged}
use Rattle.member.specs.Calls as member
use Rattle.member.specs.Order.{took_by}
use Rattle.member.specs.Sound as member_sound
use Rattle.member.specs.State.{reach_of, acknowledged_of, fresh_member}
use Rattle.message.specs.Message.{all_zero, message_of, empty_message, payload_of, zero_behind, is_empty}
use Rattle.model.specs.Closing.{take_row, close_member, close_from}
use Rattle.model.specs.Examples.{Examples, request, broadcast, status_of, requested, holding}
use Rattle.model.specs.Offers.{Offers}
use Rattle.model.specs.Resilient.{has, having}
use Rattle.model.specs.Log.{gather, numbered_in, took_in, took_at, messages_above, last_number, above}
use Rattle.model.specs.World.{happen, run, fresh_members, fresh}
use Rattle.big_endian.specs.Number.{number_at, bytes_of}
use Rattle.packet.specs.Packet.{header_of, known_kind, payload_fits, obeys, fields_verdict, read_of, header_bytes, packet_of, write_verdict, write_of, content_of, fields_of, written, from_elected}
use Rattle.history.specs.Ask.{sender_verdict, count_verdict, wanted_verdict, expected_verdict}
use Rattle.history.specs.Marks.{marked_of, enough_of, unmarked_of, mark_sound}
use Rattle.history.specs.Note.{larger_of, table_noted, cleared_of}
use Rattle.history.specs.Repeat.{one_more, repeats_sum, repeats_of, is_of, find_of}
use Rattle.history.specs.Sound.{entry_sound, kept_sound, place_sound, frame_sound}
use Rattle.history.specs.State.{floor_of}
use Rattle.sequencer.specs.Calls as sequencer
use Rattle.sequencer.specs.Note.{with_table, note_of}
use Rattle.sequencer.specs.Order.{numbered_by}
use Rattle.sequencer.specs.Sound.{sound_of}
use Rattle.sequencer.specs.State.{fresh_sequencer}
use Rattle.window.specs.Places as window
use Rattle.window.specs.Sound as windowSound

computed : Examples × Offers
unfolding when◌then◌else◌ has having all all_above least_of group_sound from_elected needed_of ones_in open_of judged member.answered reach_of acknowledged_of member.request_packet member.gap_packet member.status_packet member.call_verdict member.submit_verdict member.with_waiting member.submit_of member.repeat_of member.status_of member.confirm_packet member.with_accepted member.with_held member.gap_up_to member.kept_of member.message_step member.broadcast_of member.confirms member.confirmed_of member.offer_of window.larger_of window.smaller_of member.poll_of member.content_step member.read_step member.receive_of member.is_own member.with_taken member.is_ready member.took_of member.take_of member.opened_of member.fresh_of windowSound.place_sound windowSound.queue_sound windowSound.waiting_sound windowSound.frame_sound member_sound.sound_of window.lowest_missing window.row_end fresh_member all_zero message_of empty_message payload_of zero_behind is_empty take_row close_member close_from request broadcast status_of requested holding gather numbered_in took_in took_at took_by messages_above last_number above happen run fresh_members fresh number_at bytes_of header_of known_kind payload_fits obeys fields_verdict read_of header_bytes packet_of write_verdict write_of content_of fields_of written sequencer.answered sequencer.announced sequencer.broadcast_of sequencer.poll_packet sequencer.accept_packet sequencer.with_mark sequencer.with_accepted sequencer.settled_of sequencer.confirm_of one_more repeats_sum repeats_of sequencer.repeated_of is_of find_of sequencer.old_of sequencer.again_of sequencer.full_of sequencer.with_message sequencer.numbered_of sequencer.request_of sequencer.gap_of sender_verdict count_verdict wanted_verdict expected_verdict sequencer.content_step sequencer.read_step sequencer.call_verdict sequencer.receive_of sequencer.poll_of sequencer.copy_of sequencer.opened_of sequencer.fresh_of larger_of table_noted cleared_of with_table note_of numbered_by entry_sound kept_sound place_sound frame_sound marked_of enough_of unmarked_of mark_sound lowest_of others_of expected_of count_trailing_zeros ones sound_of floor_of fresh_sequencer
computed = (
  record {
    floor = refl;
    submit_240 = refl;
    submit_241 = refl;
    write_240 = refl;
    write_241 = refl;
    packet_19 = refl;
    packet_261 = refl;
    packet_20 = refl;
    packet_20_status = refl;
    packet_length_256 = refl;
    eighth = refl;
    ninth = refl;
    eighth_gap = refl;
    eighth_packet = refl;
    ninth_gap = refl;
    ninth_packet = refl;
    row_status = refl;
    row_hole = refl;
    thirty_second = refl;
    next_full = refl;
    frees_one = refl;
    again_counted = refl;
    old_counted = refl;
    others_not = refl;
    at_top = refl;
    over_top = refl;
    empty_payload = refl;
    alone_answers = refl;
    alone_taken = refl;
    alone_holds = refl;
    alone_empties = refl;
    asleep_owed = refl;
    asleep_empties = refl;
    asleep_still_owed = refl;
    asleep_closing = refl;
    asleep_given = refl;
    ab_written = refl;
    ab_read = refl;
    schedule_answers = refl;
    schedule_packets = refl;
    schedule_owed_1 = refl;
    schedule_owed_0 = refl;
    schedule_closing = refl;
    schedule_closed = refl;
  },
  record {
    lost_answers = refl;
    both_answers = refl;
    single_answers = refl;
    before_answers = refl;
    early_answers = refl;
    from_0 = refl;
    from_2 = refl;
    late_0 = refl;
    late_2 = refl;
    ahead_confirm = refl;
    ahead_status = refl;
    waits_answers = refl;
    waits_have = refl;
    enough_answers = refl;
    enough_have = refl;
    offered_owed = refl;
    offered_left = refl;
    offered_taken = refl;
    accepted_left = refl;
    accepted_taken = refl;
    copied = refl;
    opens = refl;
    opens_not = refl;
    opens_member = refl;
    opens_18_first = refl;
  },
)

pub examples : Examples
examples = computed.0

pub offers : Offers
offers = computed.1
