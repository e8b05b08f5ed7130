-- What document 01's schedule prints, computed. Assumes nothing.
use mathlib.Core.Path.{refl}
use lib.Count.{count_trailing_zeros, ones, ones_in}
use Rattle.group.specs.Choice.{when◌then◌else◌}
use Rattle.group.specs.Fold.{all, all_above, least_of}
use Rattle.group.specs.Members.{lowest_of, others_of, expected_of, needed_of, group_sound}
use Rattle.group.specs.Opening.{open_of}
use Rattle.group.specs.Question.{judged}
use Rattle.member.specs.Calls as member
use Rattle.member.specs.Sound as member_sound
use Rattle.member.specs.State.{reach_of, acknowledged_of, fresh_member}
use Rattle.message.specs.Message.{all_zero, message_of, empty_message, payload_of, zero_behind, is_empty}
use Rattle.model.specs.World.{happen, fresh_members, fresh}
use Rattle.big_endian.specs.Number.{number_at, bytes_of}
use Rattle.packet.specs.Packet.{header_of, known_kind, payload_fits, obeys, fields_verdict, read_of, header_bytes, packet_of, write_verdict, write_of, content_of, written, from_elected}
use Rattle.history.specs.Ask.{sender_verdict, count_verdict, wanted_verdict}
use Rattle.history.specs.Marks.{mark_sound}
use Rattle.history.specs.Note.{larger_of, table_noted, cleared_of}
use Rattle.history.specs.Repeat.{one_more, is_of, find_of}
use Rattle.history.specs.Sound.{entry_sound, kept_sound, place_sound, frame_sound}
use Rattle.history.specs.State.{floor_of}
use Rattle.sequencer.specs.Calls as sequencer
use Rattle.sequencer.specs.Note.{with_table, note_of}
use Rattle.sequencer.specs.Sound.{sound_of}
use Rattle.sequencer.specs.State.{fresh_sequencer}
use Rattle.window.specs.Places as window
use Rattle.window.specs.Sound as windowSound
use Rattle.packet.specs.Packet as packet
use Rattle.text.specs.Text.{digit_of, glyph_of}
use Rattle.text.specs.Field.{before, lines_of, fields_of, letter_of, is_letter, value_from, up_to_largest, number_in, pairs_of, is_hex, hex_bytes}
use Rattle.schedule.specs.Line.{alone, with_number, submitted, handed, with_two, form_of, event_of, opened, opening_with, opening_form, opening_of}
use Rattle.text.specs.Written.{decimal_digits, decimal_of, hex_of, payload_text, spaced}
use Rattle.member.specs.Wording as memberWording
use Rattle.sequencer.specs.Wording as sequencerWording
use Rattle.report.specs.Print.{more_text, index_text, values_text, wording_fields, answer_fields}
use Rattle.player.specs.Lines.{lines_told}
use Rattle.player.specs.Play.{next_number, open_told, event_told, line_told, last_of}
use Rattle.playback.specs.Document.{DocumentPlayed}

pub document_played : DocumentPlayed
unfolding when◌then◌else◌ all all_above least_of group_sound from_elected needed_of ones_in open_of judged member.answered reach_of acknowledged_of member.request_packet member.gap_packet member.status_packet member.call_verdict member.submit_verdict member.with_waiting member.submit_of member.repeat_of member.status_of member.with_accepted member.with_held member.gap_up_to member.kept_of member.message_step member.broadcast_of window.larger_of window.smaller_of member.poll_of member.content_step member.read_step member.receive_of member.is_own member.with_taken member.is_ready member.took_of member.take_of member.opened_of member.fresh_of windowSound.place_sound windowSound.queue_sound windowSound.waiting_sound windowSound.frame_sound member_sound.sound_of window.lowest_missing window.row_end fresh_member all_zero message_of empty_message payload_of zero_behind is_empty happen fresh_members fresh number_at bytes_of header_of known_kind payload_fits obeys fields_verdict read_of header_bytes packet_of write_verdict write_of content_of packet.fields_of written sequencer.answered sequencer.announced sequencer.broadcast_of sequencer.poll_packet one_more sequencer.repeated_of is_of find_of sequencer.old_of sequencer.again_of sequencer.full_of sequencer.with_message sequencer.numbered_of sequencer.request_of sequencer.gap_of sender_verdict count_verdict wanted_verdict sequencer.content_step sequencer.read_step sequencer.call_verdict sequencer.receive_of sequencer.poll_of sequencer.copy_of sequencer.opened_of sequencer.fresh_of larger_of table_noted cleared_of with_table note_of entry_sound kept_sound place_sound frame_sound mark_sound lowest_of others_of expected_of count_trailing_zeros ones sound_of floor_of fresh_sequencer digit_of before lines_of fields_of letter_of is_letter value_from up_to_largest number_in pairs_of is_hex hex_bytes alone with_number submitted handed with_two form_of event_of opened opening_with opening_form opening_of glyph_of decimal_digits decimal_of hex_of payload_text spaced more_text index_text values_text sequencerWording.wording_of memberWording.wording_of wording_fields answer_fields next_number open_told event_told line_told last_of lines_told
document_played = refl
