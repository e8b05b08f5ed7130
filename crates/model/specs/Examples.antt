-- The table of proved examples: document 01's marked sentences, in its order, and the schedule at its end, each computed.
-- `proofs/Examples.antt` computes them.
use Rattle.std.specs.Prelude.{Ok, Err}
use Rattle.std.specs.Prelude.{◌≡◌, List, [], ◌∷◌, ◌++◌, map, ℕ, zero, suc, ◌+◌, length, replicate}
use Rattle.group.specs.Members.{all_of}
use Rattle.group.specs.Limits.{header_size, payload_most, longest_packet, places_most, held_most}
use Rattle.group.specs.Opening.{description_of}
use Rattle.group.specs.declared.Refusal.{Refusal}
use Rattle.member.specs.Calls as member
use Rattle.member.specs.State.{Member, fresh_member}
use Rattle.member.specs.declared.Answer as memberAnswer
use Rattle.message.specs.Order.{Ordered}
use Rattle.model.specs.Closing.{closing}
use Rattle.model.specs.Log.{order, taken, owed, history_of}
use Rattle.model.specs.World.{Event, submit, take, status, copy, hand_member, hand_sequencer, Answer, by_sequencer, by_member, World, run, fresh}
use Rattle.packet.specs.Packet.{packet_of, fields_of, read_of, write_of}
use Rattle.packet.specs.declared.Packet.{Packet}
use Rattle.packet.specs.Answers.{Reading}
use Rattle.packet.specs.Answers.{Writing}
use Rattle.history.specs.Note.{with_taken}
use Rattle.history.specs.Repeat.{repeats_of}
use Rattle.history.specs.State.{Acknowledgement, floor_of, no_acknowledgement}
use Rattle.sequencer.specs.Calls as sequencer
use Rattle.sequencer.specs.State.{Sequencer, repeat_count, fresh_sequencer}
use Rattle.sequencer.specs.declared.Answer as sequencerAnswer

-- an acknowledgement of that number
abbrev pub acknowledged_up_to : ℕ → Acknowledgement
acknowledged_up_to number = with_taken no_acknowledgement (record { 0 = number })

-- member 1's request in group 7, and the broadcast of its message with that number and count
unfoldable pub request : ℕ → ℕ → List ℕ → List ℕ
request taken count payload = packet_of (fields_of 7 (Packet.Request (record { 0 = 1 }) (record { 0 = taken }) count)) payload

unfoldable pub broadcast : ℕ → List ℕ
broadcast number = packet_of (fields_of 7 (Packet.Broadcast (record { 0 = 1 }) (record { 0 = number }) number (record { 0 = 0 }))) []

unfoldable pub status_of : ℕ → ℕ → List ℕ
status_of i taken = packet_of (fields_of 7 (Packet.Status (record { 0 = i }) (record { 0 = taken }))) []

-- the sequencer of n members of group 7 after member 1's requests with counts 1 to k, nothing taken
unfoldable pub requested : ℕ → ℕ → Sequencer
requested n zero = fresh_sequencer (description_of n 7 0)
requested n (suc k) = (sequencer.receive_of (requested n k) (request 0 (suc k) []) longest_packet).sequencer

-- member 0 of two in group 7 that holds numbers 1 to k
unfoldable pub holding : ℕ → Member
holding zero = fresh_member (description_of 2 7 0) (record { 0 = 0 })
holding (suc k) = (member.receive_of (holding k) (broadcast (suc k)) longest_packet).member

-- the repeat counts of members 0 and 1, and the old count
abbrev pub repeats_in : Sequencer → List ℕ
repeats_in s = repeat_count s (record { 0 = 0 }) ∷ repeat_count s (record { 0 = 1 }) ∷ repeats_of s.acknowledgements ∷ []

-- what is answered in a list of events
abbrev pub answers : World → List Answer
answers w = map (λ entry. entry.answer) w.log

-- the schedule that the document plays
abbrev pub schedule : List Event
schedule = submit 1 (0x61 ∷ 0x62 ∷ []) ∷ hand_sequencer 0 ∷ hand_member 1 1 ∷ take 1 ∷ take 0 ∷ []

-- one member: its message numbered, kept and taken; then its status, handed to the sequencer
abbrev pub alone : List Event
alone = submit 0 [] ∷ hand_sequencer 0 ∷ hand_member 1 0 ∷ take 0 ∷ []

abbrev pub alone_status : List Event
alone_status = status 0 ∷ hand_sequencer 2 ∷ []

-- the same with the message held and not taken
abbrev pub asleep : List Event
asleep = submit 0 [] ∷ hand_sequencer 0 ∷ hand_member 1 0 ∷ []

abbrev pub alone_message : List Ordered
alone_message = record { number = 1; originator = 0; count = 1; payload = [] } ∷ []

-- group 7, member 1, first message "ab"
abbrev pub ab : List ℕ
ab = 0x01 ∷ 0x01 ∷ 0x00 ∷ 0x02 ∷ 0x00 ∷ 0x00 ∷ 0x00 ∷ 0x07 ∷ 0x00 ∷ 0x00 ∷ 0x00 ∷ 0x00 ∷ 0x00 ∷ 0x00 ∷ 0x00 ∷ 0x01 ∷ 0x00 ∷ 0x00 ∷ 0x00 ∷ 0x00 ∷ 0x61 ∷ 0x62 ∷ []

pub record Examples : Type 0 where
  -- acknowledgements 8, 7, 9, 8, 6, 8 give floor 6
  pub floor : floor_of (all_of 6) (acknowledged_up_to 8 ∷ acknowledged_up_to 7 ∷ acknowledged_up_to 9 ∷ acknowledged_up_to 8 ∷ acknowledged_up_to 6 ∷ acknowledged_up_to 8 ∷ []) ≡ 6
  -- payload 240 goes, 241 is 13: submitted, and written
  pub submit_240 : (member.submit_of (holding 0) (replicate 240 1) longest_packet).answer ≡ memberAnswer.Answer.Sent
  pub submit_241 : (member.submit_of (holding 0) (replicate 241 1) longest_packet).answer ≡ memberAnswer.Answer.Refused Refusal.LongPayload
  pub write_240 : (write_of (fields_of 7 (Packet.Request (record { 0 = 1 }) (record { 0 = 0 }) 1)) (replicate 240 1) longest_packet).answer ≡ Ok 260
  pub write_241 : (write_of (fields_of 7 (Packet.Request (record { 0 = 1 }) (record { 0 = 0 }) 1)) (replicate 241 1) longest_packet).answer ≡ Err Refusal.LongPayload
  -- packet of 19 or 261 bytes: 3; 20: goes on
  pub packet_19 : read_of (replicate 19 0) ≡ Err Refusal.PacketSize
  pub packet_261 : read_of (replicate 261 0) ≡ Err Refusal.PacketSize
  pub packet_20 : read_of (replicate 20 0) ≡ Err Refusal.UnknownKind
  pub packet_20_status : read_of (status_of 1 0) ≡ Ok (fields_of 7 (Packet.Status (record { 0 = 1 }) (record { 0 = 0 })))
  -- both bytes of L are read: a status of 20 bytes with L = 256 is 5
  pub packet_length_256 : read_of (0x04 ∷ 0x01 ∷ 0x01 ∷ 0x00 ∷ 0x00 ∷ 0x00 ∷ 0x00 ∷ 0x07 ∷ replicate 12 0) ≡ Err Refusal.PayloadLength
  -- with t + 1 to t + 7 held, t + 8 is Kept and then t + 9 Beyond
  pub eighth : (member.receive_of (holding 7) (broadcast 8) longest_packet).answer ≡ memberAnswer.Answer.Kept
  pub ninth : (member.receive_of (holding 8) (broadcast 9) longest_packet).answer ≡ memberAnswer.Answer.Beyond
  -- with nothing held, t + 8 is KeptGap (t + 1 to t + 7) and t + 9 BeyondGap (t + 1 to t + 8)
  pub eighth_gap : (member.receive_of (holding 0) (broadcast 8) longest_packet).answer ≡ memberAnswer.Answer.KeptGap
  pub eighth_packet : (member.receive_of (holding 0) (broadcast 8) longest_packet).bytes
      ≡ packet_of (fields_of 7 (Packet.Gap (record { 0 = 0 }) (record { 0 = 0 }) (record { 0 = 1 }) (record { 0 = 7 }))) []
  pub ninth_gap : (member.receive_of (holding 0) (broadcast 9) longest_packet).answer ≡ memberAnswer.Answer.BeyondGap
  pub ninth_packet : (member.receive_of (holding 0) (broadcast 9) longest_packet).bytes
      ≡ packet_of (fields_of 7 (Packet.Gap (record { 0 = 0 }) (record { 0 = 0 }) (record { 0 = 1 }) (record { 0 = 8 }))) []
  -- with t + 1 to t + 3 held the status says t + 3; with a hole at t + 3 it says t + 2
  pub row_status : (member.status_of (holding 3) longest_packet).bytes ≡ status_of 0 3
  pub row_hole : (member.status_of (member.receive_of (holding 2) (broadcast 4) longest_packet).member longest_packet).bytes ≡ status_of 0 2
  -- the 32nd above floor is Numbered, the next Full
  pub thirty_second : (sequencer.receive_of (requested 2 31) (request 0 32 []) longest_packet).answer ≡ sequencerAnswer.Answer.Numbered (record { 0 = 32 })
  pub next_full : (sequencer.receive_of (requested 2 32) (request 0 33 []) longest_packet).answer ≡ sequencerAnswer.Answer.Full
  -- a request that finds 32 kept and whose own A frees one is Numbered
  pub frees_one : (sequencer.receive_of (sequencer.receive_of (requested 2 32) (status_of 0 1) longest_packet).sequencer (request 1 33 []) longest_packet).answer
      ≡ sequencerAnswer.Answer.Numbered (record { 0 = 33 })
  -- Old and Again add 1 to the repeat count of the request's sender, which nothing else changes; the old count is the sum
  pub again_counted : repeats_in (sequencer.receive_of (requested 2 1) (request 0 1 []) longest_packet).sequencer ≡ 0 ∷ 1 ∷ 1 ∷ []
  pub old_counted : repeats_in (sequencer.receive_of (requested 2 2) (request 0 1 []) longest_packet).sequencer ≡ 0 ∷ 1 ∷ 1 ∷ []
  pub others_not : repeats_in (requested 2 2) ≡ 0 ∷ 0 ∷ 0 ∷ []
  -- A = top goes, top + 1 is 10
  pub at_top : (sequencer.receive_of (requested 2 1) (status_of 0 1) longest_packet).answer ≡ sequencerAnswer.Answer.Noted
  pub over_top : (sequencer.receive_of (requested 2 1) (status_of 0 2) longest_packet).answer ≡ sequencerAnswer.Answer.Refused Refusal.AcknowledgedAhead
  -- an empty payload is a message
  pub empty_payload : order (run (fresh 1 7 0) alone).log ≡ alone_message
  -- with n = 1, member 0's message is numbered, kept and taken,
  pub alone_answers : answers (run (fresh 1 7 0) alone)
      ≡ by_member memberAnswer.Answer.Sent (packet_of (fields_of 7 (Packet.Request (record { 0 = 0 }) (record { 0 = 0 }) 1)) [])
      ∷ by_sequencer (sequencerAnswer.Answer.Numbered (record { 0 = 1 }))
      (packet_of (fields_of 7 (Packet.Broadcast (record { 0 = 0 }) (record { 0 = 1 }) 1 (record { 0 = 0 }))) [])
      ∷ by_member memberAnswer.Answer.Kept []
      ∷ by_member (memberAnswer.Answer.Took (record { 0 = 1 }) (record { 0 = 0 }) 1 mathlib.Core.Bool.false) []
      ∷ []
  pub alone_taken : taken 0 (run (fresh 1 7 0) alone).log ≡ alone_message
  -- and its status empties the history, which holds the message until then
  pub alone_holds : history_of (run (fresh 1 7 0) alone).group.sequencer ≡ alone_message
  pub alone_empties : history_of (run (run (fresh 1 7 0) alone) alone_status).group.sequencer ≡ []
  -- where it is held and not taken, it is owed once, and its status empties the history too,
  pub asleep_owed : owed (run (fresh 1 7 0) asleep) 0 ≡ alone_message
  pub asleep_empties : history_of (run (run (fresh 1 7 0) asleep) alone_status).group.sequencer ≡ []
  pub asleep_still_owed : owed (run (run (fresh 1 7 0) asleep) alone_status) 0 ≡ alone_message
  -- and a closing round of a take, a status and its handing over gives it
  pub asleep_closing : length (closing (run (fresh 1 7 0) asleep)) ≡ 3
  pub asleep_given : taken 0 (run (run (fresh 1 7 0) asleep) (closing (run (fresh 1 7 0) asleep))).log ≡ alone_message
  -- group 7, member 1, first message "ab", in hexadecimal
  pub ab_written : request 0 1 (0x61 ∷ 0x62 ∷ []) ≡ ab
  pub ab_read : read_of ab ≡ Ok (fields_of 7 (Packet.Request (record { 0 = 1 }) (record { 0 = 0 }) 1))
  -- the schedule at the document's end: sent, numbered 1, kept, took 1 1 1 6162 last, none
  pub schedule_answers : answers (run (fresh 2 7 0) schedule)
      ≡ by_member memberAnswer.Answer.Sent ab
      ∷ by_sequencer (sequencerAnswer.Answer.Numbered (record { 0 = 1 }))
      (packet_of (fields_of 7 (Packet.Broadcast (record { 0 = 1 }) (record { 0 = 1 }) 1 (record { 0 = 0 }))) (0x61 ∷ 0x62 ∷ []))
      ∷ by_member memberAnswer.Answer.Kept []
      ∷ by_member (memberAnswer.Answer.Took (record { 0 = 1 }) (record { 0 = 1 }) 1 mathlib.Core.Bool.false) (0x61 ∷ 0x62 ∷ [])
      ∷ by_member memberAnswer.Answer.None []
      ∷ []
  -- two packets were written, terminal 1 is owed nothing, and terminal 0 the message
  pub schedule_packets : length (run (fresh 2 7 0) schedule).group.packets ≡ 2
  pub schedule_owed_1 : owed (run (fresh 2 7 0) schedule) 1 ≡ []
  pub schedule_owed_0 : owed (run (fresh 2 7 0) schedule) 0 ≡ record { number = 1; originator = 1; count = 1; payload = 0x61 ∷ 0x62 ∷ [] } ∷ []
  -- its closing round: three events for the number that terminal 0 lacks, and two for each terminal; it empties the history
  pub schedule_closing : length (closing (run (fresh 2 7 0) schedule)) ≡ 7
  pub schedule_closed : history_of (run (run (fresh 2 7 0) schedule) (closing (run (fresh 2 7 0) schedule))).group.sequencer ≡ []
