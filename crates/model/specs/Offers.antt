-- Examples of offers, each computed: one that is lost, repeated and confirmed; two accepted by one confirmation; an acceptance before its
-- message; confirmations that are not expected or come late; a message that nobody takes before r members have it; what a closing round
-- leaves. `proofs/Examples.antt` computes them.
use Rattle.group.specs.Question.{all_yes}
use Rattle.std.specs.Prelude.{Err}
use Rattle.std.specs.Prelude.{◌≡◌, true, false, List, [], ◌∷◌, ◌++◌, ℕ, drop}
use Rattle.group.specs.Limits.{longest_packet}
use Rattle.group.specs.declared.Refusal.{Refusal}
use Rattle.group.specs.Question.{Verdict}
use Rattle.member.specs.Calls as member
use Rattle.member.specs.declared.Answer as memberAnswer
use Rattle.message.specs.Order.{Ordered}
use Rattle.model.specs.Closing.{closing}
use Rattle.model.specs.Examples.{answers, schedule, status_of}
use Rattle.model.specs.Log.{order, taken, owed, history_of}
use Rattle.model.specs.Resilient.{having}
use Rattle.model.specs.World.{Event, submit, repeat, take, copy, hand_member, hand_sequencer, Answer, by_sequencer, by_member, World, run, fresh}
use Rattle.packet.specs.Packet.{packet_of, fields_of}
use Rattle.packet.specs.declared.Packet.{Packet}
use Rattle.sequencer.specs.Calls as sequencer
use Rattle.sequencer.specs.State.{Sequencer}
use Rattle.sequencer.specs.declared.Answer as sequencerAnswer

-- packets of group 7: an originator's first message, requested, offered and broadcast with a number; a confirmation and an acceptance
abbrev pub request_of : ℕ → List ℕ
request_of i = packet_of (fields_of 7 (Packet.Request (record { 0 = i }) (record { 0 = 0 }) 1)) []

abbrev pub offer_of : ℕ → ℕ → List ℕ
offer_of i number = packet_of (fields_of 7 (Packet.Offer (record { 0 = i }) (record { 0 = number }) 1 (record { 0 = 0 }))) []

abbrev pub broadcast_of : ℕ → ℕ → List ℕ
broadcast_of i number = packet_of (fields_of 7 (Packet.Broadcast (record { 0 = i }) (record { 0 = number }) 1 (record { 0 = 0 }))) []

abbrev pub confirm_of : ℕ → ℕ → List ℕ
confirm_of i number = packet_of (fields_of 7 (Packet.Confirm (record { 0 = i }) (record { 0 = number }))) []

abbrev pub accept_of : ℕ → List ℕ
accept_of number = packet_of (fields_of 7 (Packet.Accept (record { 0 = 0 }) (record { 0 = number }))) []

abbrev pub gap_of : ℕ → ℕ → ℕ → List ℕ
gap_of i first last = packet_of (fields_of 7 (Packet.Gap (record { 0 = i }) (record { 0 = 0 }) (record { 0 = first }) (record { 0 = last }))) []

-- what is answered
abbrev pub sends : List ℕ → Answer
sends bytes = by_member memberAnswer.Answer.Sent bytes

abbrev pub keeps : List ℕ → Answer
keeps bytes = by_member memberAnswer.Answer.Kept bytes

abbrev pub took_last : ℕ → ℕ → Answer
took_last number i = by_member (memberAnswer.Answer.Took (record { 0 = number }) (record { 0 = i }) 1 false) []

abbrev pub none : Answer
none = by_member memberAnswer.Answer.None []

abbrev pub numbered : ℕ → List ℕ → Answer
numbered number bytes = by_sequencer (sequencerAnswer.Answer.Numbered (record { 0 = number })) bytes

abbrev pub accepts : List ℕ → Answer
accepts bytes = by_sequencer sequencerAnswer.Answer.Accepted bytes

-- three members, of whom 1 is expected: the offer of 2's message reaches 0 and not 1, 2 repeats its request, 1 gets the second offer and
-- confirms, and 0 takes when it hears of it
abbrev pub lost : List Event
lost =
    submit 2 [] ∷ hand_sequencer 0 ∷ hand_member 1 0 ∷ take 0
    ∷ repeat 2 ∷ hand_sequencer 2 ∷ hand_member 3 1 ∷ take 1
    ∷ hand_sequencer 4 ∷ take 0 ∷ hand_member 5 0 ∷ take 0 ∷ []

-- two members: 1 gets the offer of 2 before that of 1; it confirms 1, and 2 when it gets it again. That confirmation accepts both, and
-- the earlier one comes late
abbrev pub both : List Event
both =
    submit 0 [] ∷ submit 1 [] ∷ hand_sequencer 0 ∷ hand_sequencer 1
    ∷ hand_member 3 1 ∷ hand_member 2 1 ∷ hand_member 3 1
    ∷ hand_sequencer 6 ∷ hand_sequencer 5 ∷ []

-- the same, where the earlier one comes first and 1 hears of it: it holds both and takes one
abbrev pub single : List Event
single =
    submit 0 [] ∷ submit 1 [] ∷ hand_sequencer 0 ∷ hand_sequencer 1
    ∷ hand_member 3 1 ∷ hand_member 2 1 ∷ hand_member 3 1
    ∷ hand_sequencer 5 ∷ hand_member 7 1 ∷ take 1 ∷ take 1 ∷ []

-- three members, all others expected: 1 has both messages and confirms 2, then 2 has 1 and confirms it
abbrev pub before : List Event
before =
    submit 0 [] ∷ submit 1 [] ∷ hand_sequencer 0 ∷ hand_sequencer 1
    ∷ hand_member 2 1 ∷ hand_member 3 1 ∷ hand_member 2 2
    ∷ hand_sequencer 5 ∷ hand_sequencer 6 ∷ []

-- and 0 hears of it before it gets the messages
abbrev pub early : List Event
early = both ++ (hand_member 7 0 ∷ hand_member 2 0 ∷ take 0 ∷ hand_member 3 0 ∷ take 0 ∷ [])

-- three members, all others expected: 0 and 1 have the offer and 1 confirmed it, then 2 has it too and confirms
abbrev pub waits : List Event
waits = submit 0 [] ∷ hand_sequencer 0 ∷ hand_member 1 0 ∷ hand_member 1 1 ∷ hand_sequencer 2 ∷ take 0 ∷ take 1 ∷ []

abbrev pub enough : List Event
enough = hand_member 1 2 ∷ hand_sequencer 3 ∷ take 0 ∷ hand_member 4 0 ∷ take 0 ∷ []

-- the members but 0 that have message 1
abbrev pub have_first : World → ℕ
have_first w = having (drop 1 w.group.members) 1

-- an order of the first message of i alone
abbrev pub first_of : ℕ → List Ordered
first_of i = record { number = 1; originator = i; count = 1; payload = [] } ∷ []

-- the sequencer of three members after `events`, handed bytes that no member wrote
abbrev pub handed : List Event → List ℕ → sequencerAnswer.Answer
handed events bytes = (sequencer.receive_of (run (fresh 3 7 1) events).group.sequencer bytes longest_packet).answer

pub record Offers : Type 0 where
  -- an offer lost, repeated and confirmed
  pub lost_answers : answers (run (fresh 3 7 1) lost)
      ≡ sends (request_of 2) ∷ numbered 1 (offer_of 2 1) ∷ keeps [] ∷ none
      ∷ sends (request_of 2) ∷ by_sequencer (sequencerAnswer.Answer.Again (record { 0 = 1 })) (offer_of 2 1) ∷ keeps (confirm_of 1 1) ∷ none
      ∷ accepts (accept_of 1) ∷ none ∷ by_member memberAnswer.Answer.Noted [] ∷ took_last 1 2 ∷ []
  -- two accepted by one confirmation, which a hole held back; the earlier one is Old
  pub both_answers : answers (run (fresh 2 7 1) both)
      ≡ sends (request_of 0) ∷ sends (request_of 1) ∷ numbered 1 (offer_of 0 1) ∷ numbered 2 (offer_of 1 2)
      ∷ by_member memberAnswer.Answer.KeptGap (gap_of 1 1 1) ∷ keeps (confirm_of 1 1) ∷ by_member memberAnswer.Answer.Old (confirm_of 1 2)
      ∷ accepts (accept_of 2) ∷ by_sequencer sequencerAnswer.Answer.Old [] ∷ []
  -- one accepted of two that are held: more says that the other may not be taken
  pub single_answers : drop 7 (answers (run (fresh 2 7 1) single)) ≡ accepts (accept_of 1) ∷ by_member memberAnswer.Answer.Noted [] ∷ took_last 1 0 ∷ none ∷ []
  -- a confirmation is one of the numbers before it too
  pub before_answers : drop 7 (answers (run (fresh 3 7 2) before)) ≡ by_sequencer sequencerAnswer.Answer.Marked [] ∷ accepts (accept_of 1) ∷ []
  -- an acceptance before its messages: they are taken as they come
  pub early_answers : drop 9 (answers (run (fresh 2 7 1) early))
      ≡ by_member memberAnswer.Answer.Noted [] ∷ keeps [] ∷ took_last 1 0 ∷ keeps [] ∷ took_last 2 1 ∷ []
  -- a confirmation of an unaccepted number is 25 from 0 and from 2, where r is 1; of an accepted one it is Old from both
  pub from_0 : handed (submit 2 [] ∷ hand_sequencer 0 ∷ []) (confirm_of 0 1) ≡ sequencerAnswer.Answer.Refused Refusal.NotExpected
  pub from_2 : handed (submit 2 [] ∷ hand_sequencer 0 ∷ []) (confirm_of 2 1) ≡ sequencerAnswer.Answer.Refused Refusal.NotExpected
  pub late_0 : handed lost (confirm_of 0 1) ≡ sequencerAnswer.Answer.Old
  pub late_2 : handed lost (confirm_of 2 1) ≡ sequencerAnswer.Answer.Old
  -- it may not be ahead of top, nor an acknowledgement of the last accepted number
  pub ahead_confirm : handed (submit 2 [] ∷ hand_sequencer 0 ∷ []) (confirm_of 1 2) ≡ sequencerAnswer.Answer.Refused Refusal.AcknowledgedAhead
  pub ahead_status : handed (submit 2 [] ∷ hand_sequencer 0 ∷ []) (status_of 1 1) ≡ sequencerAnswer.Answer.Refused Refusal.AcknowledgedAhead
  -- nobody takes before two others have it: 1 alone has it, and then 2 too
  pub waits_answers : drop 4 (answers (run (fresh 3 7 2) waits)) ≡ by_sequencer sequencerAnswer.Answer.Marked [] ∷ none ∷ none ∷ []
  pub waits_have : have_first (run (fresh 3 7 2) waits) ≡ 1
  pub enough_answers : drop 7 (answers (run (run (fresh 3 7 2) waits) enough))
      ≡ keeps (confirm_of 2 1) ∷ accepts (accept_of 1) ∷ none ∷ by_member memberAnswer.Answer.Noted [] ∷ took_last 1 0 ∷ []
  pub enough_have : have_first (run (run (fresh 3 7 2) waits) enough) ≡ 2
  -- a message that is not accepted is owed to nobody, and a closing round leaves it in the history; once it is accepted it gives it to all
  pub offered_owed : owed (run (fresh 3 7 2) waits) 0 ≡ []
  pub offered_left : history_of (run (run (fresh 3 7 2) waits) (closing (run (fresh 3 7 2) waits))).group.sequencer ≡ first_of 0
  pub offered_taken : taken 0 (run (run (fresh 3 7 2) waits) (closing (run (fresh 3 7 2) waits))).log ≡ []
  pub accepted_left : history_of (run (run (fresh 3 7 1) lost) (closing (run (fresh 3 7 1) lost))).group.sequencer ≡ []
  pub accepted_taken : taken 2 (run (run (fresh 3 7 1) lost) (closing (run (fresh 3 7 1) lost))).log ≡ first_of 2
  -- a copy of an accepted message is a broadcast
  pub copied : drop 12 (answers (run (fresh 3 7 1) (lost ++ (copy 1 ∷ [])))) ≡ by_sequencer sequencerAnswer.Answer.Sent (broadcast_of 2 1) ∷ []
  -- opening: r below n goes, r = n is 24, and the member's number is asked before
  pub opens : (sequencer.fresh_of 3 7 2).verdict ≡ all_yes
  pub opens_not : (sequencer.fresh_of 3 7 3).verdict ≡ Err Refusal.Resilience
  pub opens_member : (member.fresh_of 3 (record { 0 = 2 }) 7 3).verdict ≡ Err Refusal.Resilience
  pub opens_18_first : (member.fresh_of 3 (record { 0 = 3 }) 7 3).verdict ≡ Err Refusal.Opening
