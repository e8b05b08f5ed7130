-- Lists of events, played: a sequencer's terminal that burns out, and the four lists that break the claim once their limit is dropped.
use Rattle.std.specs.Prelude.{◌≡◌, List, [], ◌∷◌, ◌++◌, ℕ, drop}
use Rattle.group.specs.declared.Refusal.{Refusal}
use Rattle.member.specs.declared.Answer as memberAnswer
use Rattle.message.specs.Order.{Ordered}
use Rattle.model.specs.World.{Answer, absent, by_sequencer, by_member}
use Rattle.sequencer.specs.declared.Answer as sequencerAnswer
use Rattle.reset.specs.Claim.{accepted_order, owed}
use Rattle.reset.specs.Closing.{sequencer_of, closing}
use Rattle.reset.specs.Course.{Course, course_in, taken}
use Rattle.reset.specs.World.{Event, submit, take, copy, hand_member, hand_sequencer, invite, make, Entry, World, run, fresh}

-- an order of the first message of i alone, and a second one of j
abbrev pub first_of : ℕ → List Ordered
first_of i = record { number = 1; originator = i; count = 1; payload = [] } ∷ []

abbrev pub second_of : ℕ → ℕ → List Ordered
second_of i j = first_of i ++ (record { number = 2; originator = j; count = 1; payload = [] } ∷ [])

-- the answers of a list of entries, without the bytes that were written
unfoldable pub bare : Answer → Answer
bare absent = absent
bare (by_sequencer answer bytes) = by_sequencer answer []
bare (by_member answer bytes) = by_member answer []

unfoldable pub answers_of : List Entry → List Answer
answers_of [] = []
answers_of (entry ∷ rest) = bare entry.answer ∷ answers_of rest

abbrev pub noted : Answer
noted = by_member memberAnswer.Answer.Noted []

abbrev pub sent : Answer
sent = by_member memberAnswer.Answer.Sent []

-- three terminals, of whom one other must have a message: 1's is offered, confirmed and accepted, and then 0 burns out. 1 invites, 2 replies,
-- 1 makes the group of both and is elected, since it has more; 2 gets the result
abbrev pub burnt : List Event
burnt =
    submit 1 [] ∷ hand_sequencer 0 0 ∷ hand_member 1 1 ∷ hand_sequencer 2 0
    ∷ invite 1 8 ∷ hand_member 4 2 ∷ hand_member 5 1 ∷ make 1 2 ∷ hand_member 6 2 ∷ []

-- 1's sequencer copies the message, both take it, 2's next one is numbered, offered, confirmed and accepted there; 0's old sequencer
-- refuses it
abbrev pub goes_on : List Event
goes_on =
    copy 1 1 ∷ hand_member 7 2 ∷ take 2 ∷ take 1
    ∷ submit 2 [] ∷ hand_sequencer 8 0 ∷ hand_sequencer 8 1 ∷ hand_member 9 2 ∷ hand_sequencer 10 1 ∷ []

-- 'Making is acting': four terminals, number 1 reaches 1 only; 3 invites and 2 replies, then 2 invites and 1 replies; now 3 makes the group
-- of 2 and 3, in whose order nothing is, and then 2 that of 1 and 2, in which number 1 is back
abbrev pub two_make : List Event
two_make =
    submit 0 [] ∷ hand_sequencer 0 0 ∷ hand_member 1 1
    ∷ invite 3 8 ∷ hand_member 2 2 ∷ hand_member 3 3
    ∷ invite 2 9 ∷ hand_member 4 1 ∷ hand_member 5 2
    ∷ make 3 2 ∷ make 2 2 ∷ hand_member 7 1 ∷ []

-- 'Earlier attempts': 0 makes the group of all three; 1 invites and 2 replies; now 2 gets 0's invitation and result and takes a message
-- there; 1 makes the group of 1 and 2, whose order lacks it
abbrev pub late_result : List Event
late_result =
    invite 0 8 ∷ hand_member 0 1 ∷ hand_member 0 2 ∷ hand_member 1 0 ∷ hand_member 2 0 ∷ make 0 3
    ∷ invite 1 9 ∷ hand_member 4 2 ∷ hand_member 5 1
    ∷ hand_member 0 2 ∷ hand_member 3 2 ∷ submit 0 [] ∷ hand_sequencer 7 0 ∷ hand_member 8 2 ∷ take 2
    ∷ make 1 2 ∷ []

-- 'The closing round': four terminals, of whom one other must have a message; only 3 has the offer of number 1; 0 is lost, 3 is elected, so
-- 1 is accepted; without a closing round 3 is lost at the next reset
abbrev pub unclosed : List Event
unclosed =
    submit 0 [] ∷ hand_sequencer 0 0 ∷ hand_member 1 3
    ∷ invite 1 8 ∷ hand_member 2 2 ∷ hand_member 2 3 ∷ hand_member 3 1 ∷ hand_member 4 1 ∷ make 1 3 ∷ hand_member 5 3 ∷ hand_member 5 2 ∷ []

abbrev pub again : List Event
again = invite 1 9 ∷ hand_member 6 2 ∷ hand_member 7 1 ∷ make 1 2 ∷ []

-- 'Frozen for good': three terminals; 0 is lost, 2 is elected, since it alone has number 1, and all have it; 2 submits, and at the next
-- reset 1 is elected, the lowest of equals. 2's request of the old group reaches its own old sequencer
abbrev pub frozen : List Event
frozen =
    submit 0 [] ∷ hand_sequencer 0 0 ∷ hand_member 1 2
    ∷ invite 1 8 ∷ hand_member 2 2 ∷ hand_member 3 1 ∷ make 1 2 ∷ hand_member 4 2
    ∷ copy 2 1 ∷ hand_member 5 1 ∷ take 1 ∷ take 2
    ∷ submit 2 [] ∷ invite 1 9 ∷ hand_member 7 2 ∷ hand_member 8 1 ∷ make 1 2 ∷ hand_member 9 2
    ∷ hand_sequencer 6 2 ∷ []

abbrev pub played : ℕ → ℕ → List Event → World
played n r events = run (fresh n 7 r) events

abbrev pub course_after : ℕ → ℕ → List Event → Course
course_after n r events = course_in n 7 (played n r events)

pub record Examples : Type 0 where
  -- the message that was accepted is in the new order, and 1's terminal has the sequencer
  pub burnt_answers : drop 4 (answers_of (played 3 1 burnt).log) ≡ sent ∷ noted ∷ noted ∷ sent ∷ noted ∷ []
  pub burnt_order : (course_after 3 1 burnt).order ≡ first_of 1
  pub burnt_survivors : (course_after 3 1 burnt).survivors ≡ 6
  pub burnt_elected : (course_after 3 1 burnt).elected ≡ 1
  pub burnt_accepted : (sequencer_of (played 3 1 burnt) (course_after 3 1 burnt)).accepted.0 ≡ 1
  -- from there it goes on, and the old sequencer refuses with 7
  pub goes_answers : drop 13 (answers_of (played 3 1 (burnt ++ goes_on)).log)
      ≡ sent
      ∷ by_sequencer (sequencerAnswer.Answer.Refused Refusal.OtherGroup) []
      ∷ by_sequencer (sequencerAnswer.Answer.Numbered (record { 0 = 2 })) []
      ∷ by_member memberAnswer.Answer.Kept []
      ∷ by_sequencer sequencerAnswer.Answer.Accepted []
      ∷ []
  pub goes_order : (course_after 3 1 (burnt ++ goes_on)).order ≡ second_of 1 2
  pub goes_taken : taken 2 (played 3 1 (burnt ++ goes_on)).log ≡ first_of 1
  pub goes_closes : let w : World = played 3 1 (burnt ++ goes_on) in
      taken 2 (run w (closing w (course_in 3 7 w))).log ≡ second_of 1 2
  -- two that make: 1 is owed what is not in the order
  pub two_order : (course_after 4 0 two_make).order ≡ []
  pub two_owed : owed (played 4 0 two_make) (course_after 4 0 two_make) 1 ≡ first_of 0
  -- a late result: 2 took what is not in the order
  pub late_taken : taken 2 (played 3 0 late_result).log ≡ first_of 0
  pub late_order : (course_after 3 0 late_result).order ≡ []
  -- no closing round between two resets: an accepted message is lost with one member
  pub unclosed_accepted : accepted_order (played 4 1 unclosed) (course_after 4 1 unclosed) ≡ first_of 0
  pub unclosed_survivors : (course_after 4 1 unclosed).survivors ≡ 14
  pub again_survivors : (course_after 4 1 (unclosed ++ again)).survivors ≡ 6
  pub again_order : (course_after 4 1 (unclosed ++ again)).order ≡ []
  -- a frozen sequencer stays frozen: its old group's request is refused
  pub frozen_elected : (course_after 3 0 frozen).elected ≡ 1
  pub frozen_answer : drop 18 (answers_of (played 3 0 frozen).log) ≡ by_sequencer (sequencerAnswer.Answer.Refused Refusal.OtherGroup) [] ∷ []
