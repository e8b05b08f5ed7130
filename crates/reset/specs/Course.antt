-- What is read off the list of events and answers: the order, the group made last, the last attempt, and what each terminal took and
-- submitted; and the limit on lists.
use Rattle.std.specs.Prelude.{Ok, Err}
use Rattle.std.specs.Prelude.{◌≡◌, Bool, true, false, List, [], ◌∷◌, ◌++◌, ℕ, ◌≤◌}
use Rattle.std.proofs.Math.Option.{Option, none, some}
use Rattle.std.proofs.Math.ListN.{get_elem?}
use Rattle.std.proofs.Math.ListN as list
use Rattle.group.specs.Choice.{when◌then◌else◌, ◌=?◌}
use Rattle.group.specs.Limits.{largest_number}
use Rattle.group.specs.Members.{is_in, all_of}
use Rattle.message.specs.Order.{Ordered, Submission, counted_from}
use Rattle.member.specs.declared.Answer as memberAnswer
use Rattle.model.specs.Log.{gather, numbered_in, took_in, accepted_in}
use Rattle.model.specs.World.{Answer, absent, by_sequencer, by_member}
use Rattle.packet.specs.Packet.{header_of, payload_at, read_of, content_of, survivors_in}
use Rattle.packet.specs.Answers.{Reading}
use Rattle.recovery.specs.Calls.{of_reset}
use Rattle.reset.specs.World.{Event, submit, repeat, take, status, poll, copy, hand_member, hand_sequencer, invite, make, Entry, World, step}

-- the order; the survivors, one bit a member, the elected member and the number of the group made last, at first the group that was
-- opened; the number and the initiator of the last attempt; and every number used so far. No attempt is open where its number is the group's
pub record Course : Type 0 where
  pub order : List Ordered
  pub survivors : ℕ
  pub elected : ℕ
  pub number : ℕ
  pub attempt : ℕ
  pub initiator : ℕ
  pub used : List ℕ

abbrev pub opened : ℕ → ℕ → Course
opened n number =
    record {
      order = [];
      survivors = all_of n;
      elected = 0;
      number = number;
      attempt = number;
      initiator = 0;
      used = number ∷ [];
    }

-- what terminal i's sequencer numbers is in the order, if i is a survivor
abbrev pub numbering : Course → ℕ → Answer → Course
numbering c i answer =
    record {
      order = c.order ++ (when is_in c.survivors i then numbered_in answer else []);
      survivors = c.survivors;
      elected = c.elected;
      number = c.number;
      attempt = c.attempt;
      initiator = c.initiator;
      used = c.used;
    }

-- an attempt is an inviting that was not refused, named by its number
abbrev pub invited : Course → ℕ → ℕ → Course
invited c i number =
    record {
      order = c.order;
      survivors = c.survivors;
      elected = c.elected;
      number = c.number;
      attempt = number;
      initiator = i;
      used = number ∷ c.used;
    }

-- a making says by its packet who survives, who is elected and under which number, and where the order ends
abbrev pub made : Course → List ℕ → Course
made c packet =
    record {
      order = list.take (header_of packet).c c.order;
      survivors = survivors_in (payload_at packet);
      elected = (header_of packet).b;
      number = (header_of packet).a;
      attempt = c.attempt;
      initiator = c.initiator;
      used = c.used;
    }

-- whether a call was answered Sent
unfoldable pub is_sent : Answer → Bool
is_sent absent = false
is_sent (by_sequencer answer bytes) = false
is_sent (by_member (memberAnswer.Answer.Refused refusal) bytes) = false
is_sent (by_member memberAnswer.Answer.Sent bytes) = true
is_sent (by_member (memberAnswer.Answer.Queued count) bytes) = false
is_sent (by_member memberAnswer.Answer.Old bytes) = false
is_sent (by_member memberAnswer.Answer.Kept bytes) = false
is_sent (by_member memberAnswer.Answer.KeptGap bytes) = false
is_sent (by_member memberAnswer.Answer.Beyond bytes) = false
is_sent (by_member memberAnswer.Answer.BeyondGap bytes) = false
is_sent (by_member memberAnswer.Answer.Gap bytes) = false
is_sent (by_member memberAnswer.Answer.Status bytes) = false
is_sent (by_member memberAnswer.Answer.None bytes) = false
is_sent (by_member memberAnswer.Answer.Noted bytes) = false
is_sent (by_member (memberAnswer.Answer.Took number originator count more) bytes) = false

-- the bytes that an event's call wrote
unfoldable pub bytes_in : Answer → List ℕ
bytes_in absent = []
bytes_in (by_sequencer answer bytes) = bytes
bytes_in (by_member answer bytes) = bytes

unfoldable pub course_of : Course → Event → Answer → Course
course_of c (submit i payload) answer = c
course_of c (repeat i) answer = c
course_of c (take i) answer = c
course_of c (status i) answer = c
course_of c (poll i) answer = c
course_of c (copy i number) answer = c
course_of c (hand_member k i) answer = c
course_of c (hand_sequencer k i) answer = numbering c i answer
course_of c (invite i number) answer = when is_sent answer then invited c i number else c
course_of c (make i demand) answer = when is_sent answer then made c (bytes_in answer) else c

-- the course of a list of entries
unfoldable pub course_from : Course → List Entry → Course
course_from c [] = c
course_from c (entry ∷ rest) = course_from (course_of c entry.event entry.answer) rest

-- what terminal i took in an event, and submitted in one
unfoldable pub took_at : ℕ → Event → Answer → List Ordered
took_at i (submit j payload) answer = []
took_at i (repeat j) answer = []
took_at i (take j) answer = when j =? i then took_in answer else []
took_at i (status j) answer = []
took_at i (poll j) answer = []
took_at i (copy j number) answer = []
took_at i (hand_member k j) answer = []
took_at i (hand_sequencer k j) answer = []
took_at i (invite j number) answer = []
took_at i (make j demand) answer = []

unfoldable pub submitted_at : ℕ → Event → Answer → List (List ℕ)
submitted_at i (submit j payload) answer = when j =? i then accepted_in payload answer else []
submitted_at i (repeat j) answer = []
submitted_at i (take j) answer = []
submitted_at i (status j) answer = []
submitted_at i (poll j) answer = []
submitted_at i (copy j number) answer = []
submitted_at i (hand_member k j) answer = []
submitted_at i (hand_sequencer k j) answer = []
submitted_at i (invite j number) answer = []
submitted_at i (make j demand) answer = []

-- what a terminal took is the list of messages that its takes handed out, in that sequence
abbrev pub taken : ℕ → List Entry → List Ordered
taken i log = gather (λ entry. took_at i entry.event entry.answer) log

-- its accepted submissions are its submits that were not refused, the j-th with count j and the payload given
abbrev pub accepted : ℕ → List Entry → List Submission
accepted i log = counted_from 1 (gather (λ entry. submitted_at i entry.event entry.answer) log)

-- the number is not in a list
pub data Fresh (number : ℕ) : List ℕ → Type 0 where
  unused : Fresh number []
  other : {x : ℕ} {rest : List ℕ} → (number =? x) ≡ false → Fresh number rest → Fresh number (x ∷ rest)

-- of kinds 9 to 11 only those of the last attempt are handed over, and only to a survivor of the group made last
unfoldable pub OfAttempt : Course → ℕ → Reading → Type 0
OfAttempt c i (Ok h) = of_reset (content_of h) ≡ true → (h.a ≡ c.attempt) × (is_in c.survivors i ≡ true)
OfAttempt c i (Err refusal) = Unit {0}

unfoldable pub Handed : Course → ℕ → Option (List ℕ) → Type 0
Handed c i none = Unit {0}
Handed c i (some packet) = OfAttempt c i (read_of packet)

-- the limit on lists. One initiator acts at a time: from an invitation on no earlier initiator makes, and no kind 9 to 11 of an earlier
-- attempt is handed over, nor ever any to a member that a made group left out, which never initiates. It invites with a group number
-- never used before
unfoldable pub Allowed : World → Course → Event → Type 0
Allowed w c (submit i payload) = Unit {0}
Allowed w c (repeat i) = Unit {0}
Allowed w c (take i) = Unit {0}
Allowed w c (status i) = Unit {0}
Allowed w c (poll i) = Unit {0}
Allowed w c (copy i number) = Unit {0}
Allowed w c (hand_member k i) = Handed c i (get_elem? w.group.packets k)
Allowed w c (hand_sequencer k i) = Unit {0}
Allowed w c (invite i number) = (is_in c.survivors i ≡ true) × Fresh number c.used × (number ≤ largest_number)
Allowed w c (make i demand) = c.initiator ≡ i

-- the course of a world of n terminals that began under a number
abbrev pub course_in : ℕ → ℕ → World → Course
course_in n number w = course_from (opened n number) w.log

-- a list of events that keeps the limit
unfoldable pub Orderly : ℕ → ℕ → World → List Event → Type 0
Orderly n number w [] = Unit {0}
Orderly n number w (event ∷ rest) = Allowed w (course_in n number w) event × Orderly n number (step w event) rest
