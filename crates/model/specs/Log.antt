-- What is read off the list of events and answers, and off the history: the words of demand 3.
use Rattle.std.specs.Prelude.{List, [], ◌∷◌, ◌++◌, ℕ, zero, suc, ◌+◌, ◌-◌, get_or}
use Rattle.std.proofs.Math.ListN as list
use Rattle.group.specs.Choice.{when◌then◌else◌, ◌<?◌, ◌=?◌}
use Rattle.member.specs.Order.{took_by, accepted_by}
use Rattle.member.specs.State.{Member, acknowledged_of}
use Rattle.message.specs.Message.{Message, payload_of}
use Rattle.message.specs.Order.{Ordered, Submission, counted_from}
use Rattle.history.specs.State.{message_at}
use Rattle.model.specs.World.{Event, submit, repeat, take, status, poll, copy, hand_member, hand_sequencer, Answer, absent, by_sequencer, by_member, Entry, World, no_member}
use Rattle.sequencer.specs.Order.{numbered_by}
use Rattle.sequencer.specs.State.{Sequencer}
use Rattle.window.specs.Places as window

-- what each entry gives, one after the other
unfoldable pub gather : {A B : Type 0} → (A → List B) → List A → List B
gather f [] = []
gather f (x ∷ rest) = f x ++ gather f rest

-- the message that an event was answered Numbered with
unfoldable pub numbered_in : Answer → List Ordered
numbered_in absent = []
numbered_in (by_sequencer answer bytes) = numbered_by answer bytes
numbered_in (by_member answer bytes) = []

-- the order is the list of messages answered Numbered, in that sequence
abbrev pub order : List Entry → List Ordered
order log = gather (λ entry. numbered_in entry.answer) log

-- the message that an answer to a take handed out
unfoldable pub took_in : Answer → List Ordered
took_in absent = []
took_in (by_sequencer answer bytes) = []
took_in (by_member answer bytes) = took_by answer bytes

-- the payload of a submit that was not refused
unfoldable pub accepted_in : List ℕ → Answer → List (List ℕ)
accepted_in payload absent = []
accepted_in payload (by_sequencer answer bytes) = []
accepted_in payload (by_member answer bytes) = accepted_by answer payload

-- what terminal i took in an event, and submitted in one
unfoldable pub took_at : ℕ → Event → Answer → List Ordered
took_at i (submit j payload) answer = []
took_at i (repeat j) answer = []
took_at i (take j) answer = when j =? i then took_in answer else []
took_at i (status j) answer = []
took_at i poll answer = []
took_at i (copy number) answer = []
took_at i (hand_member k j) answer = []
took_at i (hand_sequencer k) answer = []

unfoldable pub submitted_at : ℕ → Event → Answer → List (List ℕ)
submitted_at i (submit j payload) answer = when j =? i then accepted_in payload answer else []
submitted_at i (repeat j) answer = []
submitted_at i (take j) answer = []
submitted_at i (status j) answer = []
submitted_at i poll answer = []
submitted_at i (copy number) answer = []
submitted_at i (hand_member k j) answer = []
submitted_at i (hand_sequencer k) answer = []

-- what a terminal took is the list of messages that its takes handed out, in that sequence
abbrev pub taken : ℕ → List Entry → List Ordered
taken i log = gather (λ entry. took_at i entry.event entry.answer) log

-- its accepted submissions are its submits that were not refused, the j-th with count j and the payload given
abbrev pub submitted : ℕ → List Entry → List (List ℕ)
submitted i log = gather (λ entry. submitted_at i entry.event entry.answer) log

abbrev pub accepted : ℕ → List Entry → List Submission
accepted i log = counted_from 1 (submitted i log)

-- the message that lies under a number, where `lies` says which one does
abbrev pub ordered_at : (ℕ → Message) → ℕ → Ordered
ordered_at lies number =
    record {
      number = number;
      originator = (lies number).originator.0;
      count = (lies number).count;
      payload = payload_of (lies number);
    }

-- those of the k numbers above f, lowest first
unfoldable pub messages_above : (ℕ → Message) → ℕ → ℕ → List Ordered
messages_above lies f zero = []
messages_above lies f (suc k) = ordered_at lies (f + 1) ∷ messages_above lies (f + 1) k

-- the history's messages: floor + 1 to top
abbrev pub history_of : Sequencer → List Ordered
history_of s = messages_above (message_at s.history) s.floor.0 (s.top.0 - s.floor.0)

-- those that are accepted
abbrev pub accepted_history : Sequencer → List Ordered
accepted_history s = messages_above (message_at s.history) s.floor.0 (s.accepted.0 - s.floor.0)

-- the accepted messages of the order, and the others
abbrev pub accepted_order : World → List Ordered
accepted_order w = list.take w.group.sequencer.accepted.0 (order w.log)

abbrev pub offered_order : World → List Ordered
offered_order w = list.drop w.group.sequencer.accepted.0 (order w.log)

-- the number of the last message; 0: there is none
unfoldable pub last_number : List Ordered → ℕ
last_number [] = 0
last_number (m ∷ []) = m.number
last_number (m ∷ (next ∷ rest)) = last_number (next ∷ rest)

-- the messages numbered above a number
unfoldable pub above : ℕ → List Ordered → List Ordered
above number [] = []
above number (m ∷ rest) = when number <? m.number then m ∷ above number rest else above number rest

-- the row that a member acknowledges above what it took: the accepted messages that it holds from t + 1 on without a hole, lowest first
abbrev pub row_of : Member → List Ordered
row_of m = messages_above (window.message_at m.held) m.taken.0 ((acknowledged_of m).0 - m.taken.0)

-- owed after what was taken: the row, then the history's messages numbered above the last of both (all, if there is none)
abbrev pub owed_after : List Ordered → List Ordered → List Ordered → List Ordered
owed_after took row history = row ++ above (last_number (took ++ row)) history

-- owed to a terminal are the row that its member acknowledges, and the history's accepted messages above that row
abbrev pub owed : World → ℕ → List Ordered
owed w i = owed_after (taken i w.log) (row_of (get_or w.group.members i no_member)) (accepted_history w.group.sequencer)
