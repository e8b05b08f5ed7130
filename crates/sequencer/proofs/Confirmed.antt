-- What a confirmation comes to, in a struct of which only head and marks are asked: each way that its choices go; and so in the whole
-- struct, whose other arrays it leaves. Assumes nothing.
use mathlib.Core.Path.{◌≡◌, refl, sym, ap, subst, ◌∙◌}
use mathlib.Core.Logic.{◌≢◌}
use mathlib.Core.List.{List, []}
use Prim.Native.Nat.{ℕ, ◌-◌, ◌≤◌, ◌<◌}
use borrow.Author.Tests.{le-leb, lt-leb, eq-eqb, ne_eqb}
use Rattle.group.specs.Choice.{◌≤?◌, ◌=?◌}
use lib.ListN.{length}
use Rattle.group.specs.Lent.{Laid}
use Rattle.group.specs.Limits.{members_most}
use Rattle.group.specs.declared.MemberNumber.{MemberNumber}
use Rattle.group.specs.declared.SequenceNumber.{SequenceNumber}
use Rattle.group.specs.Members.{needed_of}
use Rattle.group.proofs.Choice.{when_true, when_false}
use Rattle.packet.specs.Packet.{fields_of, packet_of}
use Rattle.packet.specs.declared.Packet.{Packet}
use Rattle.packet.specs.declared.Packet.TheVariants.{Request, Broadcast, Gap, Status, Poll, Offer, Confirm, Accept, Invitation, Result}
use Rattle.store.specs.Places.{messages_in}
use Rattle.history.specs.Ask.{sender_of}
use Rattle.history.specs.Marks.{marked_of, enough_of, unmarked_of}
use Rattle.history.specs.View.{table_in}
use Rattle.sequencer.specs.Calls.{Outcome, answered, with_mark, with_accepted, accept_packet, enough_in, settled_of, confirm_of}
use Rattle.sequencer.specs.Owed.{Due}
use Rattle.sequencer.specs.Promise.{Changed}
use Rattle.sequencer.specs.State.{Sequencer}
use Rattle.sequencer.specs.Steps.{accepted_step, confirmation_of}
use Rattle.sequencer.specs.View.{Stored, whole, marks_only, view_of, Fits}
use Rattle.sequencer.specs.Wording.{wording_of}
use Rattle.sequencer.specs.declared.Answer.{Answer}
use Rattle.sequencer.specs.declared.Answer.TheVariants.{Old, Marked}
use Rattle.std.specs.Prelude.{Some}
use Rattle.sequencer.specs.declared.Head.{Head}
use Rattle.sequencer.specs.declared.Reply.{Reply}
use Rattle.sequencer.proofs.Outcomes.{changed_as, changed_laid}
use Rattle.sequencer.proofs.Settling.{choose, none≢, who_was}
use Rattle.sequencer.proofs.View.{inside}

-- an answer that writes nothing
answered_changed : (s : Stored) (answer : Answer) (r : Reply) → r ≡ record { answer = answer; written = 0 } → (x : List ℕ) → Changed (answered (view_of s) answer) r s x x
unfolding answered
answered_changed s answer r e x = record { answer = e; state = refl; lent = refl; wording = ap (λ (a : Reply). wording_of a.answer) e }

module _ (head : Head) (marks : List ℕ) (m : MemberNumber) (number : SequenceNumber) where
  abbrev state : Sequencer
  state = view_of (marks_only head marks)

  -- Old
  pub confirm_old : number.0 ≤ head.accepted.0 → (r : Reply) → r ≡ record { answer = Old; written = 0 } → (x : List ℕ)
      → Changed (confirm_of state m number) r (marks_only head marks) x x
  unfolding confirm_of view_of
  confirm_old h r e x =
      changed_as (when_true (number.0 ≤? head.accepted.0) _ _ _ (le-leb number.0 head.accepted.0 h) refl) (answered_changed (marks_only head marks) Old r e x)

  module _ (ahead : head.accepted.0 < number.0) (marks' : List ℕ) (marked : marks' ≡ marked_of marks m head.accepted.0 (number.0 - head.accepted.0))
      (needed : ℕ) (counted : needed ≡ needed_of head.group) (found : SequenceNumber) (enough : found.0 ≡ enough_of marks' needed head.accepted.0 (head.top.0 - head.accepted.0)) where
    with_mark_lem : with_mark state m number ≡ view_of (marks_only head marks')
    unfolding with_mark view_of
    with_mark_lem = λ i. record { group = head.group; acknowledgements = (view_of (marks_only head marks)).acknowledgements; top = head.top; accepted = head.accepted; floor = head.floor; history = (view_of (marks_only head marks)).history; marks = sym marked i }

    -- the marks are set, and then what they say is answered
    settled : settled_of (view_of (marks_only head marks')) found.0 ≡ confirm_of state m number
    unfolding confirm_of view_of
    settled =
        (λ i. settled_of (sym with_mark_lem i) (step i))
        ∙ when_false (number.0 ≤? head.accepted.0) _ _ _ (lt-leb number.0 head.accepted.0 ahead) refl
      where
        step : found.0 ≡ enough_in (with_mark state m number)
        step =
            enough
            ∙ ap (λ (k : ℕ). enough_of marks' k head.accepted.0 (head.top.0 - head.accepted.0)) counted
            ∙ ap (λ (s : Sequencer). enough_in s) (sym with_mark_lem)

    -- Marked
    pub confirm_marked : found.0 ≡ 0 → (r : Reply) → r ≡ record { answer = Marked; written = 0 } → (x : List ℕ)
        → Changed (confirm_of state m number) r (marks_only head marks') x x
    unfolding settled_of
    confirm_marked none r e x =
        changed_as (when_true (found.0 =? 0) _ _ _ (eq-eqb found.0 0 none) refl ∙ settled) (answered_changed (marks_only head marks') Marked r e x)

    -- Accepted
    pub confirm_accepted : found.0 ≢ 0 → (marks'' : List ℕ) → marks'' ≡ unmarked_of marks' head.accepted.0 (found.0 - head.accepted.0)
        → (written : ℕ) (x y : List ℕ) → Laid (packet_of (fields_of head.group.number (Accept head.group.elected found)) []) written x y
        → Changed (confirm_of state m number) (record { answer = Answer.Accepted; written = written })
        (marks_only (record { group = head.group; top = head.top; accepted = found; floor = head.floor }) marks'') x y
    unfolding settled_of with_accepted accept_packet view_of
    confirm_accepted some marks'' cleared written x y l =
        let s = view_of (marks_only head marks') in
        changed_as (when_false (found.0 =? 0) _ _ _ (ne_eqb found.0 0 some) refl ∙ settled)
        (changed_laid (record { sequencer = with_accepted s found.0; answer = Answer.Accepted; bytes = accept_packet (with_accepted s found.0) })
        (marks_only (record { group = head.group; top = head.top; accepted = found; floor = head.floor }) marks'') written x y
        (λ i. record { group = head.group; acknowledgements = s.acknowledgements; top = head.top; accepted = found; floor = head.floor; history = s.history; marks = cleared i }) l)

-- in a state with a table and a history it comes to the same, and leaves both
module _ (s : Sequencer) where
  abbrev alone : Sequencer
  alone = record { group = s.group; acknowledgements = []; top = s.top; accepted = s.accepted; floor = s.floor; history = []; marks = s.marks }

  abbrev joined : Outcome → Outcome
  joined o =
      record {
        sequencer =
            record {
              group = o.sequencer.group;
              acknowledgements = s.acknowledgements;
              top = o.sequencer.top;
              accepted = o.sequencer.accepted;
              floor = o.sequencer.floor;
              history = s.history;
              marks = o.sequencer.marks;
            };
        answer = o.answer;
        bytes = o.bytes;
      }

  pub confirm_joined : (m : MemberNumber) (number : SequenceNumber) → confirm_of s m number ≡ joined (confirm_of alone m number)
  unfolding confirm_of settled_of with_mark with_accepted accept_packet answered
  confirm_joined m number =
      choose joined (number.0 ≤? s.accepted.0) _ _ _ _ (λ e. refl)
      (λ e. choose joined (enough_in (with_mark alone m number) =? 0) _ _ _ _ (λ f. refl) (λ f. refl))

module _ (head head' : Head) (taken counts repeats kept marks marks' originators lengths payloads : List ℕ) (m : MemberNumber) (number : SequenceNumber) where
  pub confirm_changed : {r : Reply} {x y : List ℕ} → Changed (confirm_of (view_of (marks_only head marks)) m number) r (marks_only head' marks') x y
      → Changed (confirm_of (view_of (whole head taken counts repeats kept marks originators lengths payloads)) m number) r
      (whole head' taken counts repeats kept marks' originators lengths payloads) x y
  unfolding view_of table_in messages_in
  confirm_changed {r} {x} {y} c =
      let s = view_of (whole head taken counts repeats kept marks originators lengths payloads) in
      changed_as (sym (confirm_joined s m number))
      (record { answer = c.answer; state = λ i. (joined s (record { sequencer = c.state i; answer = r.answer; bytes = [] })).sequencer; lent = c.lent; wording = c.wording })

-- which number a confirmation confirms, and who does
pub confirm_is : (s : Sequencer) (packet : Packet) (payload : List ℕ) (m : MemberNumber) (number : SequenceNumber) → confirmation_of packet ≡ Some (m, number)
    → confirm_of s m number ≡ accepted_step s packet payload
unfolding confirmation_of accepted_step
confirm_is s (Request sender taken count) payload m number e = absurd (none≢ e)
confirm_is s (Broadcast originator n count floor) payload m number e = absurd (none≢ e)
confirm_is s (Gap sender taken first last) payload m number e = absurd (none≢ e)
confirm_is s (Status sender taken) payload m number e = absurd (none≢ e)
confirm_is s (Poll elected top floor) payload m number e = absurd (none≢ e)
confirm_is s (Offer originator n count floor) payload m number e = absurd (none≢ e)
confirm_is s (Confirm sender n) payload m number e =
    let a : m ≡ sender = sym (ap (λ (w : MemberNumber × SequenceNumber). w.0) (who_was e)) in
    let b : number ≡ n = sym (ap (λ (w : MemberNumber × SequenceNumber). w.1) (who_was e)) in
    λ i. confirm_of s (a i) (b i)
confirm_is s (Accept elected n) payload m number e = absurd (none≢ e)
confirm_is s (Invitation sender attempt) payload m number e = absurd (none≢ e)
confirm_is s (Packet.Reply sender attempt n) payload m number e = absurd (none≢ e)
confirm_is s (Result sender attempt elected n) payload m number e = absurd (none≢ e)

confirm_sender : (packet : Packet) (m : MemberNumber) (number : SequenceNumber) → confirmation_of packet ≡ Some (m, number) → (sender_of packet).member ≡ m
unfolding confirmation_of sender_of
confirm_sender (Request sender taken count) m number e = absurd (none≢ e)
confirm_sender (Broadcast originator n count floor) m number e = absurd (none≢ e)
confirm_sender (Gap sender taken first last) m number e = absurd (none≢ e)
confirm_sender (Status sender taken) m number e = absurd (none≢ e)
confirm_sender (Poll elected top floor) m number e = absurd (none≢ e)
confirm_sender (Offer originator n count floor) m number e = absurd (none≢ e)
confirm_sender (Confirm sender n) m number e = ap (λ (w : MemberNumber × SequenceNumber). w.0) (who_was e)
confirm_sender (Accept elected n) m number e = absurd (none≢ e)
confirm_sender (Invitation sender attempt) m number e = absurd (none≢ e)
confirm_sender (Packet.Reply sender attempt n) m number e = absurd (none≢ e)
confirm_sender (Result sender attempt elected n) m number e = absurd (none≢ e)

-- who confirms is a member
pub confirm_inside : (head : Head) (taken counts repeats kept marks originators lengths payloads : List ℕ) (fits : Fits (whole head taken counts repeats kept marks originators lengths payloads))
    (packet : Packet) (payload : List ℕ) (room : ℕ) → Due (view_of (whole head taken counts repeats kept marks originators lengths payloads)) packet (length payload) room
    → (m : MemberNumber) (number : SequenceNumber) → confirmation_of packet ≡ Some (m, number) → m.0 < members_most
confirm_inside head taken counts repeats kept marks originators lengths payloads fits packet payload room due m number e =
    subst (λ (x : MemberNumber). x.0 < members_most) (confirm_sender packet m number e)
    (inside head taken counts repeats kept marks originators lengths payloads fits packet payload room due)
