-- What the closing round does with a terminal's member: the next number is handed over and held, taken, and acknowledged; and a
-- fresh member is a fresh terminal's. Assumes nothing.
use Rattle.group.specs.Question.{all_yes}
use mathlib.Core.Path.{◌≡◌, refl, sym, ap, ◌∙◌, subst}
use mathlib.Core.Bool.{true}
use mathlib.Core.List.{List, []}
use Prim.Native.Nat.{ℕ, ◌+◌, ◌-◌, ◌≤◌, ◌<◌}
use native.Mathlib.Omega.{arith}
use borrow.Author.Tests.{le-leb, leb-true, leb-false, lt-ltb, ltb-true, ltb-false, eq-eqb, eqb-false}
use lib.ListN.{length}
use Rattle.group.specs.Choice.{when◌then◌else◌, ◌<?◌, ◌≤?◌, ◌=?◌}
use Rattle.group.specs.Limits.{held_most, longest_packet, largest_number}
use Rattle.group.specs.Question.{judged}
use Rattle.group.specs.declared.Group.{Group}
use Rattle.group.specs.declared.MemberNumber.{MemberNumber}
use Rattle.group.specs.declared.SequenceNumber.{SequenceNumber}
use Rattle.group.proofs.Choice.{says, when_true}
use Rattle.group.proofs.Members.{Standing}
use Rattle.group.specs.Members.{is_in}
use Rattle.group.specs.declared.Refusal.{Refusal}
use Rattle.group.proofs.Lists.{when_elim, at_nil}
use Rattle.message.specs.Message.{Message, message_of}
use Rattle.message.specs.Order.{Ordered, own_of, counted_from}
use Rattle.packet.specs.Laws.{Allowed}
use Rattle.packet.specs.Packet.{obeys, fields_of, packet_of, from_elected}
use Rattle.packet.specs.declared.Packet.{Packet}
use Rattle.packet.specs.declared.Packet.TheVariants.{Broadcast, Status}
use Rattle.packet.proofs.Laws.{read_written, content_fields, fields_group}
use Rattle.packet.proofs.Verdicts.{askable, writable}
use Rattle.member.specs.Calls.{Outcome, answered, refused, status_packet, call_verdict, status_of, with_accepted, with_held, gap_up_to, kept_of, message_step, broadcast_of, content_step, read_step, receive_of, with_taken, is_ready, took_of, take_of}
use Rattle.member.specs.Sound.{sound_of}
use Rattle.window.specs.Places.{message_at, is_held, lowest_missing}
use Rattle.member.specs.State.{Member, acknowledged_of, fresh_member}
use Rattle.member.specs.declared.Answer.{Answer}
use Rattle.member.proofs.Acknowledged.{acknowledged_took}
use Rattle.member.proofs.Invariant.{Terminal}
use Rattle.window.proofs.Keeping.{empty_none}
use Rattle.member.proofs.Keeping.{fresh_none, fresh_typed, fresh_sound}
use Rattle.window.proofs.Missing.{held_same}
use Rattle.window.proofs.Row.{larger_le}
use Rattle.member.proofs.Soundness.{sound_of_lem, of_sound}
use Rattle.member.proofs.Writes.{status_allowed}

-- a sound state and the longest packet's room go past questions 1 and 2
pub call_accepted : (m : Member) → sound_of m ≡ true → call_verdict m longest_packet ≡ all_yes
unfolding call_verdict when◌then◌else◌
call_accepted m h = rw h

pub status_is : (m : Member) → sound_of m ≡ true → status_of m longest_packet ≡ record { member = m; answer = Answer.Sent; bytes = status_packet m }
unfolding status_of judged
status_is m h = rw (call_accepted m h)

pub take_is : (m : Member) → sound_of m ≡ true → 1 ≤ (message_at m.held (m.taken.0 + 1)).count → m.taken.0 + 1 ≤ m.accepted.0 → take_of m longest_packet ≡ took_of m (message_at m.held (m.taken.0 + 1))
unfolding take_of is_ready judged when◌then◌else◌
take_is m h c ready = rw (call_accepted m h, lt-ltb 0 (message_at m.held (m.taken.0 + 1)).count c, le-leb (m.taken.0 + 1) m.accepted.0 ready)

-- a packet of the group is received as what it says
pub receive_is : (m : Member) (group : Group) (content : Packet) (payload : List ℕ) → sound_of m ≡ true → m.group ≡ group → Allowed (fields_of group.number content) payload
    → receive_of m (packet_of (fields_of group.number content) payload) longest_packet
    ≡ when from_elected m.group content then content_step m content payload else refused m Refusal.ForbiddenFields
unfolding receive_of judged read_step when◌then◌else◌
receive_is m group content payload h e allowed =
    let r = read_written (fields_of group.number content) payload allowed in
    rw (call_accepted m h, r.0, r.1, content_fields group.number content, eq-eqb (fields_of group.number content).group m.group.number (fields_group group.number content ∙ sym (ap (λ (x : Group). x.number) e)))

-- where the elected member sent it, or anybody may have
pub receive_named : (m : Member) (group : Group) (content : Packet) (payload : List ℕ) → sound_of m ≡ true → m.group ≡ group → from_elected m.group content ≡ true
    → Allowed (fields_of group.number content) payload → receive_of m (packet_of (fields_of group.number content) payload) longest_packet ≡ content_step m content payload
receive_named m group content payload h e named allowed = receive_is m group content payload h e allowed ∙ sym (when_true (from_elected m.group content) _ _ _ named refl)

-- what handing over the broadcast of number t + 1 leaves
pub record HandOk (m : Member) (o : Outcome) : Type 0 where
  pub taken_is : o.member.taken.0 ≡ m.taken.0
  pub held : 1 ≤ (message_at o.member.held (m.taken.0 + 1)).count
  pub ready : m.taken.0 + 1 ≤ o.member.accepted.0
  pub bytes_are : o.bytes ≡ []

took_next : (m : Member) (x : Message) → (with_taken m x).taken.0 ≡ m.taken.0 + 1
unfolding with_taken
took_next m x = refl

-- what a take of number t + 1 leaves
pub record TakeOk (m : Member) (o : Outcome) : Type 0 where
  pub taken_is : o.member.taken.0 ≡ m.taken.0 + 1
  pub acknowledged_is : (acknowledged_of o.member).0 ≡ (acknowledged_of m).0

module _ (group : Group) (i acknowledged accepted : ℕ) (order took : List Ordered) (submitted : List (List ℕ)) (m : Member) (h : Terminal group i acknowledged accepted m order took submitted) where
  module _ (originator : MemberNumber) (number : SequenceNumber) (c : ℕ) (floor : SequenceNumber) (payload : List ℕ)
      (allowed : Allowed (fields_of group.number (Broadcast originator number c floor)) payload) (member : originator.0 < group.n) (next : number.0 ≡ m.taken.0 + 1) where
    -- a count of a broadcast is at least 1
    count_pos : 1 ≤ c
    unfolding fields_of obeys when◌then◌else◌
    count_pos =
        let w = writable _ payload longest_packet allowed.1 in
        let o = (askable _ (length payload) payload w.fields).obey in
        search says

    -- the state in which it is accepted
    abbrev m' : Member
    m' = with_accepted m number.0

    ready : m.taken.0 + 1 ≤ m'.accepted.0
    unfolding with_accepted
    ready = rw (← next) (larger_le m.accepted.0 number.0).1

    kept : 1 ≤ (message_at (with_held m' number.0 (message_of originator c payload)).held (m.taken.0 + 1)).count
    unfolding with_accepted with_held message_of
    kept = rw (← next, held_same m.held h.content.typed.held number.0 (message_of originator c payload)) count_pos

    -- no number below it is missing
    abbrev low : ℕ
    low = lowest_missing (with_held m' number.0 (message_of originator c payload)).held m.taken.0 (number.0 - 1 - m.taken.0)

    none : low ≡ 0
    unfolding lowest_missing
    none = let z : number.0 - 1 - m.taken.0 ≡ 0 = omega arith in rw z

    pub hand_ok : HandOk m (receive_of m (packet_of (fields_of group.number (Broadcast originator number c floor)) payload) longest_packet)
    unfolding from_elected content_step broadcast_of message_step kept_of gap_up_to with_accepted with_held answered
    hand_ok =
        rw (receive_named m group (Broadcast originator number c floor) payload h.content.sound h.seat.group_is refl allowed)
        (when_elim (HandOk m) (originator.0 <? m.group.n)
        (λ _. when_elim (HandOk m) (number.0 ≤? m.taken.0)
        (λ a. let z = leb-true number.0 m.taken.0 a in absurd (omega arith))
        (λ _. when_elim (HandOk m) (number.0 ≤? m.taken.0 + held_most)
        (λ _. when_elim (HandOk m) (is_held m.held number.0)
        (λ a. record { taken_is = refl; held = rw (← next) (ltb-true 0 (message_at m.held number.0).count a); ready = ready; bytes_are = refl })
        (λ _. when_elim (HandOk m) (low =? 0)
        (λ _. record { taken_is = refl; held = kept; ready = ready; bytes_are = refl })
        (λ a. absurd (eqb-false low 0 a none))))
        (λ a. let z = leb-false number.0 (m.taken.0 + held_most) a in absurd (omega arith))))
        (λ a. let z = ltb-false originator.0 m.group.n a in let y = ap (λ (x : Group). x.n) h.seat.group_is in absurd (omega arith)))

  pub take_ok : 1 ≤ (message_at m.held (m.taken.0 + 1)).count → m.taken.0 + 1 ≤ m.accepted.0 → TakeOk m (take_of m longest_packet)
  unfolding took_of
  take_ok c ready =
      let next = message_at m.held (m.taken.0 + 1) in
      rw (take_is m h.content.sound c ready) (record { taken_is = took_next m next; acknowledged_is = acknowledged_took m next h.content.typed (sound_of_lem m h.content.sound) c })

  -- the status that is written, as the group knows it
  pub status_ok : (status_packet m ≡ packet_of (fields_of group.number (Status m.number (acknowledged_of m))) []) × Allowed (fields_of group.number (Status m.number (acknowledged_of m))) []
  unfolding status_packet
  status_ok = (
    ap (λ (x : Group). packet_of (fields_of x.number (Status m.number (acknowledged_of m))) []) h.seat.group_is,
    subst (λ (x : Group). Allowed (fields_of x.number (Status m.number (acknowledged_of m))) []) h.seat.group_is (status_allowed m h.content.typed (sound_of_lem m h.content.sound)),
  )

pub fresh_terminal_lem : (group : Group) (i : ℕ) → Standing group → is_in group.survivors i ≡ true → group.number ≤ largest_number
    → Terminal group i 0 0 (fresh_member group (record { 0 = i })) [] [] []
unfolding fresh_member own_of counted_from
fresh_terminal_lem group i stand inside most =
    let number : MemberNumber = record { 0 = i } in
    record {
      content =
          record {
            typed = fresh_typed group number most;
            sound = of_sound (fresh_member group number) (fresh_sound group number stand inside);
            taken_le = omega arith;
            took_is = refl;
            held_is = λ k a b c. absurd (empty_none (rw (fresh_none group number k) at c));
            submitted_is = refl;
            count_le = omega arith;
            own_taken = refl;
            waiting_is = λ c lo hi. absurd (omega arith);
            own_is = refl;
            payload_ok = λ c payload e. absurd (at_nil c e);
          };
      seat =
          record {
            group_is = refl;
            number_is = refl;
            acknowledged_le = omega arith;
            accepted_le = omega arith;
            plain = λ e k a b c. absurd (empty_none (rw (fresh_none group number k) at c));
          };
    }
