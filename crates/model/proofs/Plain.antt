-- Where none has to confirm, no event is answered as offers are: no packet that is handed over is an offer, a confirmation or an acceptance,
-- and no other call answers so. The calls' text, a choice at a time. Assumes nothing.
use mathlib.Core.Path.{◌≡◌, refl, sym, subst}
use mathlib.Core.Bool.{true, false}
use mathlib.Core.Option.{Option, none, some}
use mathlib.Core.List.{List, [], ◌∷◌, ◌++◌}
use Prim.Native.Nat.{ℕ, ◌+◌, ◌-◌, ◌≤◌, ◌<◌}
use native.Mathlib.Omega.{arith}
use borrow.Author.Tests.{ltb-true}
use lib.ListN.{length, get_or, get_elem?}
use Rattle.group.proofs.Lists.{when_elim, judged_elim, All, all_append, all_get}
use Rattle.group.specs.Choice.{◌and◌, ◌<?◌, ◌≤?◌, ◌=?◌}
use Rattle.group.specs.Limits.{members_most, places_most, held_most, longest_packet, largest_number}
use Rattle.group.specs.Members.{needed_of}
use Rattle.group.specs.declared.Group as description
use Rattle.group.specs.declared.MemberNumber.{MemberNumber}
use Rattle.history.specs.Ask.{sender_verdict, count_verdict, wanted_verdict}
use Rattle.history.specs.Repeat.{find_of}
use Rattle.member.proofs.Closing.{receive_is}
use Rattle.member.proofs.Invariant.{Terminal}
use Rattle.member.specs.Calls as member
use Rattle.member.specs.State.{Member}
use Rattle.member.specs.declared.Answer as memberAnswer
use Rattle.model.proofs.Invariant.{WorldInv, facts_in}
use Rattle.model.proofs.Step.{next_keeps}
use Rattle.model.specs.Log.{order, submitted}
use Rattle.model.specs.Resilient.{by_sequencer_only, by_member_only, is_offering}
use Rattle.model.specs.World.{Event, submit, repeat, status, poll, copy, hand_member, hand_sequencer, Happened, missing, no_member, at_member, hand_to_member, hand_to_sequencer, happen, Entry, World, step, run}
use Rattle.model.specs.World as world
use Rattle.packet.proofs.Facts.{Facts, Says, Known}
use Rattle.packet.specs.declared.Packet.{Packet}
use Rattle.packet.specs.Packet.{from_elected}
use Rattle.group.specs.declared.Refusal.{Refusal}
use Rattle.packet.specs.declared.Packet.TheVariants.{Request, Broadcast, Gap, Status, Poll, Offer, Confirm, Accept, Invitation, Result}
use Rattle.sequencer.proofs.Ordering.{received}
use Rattle.sequencer.specs.Calls as sequencer
use Rattle.sequencer.specs.Note.{note_of}
use Rattle.sequencer.specs.State.{Sequencer, last_count}
use Rattle.window.specs.Places.{is_held, lowest_missing}

-- what a call of each end is not answered
abbrev Quiet : sequencer.Outcome → Type 0
Quiet o = by_sequencer_only o.answer ≡ false

abbrev Silent : member.Outcome → Type 0
Silent o = by_member_only o.answer ≡ false

-- the sequencer's
request_quiet : (s : Sequencer) (m : MemberNumber) (count : ℕ) (payload : List ℕ) → Quiet (sequencer.request_of s m count payload)
unfolding sequencer.request_of sequencer.old_of sequencer.again_of sequencer.full_of sequencer.numbered_of sequencer.answered by_sequencer_only
request_quiet s m count payload =
    when_elim Quiet (count <? last_count s m) (λ a. refl)
    (λ a. when_elim Quiet (count =? last_count s m)
    (λ b. when_elim Quiet (find_of s.history m count s.floor.0 (s.top.0 - s.floor.0) =? 0) (λ c. refl) (λ c. refl))
    (λ b. when_elim Quiet (s.top.0 - s.floor.0 =? places_most) (λ c. refl) (λ c. refl)))

module _ (f : Facts) (nobody : f.needed ≡ 0) where
  content_quiet : (s : Sequencer) (content : Packet) (payload : List ℕ) → Says f content payload → Quiet (sequencer.content_step s content payload)
  unfolding sequencer.content_step sequencer.gap_of sequencer.answered by_sequencer_only
  content_quiet s (Request sender taken count) payload so =
      judged_elim Quiet (sender_verdict s.group.survivors s.accepted.0 sender taken) (λ r e. refl)
      (λ e. judged_elim Quiet (count_verdict (last_count s sender) s.top.0 count) (λ r g. refl) (λ g. request_quiet (note_of s sender taken) sender count payload))
  content_quiet s (Broadcast originator number count floor) payload so = refl
  content_quiet s (Gap sender taken first last) payload so =
      judged_elim Quiet (sender_verdict s.group.survivors s.accepted.0 sender taken) (λ r e. refl)
      (λ e. judged_elim Quiet (wanted_verdict s.top.0 last) (λ r g. refl)
      (λ g. when_elim Quiet (last.0 ≤? (note_of s sender taken).floor.0) (λ t. refl) (λ t. refl)))
  content_quiet s (Status sender taken) payload so =
      judged_elim Quiet (sender_verdict s.group.survivors s.accepted.0 sender taken) (λ r e. refl) (λ e. refl)
  content_quiet s (Poll elected top floor) payload so = refl
  content_quiet s (Offer originator number count floor) payload so = refl
  content_quiet s (Confirm sender number) payload so = let z = so.1 in absurd (omega arith)
  content_quiet s (Accept elected number) payload so = refl
  content_quiet s (Invitation sender attempt) payload so = refl
  content_quiet s (Packet.Reply sender attempt number) payload so = refl
  content_quiet s (Result sender attempt elected number) payload so = refl

poll_quiet : (s : Sequencer) → Quiet (sequencer.poll_of s longest_packet)
unfolding sequencer.poll_of sequencer.answered by_sequencer_only
poll_quiet s = judged_elim Quiet (sequencer.call_verdict s longest_packet) (λ r e. refl) (λ e. refl)

copy_quiet : (s : Sequencer) (number : ℕ) → Quiet (sequencer.copy_of s (record { 0 = number }) longest_packet)
unfolding sequencer.copy_of sequencer.answered by_sequencer_only
copy_quiet s number =
    judged_elim Quiet (sequencer.call_verdict s longest_packet) (λ r e. refl)
    (λ e. when_elim Quiet (s.floor.0 <? number and number ≤? s.top.0) (λ t. refl) (λ t. refl))

-- a member's
gap_silent : (m : Member) (last : ℕ) (gapped : memberAnswer.Answer) (whole : member.Outcome) → by_member_only gapped ≡ false → Silent whole → Silent (member.gap_up_to m last gapped whole)
unfolding member.gap_up_to
gap_silent m last gapped whole a b = when_elim Silent (lowest_missing m.held m.taken.0 (last - m.taken.0) =? 0) (λ _. b) (λ _. a)

message_silent : (m : Member) (originator : MemberNumber) (number count : ℕ) (payload : List ℕ) → Silent (member.message_step m originator number count payload)
unfolding member.message_step member.kept_of member.answered by_member_only
message_silent m originator number count payload =
    when_elim Silent (number ≤? m.taken.0) (λ _. refl)
    (λ _. when_elim Silent (number ≤? m.taken.0 + held_most)
    (λ _. when_elim Silent (is_held m.held number) (λ _. refl) (λ _. gap_silent _ (number - 1) memberAnswer.Answer.KeptGap _ refl refl))
    (λ _. gap_silent m (m.taken.0 + held_most) memberAnswer.Answer.BeyondGap (member.answered m memberAnswer.Answer.Beyond) refl refl))

module _ (f : Facts) (nobody : f.needed ≡ 0) where
  content_silent : (m : Member) (content : Packet) (payload : List ℕ) → Says f content payload → Silent (member.content_step m content payload)
  unfolding member.content_step member.broadcast_of member.poll_of member.answered by_member_only
  content_silent m (Request sender taken count) payload so = refl
  content_silent m (Broadcast originator number count floor) payload so =
      when_elim Silent (originator.0 <? m.group.n) (λ _. message_silent _ originator number.0 count payload) (λ _. refl)
  content_silent m (Gap sender taken first last) payload so = refl
  content_silent m (Status sender taken) payload so = refl
  content_silent m (Poll elected top floor) payload so = gap_silent m _ memberAnswer.Answer.Gap (record { member = m; answer = memberAnswer.Answer.Status; bytes = member.status_packet m }) refl refl
  content_silent m (Offer originator number count floor) payload so = let z = so.1 in absurd (omega arith)
  content_silent m (Confirm sender number) payload so = refl
  content_silent m (Accept elected number) payload so = let z = so.1 in absurd (omega arith)
  content_silent m (Invitation sender attempt) payload so = refl
  content_silent m (Packet.Reply sender attempt number) payload so = refl
  content_silent m (Result sender attempt elected number) payload so = refl

submit_silent : (m : Member) (payload : List ℕ) → Silent (member.submit_of m payload longest_packet)
unfolding member.submit_of member.answered by_member_only
submit_silent m payload =
    judged_elim Silent (member.call_verdict m longest_packet) (λ r e. refl)
    (λ e. judged_elim Silent (member.submit_verdict m (length payload)) (λ r g. refl) (λ g. when_elim Silent (m.waiting =? 0) (λ _. refl) (λ _. refl)))

repeat_silent : (m : Member) → Silent (member.repeat_of m longest_packet)
unfolding member.repeat_of member.answered by_member_only
repeat_silent m = judged_elim Silent (member.call_verdict m longest_packet) (λ r e. refl) (λ e. when_elim Silent (1 ≤? m.waiting) (λ _. refl) (λ _. refl))

status_silent : (m : Member) → Silent (member.status_of m longest_packet)
unfolding member.status_of member.answered by_member_only
status_silent m = judged_elim Silent (member.call_verdict m longest_packet) (λ r e. refl) (λ e. refl)

take_silent : (m : Member) → Silent (member.take_of m longest_packet)
unfolding member.take_of member.took_of member.answered by_member_only
take_silent m = judged_elim Silent (member.call_verdict m longest_packet) (λ r e. refl) (λ e. when_elim Silent (member.is_ready m (m.taken.0 + 1)) (λ _. refl) (λ _. refl))

-- an event, and a list of events
refused_silent : (m : Member) → Silent (member.refused m Refusal.ForbiddenFields)
unfolding member.answered by_member_only
refused_silent m = refl

refused_quiet : (s : Sequencer) → Quiet (sequencer.refused s Refusal.ForbiddenFields)
unfolding sequencer.answered by_sequencer_only
refused_quiet s = refl

abbrev Plainly : Happened → Type 0
Plainly d = is_offering d.answer ≡ false

module _ (group : description.Group) (nobody : needed_of group ≡ 0) where
  module _ (w : World) (v : WorldInv group w) where
    abbrev facts : Facts
    facts = facts_in group w.group (order w.log) (λ i. submitted i w.log)

    at_plain : (i : ℕ) (call : Member → member.Outcome) → (i < group.n → Silent (call (get_or w.group.members i no_member))) → Plainly (at_member w.group i call)
    unfolding is_offering
    at_plain i call h =
        when_elim Plainly (i <? length w.group.members) (λ t. h (let z = ltb-true i _ t in let y = v.members in omega arith)) (λ t. refl)

    receive_plain : (i : ℕ) (p : List ℕ) → Known group.number facts p → i < group.n → Silent (member.receive_of (get_or w.group.members i no_member) p longest_packet)
    receive_plain i p k b =
        let m : Member = get_or w.group.members i no_member in
        let h = v.terminal i b in
        subst (λ (bytes : List ℕ). Silent (member.receive_of m bytes longest_packet)) (sym k.bytes_are)
        (subst Silent (sym (receive_is m group k.content k.payload h.content.sound h.seat.group_is k.allowed))
        (when_elim Silent (from_elected m.group k.content) (λ _. content_silent facts nobody m k.content k.payload k.says) (λ _. refused_silent m)))

    sequencer_plain : (p : List ℕ) → Known group.number facts p → Quiet (sequencer.receive_of w.group.sequencer p longest_packet)
    sequencer_plain p k =
        let s : Sequencer = w.group.sequencer in
        subst (λ (bytes : List ℕ). Quiet (sequencer.receive_of s bytes longest_packet)) (sym k.bytes_are)
        (subst Quiet (sym (received group (order w.log) s v.sequencer k.content k.payload k.allowed))
        (when_elim Quiet (from_elected s.group k.content) (λ _. content_quiet facts nobody s k.content k.payload k.says) (λ _. refused_quiet s)))

    happen_plain : (e : Event) → Plainly (happen w.group e)
    unfolding happen is_offering
    happen_plain (submit i payload) = at_plain i (λ m. member.submit_of m payload longest_packet) (λ b. submit_silent _ payload)
    happen_plain (repeat i) = at_plain i (λ m. member.repeat_of m longest_packet) (λ b. repeat_silent _)
    happen_plain (world.take i) = when_elim Plainly (i <? length w.group.members) (λ t. take_silent _) (λ t. refl)
    happen_plain (status i) = at_plain i (λ m. member.status_of m longest_packet) (λ b. status_silent _)
    happen_plain poll = poll_quiet w.group.sequencer
    happen_plain (copy number) = copy_quiet w.group.sequencer number
    happen_plain (hand_member k i) = go (get_elem? w.group.packets k) refl
      where
        go : (x : Option (List ℕ)) → get_elem? w.group.packets k ≡ x → Plainly (hand_to_member w.group i x)
        go none e = refl
        go (some p) e = at_plain i (λ m. member.receive_of m p longest_packet) (receive_plain i p (all_get _ w.group.packets k v.packets e))
    happen_plain (hand_sequencer k) = go (get_elem? w.group.packets k) refl
      where
        go : (x : Option (List ℕ)) → get_elem? w.group.packets k ≡ x → Plainly (hand_to_sequencer w.group x)
        go none e = refl
        go (some p) e = sequencer_plain p (all_get _ w.group.packets k v.packets e)

  pub answers_plain : group.n ≤ members_most → group.number ≤ largest_number → (w : World) (es : List Event) → WorldInv group w
      → All (λ (entry : Entry). is_offering entry.answer ≡ false) w.log → All (λ (entry : Entry). is_offering entry.answer ≡ false) (run w es).log
  unfolding run
  answers_plain hn hg w [] v h = h
  answers_plain hn hg w (e ∷ es) v h =
      answers_plain hn hg (step w e) es (next_keeps group hn hg w e v)
      (all_append (λ (entry : Entry). is_offering entry.answer ≡ false) w.log (record { event = e; answer = (happen w.group e).answer } ∷ []) h (happen_plain w v e, tt))
