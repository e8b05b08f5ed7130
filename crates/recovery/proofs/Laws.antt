-- The laws that `specs/Laws.antt` states of soundness, call by call. Assumes nothing.
use Rattle.std.specs.Prelude.{Ok, Err}
use mathlib.Core.Path.{◌≡◌, refl, sym, ap, ◌∙◌, subst}
use mathlib.Core.Bool.{Bool, true, false, false≢true}
use mathlib.Core.List.{List}
use Prim.Native.Nat.{ℕ, ◌+◌, ◌-◌, ◌≤◌}
use native.Mathlib.Omega.{arith}
use borrow.Author.Tests.{leb-true, ltb-true, eqb-true, eq-eqb}
use lib.Bits.{bit_and}
use lib.Count.{ones}
use lib.ListN.{length, get_or}
use Rattle.group.proofs.Choice.{when_true, both_first, both_then}
use Rattle.group.proofs.Lists.{when_elim, judged_elim}
use Rattle.group.specs.Choice.{when◌then◌else◌, ◌and◌, ◌<?◌, ◌≤?◌, ◌=?◌}
use Rattle.group.specs.Limits.{held_most, header_size, largest_number}
use Rattle.group.specs.Members.{is_in, is_within, all_of, expected_of}
use Rattle.group.specs.Question.{judged}
use Rattle.group.specs.declared.Group.{Group}
use Rattle.group.specs.declared.MemberNumber.{MemberNumber}
use Rattle.group.specs.declared.SequenceNumber.{SequenceNumber}
use Rattle.message.specs.Message.{Message, message_of}
use Rattle.packet.proofs.Laws.{fields_content}
use Rattle.packet.proofs.Verdicts.{askable, readable}
use Rattle.packet.specs.Packet.{header_of, payload_at, read_of, content_of, fields_of, from_elected, obeys, survivors_in}
use Rattle.packet.specs.declared.Header.{Header}
use Rattle.packet.specs.declared.Packet.{Packet}
use Rattle.packet.specs.Answers.{Reading}
use Rattle.member.proofs.Acknowledged.{reach_took}
use Rattle.member.proofs.Keeping as memberKeeping
use Rattle.member.proofs.Laws as memberProofs
use Rattle.member.proofs.Receiving.{read_heard}
use Rattle.member.proofs.Soundness as member
use Rattle.member.specs.Calls as calls
use Rattle.member.specs.Laws as memberLaws
use Rattle.member.specs.Sound as memberCalls
use Rattle.member.specs.State.{Member, reach_of}
use Rattle.member.specs.declared.Answer.{Answer}
use Rattle.window.specs.Places as window
use Rattle.recovery.specs.Begin.{cut_of, chosen_of, result_of}
use Rattle.recovery.specs.Calls.{Outcome, refused, carried, with_member, with_reset, freezes, call_verdict, whole_verdict, kept_took, of_reset, floor_in, heard_of, invited_of, result_fits, reset_step, read_step, submit_of, repeat_of, status_of, receive_of, take_of, invite_of, make_of}
use Rattle.recovery.specs.Laws.{Typed, SubmitKeeps, RepeatKeeps, StatusKeeps, TakeKeeps, ReceiveKeeps, InviteKeeps, MakeKeeps}
use Rattle.recovery.specs.Sound.{sequencer_sound, terminal_sound}
use Rattle.recovery.specs.State.{Kept, Reset, Terminal, reply_number}
use Rattle.recovery.proofs.Asking.{member_called}
use Rattle.recovery.proofs.Choosing.{chosen_replied}
use Rattle.recovery.proofs.Keeping.{Sound, sound_of_lem, of_sound, ResetSound, invited_sound, replied_sound, closed_sound, reply_sound_lem, result_sound}
use Rattle.recovery.proofs.Kept.{KeptSound, took_kept, read_kept}

-- an outcome that leaves the terminal sound
abbrev Stays : Outcome → Type 0
Stays o = Sound o.terminal

pub invite_keeps : InviteKeeps
unfolding invite_of refused
invite_keeps t number room typed e =
    let sound = sound_of_lem t e in
    of_sound _ (judged_elim Stays (whole_verdict t room) (λ r _. sound) (λ _. invited_sound t sound number))

pub make_keeps : MakeKeeps
unfolding make_of refused
make_keeps t demand room typed e =
    let sound = sound_of_lem t e in
    let r : Reset = t.reset in
    of_sound _
    (judged_elim Stays (whole_verdict t room) (λ q _. sound)
    (λ _. when_elim Stays r.inviting
    (λ inviting. when_elim Stays (demand ≤? ones r.repliers)
    (λ _.
    let s = sound.reset in
    let itself = s.itself inviting in
    let less = sound.member.number_lt in
    let most = sound.member.n_most in
    let c = chosen_replied r typed.replies t.member.number.0 (omega arith) itself in
    result_sound t typed sound r.invited (chosen_of r) (record { 0 = cut_of r }) r.repliers (s.members inviting) c.0 itself
    (λ q. sym c.1 ∙ ap (λ (i : ℕ). get_or r.replies i 0) q ∙ s.own_number inviting ∙ sound.number_is (s.open_reply inviting)))
    (λ _. sound))
    (λ _. sound)))

-- a member that took, held or learned: with the same group, number and taken, and no reply open or the same reach
module _ (t : Terminal) (sound : Sound t) where
  moved : (m : Member) (kept : Kept) → member.Sound m → m.group ≡ t.member.group → m.number ≡ t.member.number
      → KeptSound m.group.n m.taken.0 kept → (t.reset.replied ≡ true → reach_of m ≡ reach_of t.member) → Sound (with_member t m kept)
  unfolding reply_number sequencer_sound
  moved m kept s group number k reach =
      record {
        member = s;
        kept = k;
        reset = subst (λ (x : Group). ResetSound (record { group = x; number = m.number; taken = m.taken; accepted = m.accepted; submitted = m.submitted; waiting = m.waiting; queue = m.queue; held = m.held }) t.reset) (sym group) (same_number m.number number);
        sequencer = rw group sound.sequencer;
        number_is = λ r. sound.number_is r ∙ rw (reach r, group);
        freezes = λ r e. sound.freezes r (rw group at e);
      }
    where
      same_number : (x : MemberNumber) → x ≡ t.member.number
          → ResetSound (record { group = t.member.group; number = x; taken = m.taken; accepted = m.accepted; submitted = m.submitted; waiting = m.waiting; queue = m.queue; held = m.held }) t.reset
      same_number x e =
          let r = sound.reset in
          record {
            idle = r.idle;
            open_reply = r.open_reply;
            itself = λ i. rw e (r.itself i);
            own_number = λ i. rw e (r.own_number i);
            members = r.members;
            closed = r.closed;
            silent = r.silent;
          }

module _ (t : Terminal) (typed : Typed t) (sound : Sound t) where
  abbrev next : ℕ
  next = t.member.taken.0 + 1

  abbrev taken_next : Message
  taken_next = window.message_at t.member.held next

  took_by : (b : Bool) → calls.is_ready t.member next ≡ b
      → Stays (carried t (when b then kept_took t.kept next taken_next else t.kept) (when b then calls.took_of t.member taken_next else calls.answered t.member Answer.None))
  unfolding when◌then◌else◌ calls.is_ready calls.took_of calls.answered calls.with_taken
  took_by true e =
      let m : Member = t.member in
      let held = ltb-true 0 taken_next.count (both_first (0 <? taken_next.count) _ e) in
      let ready = leb-true next m.accepted.0 (both_then (0 <? taken_next.count) _ e) in
      let h = sound.member.places.holds next (omega arith) (omega arith) held in
      let most = sound.member.n_most in
      let l = typed.counts in
      moved t sound (calls.with_taken m taken_next) (kept_took t.kept next taken_next) (memberKeeping.taken_sound m typed.member taken_next sound.member ready) refl refl
      (took_kept m.group.n m.taken.0 t.kept taken_next typed.past (omega arith) h.originator_lt held h.short h.zero_behind_lem sound.kept)
      (λ _. reach_took m taken_next typed.member sound.member held)
  took_by false e = sound

pub take_keeps : TakeKeeps
unfolding take_of refused calls.take_of judged
take_keeps t room typed e =
    let sound = sound_of_lem t e in
    of_sound _
    (judged_elim Stays (call_verdict t room) (λ r _. sound)
    (λ a. rw (member_called t room a) (took_by t typed sound (calls.is_ready t.member (t.member.taken.0 + 1)) refl)))

-- what submit, repeat and status leave of a member: all but what waits
pub record Still (m m' : Member) : Type 0 where
  pub group : m'.group ≡ m.group
  pub number : m'.number ≡ m.number
  pub taken : m'.taken ≡ m.taken
  pub held : m'.held ≡ m.held

still : (m : Member) → Still m m
still m = record { group = refl; number = refl; taken = refl; held = refl }

pub submit_still : (m : Member) (payload : List ℕ) (room : ℕ) → Still m (calls.submit_of m payload room).member
unfolding calls.submit_of calls.answered calls.with_waiting
submit_still m payload room =
    let P : calls.Outcome → Type 0 = λ o. Still m o.member in
    judged_elim P (calls.call_verdict m room) (λ _ _. still m)
    (λ _. judged_elim P (calls.submit_verdict m (length payload)) (λ _ _. still m)
    (λ _. when_elim P (m.waiting =? 0) (λ _. record { group = refl; number = refl; taken = refl; held = refl }) (λ _. record { group = refl; number = refl; taken = refl; held = refl })))

pub repeat_still : (m : Member) (room : ℕ) → Still m (calls.repeat_of m room).member
unfolding calls.repeat_of calls.answered
repeat_still m room =
    let P : calls.Outcome → Type 0 = λ o. Still m o.member in
    judged_elim P (calls.call_verdict m room) (λ _ _. still m) (λ _. when_elim P (1 ≤? m.waiting) (λ _. still m) (λ _. still m))

pub status_still : (m : Member) (room : ℕ) → Still m (calls.status_of m room).member
unfolding calls.status_of calls.answered
status_still m room =
    let P : calls.Outcome → Type 0 = λ o. Still m o.member in
    judged_elim P (calls.call_verdict m room) (λ _ _. still m) (λ _. still m)

-- a call that is the member's, which leaves its reach
carried_stays : (t : Terminal) → Sound t → (room : ℕ) (o : calls.Outcome) → Still t.member o.member → (memberCalls.sound_of t.member ≡ true → memberCalls.sound_of o.member ≡ true)
    → Stays (judged (call_verdict t room) (refused t) (carried t t.kept o))
unfolding refused reach_of
carried_stays t sound room o s keeps =
    judged_elim Stays (call_verdict t room) (λ _ _. sound)
    (λ _. moved t sound o.member t.kept (member.sound_of_lem o.member (keeps (member.of_sound t.member sound.member))) s.group s.number
    (rw (s.group, s.taken) sound.kept) (λ _. rw (s.taken, s.held)))

pub submit_keeps : SubmitKeeps
unfolding submit_of
submit_keeps t payload room typed e =
    of_sound _
    (carried_stays t (sound_of_lem t e) room (calls.submit_of t.member payload room) (submit_still t.member payload room) (memberProofs.submit_keeps t.member payload room typed.member).0.sound)

pub repeat_keeps : RepeatKeeps
unfolding repeat_of
repeat_keeps t room typed e =
    of_sound _ (carried_stays t (sound_of_lem t e) room (calls.repeat_of t.member room) (repeat_still t.member room) (memberProofs.repeat_keeps t.member room typed.member).0.sound)

pub status_keeps : StatusKeeps
unfolding status_of
status_keeps t room typed e =
    of_sound _ (carried_stays t (sound_of_lem t e) room (calls.status_of t.member room) (status_still t.member room) (memberProofs.status_keeps t.member room typed.member).0.sound)

-- what a packet leaves of a member: its group, its number and what it took
pub record Frame (m m' : Member) : Type 0 where
  pub group : m'.group ≡ m.group
  pub number : m'.number ≡ m.number
  pub taken : m'.taken ≡ m.taken

module _ (m : Member) where
  abbrev Framed : calls.Outcome → Type 0
  Framed o = Frame m o.member

  gap_frame : (m' : Member) (last : ℕ) (gapped : Answer) (whole : calls.Outcome) → Frame m m' → Framed whole → Framed (calls.gap_up_to m' last gapped whole)
  unfolding calls.gap_up_to
  gap_frame m' last gapped whole f w = when_elim Framed (window.lowest_missing m'.held m'.taken.0 (last - m'.taken.0) =? 0) (λ _. w) (λ _. f)

  message_frame : (m' : Member) (originator : MemberNumber) (number count : ℕ) (payload : List ℕ) → Frame m m' → Framed (calls.message_step m' originator number count payload)
  unfolding calls.message_step calls.kept_of calls.answered calls.with_held
  message_frame m' originator number count payload f =
      let f' : Frame m (calls.with_held m' number (message_of originator count payload)) = record { group = f.group; number = f.number; taken = f.taken } in
      when_elim Framed (number ≤? m'.taken.0) (λ _. f)
      (λ _. when_elim Framed (number ≤? m'.taken.0 + held_most)
      (λ _. when_elim Framed (window.is_held m'.held number) (λ _. f) (λ _. gap_frame _ (number - 1) Answer.KeptGap _ f' f'))
      (λ _. gap_frame m' (m'.taken.0 + held_most) Answer.BeyondGap _ f f))

  same_frame : Frame m m
  same_frame = record { group = refl; number = refl; taken = refl }

  accepted_frame : (number : ℕ) → Frame m (calls.with_accepted m number)
  unfolding calls.with_accepted
  accepted_frame number = record { group = refl; number = refl; taken = refl }

  pub content_frame : (content : Packet) (payload : List ℕ) → Framed (calls.content_step m content payload)
  unfolding calls.content_step calls.broadcast_of calls.offer_of calls.confirmed_of calls.poll_of calls.answered
  content_frame (Packet.Request sender taken count) payload = same_frame
  content_frame (Packet.Broadcast originator number count floor) payload =
      when_elim Framed (originator.0 <? m.group.n) (λ _. message_frame (calls.with_accepted m number.0) originator number.0 count payload (accepted_frame number.0)) (λ _. same_frame)
  content_frame (Packet.Gap sender taken first last) payload = same_frame
  content_frame (Packet.Status sender taken) payload = same_frame
  content_frame (Packet.Poll elected top floor) payload = gap_frame m _ Answer.Gap _ same_frame same_frame
  content_frame (Packet.Offer originator number count floor) payload =
      let o : calls.Outcome = calls.message_step m originator number.0 count payload in
      when_elim Framed (originator.0 <? m.group.n)
      (λ _. when_elim Framed (calls.confirms o.answer and calls.none_missing o.member number.0 and is_in (expected_of o.member.group) o.member.number.0)
      (λ _. message_frame m originator number.0 count payload same_frame) (λ _. message_frame m originator number.0 count payload same_frame))
      (λ _. same_frame)
  content_frame (Packet.Confirm sender number) payload = same_frame
  content_frame (Packet.Accept elected number) payload = accepted_frame number.0
  content_frame (Packet.Invitation sender attempt) payload = same_frame
  content_frame (Packet.Reply sender attempt number) payload = same_frame
  content_frame (Packet.Result sender attempt elected number) payload = same_frame

-- a member reads what a packet of our group says
read_content : (m : Member) (h : Header) (payload : List ℕ) → from_elected m.group (content_of h) ≡ true → (h.group =? m.group.number) ≡ true
    → calls.read_step m (Ok h) payload ≡ calls.content_step m (content_of h) payload
unfolding calls.read_step
read_content m h payload u g =
    sym (when_true (h.group =? m.group.number) (calls.content_step m (content_of h) payload) _ _ g refl
    ∙ when_true (from_elected m.group (content_of h)) _ _ _ u refl)

-- its types can hold what such a packet leaves
pub content_typed : (t : Terminal) → Typed t → Sound t → (p : List ℕ) → (header_of p).a ≤ largest_number → (h : Header) → read_of p ≡ Ok h → from_elected t.member.group (content_of h) ≡ true
    → (h.group =? t.member.group.number) ≡ true → memberLaws.Typed (calls.content_step t.member (content_of h) (payload_at p)).member
content_typed t typed sound p most h e u ours =
    let m : Member = t.member in
    let right : memberProofs.Right m = (typed.member, sound.member) in
    let x = read_heard memberProofs.Right (λ m r. r.0) (λ m r. r.1) m right (Ok h) (payload_at p) (λ h' q. memberProofs.read_keepable m p most right h' (e ∙ q)) in
    subst (λ (o : calls.Outcome). memberLaws.Typed o.member) (read_content m h (payload_at p) u ours) x.state.0

not_replied : (b : Bool) → (when b then false else true) ≡ true → b ≡ false
unfolding when◌then◌else◌
not_replied true e = sym e
not_replied false e = refl

module _ (t : Terminal) (typed : Typed t) (sound : Sound t) where
  heard_stays : (content : Packet) (payload : List ℕ) → member.Sound (calls.content_step t.member content payload).member → t.reset.replied ≡ false
      → Stays (heard_of t content payload)
  unfolding heard_of
  heard_stays content payload s closed =
      let m : Member = t.member in
      let f = content_frame m content payload in
      let o : calls.Outcome = calls.content_step m content payload in
      let k = read_kept t.kept o.answer (floor_in content) m.group.n m.taken.0 sound.kept in
      moved t sound o.member _ s f.group f.number (rw (f.group, f.taken) k) (λ r. absurd (false≢true (sym closed ∙ r)))

  -- a result that fits
  result_stays : (attempt : ℕ) (elected : MemberNumber) (number : SequenceNumber) (survivors : ℕ) → bit_and survivors (all_of t.member.group.n) ≡ survivors
      → is_in survivors elected.0 ≡ true → result_fits t attempt elected number survivors ≡ true → Sound (result_of t attempt elected number survivors)
  unfolding result_fits
  result_stays attempt elected number survivors within elected_in f =
      let replied' = both_first t.reset.replied _ f in
      let rest = both_then t.reset.replied _ f in
      let rest2 = both_then (t.reset.attempt =? attempt) _ rest in
      let inside = both_first (is_in survivors t.member.number.0) _ rest2 in
      let rest3 = both_then (is_in survivors t.member.number.0) _ rest2 in
      let low = leb-true t.reset.number.0 number.0 (both_first (t.reset.number.0 ≤? number.0) _ rest3) in
      let last = both_then (t.reset.number.0 ≤? number.0) _ rest3 in
      result_sound t typed sound attempt elected number survivors within elected_in inside
      (λ q.
      let high = leb-true number.0 t.reset.number.0 (when_true (elected.0 =? t.member.number.0) _ _ _ (eq-eqb _ _ q) refl ∙ last) in
      let is = sound.number_is replied' in
      omega arith)

  -- a packet of a reset
  reset_stays : (g : ℕ) (content : Packet) (payload : List ℕ) → obeys (fields_of g content) payload ≡ true → Stays (reset_step t content payload)
  unfolding reset_step refused invited_of result_fits obeys fields_of when◌then◌else◌
  reset_stays g (Packet.Request sender taken count) payload o = sound
  reset_stays g (Packet.Broadcast originator number count floor) payload o = sound
  reset_stays g (Packet.Gap sender taken first last) payload o = sound
  reset_stays g (Packet.Status sender taken) payload o = sound
  reset_stays g (Packet.Poll elected top floor) payload o = sound
  reset_stays g (Packet.Offer originator number count floor) payload o = sound
  reset_stays g (Packet.Confirm sender number) payload o = sound
  reset_stays g (Packet.Accept elected number) payload o = sound
  reset_stays g (Packet.Invitation sender attempt) payload o =
      when_elim Stays (sender.0 <? t.member.group.n)
      (λ _. when_elim (λ (r : Reset). Sound (with_reset t r (freezes t))) (sender.0 =? t.member.number.0) (λ _. replied_sound t sound attempt) (λ _. closed_sound t sound attempt))
      (λ _. sound)
  reset_stays g (Packet.Reply sender attempt number) payload o =
      when_elim Stays (sender.0 <? t.member.group.n)
      (λ less. when_elim Stays (t.reset.inviting and t.reset.invited =? attempt)
      (λ f. reply_sound_lem t sound sender number.0 (ltb-true sender.0 t.member.group.n less) (both_first t.reset.inviting _ f) typed.replies)
      (λ _. sound))
      (λ _. sound)
  reset_stays g (Packet.Result sender attempt elected number) payload o =
      let survivors = survivors_in payload in
      let n = t.member.group.n in
      when_elim Stays (sender.0 <? n and is_within survivors (all_of n))
      (λ w. when_elim Stays (result_fits t attempt elected number survivors)
      (λ f. result_stays attempt elected number survivors (eqb-true _ _ (both_then (sender.0 <? n) _ w)) (both_then (is_in survivors sender.0) _ o) f)
      (λ _. sound))
      (λ _. sound)

  read_stays : (p : List ℕ) → (header_of p).a ≤ largest_number → (reading : Reading) → read_of p ≡ reading → Stays (read_step t reading (payload_at p))
  unfolding read_step refused
  read_stays p most (Err refusal) e = sound
  read_stays p most (Ok h) e =
      let m : Member = t.member in
      let payload = payload_at p in
      let a = readable p h e in
      let c = fields_content h (length p - header_size) payload a.fields in
      let obey = (askable h (length p - header_size) payload a.fields).obey in
      let right : memberProofs.Right m = (typed.member, sound.member) in
      let x = read_heard memberProofs.Right (λ m r. r.0) (λ m r. r.1) m right (Ok h) payload (λ h' q. memberProofs.read_keepable m p most right h' (e ∙ q)) in
      when_elim Stays (from_elected m.group (content_of h))
      (λ u. when_elim Stays (of_reset (content_of h))
      (λ _. when_elim Stays (terminal_sound t)
      (λ _. when_elim Stays (h.group =? m.group.number) (λ _. reset_stays h.group (content_of h) payload (rw c obey)) (λ _. sound))
      (λ _. sound))
      (λ _. when_elim Stays (h.group =? m.group.number and (when t.reset.replied then false else true))
      (λ g.
      let ours = both_first (h.group =? m.group.number) _ g in
      heard_stays (content_of h) payload
      (subst (λ (o : calls.Outcome). member.Sound o.member) (read_content m h payload u ours) x.state.1)
      (not_replied t.reset.replied (both_then (h.group =? m.group.number) _ g)))
      (λ _. sound)))
      (λ _. sound)

pub receive_keeps : ReceiveKeeps
unfolding receive_of refused
receive_keeps t packet room most typed e =
    let sound = sound_of_lem t e in
    of_sound _
    (judged_elim Stays (call_verdict t room) (λ r _. sound) (λ _. read_stays t typed sound packet most (read_of packet) refl))
