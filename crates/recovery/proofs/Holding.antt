-- A terminal's poll and copy call are its sequencer's, and leave it sound; and every call leaves a terminal that its types can hold one that they can hold.
-- Assumes nothing.
use Rattle.std.specs.Prelude.{Ok, Err}
use mathlib.Core.Path.{◌≡◌, refl, sym, ap, ◌∙◌, subst}
use mathlib.Core.Bool.{Bool, true, false}
use mathlib.Core.List.{List}
use Prim.Native.Nat.{ℕ, zero, suc, ◌+◌, ◌-◌, ◌^◌, ◌≤◌, ◌<◌}
use native.Mathlib.Nat.{le_refl}
use native.Mathlib.Omega.{arith}
use borrow.Author.Tests.{ltb-true}
use lib.Bits.{or_lt}
use lib.Count.{ones}
use lib.ListN.{length, get_or, set, replicate, length-set, length-replicate, get_or-replicate, get_or-eq_default}
use lib.Pow.{pow-lt, pow_pos}
use lib.Seq.{get_or-set_same, get_or-set_other}
use Rattle.group.proofs.Choice.{both_first}
use Rattle.group.proofs.Lists.{when_elim, judged_elim, eq_or, le_or}
use Rattle.group.specs.Choice.{when◌then◌else◌, ◌and◌, ◌<?◌, ◌≤?◌, ◌=?◌}
use Rattle.group.specs.Limits.{members_most, places_most, held_most, largest_number}
use Rattle.group.specs.Members.{is_in, is_within, only_of, all_of, expected_of}
use Rattle.group.specs.declared.Group.{Group}
use Rattle.group.specs.declared.MemberNumber.{MemberNumber}
use Rattle.group.specs.declared.SequenceNumber.{SequenceNumber}
use Rattle.history.specs.State as history
use Rattle.history.specs.State.{Acknowledgement, no_acknowledgement}
use Rattle.message.specs.Message.{Message, empty_message, blank, message_of}
use Rattle.member.proofs.Laws as memberProofs
use Rattle.member.specs.Calls as calls
use Rattle.member.specs.Laws as memberLaws
use Rattle.member.specs.State.{Member, reach_of}
use Rattle.member.specs.declared.Answer.{Answer}
use Rattle.packet.proofs.Verdicts.{readable}
use Rattle.packet.specs.Laws.{Fits}
use Rattle.packet.specs.Packet.{request_kind, broadcast_kind, gap_kind, status_kind, poll_kind, offer_kind, confirm_kind, accept_kind, invitation_kind, reply_kind, header_of, read_of, payload_at, content_of, from_elected, survivors_in}
use Rattle.packet.specs.declared.Header.{Header}
use Rattle.packet.specs.declared.Packet.{Packet}
use Rattle.packet.specs.Answers.{Reading}
use Rattle.sequencer.proofs.Laws as sequencerProofs
use Rattle.sequencer.specs.Calls as sequencer
use Rattle.sequencer.specs.Laws as sequencerLaws
use Rattle.sequencer.specs.State.{Sequencer}
use Rattle.window.proofs.Row.{le_larger}
use Rattle.window.specs.Places as window
use Rattle.window.specs.Places.{larger_of}
use Rattle.recovery.specs.Begin.{cut_of, chosen_of, made_group, table_from, counts_in, history_from, begun, elected_sequencer, result_of}
use Rattle.recovery.specs.Calls.{Outcome, refused, ordered, with_member, with_reset, with_sequencer, call_verdict, whole_verdict, submit_of, repeat_of, status_of, take_of, kept_took, kept_read, floor_in, of_reset, is_refusal, heard_of, replied, uninvited, invitation, freezes, with_reply, invited_of, result_fits, reset_step, read_step, receive_of, invite_of, make_of, order_of, poll_of, copy_of}
use Rattle.recovery.specs.Laws.{PollFirstNo, CopyFirstNo, PollKeeps, CopyKeeps, Holds, SubmitHolds, RepeatHolds, StatusHolds, TakeHolds, ReceiveHolds, InviteHolds, MakeHolds, OrderHolds, PollHolds, CopyHolds}
use Rattle.recovery.specs.Sound.{terminal_sound}
use Rattle.recovery.specs.State.{Kept, Reset, Terminal, serves, reply_number, kept_floor, counted, counted_row, counts_of}
use Rattle.recovery.proofs.Beginning.{table_length, table_entry, counts_at, counts_length, reach_fits, history_length}
use Rattle.recovery.proofs.Choosing.{chosen_replied}
use Rattle.recovery.proofs.Keeping.{Sound, sound_of_lem}
use Rattle.recovery.proofs.Kept.{counted_length, row_length, read_past, read_counts}
use Rattle.recovery.proofs.Laws.{Still, submit_still, repeat_still, status_still, content_typed}
use Rattle.recovery.proofs.Ordering.{order_left}
use Rattle.recovery.proofs.Result.{dropped_length, dropped_each}

-- poll and copy leave the sequencer
pub poll_leaves : (s : Sequencer) (room : ℕ) → (sequencer.poll_of s room).sequencer ≡ s
unfolding sequencer.poll_of sequencer.answered
poll_leaves s room = judged_elim (λ (x : sequencer.Outcome). x.sequencer ≡ s) (sequencer.call_verdict s room) (λ _ _. refl) (λ _. refl)

pub copy_leaves : (s : Sequencer) (k : SequenceNumber) (room : ℕ) → (sequencer.copy_of s k room).sequencer ≡ s
unfolding sequencer.copy_of sequencer.answered
copy_leaves s k room =
    let P : sequencer.Outcome → Type 0 = λ x. x.sequencer ≡ s in
    judged_elim P (sequencer.call_verdict s room) (λ _ _. refl) (λ _. when_elim P (s.floor.0 <? k.0 and k.0 ≤? s.top.0) (λ _. refl) (λ _. refl))

pub poll_terminal : (t : Terminal) (room : ℕ) → (poll_of t room).terminal ≡ t
unfolding poll_of
poll_terminal t room = ap (with_sequencer t) (poll_leaves t.sequencer room)

pub copy_terminal : (t : Terminal) (number : SequenceNumber) (room : ℕ) → (copy_of t number room).terminal ≡ t
unfolding copy_of
copy_terminal t number room = ap (with_sequencer t) (copy_leaves t.sequencer number room)

pub poll_first_no : PollFirstNo
unfolding poll_of
poll_first_no t room =
    let x = sequencerProofs.poll_first_no t.sequencer room in
    record { refuses = λ refusal n. ap (ordered t) (x.refuses refusal n); accepts = x.accepts }

pub copy_first_no : CopyFirstNo
unfolding copy_of
copy_first_no t number room =
    let x = sequencerProofs.copy_first_no t.sequencer number room in
    record { refuses = λ refusal n. ap (ordered t) (x.refuses refusal n); accepts = x.accepts }

pub poll_keeps : PollKeeps
poll_keeps t room sound = subst (λ (x : Terminal). terminal_sound x ≡ true) (sym (poll_terminal t room)) sound

pub copy_keeps : CopyKeeps
copy_keeps t number room sound = subst (λ (x : Terminal). terminal_sound x ≡ true) (sym (copy_terminal t number room)) sound

pub poll_holds : PollHolds
poll_holds t room h = subst Holds (sym (poll_terminal t room)) h

pub copy_holds : CopyHolds
copy_holds t number room h = subst Holds (sym (copy_terminal t number room)) h

abbrev Stays : Outcome → Type 0
Stays o = Holds o.terminal

-- a changed member, and what it keeps
member_holds : (t : Terminal) (m' : Member) (kept' : Kept) → Holds t → memberLaws.Typed m' → length kept'.past ≡ places_most → length kept'.counts ≡ members_most → kept'.read.0 ≤ largest_number
    → ((i : ℕ) → get_or kept'.counts i 0 ≤ largest_number) → ((s : ℕ) → (window.message_at m'.held s).count ≤ largest_number) → Holds (with_member t m' kept')
member_holds t m' kept' h typed past counts read fit held =
    record {
      typed = record { member = typed; sequencer = h.typed.sequencer; past = past; counts = counts; replies = h.typed.replies };
      read = read;
      counted = fit;
      held = held;
      attempt = h.attempt;
      number = h.number;
      invited = h.invited;
      repliers = h.repliers;
      replied = h.replied;
    }

still_holds : (t : Terminal) (m' : Member) → Holds t → memberLaws.Typed m' → Still t.member m' → Holds (with_member t m' t.kept)
still_holds t m' h typed still =
    member_holds t m' t.kept h typed h.typed.past h.typed.counts h.read h.counted (λ s. subst (λ (l : List Message). (window.message_at l s).count ≤ largest_number) (sym still.held) (h.held s))

pub submit_holds : SubmitHolds
unfolding submit_of refused
submit_holds t payload room h =
    judged_elim Stays (call_verdict t room) (λ _ _. h) (λ _. still_holds t _ h (memberProofs.submit_keeps t.member payload room h.typed.member).0.typed (submit_still t.member payload room))

pub repeat_holds : RepeatHolds
unfolding repeat_of refused
repeat_holds t room h =
    judged_elim Stays (call_verdict t room) (λ _ _. h) (λ _. still_holds t _ h (memberProofs.repeat_keeps t.member room h.typed.member).0.typed (repeat_still t.member room))

pub status_holds : StatusHolds
unfolding status_of refused
status_holds t room h =
    judged_elim Stays (call_verdict t room) (λ _ _. h) (λ _. still_holds t _ h (memberProofs.status_keeps t.member room h.typed.member).0.typed (status_still t.member room))

-- counts with a message's
counted_fit : (counts : List ℕ) (m : Message) → ((i : ℕ) → get_or counts i 0 ≤ largest_number) → m.count ≤ largest_number → (i : ℕ) → get_or (counted counts m) i 0 ≤ largest_number
unfolding counted
counted_fit counts m h fits i =
    let v : ℕ = larger_of (get_or counts m.originator.0 0) m.count in
    let most : v ≤ largest_number = le_larger (get_or counts m.originator.0 0) m.count largest_number (h m.originator.0) fits in
    eq_or i m.originator.0
    (λ q. le_or (length counts) m.originator.0
    (λ l. let z : get_or (set counts m.originator.0 v) i 0 ≡ 0 = get_or-eq_default (set counts m.originator.0 v) 0 {n = i} (let y = length-set counts m.originator.0 v in omega arith) in omega arith)
    (λ l. let z : get_or (set counts m.originator.0 v) i 0 ≡ v = ap (λ (k : ℕ). get_or (set counts m.originator.0 v) k 0) q ∙ get_or-set_same counts m.originator.0 v 0 l in omega arith))
    (λ q. let z : get_or (set counts m.originator.0 v) i 0 ≡ get_or counts i 0 = get_or-set_other counts m.originator.0 i v 0 q in let y = h i in omega arith)

row_fit : (counts : List ℕ) (held : List Message) (t k : ℕ) → ((i : ℕ) → get_or counts i 0 ≤ largest_number) → ((s : ℕ) → (window.message_at held s).count ≤ largest_number) → (i : ℕ) → get_or (counted_row counts held t k) i 0 ≤ largest_number
unfolding counted_row
row_fit counts held t zero h b i = h i
row_fit counts held t (suc k) h b i = counted_fit (counted_row counts held t k) (window.message_at held (t + suc k)) (row_fit counts held t k h b) (b (t + suc k)) i

-- a held message more, or one cleared
set_fit : (held : List Message) (k : ℕ) (x : Message) → length held ≡ held_most → x.count ≤ largest_number → ((s : ℕ) → (window.message_at held s).count ≤ largest_number) → (s : ℕ)
    → (window.message_at (set held (window.place_of k) x) s).count ≤ largest_number
set_fit held k x long fits h s =
    eq_or (window.place_of s) (window.place_of k)
    (λ q. let z : window.message_at (set held (window.place_of k) x) s ≡ x = ap (λ (j : ℕ). get_or (set held (window.place_of k) x) j blank) q ∙ get_or-set_same held (window.place_of k) x blank (omega arith) in subst (λ (y : Message). y.count ≤ largest_number) (sym z) fits)
    (λ q. subst (λ (y : Message). y.count ≤ largest_number) (sym (get_or-set_other held (window.place_of k) (window.place_of s) x blank q)) (h s))

empty_fit : empty_message.count ≤ largest_number
unfolding empty_message
empty_fit = omega arith

-- a take
take_held : (m : Member) (room : ℕ) → memberLaws.Typed m → ((s : ℕ) → (window.message_at m.held s).count ≤ largest_number) → (s : ℕ) → (window.message_at (calls.take_of m room).member.held s).count ≤ largest_number
unfolding calls.take_of calls.answered calls.took_of calls.with_taken
take_held m room typed h =
    let P : calls.Outcome → Type 0 = λ o. (s : ℕ) → (window.message_at o.member.held s).count ≤ largest_number in
    judged_elim P (calls.call_verdict m room) (λ _ _. h) (λ _. when_elim P (calls.is_ready m (m.taken.0 + 1)) (λ _. set_fit m.held (m.taken.0 + 1) empty_message typed.held empty_fit h) (λ _. h))

pub take_holds : TakeHolds
unfolding take_of refused kept_took
take_holds t room h =
    let m : Member = t.member in
    let next : ℕ = m.taken.0 + 1 in
    let typed = (memberProofs.take_keeps m room h.typed.member).0.typed in
    let held = take_held m room h.typed.member h.held in
    judged_elim Stays (call_verdict t room) (λ _ _. h)
    (λ _. when_elim (λ (k : Kept). Holds (with_member t (calls.take_of m room).member k)) (calls.is_ready m next)
    (λ _. member_holds t _ (kept_took t.kept next (window.message_at m.held next)) h typed (length-set t.kept.past (history.place_of next) _ ∙ h.typed.past) (counted_length t.kept.counts _ ∙ h.typed.counts) h.read
    (counted_fit t.kept.counts (window.message_at m.held next) h.counted (h.held next)) held)
    (λ _. member_holds t _ t.kept h typed h.typed.past h.typed.counts h.read h.counted held))

-- the sequencer's call for packets
pub order_holds : OrderHolds
unfolding order_of
order_holds t packet room most h =
    record {
      typed = record { member = h.typed.member; sequencer = order_left t packet room most h.typed.sequencer; past = h.typed.past; counts = h.typed.counts; replies = h.typed.replies };
      read = h.read;
      counted = h.counted;
      held = h.held;
      attempt = h.attempt;
      number = h.number;
      invited = h.invited;
      repliers = h.repliers;
      replied = h.replied;
    }

-- what a packet's fields are at most
abbrev CountOf : Packet → ℕ
CountOf (Packet.Request sender taken count) = 0
CountOf (Packet.Broadcast originator number count floor) = count
CountOf (Packet.Gap sender taken first last) = 0
CountOf (Packet.Status sender taken) = 0
CountOf (Packet.Poll elected top floor) = 0
CountOf (Packet.Offer originator number count floor) = count
CountOf (Packet.Confirm sender number) = 0
CountOf (Packet.Accept elected number) = 0
CountOf (Packet.Invitation sender attempt) = 0
CountOf (Packet.Reply sender attempt number) = 0
CountOf (Packet.Result sender attempt elected number) = 0

-- of a reset: its attempt, and its number
abbrev ResetFits : Packet → Type 0
ResetFits (Packet.Request sender taken count) = Unit {0}
ResetFits (Packet.Broadcast originator number count floor) = Unit {0}
ResetFits (Packet.Gap sender taken first last) = Unit {0}
ResetFits (Packet.Status sender taken) = Unit {0}
ResetFits (Packet.Poll elected top floor) = Unit {0}
ResetFits (Packet.Offer originator number count floor) = Unit {0}
ResetFits (Packet.Confirm sender number) = Unit {0}
ResetFits (Packet.Accept elected number) = Unit {0}
ResetFits (Packet.Invitation sender attempt) = attempt ≤ largest_number
ResetFits (Packet.Reply sender attempt number) = number.0 ≤ largest_number
ResetFits (Packet.Result sender attempt elected number) = (attempt ≤ largest_number) × (number.0 ≤ largest_number)

abbrev ContentFits : Packet → Type 0
ContentFits p = (CountOf p ≤ largest_number) × (floor_in p ≤ largest_number) × ResetFits p

content_fits : (h : Header) → Fits h → ContentFits (content_of h)
unfolding content_of floor_in
content_fits h f =
    when_elim ContentFits (h.kind =? request_kind) (λ _. (omega arith, omega arith, tt))
    (λ _. when_elim ContentFits (h.kind =? broadcast_kind) (λ _. (f.b, f.c, tt))
    (λ _. when_elim ContentFits (h.kind =? gap_kind) (λ _. (omega arith, omega arith, tt))
    (λ _. when_elim ContentFits (h.kind =? status_kind) (λ _. (omega arith, omega arith, tt))
    (λ _. when_elim ContentFits (h.kind =? poll_kind) (λ _. (omega arith, f.c, tt))
    (λ _. when_elim ContentFits (h.kind =? offer_kind) (λ _. (f.b, f.c, tt))
    (λ _. when_elim ContentFits (h.kind =? confirm_kind) (λ _. (omega arith, omega arith, tt))
    (λ _. when_elim ContentFits (h.kind =? accept_kind) (λ _. (omega arith, omega arith, tt))
    (λ _. when_elim ContentFits (h.kind =? invitation_kind) (λ _. (omega arith, omega arith, f.a))
    (λ _. when_elim ContentFits (h.kind =? reply_kind) (λ _. (omega arith, omega arith, f.b)) (λ _. (omega arith, omega arith, (f.a, f.c))))))))))))

-- what is held, with a packet's message
abbrev HeldFit : calls.Outcome → Type 0
HeldFit o = (s : ℕ) → (window.message_at o.member.held s).count ≤ largest_number

gap_held : (m : Member) (last : ℕ) (gapped : Answer) (whole : calls.Outcome) → ((s : ℕ) → (window.message_at m.held s).count ≤ largest_number) → HeldFit whole → HeldFit (calls.gap_up_to m last gapped whole)
unfolding calls.gap_up_to
gap_held m last gapped whole h w = when_elim HeldFit (window.lowest_missing m.held m.taken.0 (last - m.taken.0) =? 0) (λ _. w) (λ _. h)

message_held : (m : Member) (originator : MemberNumber) (number count : ℕ) (payload : List ℕ) → length m.held ≡ held_most → count ≤ largest_number → ((s : ℕ) → (window.message_at m.held s).count ≤ largest_number)
    → HeldFit (calls.message_step m originator number count payload)
unfolding calls.message_step calls.kept_of calls.answered calls.with_held message_of
message_held m originator number count payload long fits h =
    let m' : Member = calls.with_held m number (message_of originator count payload) in
    let h' : (s : ℕ) → (window.message_at m'.held s).count ≤ largest_number = set_fit m.held number (message_of originator count payload) long fits h in
    when_elim HeldFit (number ≤? m.taken.0) (λ _. h)
    (λ _. when_elim HeldFit (number ≤? m.taken.0 + held_most)
    (λ _. when_elim HeldFit (window.is_held m.held number) (λ _. h) (λ _. gap_held m' (number - 1) Answer.KeptGap _ h' h'))
    (λ _. gap_held m (m.taken.0 + held_most) Answer.BeyondGap _ h h))

content_held : (m : Member) (content : Packet) (payload : List ℕ) → length m.held ≡ held_most → CountOf content ≤ largest_number → ((s : ℕ) → (window.message_at m.held s).count ≤ largest_number)
    → HeldFit (calls.content_step m content payload)
unfolding calls.content_step calls.broadcast_of calls.offer_of calls.confirmed_of calls.poll_of calls.answered calls.with_accepted
content_held m (Packet.Request sender taken count) payload long fits h = h
content_held m (Packet.Broadcast originator number count floor) payload long fits h =
    when_elim HeldFit (originator.0 <? m.group.n) (λ _. message_held (calls.with_accepted m number.0) originator number.0 count payload long fits h) (λ _. h)
content_held m (Packet.Gap sender taken first last) payload long fits h = h
content_held m (Packet.Status sender taken) payload long fits h = h
content_held m (Packet.Poll elected top floor) payload long fits h = gap_held m _ Answer.Gap _ h h
content_held m (Packet.Offer originator number count floor) payload long fits h =
    let o : calls.Outcome = calls.message_step m originator number.0 count payload in
    when_elim HeldFit (originator.0 <? m.group.n)
    (λ _. when_elim HeldFit (calls.confirms o.answer and calls.none_missing o.member number.0 and is_in (expected_of o.member.group) o.member.number.0)
    (λ _. message_held m originator number.0 count payload long fits h) (λ _. message_held m originator number.0 count payload long fits h))
    (λ _. h)
content_held m (Packet.Confirm sender number) payload long fits h = h
content_held m (Packet.Accept elected number) payload long fits h = h
content_held m (Packet.Invitation sender attempt) payload long fits h = h
content_held m (Packet.Reply sender attempt number) payload long fits h = h
content_held m (Packet.Result sender attempt elected number) payload long fits h = h

-- a packet of the group that is heard
heard_holds : (t : Terminal) (content : Packet) (payload : List ℕ) → Holds t → memberLaws.Typed (calls.content_step t.member content payload).member → ContentFits content → Stays (heard_of t content payload)
unfolding heard_of kept_read
heard_holds t content payload h typed fits =
    let o : calls.Outcome = calls.content_step t.member content payload in
    let kept' : Kept = kept_read t.kept o.answer (floor_in content) in
    member_holds t o.member kept' h typed (ap length (read_past t.kept o.answer (floor_in content)) ∙ h.typed.past) (ap length (read_counts t.kept o.answer (floor_in content)) ∙ h.typed.counts)
    (when_elim (λ (k : Kept). k.read.0 ≤ largest_number) (is_refusal o.answer) (λ _. h.read) (λ _. le_larger t.kept.read.0 (floor_in content) largest_number h.read fits.1))
    (λ i. subst (λ (l : List ℕ). get_or l i 0 ≤ largest_number) (sym (read_counts t.kept o.answer (floor_in content))) (h.counted i)) (content_held t.member content payload h.typed.member.held fits.0 h.held)

-- a changed part in a reset
reset_holds : (t : Terminal) (r : Reset) (f : Bool) → Holds t → length r.replies ≡ members_most → r.attempt ≤ largest_number → r.number.0 ≤ largest_number → r.invited ≤ largest_number → r.repliers < 2 ^ members_most
    → ((i : ℕ) → get_or r.replies i 0 ≤ largest_number) → Holds (with_reset t r f)
reset_holds t r f h long attempt number invited repliers replies =
    record {
      typed = record { member = h.typed.member; sequencer = h.typed.sequencer; past = h.typed.past; counts = h.typed.counts; replies = long };
      read = h.read;
      counted = h.counted;
      held = h.held;
      attempt = attempt;
      number = number;
      invited = invited;
      repliers = repliers;
      replied = replies;
    }

reply_fits : (t : Terminal) → Holds t → reply_number t ≤ largest_number
unfolding reply_number
reply_fits t h = when_elim (λ (x : ℕ). x ≤ largest_number) (serves t) (λ _. h.typed.sequencer.top) (λ _. reach_fits t.member h.typed.member.taken)

none_replied : (i : ℕ) → get_or (replicate members_most 0) i 0 ≤ largest_number
none_replied i =
    le_or members_most i (λ l. let z : ◌≡◌ {A = ℕ} (get_or (replicate members_most 0) i 0) 0 = get_or-eq_default (replicate members_most 0) 0 {n = i} l in omega arith)
    (λ l. let z : ◌≡◌ {A = ℕ} (get_or (replicate members_most 0) i 0) 0 = get_or-replicate members_most i 0 0 l in omega arith)

set_replied : (l : List ℕ) (k x : ℕ) → x ≤ largest_number → ((i : ℕ) → get_or l i 0 ≤ largest_number) → (i : ℕ) → get_or (set l k x) i 0 ≤ largest_number
set_replied l k x fits h i =
    eq_or i k
    (λ q. le_or (length l) k
    (λ b. let z : get_or (set l k x) i 0 ≡ 0 = get_or-eq_default (set l k x) 0 {n = i} (let y = length-set l k x in omega arith) in omega arith)
    (λ b. let z : get_or (set l k x) i 0 ≡ x = ap (λ (j : ℕ). get_or (set l k x) j 0) q ∙ get_or-set_same l k x 0 b in omega arith))
    (λ q. let z : get_or (set l k x) i 0 ≡ get_or l i 0 = get_or-set_other l k i x 0 q in let y = h i in omega arith)

-- the elected one's sequencer
table_counts : (survivors floor : ℕ) (counts : List ℕ) → ((i : ℕ) → get_or counts i 0 ≤ largest_number)
    → (i : ℕ) → ((get_or (table_from survivors floor 0 counts) i no_acknowledgement).count ≤ largest_number) × ((get_or (table_from survivors floor 0 counts) i no_acknowledgement).repeats ≤ largest_number)
table_counts survivors floor counts h i =
    le_or (length counts) i
    (λ l.
    let e = get_or-eq_default (table_from survivors floor 0 counts) no_acknowledgement {n = i} (let z = table_length survivors floor 0 counts in omega arith) in
    subst (λ (a : Acknowledgement). (a.count ≤ largest_number) × (a.repeats ≤ largest_number)) (sym e) (omega arith, omega arith))
    (λ l. subst (λ (a : Acknowledgement). (a.count ≤ largest_number) × (a.repeats ≤ largest_number)) (sym (table_entry survivors floor counts i l)) (h i, omega arith))

pub no_mark : (i : ℕ) → ◌≡◌ {A = ℕ} (get_or (replicate places_most 0) i 0) 0
no_mark i = le_or places_most i (λ l. get_or-eq_default (replicate places_most 0) 0 {n = i} l) (λ l. get_or-replicate places_most i 0 0 l)

begun_typed : (group : Group) (number floor : ℕ) (counts : List ℕ) (kept : List Message) → group.number ≤ largest_number → number ≤ largest_number → length counts ≡ members_most → length kept ≡ places_most
    → ((i : ℕ) → get_or counts i 0 ≤ largest_number) → sequencerLaws.Typed (begun group number floor counts kept)
begun_typed group number floor counts kept g most long size h =
    record {
      group = g;
      top = most;
      accepted = most;
      table = table_length group.survivors floor 0 counts ∙ long;
      history = size;
      counts = λ i. (table_counts group.survivors floor counts h i).0;
      repeats = λ i. (table_counts group.survivors floor counts h i).1;
      marks = length-replicate {A = ℕ} places_most 0;
      masks = λ i. let z = no_mark i in let p = pow_pos members_most in omega arith;
    }

elected_typed : (t : Terminal) (group : Group) (number : ℕ) → Holds t → group.number ≤ largest_number → number ≤ largest_number → sequencerLaws.Typed (elected_sequencer t group number)
unfolding elected_sequencer counts_of
elected_typed t group number h g most =
    let s = t.sequencer in
    when_elim sequencerLaws.Typed (serves t)
    (λ _. begun_typed group number s.floor.0 (counts_in s.acknowledgements) s.history g most (counts_length s.acknowledgements ∙ h.typed.sequencer.table) h.typed.sequencer.history
    (λ i. subst (λ (k : ℕ). k ≤ largest_number) (sym (counts_at s.acknowledgements i)) (h.typed.sequencer.counts i)))
    (λ _. begun_typed group number (kept_floor t) (counted_row t.kept.counts t.member.held t.member.taken.0 (reach_of t.member - t.member.taken.0))
    (history_from t (kept_floor t) (reach_of t.member - kept_floor t)) g most (row_length t.kept.counts t.member.held t.member.taken.0 (reach_of t.member - t.member.taken.0) ∙ h.typed.counts)
    (history_length t (kept_floor t) (reach_of t.member - kept_floor t)) (row_fit t.kept.counts t.member.held t.member.taken.0 (reach_of t.member - t.member.taken.0) h.counted h.held))

result_holds : (t : Terminal) (attempt : ℕ) (elected : MemberNumber) (number : SequenceNumber) (survivors : ℕ) → Holds t → attempt ≤ largest_number → number.0 ≤ largest_number → Holds (result_of t attempt elected number survivors)
unfolding result_of
result_holds t attempt elected number survivors h a most =
    let m : Member = t.member in
    let group : Group = made_group m.group attempt elected survivors in
    record {
      typed =
          record {
            member =
                record {
                  group = a;
                  taken = h.typed.member.taken;
                  accepted = le_larger m.taken.0 number.0 largest_number h.typed.member.taken most;
                  submitted = h.typed.member.submitted;
                  queue = h.typed.member.queue;
                  held = dropped_length m.held number.0 m.taken.0 h.typed.member.held held_most;
                };
            sequencer = when_elim sequencerLaws.Typed (elected.0 =? m.number.0) (λ _. elected_typed t group number.0 h a most) (λ _. h.typed.sequencer);
            past = h.typed.past;
            counts = h.typed.counts;
            replies = length-replicate {A = ℕ} members_most 0;
          };
      read = h.read;
      counted = h.counted;
      held = λ s. dropped_each m.held number.0 m.taken.0 h.typed.member.held (λ (x : Message). x.count ≤ largest_number) held_most (le_refl held_most) s (h.held s) empty_fit;
      attempt = omega arith;
      number = omega arith;
      invited = omega arith;
      repliers = pow_pos members_most;
      replied = none_replied;
    }

-- a packet of a reset
module _ (t : Terminal) (h : Holds t) (sound : Sound t) where
  reset_step_holds : (content : Packet) (payload : List ℕ) → ResetFits content → Stays (reset_step t content payload)
  unfolding reset_step refused invited_of with_reply
  reset_step_holds (Packet.Request sender taken count) payload f = h
  reset_step_holds (Packet.Broadcast originator number count floor) payload f = h
  reset_step_holds (Packet.Gap sender taken first last) payload f = h
  reset_step_holds (Packet.Status sender taken) payload f = h
  reset_step_holds (Packet.Poll elected top floor) payload f = h
  reset_step_holds (Packet.Offer originator number count floor) payload f = h
  reset_step_holds (Packet.Confirm sender number) payload f = h
  reset_step_holds (Packet.Accept elected number) payload f = h
  reset_step_holds (Packet.Invitation sender attempt) payload f =
      when_elim Stays (sender.0 <? t.member.group.n)
      (λ _. when_elim (λ (r : Reset). Holds (with_reset t r (freezes t))) (sender.0 =? t.member.number.0)
      (λ _. reset_holds t (replied t attempt) (freezes t) h h.typed.replies f (reply_fits t h) h.invited h.repliers h.replied)
      (λ _. reset_holds t (uninvited (replied t attempt)) (freezes t) h (length-replicate {A = ℕ} members_most 0) f (reply_fits t h) (omega arith) (pow_pos members_most) none_replied))
      (λ _. h)
  reset_step_holds (Packet.Reply sender attempt number) payload f =
      when_elim Stays (sender.0 <? t.member.group.n)
      (λ less. when_elim Stays (t.reset.inviting and t.reset.invited =? attempt)
      (λ _.
      let l = ltb-true sender.0 t.member.group.n less in
      let n = sound.member.n_most in
      when_elim (λ (r : Reset). Holds (with_reset t r t.frozen)) (is_in t.reset.repliers sender.0) (λ _. h)
      (λ _.
      reset_holds t _ t.frozen h (length-set t.reset.replies sender.0 number.0 ∙ h.typed.replies) h.attempt h.number h.invited
      (or_lt members_most t.reset.repliers (only_of sender) h.repliers (pow-lt {i = sender.0} {j = members_most} (omega arith))) (set_replied t.reset.replies sender.0 number.0 f h.replied)))
      (λ _. h))
      (λ _. h)
  reset_step_holds (Packet.Result sender attempt elected number) payload f =
      when_elim Stays (sender.0 <? t.member.group.n and is_within (survivors_in payload) (all_of t.member.group.n))
      (λ _. when_elim Stays (result_fits t attempt elected number (survivors_in payload)) (λ _. result_holds t attempt elected number (survivors_in payload) h f.0 f.1) (λ _. h))
      (λ _. h)

  read_holds : (p : List ℕ) → Fits (header_of p) → (reading : Reading) → read_of p ≡ reading → Stays (read_step t reading (payload_at p))
  unfolding read_step refused
  read_holds p fits (Err refusal) e = h
  read_holds p fits (Ok x) e =
      let m : Member = t.member in
      let payload = payload_at p in
      let is : x ≡ header_of p = (readable p x e).header in
      let f = content_fits x (subst Fits (sym is) fits) in
      when_elim Stays (from_elected m.group (content_of x))
      (λ u. when_elim Stays (of_reset (content_of x))
      (λ _. when_elim Stays (terminal_sound t) (λ _. when_elim Stays (x.group =? m.group.number) (λ _. reset_step_holds (content_of x) payload f.2) (λ _. h)) (λ _. h))
      (λ _. when_elim Stays (x.group =? m.group.number and (when t.reset.replied then false else true))
      (λ g. heard_holds t (content_of x) payload h (content_typed t h.typed sound p fits.a x e u (both_first (x.group =? m.group.number) _ g)) f) (λ _. h)))
      (λ _. h)

pub receive_holds : ReceiveHolds
unfolding receive_of refused
receive_holds t packet room fits h e = judged_elim Stays (call_verdict t room) (λ _ _. h) (λ _. read_holds t h (sound_of_lem t e) packet fits (read_of packet) refl)

pub invite_holds : InviteHolds
unfolding invite_of refused
invite_holds t number room fits h e =
    let sound = sound_of_lem t e in
    let less = sound.member.number_lt in
    let most = sound.member.n_most in
    judged_elim Stays (whole_verdict t room) (λ _ _. h)
    (λ _.
    reset_holds t (invitation t number) (freezes t) h (length-set (replicate members_most 0) t.member.number.0 (reply_number t) ∙ length-replicate {A = ℕ} members_most 0) fits (reply_fits t h) fits
    (pow-lt {i = t.member.number.0} {j = members_most} (omega arith)) (set_replied (replicate members_most 0) t.member.number.0 (reply_number t) (reply_fits t h) none_replied))

pub make_holds : MakeHolds
unfolding make_of refused
make_holds t demand room h e =
    let sound = sound_of_lem t e in
    let r : Reset = t.reset in
    judged_elim Stays (whole_verdict t room) (λ _ _. h)
    (λ _. when_elim Stays r.inviting
    (λ inviting. when_elim Stays (demand ≤? ones r.repliers)
    (λ _.
    let less = sound.member.number_lt in
    let most = sound.member.n_most in
    let c = chosen_replied r h.typed.replies t.member.number.0 (omega arith) (sound.reset.itself inviting) in
    result_holds t r.invited (chosen_of r) (record { 0 = cut_of r }) r.repliers h h.invited (subst (λ (k : ℕ). k ≤ largest_number) c.1 (h.replied (chosen_of r).0)))
    (λ _. h)) (λ _. h))
