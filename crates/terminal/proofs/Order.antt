-- The order can be read off the packets of a group that was run: after every list of events the first broadcasts or offers of 1, 2, .. are
-- its messages. So the list that is fed them up to t is the terminal's. Assumes nothing.
use Rattle.std.specs.Prelude.{Ok, Err}
use mathlib.Core.Path.{◌≡◌, refl, sym, ap, ◌∙◌, subst}
use mathlib.Core.Bool.{Bool, true, false}
use mathlib.Core.Option.{Option, none, some}
use mathlib.Core.List.{List, [], ◌∷◌, ◌++◌, append-nil, append_assoc}
use Prim.Native.Nat.{ℕ, suc, ◌+◌, ◌-◌, ◌≤◌, ◌<◌}
use native.Mathlib.Omega.{arith}
use borrow.Author.Tests.{eq-eqb, ne_eqb, leb-true, leb-false}
use lib.ListN.{length, take, get_elem?, get_or, set, length-append}
use lib.Seq.{take-nil}
use Rattle.group.specs.Choice.{when◌then◌else◌, ◌and◌, ◌<?◌, ◌≤?◌, ◌=?◌}
use Rattle.group.specs.Limits.{members_most, places_most, longest_packet, largest_number}
use Rattle.group.specs.Opening.{description_of}
use Rattle.group.specs.declared.Group as description
use Rattle.group.specs.declared.MemberNumber.{MemberNumber}
use Rattle.group.specs.declared.Refusal.{Refusal}
use Rattle.group.specs.declared.Refusal.TheVariants.{ForbiddenFields, OtherGroup, OtherEnd, NotInHistory}
use Rattle.group.specs.declared.SequenceNumber.{SequenceNumber}
use Rattle.group.proofs.Lists.{when_elim, judged_elim, at_le, at_last, All}
use Rattle.history.specs.Ask.{sender_verdict, count_verdict, wanted_verdict, expected_verdict}
use Rattle.history.specs.Note.{larger_of}
use Rattle.history.specs.Repeat.{find_of}
use Rattle.jobs.specs.Feed.{feed_of}
use Rattle.jobs.specs.Job.{no_jobs}
use Rattle.jobs.specs.declared.Job.{Job}
use Rattle.member.proofs.Acknowledged.{reach_most, acknowledged_reach}
use Rattle.member.specs.Calls as member
use Rattle.member.specs.State.{Member}
use Rattle.message.specs.Order.{Ordered}
use Rattle.model.proofs.Invariant.{Inv, WorldInv, voice_in}
use Rattle.model.proofs.Step.{step_keeps, gather_snoc, next_keeps, run_keeps, fresh_inv}
use Rattle.model.specs.Log.{gather, numbered_in, order, taken, submitted}
use Rattle.model.specs.World.{Event, submit, repeat, status, poll, copy, hand_member, hand_sequencer, Group, Happened, missing, with_member, with_sequencer, no_member, at_member, hand_to_member, hand_to_sequencer, happen, World, step, run, fresh}
use Rattle.model.specs.World as world
use Rattle.packet.proofs.Facts.{Facts, Says, Known}
use Rattle.packet.proofs.Laws.{read_written}
use Rattle.packet.specs.Packet.{header_of, read_of, payload_at, content_of, fields_of, header_bytes, packet_of, written, from_elected}
use Rattle.packet.specs.declared.Header.{Header}
use Rattle.packet.specs.declared.Packet.{Packet}
use Rattle.packet.specs.declared.Packet.TheVariants.{Request, Broadcast, Gap, Status, Poll, Offer, Confirm, Accept, Invitation, Result}
use Rattle.packet.specs.Answers.{Reading}
use Rattle.sequencer.proofs.Histories.{broadcast_is, broadcast_may}
use Rattle.sequencer.proofs.Invariant.{SequencerInv, facts_of}
use Rattle.sequencer.proofs.Packets.{announced_each}
use Rattle.sequencer.proofs.Ordering.{floor_below}
use Rattle.sequencer.specs.Calls as sequencer
use Rattle.sequencer.specs.Note.{note_of}
use Rattle.sequencer.specs.Order.{numbered_by}
use Rattle.sequencer.specs.State.{Sequencer, last_count}
use Rattle.sequencer.specs.declared.Answer as sequencerAnswer
use Rattle.sequencer.specs.declared.Answer.TheVariants.{Old, Again, Full, Numbered, Noted, Wanted, Sent, Marked}
use Rattle.terminal.specs.Laws.{ListLeft}
use Rattle.terminal.specs.Left.{is_message, is_next, heard_of, heard_all}
use Rattle.terminal.specs.Take.{fed_by}
use Rattle.terminal.specs.declared.Left.{Left}
use Rattle.terminal.proofs.Lists.{list_folds}

-- the message that a packet broadcasts or offers under a number
unfoldable broadcasts : ℕ → Reading → List ℕ → List Ordered
broadcasts s (Ok h) payload =
    when is_message h and h.a =? s
    then record { number = s; originator = h.member.0; count = h.b; payload = payload } ∷ []
    else []
broadcasts s (Err refusal) payload = []

abbrev under : ℕ → List ℕ → List Ordered
under s packet = broadcasts s (read_of packet) (payload_at packet)

-- those of s, s + 1, .., one after the other
unfoldable order_in : ℕ → List (List ℕ) → List Ordered
order_in s [] = []
order_in s (packet ∷ rest) = under s packet ++ order_in (s + length (under s packet)) rest

order_append : (s : ℕ) (a b : List (List ℕ)) → order_in s (a ++ b) ≡ order_in s a ++ order_in (s + length (order_in s a)) b
unfolding order_in
order_append s [] b = let e : s ≡ s + 0 = omega arith in ap (λ (k : ℕ). order_in k b) e
order_append s (packet ∷ a) b =
    let u : List Ordered = under s packet in
    let r : List Ordered = order_in (s + length u) a in
    let e : s + length u + length r ≡ s + length (u ++ r) = (let z = length-append u r in omega (arith, z)) in
    ap (λ (l : List Ordered). u ++ l) (order_append (s + length u) a b)
    ∙ sym (append_assoc u r (order_in (s + length u + length r) b))
    ∙ ap (λ (k : ℕ). (u ++ r) ++ order_in k b) e

-- ---- the list is fed the first of them
abbrev found : Ordered → Bool → Bool → List Ordered
found m a b = when a and b then m ∷ [] else []

module _ (t : ℕ) where
  abbrev left : List Job → ℕ → Left
  left jobs s = record { jobs = jobs; next = s }

  heard_one : (jobs : List Job) (s : ℕ) (reading : Reading) (payload : List ℕ) (rest : List (List ℕ))
      → ((jobs : List Job) (s : ℕ) → (heard_all t (left jobs s) rest).jobs ≡ fed_by jobs (take (t + 1 - s) (order_in s rest)))
      → (heard_all t (heard_of t (left jobs s) reading payload) rest).jobs
      ≡ fed_by jobs (take (t + 1 - s) (broadcasts s reading payload ++ order_in (s + length (broadcasts s reading payload)) rest))
  unfolding heard_of broadcasts is_next fed_by when◌then◌else◌
  heard_one jobs s (Err refusal) payload rest more = let e : s ≡ s + 0 = omega arith in more jobs s ∙ ap (λ (k : ℕ). fed_by jobs (take (t + 1 - s) (order_in k rest))) e
  heard_one jobs s (Ok h) payload rest more = go (is_message h) (h.a =? s) (s ≤? t) refl
    where
      same : (heard_all t (left jobs s) rest).jobs ≡ fed_by jobs (take (t + 1 - s) (order_in (s + 0) rest))
      same = let e : s ≡ s + 0 = omega arith in more jobs s ∙ ap (λ (k : ℕ). fed_by jobs (take (t + 1 - s) (order_in k rest))) e

      m : Ordered
      m = record { number = s; originator = h.member.0; count = h.b; payload = payload }

      go : (a b c : Bool) → (s ≤? t) ≡ c
          → (heard_all t (when a and b and c then left (feed_of jobs h.member payload).jobs (s + 1) else left jobs s) rest).jobs
          ≡ fed_by jobs (take (t + 1 - s) (found m a b ++ order_in (s + length (found m a b)) rest))
      go false b c e = same
      go true false c e = same
      go true true true e =
          let l = leb-true s t e in
          let k : t + 1 - s ≡ suc (t + 1 - (s + 1)) = omega arith in
          more (feed_of jobs h.member payload).jobs (s + 1) ∙ sym (ap (λ (n : ℕ). fed_by jobs (take n (m ∷ order_in (s + 1) rest))) k)
      go true true false e =
          let l = leb-false s t e in
          let k : t + 1 - s ≡ 0 = omega arith in
          more jobs s ∙ ap (λ (n : ℕ). fed_by jobs (take n (order_in s rest))) k ∙ sym (ap (λ (n : ℕ). fed_by jobs (take n (m ∷ order_in (s + 1) rest))) k)

  heard_feeds : (jobs : List Job) (s : ℕ) (packets : List (List ℕ)) → (heard_all t (left jobs s) packets).jobs ≡ fed_by jobs (take (t + 1 - s) (order_in s packets))
  unfolding heard_all order_in fed_by
  heard_feeds jobs s [] = sym (ap (fed_by jobs) (take-nil (t + 1 - s)))
  heard_feeds jobs s (packet ∷ rest) = heard_one jobs s (read_of packet) (payload_at packet) rest (λ jobs' s'. heard_feeds jobs' s' rest)

-- ---- what a call writes
no_zero : {A : Type 0} → ◌≡◌ {A = ℕ} 0 1 → A
no_zero e = absurd (omega (arith, e))

-- a call that answers Numbered writes the packet of that number from the state that it leaves
abbrev Copies : sequencer.Outcome → Type 0
Copies o = (number : SequenceNumber) → o.answer ≡ Numbered number → o.bytes ≡ sequencer.broadcast_of o.sequencer number.0

quiet : (s : Sequencer) (answer : sequencerAnswer.Answer) (bytes : List ℕ) → ((number : SequenceNumber) → answer ≡ Numbered number → ⊥)
    → Copies (record { sequencer = s; answer = answer; bytes = bytes })
quiet s answer bytes n number e = absurd (n number e)

refused_copies : (s : Sequencer) (refusal : Refusal) → Copies (sequencer.refused s refusal)
unfolding sequencer.answered
refused_copies s refusal = quiet s (sequencerAnswer.Answer.Refused refusal) [] (λ number e. no_zero (cc))

old_copies : (s : Sequencer) (m : MemberNumber) → Copies (sequencer.old_of s m)
unfolding sequencer.old_of sequencer.answered
old_copies s m = quiet (sequencer.repeated_of s m) Old [] (λ number e. no_zero (cc))

numbered_copies : (s : Sequencer) (m : MemberNumber) (count : ℕ) (payload : List ℕ) → Copies (sequencer.numbered_of s m count payload)
unfolding sequencer.numbered_of
numbered_copies s m count payload number e =
    let q : record { 0 = s.top.0 + 1 } ≡ number = cc in
    ap (λ (x : SequenceNumber). sequencer.broadcast_of (sequencer.with_message s m count payload) x.0) q

request_copies : (s : Sequencer) (m : MemberNumber) (count : ℕ) (payload : List ℕ) → Copies (sequencer.request_of s m count payload)
unfolding sequencer.request_of sequencer.again_of sequencer.full_of
request_copies s m count payload =
    let found = find_of s.history m count s.floor.0 (s.top.0 - s.floor.0) in
    when_elim Copies (count <? last_count s m) (λ t. old_copies s m)
    (λ f. when_elim Copies (count =? last_count s m)
    (λ t. when_elim Copies (found =? 0) (λ t. old_copies s m) (λ f. quiet (sequencer.repeated_of s m) (Again (record { 0 = found })) (sequencer.broadcast_of s found) (λ number e. no_zero (cc))))
    (λ f. when_elim Copies (s.top.0 - s.floor.0 =? places_most) (λ t. quiet s Full (sequencer.poll_packet s) (λ number e. no_zero (cc)))
    (λ f. numbered_copies s m count payload)))

gap_copies : (s : Sequencer) (first last : SequenceNumber) → Copies (sequencer.gap_of s first last)
unfolding sequencer.gap_of sequencer.answered
gap_copies s first last =
    when_elim Copies (last.0 ≤? s.floor.0) (λ t. quiet s Noted [] (λ number e. no_zero (cc)))
    (λ f. quiet s (Wanted (record { 0 = larger_of first.0 (s.floor.0 + 1) }) last) [] (λ number e. no_zero (cc)))

confirm_copies : (s : Sequencer) (m : MemberNumber) (number : SequenceNumber) → Copies (sequencer.confirm_of s m number)
unfolding sequencer.confirm_of sequencer.settled_of sequencer.answered
confirm_copies s m number =
    let s' : Sequencer = sequencer.with_mark s m number in
    let k : ℕ = sequencer.enough_in s' in
    when_elim Copies (number.0 ≤? s.accepted.0) (λ t. quiet s Old [] (λ number e. no_zero (cc)))
    (λ f. when_elim Copies (k =? 0) (λ t. quiet s' Marked [] (λ number e. no_zero (cc)))
    (λ f. quiet (sequencer.with_accepted s' k) sequencerAnswer.Answer.Accepted (sequencer.accept_packet (sequencer.with_accepted s' k)) (λ number e. no_zero (cc))))

content_copies : (s : Sequencer) (content : Packet) (payload : List ℕ) → Copies (sequencer.content_step s content payload)
unfolding sequencer.content_step sequencer.answered
content_copies s (Request sender taken count) payload =
    judged_elim Copies (sender_verdict s.group.survivors s.accepted.0 sender taken) (λ r e. refused_copies s r)
    (λ e. judged_elim Copies (count_verdict (last_count s sender) s.top.0 count) (λ r f. refused_copies s r)
    (λ f. request_copies (note_of s sender taken) sender count payload))
content_copies s (Broadcast originator number count floor) payload = refused_copies s OtherEnd
content_copies s (Gap sender taken first last) payload =
    judged_elim Copies (sender_verdict s.group.survivors s.accepted.0 sender taken) (λ r e. refused_copies s r)
    (λ e. judged_elim Copies (wanted_verdict s.top.0 last) (λ r f. refused_copies s r) (λ f. gap_copies (note_of s sender taken) first last))
content_copies s (Status sender taken) payload =
    judged_elim Copies (sender_verdict s.group.survivors s.accepted.0 sender taken) (λ r e. refused_copies s r)
    (λ e. quiet (note_of s sender taken) Noted [] (λ number e. no_zero (cc)))
content_copies s (Poll elected top floor) payload = refused_copies s OtherEnd
content_copies s (Offer originator number count floor) payload = refused_copies s OtherEnd
content_copies s (Confirm sender number) payload =
    judged_elim Copies (sender_verdict s.group.survivors s.top.0 sender number) (λ r e. refused_copies s r)
    (λ e. judged_elim Copies (expected_verdict s.group s.accepted.0 sender number) (λ r f. refused_copies s r) (λ f. confirm_copies s sender number))
content_copies s (Accept elected number) payload = refused_copies s OtherEnd
content_copies s (Invitation sender attempt) payload = refused_copies s OtherEnd
content_copies s (Packet.Reply sender attempt number) payload = refused_copies s OtherEnd
content_copies s (Result sender attempt elected number) payload = refused_copies s OtherEnd

read_copies : (s : Sequencer) (reading : Reading) (payload : List ℕ) → Copies (sequencer.read_step s reading payload)
unfolding sequencer.read_step
read_copies s (Ok h) payload =
    when_elim Copies (from_elected s.group (content_of h))
    (λ u. when_elim Copies (h.group =? s.group.number) (λ t. content_copies s (content_of h) payload) (λ f. refused_copies s OtherGroup))
    (λ u. refused_copies s ForbiddenFields)
read_copies s (Err refusal) payload = refused_copies s refusal

receive_copies : (s : Sequencer) (packet : List ℕ) (room : ℕ) → Copies (sequencer.receive_of s packet room)
unfolding sequencer.receive_of
receive_copies s packet room = judged_elim Copies (sequencer.call_verdict s room) (λ r e. refused_copies s r) (λ e. read_copies s (read_of packet) (payload_at packet))

poll_copies : (s : Sequencer) (room : ℕ) → Copies (sequencer.poll_of s room)
unfolding sequencer.poll_of
poll_copies s room = judged_elim Copies (sequencer.call_verdict s room) (λ r e. refused_copies s r) (λ e. quiet s Sent (sequencer.poll_packet s) (λ number e. no_zero (cc)))

copy_copies : (s : Sequencer) (number : SequenceNumber) (room : ℕ) → Copies (sequencer.copy_of s number room)
unfolding sequencer.copy_of
copy_copies s number room =
    judged_elim Copies (sequencer.call_verdict s room) (λ r e. refused_copies s r)
    (λ e. when_elim Copies (s.floor.0 <? number.0 and number.0 ≤? s.top.0) (λ t. quiet s Sent (sequencer.broadcast_of s number.0) (λ number e. no_zero (cc)))
    (λ f. refused_copies s NotInHistory))

-- ---- a packet that the group knows is no message of the number after the order
fields_under : (g : ℕ) (f : Facts) (content : Packet) (payload rest : List ℕ) → Says f content payload
    → broadcasts (1 + length f.order) (Ok (fields_of g content)) rest ≡ []
unfolding broadcasts fields_of when◌then◌else◌
fields_under g f (Request sender taken count) payload rest says = refl
fields_under g f (Broadcast originator number count floor) payload rest says =
    let l = at_le f.order number.0 says.0 in
    rw (ne_eqb number.0 (1 + length f.order) (λ e. omega (arith, l, e)))
fields_under g f (Gap sender taken first last) payload rest says = refl
fields_under g f (Status sender taken) payload rest says = refl
fields_under g f (Poll elected top floor) payload rest says = refl
fields_under g f (Offer originator number count floor) payload rest says =
    let l = at_le f.order number.0 says.0 in
    rw (ne_eqb number.0 (1 + length f.order) (λ e. omega (arith, l, e)))
fields_under g f (Confirm sender number) payload rest says = refl
fields_under g f (Accept elected number) payload rest says = refl
fields_under g f (Invitation sender attempt) payload rest says = refl
fields_under g f (Packet.Reply sender attempt number) payload rest says = refl
fields_under g f (Result sender attempt elected number) payload rest says = refl

known_under : (g : ℕ) (f : Facts) (packet : List ℕ) → Known g f packet → under (1 + length f.order) packet ≡ []
known_under g f packet k =
    let r : read_of packet ≡ Ok (fields_of g k.content) = ap read_of k.bytes_are ∙ (read_written (fields_of g k.content) k.payload k.allowed).0 in
    ap (λ (reading : Reading). broadcasts (1 + length f.order) reading (payload_at packet)) r
    ∙ fields_under g f k.content k.payload (payload_at packet) k.says

all_under : (g : ℕ) (f : Facts) (packets : List (List ℕ)) → All (Known g f) packets → order_in (1 + length f.order) packets ≡ []
unfolding order_in
all_under g f [] k = refl
all_under g f (packet ∷ rest) k =
    let u = known_under g f packet k.0 in
    let e : 1 + length f.order + 0 ≡ 1 + length f.order = omega arith in
    rw (u, e) (all_under g f rest k.1)

-- the packet of a message, accepted or not, is of its number
announced_under : (g : ℕ) (accepted : SequenceNumber) (originator : MemberNumber) (number : SequenceNumber) (count : ℕ) (floor : SequenceNumber) (payload : List ℕ)
    → broadcasts number.0 (Ok (fields_of g (sequencer.announced accepted originator number count floor))) payload
    ≡ record { number = number.0; originator = originator.0; count = count; payload = payload } ∷ []
unfolding broadcasts fields_of when◌then◌else◌
announced_under g accepted originator number count floor payload =
    announced_each
    (λ (p : Packet). broadcasts number.0 (Ok (fields_of g p)) payload ≡ record { number = number.0; originator = originator.0; count = count; payload = payload } ∷ [])
    accepted originator number count floor
    (λ h. rw (eq-eqb number.0 number.0 refl)) (λ h. rw (eq-eqb number.0 number.0 refl))

all_behind : {A : Type 0} (P : A → Type 0) (a b : List A) → All P (a ++ b) → All P b
all_behind P [] b h = h
all_behind P (x ∷ a) b h = all_behind P a b h.1

-- ---- an event
-- the packets that it wrote broadcast under the number after the order what it was answered Numbered with
record Grown (w : Group) (ord : List Ordered) (d : Happened) : Type 0 where
  new : List (List ℕ)
  packets : d.group.packets ≡ w.packets ++ new
  order : order_in (1 + length ord) new ≡ numbered_in d.answer

written_packet : (h : Header) (payload : List ℕ) → written (packet_of h payload) ≡ packet_of h payload ∷ []
unfolding written packet_of header_bytes
written_packet h payload = refl

module _ (group : description.Group) (w : Group) (ord : List Ordered) (tk : ℕ → List Ordered) (sb : ℕ → List (List ℕ)) (v : Inv group w ord tk sb) (low : 1 ≤ group.n) where
  -- where the invariant holds after it
  abbrev Grows : Happened → Type 0
  Grows d = (tk' : ℕ → List Ordered) (sb' : ℕ → List (List ℕ)) → Inv group d.group (ord ++ numbered_in d.answer) tk' sb' → Grown w ord d

  missing_grows : Grows (missing w)
  unfolding order_in numbered_in
  missing_grows tk' sb' v' = record { new = []; packets = sym (append-nil w.packets); order = refl }

  member_grows : (i : ℕ) (o : member.Outcome) (packets : List (List ℕ)) → Grows (with_member w i o packets)
  unfolding numbered_in
  member_grows i o packets tk' sb' v' =
      let members' : List Member = set w.members i o.member in
      let facts : List Ordered → Facts = λ l. facts_of group l w.sequencer.accepted.0 (voice_in members' sb') in
      let k = subst (λ (l : List Ordered). All (Known group.number (facts l)) (w.packets ++ packets)) (append-nil ord) v'.packets in
      record { new = packets; packets = refl; order = all_under group.number (facts ord) packets (all_behind _ w.packets packets k) }

  quiet_grows : (o : sequencer.Outcome) → numbered_by o.answer o.bytes ≡ [] → Grows (with_sequencer w o)
  unfolding numbered_in
  quiet_grows o empty tk' sb' v' =
      let e : ord ++ numbered_by o.answer o.bytes ≡ ord = ap (λ (l : List Ordered). ord ++ l) empty ∙ append-nil ord in
      let facts : List Ordered → Facts = λ l. facts_of group l o.sequencer.accepted.0 (voice_in w.members sb') in
      let k = subst (λ (l : List Ordered). All (Known group.number (facts l)) (w.packets ++ written o.bytes)) e v'.packets in
      record { new = written o.bytes; packets = refl; order = all_under group.number (facts ord) (written o.bytes) (all_behind _ w.packets (written o.bytes) k) ∙ sym empty }

  numbered_grows : (o : sequencer.Outcome) (number : SequenceNumber) → o.answer ≡ Numbered number → Copies o → Grows (with_sequencer w o)
  unfolding numbered_in numbered_by order_in
  numbered_grows o number e copies tk' sb' v' =
      let m : Ordered = record { number = number.0; originator = (header_of o.bytes).member.0; count = (header_of o.bytes).b; payload = payload_at o.bytes } in
      let is : numbered_by o.answer o.bytes ≡ m ∷ [] = ap (λ (a : sequencerAnswer.Answer). numbered_by a o.bytes) e in
      let q : SequencerInv group o.sequencer (ord ++ (m ∷ [])) = subst (λ (l : List Ordered). SequencerInv group o.sequencer (ord ++ l)) is v'.sequencer in
      let k : ℕ = suc (length ord) in
      let a = at_last ord m in
      let n : number.0 ≡ k = q.number_is k m a in
      let t = (v'.terminal 0 low).seat.acknowledged_le in
      let u = reach_most (v.terminal 0 low).content in
      let x = acknowledged_reach (get_or w.members 0 no_member) in
      let f = floor_below group (ord ++ (m ∷ [])) o.sequencer q 0 (v.everybody 0 low) in
      let above : o.sequencer.floor.0 < k = omega (arith, t, u, x, f) in
      let origin : MemberNumber = record { 0 = m.originator } in
      let number' : SequenceNumber = record { 0 = k } in
      let b : Packet = sequencer.announced o.sequencer.accepted origin number' m.count o.sequencer.floor in
      let p : o.bytes ≡ packet_of (fields_of group.number b) m.payload =
      copies number e ∙ ap (sequencer.broadcast_of o.sequencer) n ∙ broadcast_is group (ord ++ (m ∷ [])) o.sequencer q k m a above in
      let r = read_written (fields_of group.number b) m.payload (broadcast_may group (ord ++ (m ∷ [])) o.sequencer q k m a above) in
      let h : read_of o.bytes ≡ Ok (fields_of group.number b) = ap read_of p ∙ r.0 in
      let one : written o.bytes ≡ o.bytes ∷ [] = ap written p ∙ written_packet (fields_of group.number b) m.payload ∙ ap (λ (x : List ℕ). x ∷ []) (sym p) in
      let s : 1 + length ord ≡ k = omega arith in
      let here : under (1 + length ord) o.bytes ≡ m ∷ [] =
      ap (λ (reading : Reading). broadcasts (1 + length ord) reading (payload_at o.bytes)) h
      ∙ ap (λ (x : ℕ). broadcasts x (Ok (fields_of group.number b)) (payload_at o.bytes)) s
      ∙ announced_under group.number o.sequencer.accepted origin number' m.count o.sequencer.floor (payload_at o.bytes)
      ∙ ap {B = List Ordered} (λ (x : ℕ). record { number = x; originator = m.originator; count = m.count; payload = m.payload } ∷ []) (sym n) in
      record {
        new = written o.bytes;
        packets = refl;
        order = ap (order_in (1 + length ord)) one ∙ append-nil (under (1 + length ord) o.bytes) ∙ here ∙ sym is;
      }

  sequencer_grows : (o : sequencer.Outcome) → Copies o → Grows (with_sequencer w o)
  unfolding numbered_by
  sequencer_grows o copies = go o.answer refl
    where
      told : (a : sequencerAnswer.Answer) → o.answer ≡ a → numbered_by a o.bytes ≡ [] → Grows (with_sequencer w o)
      told a e empty = quiet_grows o (ap (λ (x : sequencerAnswer.Answer). numbered_by x o.bytes) e ∙ empty)

      go : (a : sequencerAnswer.Answer) → o.answer ≡ a → Grows (with_sequencer w o)
      go (sequencerAnswer.Answer.Refused refusal) e = told (sequencerAnswer.Answer.Refused refusal) e refl
      go Old e = told Old e refl
      go (Again number) e = told (Again number) e refl
      go Full e = told Full e refl
      go (Numbered number) e = numbered_grows o number e copies
      go Noted e = told Noted e refl
      go (Wanted first last) e = told (Wanted first last) e refl
      go Sent e = told Sent e refl
      go Marked e = told Marked e refl
      go sequencerAnswer.Answer.Accepted e = told sequencerAnswer.Answer.Accepted e refl

  at_grows : (i : ℕ) (call : Member → member.Outcome) → Grows (at_member w i call)
  at_grows i call = when_elim Grows (i <? length w.members) (λ b. member_grows i (call (get_or w.members i no_member)) _) (λ b. missing_grows)

  step_grows : (e : Event) → Grows (happen w e)
  unfolding happen
  step_grows (submit i payload) = at_grows i (λ m. member.submit_of m payload longest_packet)
  step_grows (repeat i) = at_grows i (λ m. member.repeat_of m longest_packet)
  step_grows (world.take i) = when_elim Grows (i <? length w.members) (λ b. member_grows i (member.take_of (get_or w.members i no_member) longest_packet) []) (λ b. missing_grows)
  step_grows (status i) = at_grows i (λ m. member.status_of m longest_packet)
  step_grows poll = sequencer_grows (sequencer.poll_of w.sequencer longest_packet) (poll_copies w.sequencer longest_packet)
  step_grows (copy number) = sequencer_grows (sequencer.copy_of w.sequencer (record { 0 = number }) longest_packet) (copy_copies w.sequencer (record { 0 = number }) longest_packet)
  step_grows (hand_member k i) = go (get_elem? w.packets k)
    where
      go : (x : Option (List ℕ)) → Grows (hand_to_member w i x)
      go none = missing_grows
      go (some packet) = at_grows i (λ m. member.receive_of m packet longest_packet)
  step_grows (hand_sequencer k) = go (get_elem? w.packets k)
    where
      go : (x : Option (List ℕ)) → Grows (hand_to_sequencer w x)
      go none = missing_grows
      go (some packet) = sequencer_grows (sequencer.receive_of w.sequencer packet longest_packet) (receive_copies w.sequencer packet longest_packet)

-- ---- a list of events
module _ (group : description.Group) (hn : group.n ≤ members_most) (hg : group.number ≤ largest_number) (low : 1 ≤ group.n) where
  order_read : (w : World) (es : List Event) → WorldInv group w → order_in 1 w.group.packets ≡ order w.log
      → order_in 1 (run w es).group.packets ≡ order (run w es).log
  unfolding run
  order_read w [] v e = e
  order_read w (event ∷ es) v e =
      let ord : List Ordered = order w.log in
      let kept = step_keeps group w.group ord (λ i. taken i w.log) (λ i. submitted i w.log) hn hg v event in
      let g = step_grows group w.group ord (λ i. taken i w.log) (λ i. submitted i w.log) v low event _ _ kept in
      order_read (step w event) es (next_keeps group hn hg w event v)
      (ap (order_in 1) g.packets
      ∙ order_append 1 w.group.packets g.new
      ∙ ap (λ (l : List Ordered). l ++ order_in (1 + length l) g.new) e
      ∙ ap (λ (l : List Ordered). ord ++ l) g.order
      ∙ sym (gather_snoc (λ entry. numbered_in entry.answer) w.log (record { event = event; answer = (happen w.group event).answer })))

pub list_left : ListLeft
unfolding order_in fresh gather
list_left n number resilience o events i hi =
    let first : World = fresh n number resilience in
    let w : World = run first events in
    let group = description_of n number resilience in
    let start = fresh_inv n number resilience o in
    let v = run_keeps group o.most o.fits first events start in
    let t : ℕ = (get_or w.group.members i no_member).taken.0 in
    let e : t + 1 - 1 ≡ t = omega arith in
    heard_feeds t no_jobs 1 w.group.packets
    ∙ ap (λ (k : ℕ). fed_by no_jobs (take k (order_in 1 w.group.packets))) e
    ∙ ap (λ (l : List Ordered). fed_by no_jobs (take t l)) (order_read group o.most o.fits o.least first events start refl)
    ∙ ap (fed_by no_jobs) (sym (v.terminal i hi).content.took_is)
    ∙ sym (list_folds i no_jobs w.log)
