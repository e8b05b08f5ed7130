-- What a step was promised, carried up to the call that took it; and what a verdict's yes says. Assumes nothing.
use Rattle.group.specs.Question.{all_yes}
use Rattle.std.specs.Prelude.{Ok, Err}
use mathlib.Core.Path.{◌≡◌, refl, sym, ap, ◌∙◌, subst}
use mathlib.Core.Bool.{Bool, true, false}
use mathlib.Core.List.{List, []}
use Prim.Native.Nat.{ℕ, ◌+◌, ◌-◌, ◌≤◌, ◌<◌}
use native.Mathlib.Omega.{arith}
use borrow.Author.Tests.{leb-true, ltb-true, eqb-true, lt-ltb}
use lib.ListN.{length, get_or, set}
use Rattle.group.specs.Choice.{when◌then◌else◌, ◌and◌, ◌≤?◌, ◌<?◌, ◌=?◌}
use Rattle.group.specs.Fold.{all_above}
use Rattle.group.specs.Lent.{Laid}
use Rattle.group.specs.Limits.{held_most, header_size, waiting_most, payload_most, longest_packet, largest_number}
use Rattle.group.specs.Question.{judged}
use Rattle.group.specs.declared.Group.{Group}
use Rattle.group.specs.declared.Refusal.{Refusal}
use Rattle.group.specs.declared.SequenceNumber.{SequenceNumber}
use Rattle.group.specs.Question.{Verdict}
use Rattle.group.proofs.Choice.{when_true, when_eq, when_ne, when_was, both_first, both_then, says}
use Rattle.message.specs.Message.{Message, empty_message, payload_of}
use Rattle.packet.specs.Packet.{obeys, content_of, fields_of, packet_of, payload_at, read_of, from_elected}
use Rattle.packet.specs.declared.Header.{Header}
use Rattle.packet.specs.declared.Packet.{Packet}
use Rattle.packet.specs.Answers.{Reading}
use Rattle.packet.proofs.Laws.{fields_content}
use Rattle.packet.proofs.Verdicts.{readable, askable}
use Rattle.window.specs.Places.{place_of, message_at, queue_place, lowest_missing, smaller_of}
use Rattle.window.specs.Sound.{place_sound}
use Rattle.window.specs.Steps.{Counted}
use Rattle.window.proofs.Row.{lowest_reached, lowest_behind}
use Rattle.member.specs.Calls.{Outcome, answered, gap_packet, call_verdict, refused, submit_verdict, gap_up_to, is_own, with_taken, is_ready, took_of, content_step, read_step}
use Rattle.member.specs.Promise.{Changed, Told}
use Rattle.member.specs.Sound.{sound_of}
use Rattle.member.specs.State.{Member, reach_of, acknowledged_of, first_count}
use Rattle.member.specs.Steps.{Replied, member_of, read_ours}
use Rattle.member.specs.View.{Stored, view_of}
use Rattle.member.specs.Wording.{wording_of}
use Rattle.member.specs.declared.Answer.{Answer}
use Rattle.member.specs.declared.Done.{Done}
use Rattle.member.specs.declared.Head.{Head}
use Rattle.member.specs.declared.Reply.{Reply}
use Rattle.member.proofs.Acknowledged.{left, in_left}
use Rattle.member.proofs.Keeping.{own_first}

-- what was said of an outcome was said of every outcome that is equal to it
pub replied_as : {m : Member} {x y : List ℕ} {r : Reply} {o p : Outcome} → o ≡ p → Replied m o r x y → Replied m p r x y
replied_as {m} {x} {y} {r} e d = subst (λ (o : Outcome). Replied m o r x y) e d

-- and so of the state that is left
pub left_as : {m n : Member} {x y : List ℕ} {r : Reply} {o : Outcome} → m ≡ n → Replied m o r x y → Replied n o r x y
left_as {x = x} {y = y} {r = r} {o = o} e d = subst (λ (m : Member). Replied m o r x y) e d

-- the promises of the calls: the wording follows from the answer
pub changed : {s : Stored} {o : Outcome} {r : Reply} {x y : List ℕ} → Replied (view_of s) o r x y → Changed o r s x y
changed d =
    record {
      answer = λ j. record { answer = d.spoken.answer_is j; written = d.spoken.written_is j };
      state = sym d.same;
      lent = d.spoken.lent;
      wording = ap wording_of d.spoken.answer_is;
    }

pub told : {m : Member} {o : Outcome} {r : Reply} {x y : List ℕ} → Replied m o r x y → Told o r x y
told d =
    record {
      answer = λ j. record { answer = d.spoken.answer_is j; written = d.spoken.written_is j };
      lent = d.spoken.lent;
      wording = ap wording_of d.spoken.answer_is;
    }

-- an answer that writes nothing
pub quiet : (m : Member) (answer : Answer) (r : Reply) (x : List ℕ) → r ≡ record { answer = answer; written = 0 } → Replied m (answered m answer) r x x
unfolding answered
quiet m answer r x e =
    record { same = refl; spoken = record { answer_is = ap (λ (r : Reply). r.answer) e; written_is = ap (λ (r : Reply). r.written) e; lent = refl } }

-- the same of what the work of a call gives back
pub quiet_done : (head : Head) (queue held : List Message) (answer : Answer) (d : Done) (x : List ℕ) → d ≡ record { head = head; reply = record { answer = answer; written = 0 } }
    → Replied (member_of d.head queue held) (answered (member_of head queue held) answer) d.reply x x
quiet_done head queue held answer d x e =
    left_as (ap (λ (d : Done). member_of d.head queue held) (sym e)) (quiet (member_of head queue held) answer d.reply x (ap (λ (d : Done). d.reply) e))

-- an answer with bytes that were laid
pub sent : (m : Member) (answer : Answer) (bytes : List ℕ) (written : ℕ) (x y : List ℕ) → Laid bytes written x y
    → Replied m (record { member = m; answer = answer; bytes = bytes }) (record { answer = answer; written = written }) x y
sent m answer bytes written x y l = record { same = refl; spoken = record { answer_is = refl; written_is = l.size; lent = l.lent } }

-- bytes that were laid, under another name
pub laid_as : {bytes other : List ℕ} {written : ℕ} {x y : List ℕ} → bytes ≡ other → Laid bytes written x y → Laid other written x y
laid_as {written = written} {x = x} {y = y} e l = subst (λ (b : List ℕ). Laid b written x y) e l

-- what the row's end decides of a gap up to `last`
module _ (m : Member) (last : ℕ) (end : SequenceNumber) (e : end.0 ≡ reach_of m) (near : last ≤ m.taken.0 + held_most) (fits : last ≤ largest_number) (gapped : Answer) (whole : Outcome) where
  pub none_missing_lem : last ≤ end.0 → whole ≡ gap_up_to m last gapped whole
  unfolding gap_up_to reach_of
  none_missing_lem h =
      let z : last ≤ reach_of m = rw e at h in
      when_eq (lowest_missing m.held m.taken.0 (last - m.taken.0)) 0 _ _ _ (lowest_reached m.held m.taken.0 (left m.taken.0) last (in_left m.taken.0 last near fits) z) refl

  pub some_missing : end.0 < last
      → record { member = m; answer = gapped; bytes = packet_of (fields_of m.group.number (Packet.Gap m.number (record { 0 = smaller_of end.0 m.accepted.0 }) (record { 0 = end.0 + 1 }) (record { 0 = last }))) [] } ≡ gap_up_to m last gapped whole
  unfolding gap_up_to gap_packet acknowledged_of reach_of
  some_missing h =
      let y : reach_of m < last = rw e at h in
      let z : lowest_missing m.held m.taken.0 (last - m.taken.0) ≡ reach_of m + 1 = lowest_behind m.held m.taken.0 (left m.taken.0) last (in_left m.taken.0 last near fits) y in
      when_ne (lowest_missing m.held m.taken.0 (last - m.taken.0)) 0 _ _ _ (λ q. absurd (omega arith))
      (λ j. record {
        member = m;
        answer = gapped;
        bytes = packet_of (fields_of m.group.number (Packet.Gap m.number (record { 0 = smaller_of (e j) m.accepted.0 }) (record { 0 = (ap (λ (k : ℕ). k + 1) e ∙ sym z) j }) (record { 0 = last }))) [];
      })

module _ {A : Type 0} (v : Verdict) (refused : Refusal → A) (accepted : A) where
  -- what a verdict that is known comes to
  pub judged_yes : v ≡ all_yes → accepted ≡ judged v refused accepted
  unfolding judged
  judged_yes e = rw e

  pub judged_no : (q : Refusal) → v ≡ Err q → refused q ≡ judged v refused accepted
  unfolding judged
  judged_no q e = rw e

accepted≢ : (q : Refusal) → Err q ≡ all_yes → ⊥
accepted≢ q e = let z : ◌≡◌ {A = ℕ} 0 1 = cc in omega arith

-- what questions 1 and 2 have said
pub asked : (m : Member) (room : ℕ) → call_verdict m room ≡ all_yes → (sound_of m ≡ true) × (longest_packet ≤ room)
unfolding call_verdict
asked m room e =
    let s = when_was (sound_of m) _ _ all_yes e (accepted≢ Refusal.UnsoundState) in
    let l = when_was (longest_packet ≤? room) _ _ all_yes s.1 (accepted≢ Refusal.ShortOutput) in
    (s.0, leb-true longest_packet room l.0)

-- what questions 13, 14 and 16 have said
pub asked_submission : (m : Member) (size : ℕ) → submit_verdict m size ≡ all_yes → (size ≤ payload_most) × (m.waiting < waiting_most) × (m.submitted < largest_number)
unfolding submit_verdict
asked_submission m size e =
    let s = when_was (size ≤? payload_most) _ _ all_yes e (accepted≢ Refusal.LongPayload) in
    let w = when_was (m.waiting <? waiting_most) _ _ all_yes s.1 (accepted≢ Refusal.AlreadyWaiting) in
    let u = when_was (m.submitted <? largest_number) _ _ all_yes w.1 (accepted≢ Refusal.NumbersUsedUp) in
    (leb-true size payload_most s.0, ltb-true m.waiting waiting_most w.0, ltb-true m.submitted largest_number u.0)

module _ (m : Member) (e : sound_of m ≡ true) where
  -- the following number, held in a sound state, has a short message and is not over the largest
  pub next_short : 0 < (message_at m.held (m.taken.0 + 1)).count
      → ((message_at m.held (m.taken.0 + 1)).length ≤ payload_most) × (m.taken.0 + 1 ≤ largest_number)
  unfolding sound_of all_above place_sound
  next_short h =
      let s = both_first _ _ (both_then _ _ (both_then _ _ e)) in
      let t = when_true _ _ _ _ (lt-ltb 0 _ h) refl ∙ s in
      (search says depth 9, search says depth 9)

-- the test of the code is the definition's
pub own_is : (m : Member) (message : Message) (r b : Bool) → r ≡ (1 ≤? m.waiting and message.originator.0 =? m.number.0 and message.count =? first_count m) → r ≡ b
    → is_own m message ≡ b
unfolding is_own
own_is m message r b e t = sym e ∙ t

-- where it holds, some message waits
pub own_some : (m : Member) (originator count : ℕ) (r : Bool) → r ≡ (1 ≤? m.waiting and originator =? m.number.0 and count =? first_count m) → r ≡ true → 1 ≤ m.waiting
own_some m originator count r e t = leb-true 1 m.waiting (both_first _ _ (sym e ∙ t))

-- and its count is the first one's
pub own_count : (m : Member) (originator count : ℕ) (r : Bool) → r ≡ (1 ≤? m.waiting and originator =? m.number.0 and count =? first_count m) → r ≡ true → count ≡ first_count m
own_count m originator count r e t = eqb-true count (first_count m) (both_then _ _ (both_then _ _ (sym e ∙ t)))

-- the state after a take, with the places as the code has them
module _ (m : Member) (message : Message) (held : List Message) (h : held ≡ set m.held (place_of (m.taken.0 + 1)) empty_message) where
  pub taken_own : (queue : List Message) → queue ≡ set m.queue (queue_place message.count) empty_message → is_own m message ≡ true
      → with_taken m message
      ≡ record { group = m.group; number = m.number; taken = record { 0 = m.taken.0 + 1 }; accepted = m.accepted; submitted = m.submitted; waiting = m.waiting - 1; queue = queue; held = held }
  unfolding with_taken when◌then◌else◌
  taken_own queue f o = let q : message.count ≡ first_count m = (own_first m message o).2 in rw (h, o, f, q)

  pub taken_other : is_own m message ≡ false
      → with_taken m message
      ≡ record { group = m.group; number = m.number; taken = record { 0 = m.taken.0 + 1 }; accepted = m.accepted; submitted = m.submitted; waiting = m.waiting; queue = m.queue; held = held }
  unfolding with_taken when◌then◌else◌
  taken_other o = rw (h, o)

-- what the code asks of a number's count and of the number before it is whether it may be taken
pub ready_is : (m : Member) (counts : List ℕ) → Counted counts m.held → (at before number : ℕ) (r : Bool) → at ≡ place_of number → before + 1 ≡ number
    → r ≡ (0 <? get_or counts at 0 and before + 1 ≤? m.accepted.0) → r ≡ is_ready m number
unfolding is_ready
ready_is m counts c at before number r a n e =
    e ∙ λ i. 0 <? (ap (λ (k : ℕ). get_or counts k 0) a ∙ c (place_of number)) i and n i ≤? m.accepted.0

-- a number that may be taken is held
pub ready_held : (m : Member) (number : ℕ) → is_ready m number ≡ true → 0 < (message_at m.held number).count
unfolding is_ready
ready_held m number e = ltb-true 0 (message_at m.held number).count (both_first _ _ e)

-- what a take comes to: the message's numbers and payload, and whether the number after it may be taken
pub took : (m m' : Member) (message : Message) (more : Bool) (written : ℕ) (x y : List ℕ) → with_taken m message ≡ m'
    → more ≡ is_ready m (m.taken.0 + 2) → Laid (payload_of message) written x y
    → Replied m' (took_of m message) (record { answer = Answer.Took (record { 0 = m.taken.0 + 1 }) message.originator message.count more; written = written }) x y
unfolding took_of
took m m' message more written x y e n l =
    record {
      same = e;
      spoken = record { answer_is = ap (λ (b : Bool). Answer.Took (record { 0 = m.taken.0 + 1 }) message.originator message.count b) n; written_is = l.size; lent = l.lent };
    }

-- of a packet that was read the fields of its content obey their kind
pub read_obeys : (packet : List ℕ) (h : Header) (g : ℕ) (content : Packet) → read_of packet ≡ Ok h → h.group ≡ g → content ≡ content_of h → obeys (fields_of g content) (payload_at packet) ≡ true
read_obeys packet h g content e n z =
    let r = readable packet h e in
    let f = fields_content h (length packet - header_size) (payload_at packet) r.fields in
    let y : fields_of g content ≡ h = (λ i. fields_of (sym n i) (z i)) ∙ f in
    ap (λ (x : Header). obeys x (payload_at packet)) y ∙ (askable h (length packet - header_size) (payload_at packet) r.fields).obey

fields≢ : (h : Header) (q : Refusal) → Err q ≡ Ok h → ⊥
fields≢ h q e = let z : ◌≡◌ {A = ℕ} 0 1 = cc in omega arith

-- fields that reading gives at this end were read, byte 1 is the elected member's where it has to be, and they are of our group
pub read_ours_lem : (group : Group) (reading : Reading) (h : Header) → read_ours group reading ≡ Ok h
    → (reading ≡ Ok h) × (from_elected group (content_of h) ≡ true) × (h.group ≡ group.number)
unfolding read_ours
read_ours_lem group (Ok k) h e =
    let f = when_was (from_elected group (content_of k)) _ _ (Ok h) e (fields≢ h Refusal.ForbiddenFields) in
    let g = when_was (k.group =? group.number) _ _ (Ok h) f.1 (fields≢ h Refusal.OtherGroup) in
    let same : k ≡ h = cc in
    (ap Ok same, subst (λ (x : Header). from_elected group (content_of x) ≡ true) same f.0, subst (λ (x : Header). x.group ≡ group.number) same (eqb-true k.group group.number g.0))
read_ours_lem group (Err q) h e = absurd (fields≢ h q e)

module _ (m : Member) (payload : List ℕ) where
  -- the step goes by what reading gives at this end
  pub ours : (reading : Reading) (h : Header) → read_ours m.group reading ≡ Ok h → content_step m (content_of h) payload ≡ read_step m reading payload
  unfolding read_step
  ours reading h e =
      let r = read_ours_lem m.group reading h e in
      rw r.0 (when_true (from_elected m.group (content_of h)) _ _ _ r.1 (when_eq h.group m.group.number _ _ _ r.2 refl))

  pub others : (reading : Reading) (q : Refusal) → read_ours m.group reading ≡ Err q → refused m q ≡ read_step m reading payload
  unfolding read_ours read_step when◌then◌else◌
  others (Ok h) q e = go (from_elected m.group (content_of h)) (h.group =? m.group.number) e
    where
      go : (a b : Bool) → (when a then (when b then Ok h else Err Refusal.OtherGroup) else Err Refusal.ForbiddenFields) ≡ Err q
          → refused m q ≡ (when a then (when b then content_step m (content_of h) payload else refused m Refusal.OtherGroup) else refused m Refusal.ForbiddenFields)
      go true true f = absurd (fields≢ h q (sym f))
      go true false f = let z : Refusal.OtherGroup ≡ q = cc in ap (refused m) (sym z)
      go false b f = let z : Refusal.ForbiddenFields ≡ q = cc in ap (refused m) (sym z)
  others (Err r) q e = let z : r ≡ q = cc in ap (refused m) (sym z)
