-- What a call of the member or of the sequencer leaves of the parts, list by list. Assumes nothing.
use Rattle.std.specs.Prelude.{Err}
use mathlib.Core.Path.{◌≡◌, refl, sym, ap, ◌∙◌, subst}
use borrow.Author.Tests.{eq-eqb, ne_eqb}
use mathlib.Core.Bool.{Bool, true, false}
use mathlib.Core.List.{List}
use Prim.Native.Nat.{ℕ, ◌*◌, ◌≤◌}
use Rattle.group.specs.Limits.{held_most, payload_most}
use Rattle.group.specs.declared.Refusal.{Refusal}
use Rattle.group.specs.declared.SequenceNumber.{SequenceNumber}
use Rattle.group.specs.Question.{Verdict}
use Rattle.packet.specs.Packet.{read_of}
use Rattle.member.specs.Calls as member
use Rattle.member.specs.Promise as memberPromise
use Rattle.member.specs.State.{Member}
use Rattle.member.specs.View as memberView
use Rattle.member.specs.Wording.{wording_of}
use Rattle.member.specs.declared.Answer as memberAnswer
use Rattle.member.specs.declared.Head as memberHead
use Rattle.member.specs.declared.Reply as memberReply
use Rattle.sequencer.specs.Calls as sequencer
use Rattle.sequencer.specs.Promise as sequencerPromise
use Rattle.sequencer.specs.View as sequencerView
use Rattle.sequencer.specs.Wording as sequencerWording
use Rattle.sequencer.specs.declared.Answer as sequencerAnswer
use Rattle.sequencer.specs.declared.Head as sequencerHead
use Rattle.sequencer.specs.declared.Reply as sequencerReply
use Rattle.recovery.specs.Promise as promise
use Rattle.recovery.specs.Steps.{beside_sound, with_member_head, with_sequencer_head}
use Rattle.recovery.specs.View.{Stored, whole, kept_in, terminal_of, flags_sound, view_of}
use Rattle.recovery.specs.declared.Head.{Head}
use Rattle.recovery.proofs.Parts.{unsound, not_sound, sequencer_told_lem, beside_refused, unsound_judged, submit_changed, submit_refused, repeat_changed, repeat_refused, status_changed, status_refused, odd_refused, poll_told, copy_told}
use Rattle.recovery.specs.Calls.{refused, kept_read, take_of, receive_of, order_of, poll_of, copy_of}
use Rattle.recovery.specs.State.{Kept, Terminal}
use Rattle.terminals.specs.Steps.{kept_told, Remembers, resets, frozen_refusal, closed_refusal, refusal_after, floor_said, read_after, heard_head, end_verdict}
use Rattle.terminals.proofs.Carrying.{flags_of, same_verdict, kept_changed, order_changed, end_asked, end_refused}
use Rattle.terminals.proofs.Freezing.{frozen_own, awake_own}
use Rattle.terminals.proofs.Hearing.{read_kept, heard_own, closed_own}
use Rattle.terminals.proofs.Taking.{Full, places_full, take_own, told_bytes, written_fits, take_fits}
use lib.ListN.{length, take}

module _ (head : Head) (queued held queued_originators queued_lengths held_originators held_lengths queued_payloads held_payloads past past_originators past_lengths past_payloads highest replies : List ℕ) {b : Bool} (is : b ≡ beside_sound head (kept_in head past past_originators past_lengths past_payloads highest) replies) (taken counts repeats kept marks originators lengths payloads : List ℕ) where
  abbrev s : Stored
  s = whole head queued held queued_originators queued_lengths held_originators held_lengths queued_payloads held_payloads past past_originators past_lengths past_payloads highest replies taken counts repeats kept marks originators lengths payloads

  pub submitted_whole : (payload : List ℕ) {before after : List ℕ} {reply : memberReply.Reply} {m : memberHead.Head} {head' : Head} {queued' held' queued_originators' queued_lengths' held_originators' held_lengths' queued_payloads' held_payloads' : List ℕ} → b ≡ true → head' ≡ with_member_head head m
      → memberPromise.Submitted (memberView.whole head.member queued held queued_originators queued_lengths held_originators held_lengths queued_payloads held_payloads) payload before reply (memberView.whole m queued' held' queued_originators' queued_lengths' held_originators' held_lengths' queued_payloads' held_payloads') after
      → promise.Submitted s payload before reply (whole head' queued' held' queued_originators' queued_lengths' held_originators' held_lengths' queued_payloads' held_payloads' past past_originators past_lengths past_payloads highest replies taken counts repeats kept marks originators lengths payloads) after
  submitted_whole payload {before} {after} {reply} {m} {head'} {queued'} {held'} {queued_originators'} {queued_lengths'} {held_originators'} {held_lengths'} {queued_payloads'} {held_payloads'} h e p =
      subst (λ (x : Head). promise.Submitted s payload before reply (whole x queued' held' queued_originators' queued_lengths' held_originators' held_lengths' queued_payloads' held_payloads' past past_originators past_lengths past_payloads highest replies taken counts repeats kept marks originators lengths payloads) after) (sym e)
      (submit_changed s payload before after reply (memberView.whole m queued' held' queued_originators' queued_lengths' held_originators' held_lengths' queued_payloads' held_payloads') (sym is ∙ h) p)

  pub submitted_no : (payload : List ℕ) {before : List ℕ} {reply : memberReply.Reply} → b ≡ false → reply ≡ unsound → promise.Submitted s payload before reply s before
  submitted_no payload {before} {reply} h e =
      subst (λ (x : memberReply.Reply). promise.Submitted s payload before x s before) (sym e) (submit_refused s payload before before reply (sym is ∙ h))

  pub repeated_whole : {before after : List ℕ} {reply : memberReply.Reply} → b ≡ true → memberPromise.Repeated (memberView.whole head.member queued held queued_originators queued_lengths held_originators held_lengths queued_payloads held_payloads) before reply after
      → promise.Repeated s before reply s after
  repeated_whole {before} {after} {reply} h p = repeat_changed s before after reply (sym is ∙ h) p

  pub repeated_no : {before : List ℕ} {reply : memberReply.Reply} → b ≡ false → reply ≡ unsound → promise.Repeated s before reply s before
  repeated_no {before} {reply} h e =
      subst (λ (x : memberReply.Reply). promise.Repeated s before x s before) (sym e) (repeat_refused s before before reply (sym is ∙ h))

  pub reported_whole : {before after : List ℕ} {reply : memberReply.Reply} → b ≡ true → memberPromise.Reported (memberView.whole head.member queued held queued_originators queued_lengths held_originators held_lengths queued_payloads held_payloads) before reply after
      → promise.Reported s before reply s after
  reported_whole {before} {after} {reply} h p = status_changed s before after reply (sym is ∙ h) p

  pub reported_no : {before : List ℕ} {reply : memberReply.Reply} → b ≡ false → reply ≡ unsound → promise.Reported s before reply s before
  reported_no {before} {reply} h e =
      subst (λ (x : memberReply.Reply). promise.Reported s before x s before) (sym e) (status_refused s before before reply (sym is ∙ h))

module _ (head : Head) (taken counts repeats kept marks originators lengths payloads : List ℕ) {b : Bool} (is : b ≡ flags_sound head) (queued held queued_originators queued_lengths held_originators held_lengths queued_payloads held_payloads past past_originators past_lengths past_payloads highest replies : List ℕ) where
  abbrev w : Stored
  w = whole head queued held queued_originators queued_lengths held_originators held_lengths queued_payloads held_payloads past past_originators past_lengths past_payloads highest replies taken counts repeats kept marks originators lengths payloads

  pub polled_whole : {before after : List ℕ} {reply : sequencerReply.Reply} → b ≡ true → sequencerPromise.Polled (sequencerView.whole head.sequencer taken counts repeats kept marks originators lengths payloads) before reply after
      → promise.Polled w before reply w after
  polled_whole {before} {after} {reply} h p = poll_told w before after reply (sym is ∙ h) p

  pub polled_no : {before : List ℕ} {reply : sequencerReply.Reply} → b ≡ false → reply ≡ not_sound → promise.Polled w before reply w before
  polled_no {before} {reply} h e =
      subst (λ (x : sequencerReply.Reply). promise.Polled w before x w before) (sym e) (odd_refused w (λ t. poll_of t (length before)) before (sym is ∙ h))

  pub copied_whole : {before after : List ℕ} {reply : sequencerReply.Reply} (number : SequenceNumber) → b ≡ true
      → sequencerPromise.Copied (sequencerView.whole head.sequencer taken counts repeats kept marks originators lengths payloads) number before reply after → promise.Copied w number before reply w after
  copied_whole {before} {after} {reply} number h p = copy_told w before after reply number (sym is ∙ h) p

  pub copied_no : {before : List ℕ} {reply : sequencerReply.Reply} (number : SequenceNumber) → b ≡ false → reply ≡ not_sound → promise.Copied w number before reply w before
  copied_no {before} {reply} number h e =
      subst (λ (x : sequencerReply.Reply). promise.Copied w number before x w before) (sym e) (odd_refused w (λ t. copy_of t number (length before)) before (sym is ∙ h))

  pub ordered_no : (packet : List ℕ) {before : List ℕ} {reply : sequencerReply.Reply} → b ≡ false → reply ≡ not_sound → promise.OrderedBy w packet before reply w before
  ordered_no packet {before} {reply} h e =
      subst (λ (x : sequencerReply.Reply). promise.OrderedBy w packet before x w before) (sym e) (odd_refused w (λ t. order_of t packet (length before)) before (sym is ∙ h))

  pub ordered_frozen : (packet : List ℕ) {before : List ℕ} {reply : sequencerReply.Reply} {v : Verdict} → b ≡ true → head.frozen ≡ 1
      → v ≡ sequencer.call_verdict (sequencerView.view_of (sequencerView.whole head.sequencer taken counts repeats kept marks originators lengths payloads)) (length before)
      → reply ≡ record { answer = sequencerAnswer.Answer.Refused (refusal_after v (frozen_refusal head.sequencer.group (read_of packet))); written = 0 }
      → promise.OrderedBy w packet before reply w before
  unfolding terminal_of sequencerView.view_of sequencer.answered
  ordered_frozen packet {before} {reply} {v} h frozen verdict e =
      let t : Terminal = terminal_of w in
      let refusal : Refusal = refusal_after (sequencer.call_verdict t.sequencer (length before)) (frozen_refusal head.sequencer.group (read_of packet)) in
      let told = e ∙ ap (λ (x : Verdict). record { answer = sequencerAnswer.Answer.Refused (refusal_after x (frozen_refusal head.sequencer.group (read_of packet))); written = 0 }) verdict in
      sequencer_told_lem w (λ t. order_of t packet (length before)) (sequencer.refused t.sequencer refusal) (sym is ∙ h) refl (frozen_own t packet (length before) (eq-eqb _ _ frozen))
      (record { answer = told; lent = refl; wording = ap (λ (r : sequencerReply.Reply). sequencerWording.wording_of r.answer) told })

  pub ordered_whole : (packet : List ℕ) {before after : List ℕ} {reply : sequencerReply.Reply} {q : sequencerHead.Head} {head' : Head} {taken' counts' repeats' kept' marks' originators' lengths' payloads' : List ℕ} → b ≡ true → (head.frozen ≡ 1 → ⊥) → head' ≡ with_sequencer_head head q
      → sequencerPromise.Received (sequencerView.whole head.sequencer taken counts repeats kept marks originators lengths payloads) packet before reply (sequencerView.whole q taken' counts' repeats' kept' marks' originators' lengths' payloads') after
      → promise.OrderedBy w packet before reply (whole head' queued held queued_originators queued_lengths held_originators held_lengths queued_payloads held_payloads past past_originators past_lengths past_payloads highest replies taken' counts' repeats' kept' marks' originators' lengths' payloads') after
  unfolding terminal_of flags_sound
  ordered_whole packet {before} {after} {reply} {q} {head'} {taken'} {counts'} {repeats'} {kept'} {marks'} {originators'} {lengths'} {payloads'} h awake e p =
      let t : Terminal = terminal_of w in
      let flags = sym is ∙ h in
      subst (λ (x : Head). promise.OrderedBy w packet before reply (whole x queued held queued_originators queued_lengths held_originators held_lengths queued_payloads held_payloads past past_originators past_lengths past_payloads highest replies taken' counts' repeats' kept' marks' originators' lengths' payloads') after) (sym e)
      (order_changed w (λ t. order_of t packet (length before)) (sequencer.receive_of t.sequencer packet (length before)) (sequencerView.whole q taken' counts' repeats' kept' marks' originators' lengths' payloads') (whole (with_sequencer_head head q) queued held queued_originators queued_lengths held_originators held_lengths queued_payloads held_payloads past past_originators past_lengths past_payloads highest replies taken' counts' repeats' kept' marks' originators' lengths' payloads') flags flags
      (awake_own t packet (length before) (ne_eqb _ _ awake))
      (λ i. record { member = t.member; kept = t.kept; reset = t.reset; sequencing = t.sequencing; frozen = t.frozen; sequencer = p.state i }) p)

module _ (head : Head) (queued held queued_originators queued_lengths held_originators held_lengths queued_payloads held_payloads past past_originators past_lengths past_payloads highest replies : List ℕ) where
  -- a take
  module _ (sizes : (length held ≡ held_most) × (length held_payloads ≡ held_most * payload_most)) where
    abbrev member_at_lem : Member
    member_at_lem = memberView.view_of (memberView.whole head.member queued held queued_originators queued_lengths held_originators held_lengths queued_payloads held_payloads)

    held_full : Full member_at_lem.held
    unfolding memberView.view_of
    held_full = places_full held held_originators held_lengths held_payloads sizes.0 sizes.1

    pub taken_fits : {before after : List ℕ} {reply : memberReply.Reply} {left : memberView.Stored}
        → memberPromise.Taken (memberView.whole head.member queued held queued_originators queued_lengths held_originators held_lengths queued_payloads held_payloads) before reply left after → (reply.written ≤ payload_most) × (reply.written ≤ length after)
    taken_fits {before} {after} {reply} {left} p =
        (take_fits member_at_lem held_full (length before) p.answer, written_fits (member.take_of member_at_lem (length before)) before p.answer p.lent)

    module _ {b : Bool} (is : b ≡ beside_sound head (kept_in head past past_originators past_lengths past_payloads highest) replies) (taken counts repeats kept marks originators lengths payloads : List ℕ) where
      abbrev at_entry : Stored
      at_entry = whole head queued held queued_originators queued_lengths held_originators held_lengths queued_payloads held_payloads past past_originators past_lengths past_payloads highest replies taken counts repeats kept marks originators lengths payloads

      pub taken_whole : {before after : List ℕ} {reply : memberReply.Reply} {m : memberHead.Head} {head' : Head} {queued' held' queued_originators' queued_lengths' held_originators' held_lengths' queued_payloads' held_payloads' past' past_originators' past_lengths' past_payloads' highest' : List ℕ} → b ≡ true → head' ≡ with_member_head head m
          → memberPromise.Taken (memberView.whole head.member queued held queued_originators queued_lengths held_originators held_lengths queued_payloads held_payloads) before reply (memberView.whole m queued' held' queued_originators' queued_lengths' held_originators' held_lengths' queued_payloads' held_payloads') after
          → Remembers reply.answer (take reply.written after) past past_originators past_lengths past_payloads highest past' past_originators' past_lengths' past_payloads' highest'
          → promise.Taken at_entry before reply (whole head' queued' held' queued_originators' queued_lengths' held_originators' held_lengths' queued_payloads' held_payloads' past' past_originators' past_lengths' past_payloads' highest' replies taken counts repeats kept marks originators lengths payloads) after
      unfolding terminal_of flags_sound
      taken_whole {before} {after} {reply} {m} {head'} {queued'} {held'} {queued_originators'} {queued_lengths'} {held_originators'} {held_lengths'} {queued_payloads'} {held_payloads'} {past'} {past_originators'} {past_lengths'} {past_payloads'} {highest'} h e p r =
          let t : Terminal = terminal_of at_entry in
          let o : member.Outcome = member.take_of t.member (length before) in
          let kept' : Kept = kept_told t.kept o.answer o.bytes in
          let beside = sym is ∙ h in
          let flags = flags_of at_entry beside in
          let k : kept_in head past' past_originators' past_lengths' past_payloads' highest' ≡ kept' = r head ∙ told_bytes o before p.answer p.lent t.kept in
          subst (λ (x : Head). promise.Taken at_entry before reply (whole x queued' held' queued_originators' queued_lengths' held_originators' held_lengths' queued_payloads' held_payloads' past' past_originators' past_lengths' past_payloads' highest' replies taken counts repeats kept marks originators lengths payloads) after) (sym e)
          (kept_changed at_entry (λ t. take_of t (length before)) kept' o (memberView.whole m queued' held' queued_originators' queued_lengths' held_originators' held_lengths' queued_payloads' held_payloads') (whole (with_member_head head m) queued' held' queued_originators' queued_lengths' held_originators' held_lengths' queued_payloads' held_payloads' past' past_originators' past_lengths' past_payloads' highest' replies taken counts repeats kept marks originators lengths payloads) flags flags
          (take_own t (length before) held_full (same_verdict at_entry (length before) beside))
          (λ i. record { member = p.state i; kept = k i; reset = t.reset; sequencing = t.sequencing; frozen = t.frozen; sequencer = t.sequencer }) p)

  -- an unsound rest of its end
  module _ {b : Bool} (is : b ≡ beside_sound head (kept_in head past past_originators past_lengths past_payloads highest) replies) (taken counts repeats kept marks originators lengths payloads : List ℕ) where
    abbrev now_as : Stored
    now_as = whole head queued held queued_originators queued_lengths held_originators held_lengths queued_payloads held_payloads past past_originators past_lengths past_payloads highest replies taken counts repeats kept marks originators lengths payloads

    pub taken_no : {before : List ℕ} {reply : memberReply.Reply} → b ≡ false → reply ≡ unsound → promise.Taken now_as before reply now_as before
    unfolding take_of
    taken_no {before} {reply} h e =
        subst (λ (x : memberReply.Reply). promise.Taken now_as before x now_as before) (sym e)
        (beside_refused now_as (λ t. take_of t (length before)) before (λ u. unsound_judged (terminal_of now_as) (length before) _ u) (sym is ∙ h))

    pub heard_no : (packet : List ℕ) {before : List ℕ} {reply : memberReply.Reply} → b ≡ false → reply ≡ unsound → promise.Received now_as packet before reply now_as before
    unfolding receive_of
    heard_no packet {before} {reply} h e =
        subst (λ (x : memberReply.Reply). promise.Received now_as packet before x now_as before) (sym e)
        (beside_refused now_as (λ t. receive_of t packet (length before)) before (λ u. unsound_judged (terminal_of now_as) (length before) _ u) (sym is ∙ h))

    -- a packet that is of no reset: with a reply open
    pub heard_closed : (packet : List ℕ) {before : List ℕ} {reply : memberReply.Reply} {v : Verdict} → resets (read_of packet) ≡ false → b ≡ true → head.replied ≡ 1
        → v ≡ member.call_verdict (memberView.view_of (memberView.whole head.member queued held queued_originators queued_lengths held_originators held_lengths queued_payloads held_payloads)) (length before)
        → reply ≡ record { answer = memberAnswer.Answer.Refused (refusal_after v (closed_refusal head.member.group (read_of packet))); written = 0 }
        → promise.Received now_as packet before reply now_as before
    unfolding terminal_of memberView.view_of refused member.answered
    heard_closed packet {before} {reply} {v} none h pending verdict e =
        let t : Terminal = terminal_of now_as in
        let beside = sym is ∙ h in
        let flags = flags_of now_as beside in
        let refusal : Refusal = refusal_after (member.call_verdict t.member (length before)) (closed_refusal head.member.group (read_of packet)) in
        let told = e ∙ ap (λ (x : Verdict). record { answer = memberAnswer.Answer.Refused (refusal_after x (closed_refusal head.member.group (read_of packet))); written = 0 }) verdict in
        kept_changed now_as (λ t. receive_of t packet (length before)) t.kept (member.refused t.member refusal) (memberView.whole head.member queued held queued_originators queued_lengths held_originators held_lengths queued_payloads held_payloads) now_as flags flags
        (closed_own t packet (length before) none (same_verdict now_as (length before) beside) (eq-eqb _ _ pending)) refl
        (record { answer = told; state = refl; lent = refl; wording = ap (λ (r : memberReply.Reply). wording_of r.answer) told })

    -- and without one
    pub heard_whole : (packet : List ℕ) {before after : List ℕ} {reply : memberReply.Reply} {m : memberHead.Head} {read : SequenceNumber} {head' : Head} {queued' held' queued_originators' queued_lengths' held_originators' held_lengths' queued_payloads' held_payloads' : List ℕ} → resets (read_of packet) ≡ false → b ≡ true
        → (head.replied ≡ 1 → ⊥) → head' ≡ heard_head head m read → read ≡ read_after head.read reply.answer (read_of packet)
        → memberPromise.Received (memberView.whole head.member queued held queued_originators queued_lengths held_originators held_lengths queued_payloads held_payloads) packet before reply (memberView.whole m queued' held' queued_originators' queued_lengths' held_originators' held_lengths' queued_payloads' held_payloads') after
        → promise.Received now_as packet before reply (whole head' queued' held' queued_originators' queued_lengths' held_originators' held_lengths' queued_payloads' held_payloads' past past_originators past_lengths past_payloads highest replies taken counts repeats kept marks originators lengths payloads) after
    unfolding terminal_of flags_sound
    heard_whole packet {before} {after} {reply} {m} {read} {head'} {queued'} {held'} {queued_originators'} {queued_lengths'} {held_originators'} {held_lengths'} {queued_payloads'} {held_payloads'} none h idle e floor p =
        let t : Terminal = terminal_of now_as in
        let o : member.Outcome = member.receive_of t.member packet (length before) in
        let kept' : Kept = kept_read t.kept o.answer (floor_said (read_of packet)) in
        let beside = sym is ∙ h in
        let flags = flags_of now_as beside in
        let k : kept_in (heard_head head m read) past past_originators past_lengths past_payloads highest ≡ kept' =
        ap (λ (x : SequenceNumber). kept_in (heard_head head m x) past past_originators past_lengths past_payloads highest) (floor ∙ ap (λ (r : memberReply.Reply). read_after head.read r.answer (read_of packet)) p.answer)
        ∙ read_kept t.kept o.answer (read_of packet) in
        subst (λ (x : Head). promise.Received now_as packet before reply (whole x queued' held' queued_originators' queued_lengths' held_originators' held_lengths' queued_payloads' held_payloads' past past_originators past_lengths past_payloads highest replies taken counts repeats kept marks originators lengths payloads) after) (sym e)
        (kept_changed now_as (λ t. receive_of t packet (length before)) kept' o (memberView.whole m queued' held' queued_originators' queued_lengths' held_originators' held_lengths' queued_payloads' held_payloads') (whole (heard_head head m read) queued' held' queued_originators' queued_lengths' held_originators' held_lengths' queued_payloads' held_payloads' past past_originators past_lengths past_payloads highest replies taken counts repeats kept marks originators lengths payloads) flags flags
        (heard_own t packet (length before) none (same_verdict now_as (length before) beside) (ne_eqb _ _ idle))
        (λ i. record { member = p.state i; kept = k i; reset = t.reset; sequencing = t.sequencing; frozen = t.frozen; sequencer = t.sequencer }) p)

    -- questions 1 and 2 of the member's end
    pub asked_whole : (room : ℕ) {v : Verdict} → b ≡ true → v ≡ member.call_verdict (memberView.view_of (memberView.whole head.member queued held queued_originators queued_lengths held_originators held_lengths queued_payloads held_payloads)) room → v ≡ end_verdict (view_of now_as) room
    unfolding terminal_of
    asked_whole room h e = end_asked now_as room (sym is ∙ h) e

    pub asked_no : (room : ℕ) → b ≡ false → Err Refusal.UnsoundState ≡ end_verdict (view_of now_as) room
    asked_no room h = end_refused now_as room (sym is ∙ h)
