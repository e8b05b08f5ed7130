-- A survivor's submit, repeat, status and take, with the result or without it, and the packets that it gets with it, are in the group made last what that group's member owes. Assumes nothing.
use Rattle.std.specs.Prelude.{Ok}
use mathlib.Core.Path.{◌≡◌, refl, sym, ap, ◌∙◌, subst}
use mathlib.Core.Logic.{◌≢◌}
use mathlib.Core.Bool.{Bool, true, false}
use mathlib.Core.Option.{some}
use mathlib.Core.List.{List, [], ◌++◌, append-nil}
use Prim.Native.Nat.{ℕ, ◌+◌, ◌≤◌}
use native.Mathlib.Nat.{le_refl}
use borrow.Author.Tests.{eq-eqb}
use lib.ListN.{length}
use Rattle.group.proofs.Choice.{both_first}
use Rattle.group.proofs.Lists.{when_elim, judged_elim, at}
use Rattle.group.specs.Choice.{when◌then◌else◌, ◌and◌, ◌=?◌, ◌≤?◌}
use Rattle.group.specs.Limits.{held_most, longest_packet}
use Rattle.group.specs.Question.{judged}
use Rattle.group.specs.declared.Group.{Group}
use Rattle.group.specs.declared.Refusal.{Refusal}
use Rattle.message.specs.Order.{Ordered}
use Rattle.member.proofs.Closing.{receive_named}
use Rattle.member.proofs.Invariant as memberInvariant
use Rattle.member.proofs.Invariant.{MemberGood, voice_of}
use Rattle.member.proofs.Ordering as memberOrdering
use Rattle.member.proofs.Taking.{take_good}
use Rattle.member.specs.Calls as member
use Rattle.member.specs.Order.{took_by, accepted_by}
use Rattle.member.specs.Sound as memberSoundness
use Rattle.member.specs.State.{Member}
use Rattle.member.specs.declared.Answer.{Answer}
use Rattle.packet.proofs.Facts.{Voice, Known}
use Rattle.packet.proofs.Laws.{read_written, content_fields, fields_group}
use Rattle.packet.specs.Packet.{read_of, payload_at, fields_of, from_elected, written}
use Rattle.packet.specs.Answers.{Reading}
use Rattle.sequencer.proofs.Invariant.{facts_of}
use Rattle.recovery.specs.Begin.{member_in}
use Rattle.recovery.specs.Calls as terminal
use Rattle.recovery.specs.Sound.{member_sound}
use Rattle.recovery.specs.State.{Kept, Terminal}
use Rattle.window.specs.Places as window
use Rattle.reset.proofs.Carried.{called, submit_is, repeat_is, status_is, take_is}
use Rattle.reset.proofs.Same.{known_plain}
use Rattle.reset.proofs.View.{member_of, member_here, member_there}
use Rattle.reset.proofs.Without.{submit_same, take_same, take_none}

-- a submit leaves the group
submit_group : (m : Member) (payload : List ℕ) → (member.submit_of m payload longest_packet).member.group ≡ m.group
unfolding member.submit_of member.answered member.with_waiting
submit_group m payload =
    let P : member.Outcome → Type 0 = λ o. o.member.group ≡ m.group in
    judged_elim P (member.call_verdict m longest_packet) (λ _ _. refl)
    (λ _. judged_elim P (member.submit_verdict m (length payload)) (λ _ _. refl) (λ _. when_elim P (m.waiting =? 0) (λ _. refl) (λ _. refl)))

-- a repeat and a status leave the member
repeat_leaves : (m : Member) → (member.repeat_of m longest_packet).member ≡ m
unfolding member.repeat_of member.answered
repeat_leaves m =
    let P : member.Outcome → Type 0 = λ o. o.member ≡ m in
    judged_elim P (member.call_verdict m longest_packet) (λ _ _. refl) (λ _. when_elim P (1 ≤? m.waiting) (λ _. refl) (λ _. refl))

status_leaves : (m : Member) → (member.status_of m longest_packet).member ≡ m
unfolding member.status_of member.answered
status_leaves m = judged_elim (λ (o : member.Outcome). o.member ≡ m) (member.call_verdict m longest_packet) (λ _ _. refl) (λ _. refl)

-- a take leaves the group
take_group : (m : Member) → (member.take_of m longest_packet).member.group ≡ m.group
unfolding member.take_of member.answered member.took_of member.with_taken
take_group m =
    let P : member.Outcome → Type 0 = λ o. o.member.group ≡ m.group in
    judged_elim P (member.call_verdict m longest_packet) (λ _ _. refl) (λ _. when_elim P (member.is_ready m (m.taken.0 + 1)) (λ _. refl) (λ _. refl))

module _ (group : Group) (cut i acknowledged accepted : ℕ) (order took : List Ordered) (submitted : List (List ℕ)) (t : Terminal) (sound : member_sound t ≡ true)
    (held-long : length t.member.held ≡ held_most) (h : memberInvariant.Terminal group i acknowledged accepted (member_of group cut t) order took submitted) where
  -- what a call that left t' owes
  abbrev Owes : Terminal → Answer → List Ordered → List (List ℕ) → List (List ℕ) → Type 0
  Owes t' answer took' submitted' packets =
      MemberGood group i acknowledged accepted order submitted (member_of group cut t) took' submitted' packets (record { member = member_of group cut t'; answer = answer; bytes = [] })

  -- a call that leaves the member, and writes nothing of the group
  left : (t' : Terminal) (answer : Answer) → t'.member ≡ t.member → Owes t' answer took submitted []
  unfolding member_of
  left t' answer same =
      let is : member_of group cut t' ≡ member_of group cut t = ap (λ (m : Member). when m.group.number =? group.number then m else member_in m group cut) same in
      rw is (record { terminal = h; louder = record { row = le_refl _; reach = le_refl _; submitted = λ c p z. z }; known = tt })

  abbrev next : ℕ
  next = t.member.taken.0 + 1

  abbrev keeps : Kept
  keeps = when member.is_ready t.member next then terminal.kept_took t.kept next (window.message_at t.member.held next) else t.kept

  own_sound : memberSoundness.sound_of t.member ≡ true
  unfolding member_sound
  own_sound = both_first (memberSoundness.sound_of t.member) _ sound

  -- with the result: its packets are the group's
  module _ (e : t.member.group.number ≡ group.number) where
    submits_here : (payload : List ℕ) → let o = member.submit_of t.member payload longest_packet in
        Owes (terminal.with_member t o.member t.kept) o.answer took (submitted ++ accepted_by o.answer payload) (written o.bytes)
    submits_here payload =
        let o = member.submit_of t.member payload longest_packet in
        let is = member_here group cut t e in
        let g = memberOrdering.submit_good group i acknowledged accepted order took submitted t.member (subst (λ (m : Member). memberInvariant.Terminal group i acknowledged accepted m order took submitted) is h) payload in
        let is' = member_here group cut (terminal.with_member t o.member t.kept) (ap (λ (x : Group). x.number) (submit_group t.member payload) ∙ e) in
        rw (is, is') (record { terminal = g.terminal; louder = g.louder; known = g.known })

    pub submit_here : (payload : List ℕ) → let x = terminal.submit_of t payload longest_packet in
        Owes x.terminal x.answer took (submitted ++ accepted_by x.answer payload) (written x.bytes)
    submit_here payload = rw (submit_is t sound payload) (submits_here payload)

    -- a repeat's request and a status
    same_here : (o : member.Outcome) → o.member ≡ t.member → MemberGood group i acknowledged accepted order submitted t.member took submitted (written o.bytes) o
        → Owes (terminal.with_member t o.member t.kept) o.answer took submitted (written o.bytes)
    same_here o same g =
        let is = member_here group cut t e in
        let is' = member_here group cut (terminal.with_member t o.member t.kept) (ap (λ (x : Member). x.group.number) same ∙ e) in
        rw (is, is') (record { terminal = g.terminal; louder = g.louder; known = g.known })

    own_terminal : memberInvariant.Terminal group i acknowledged accepted t.member order took submitted
    own_terminal = subst (λ (m : Member). memberInvariant.Terminal group i acknowledged accepted m order took submitted) (member_here group cut t e) h

    pub repeat_here : let x = terminal.repeat_of t longest_packet in Owes x.terminal x.answer took submitted (written x.bytes)
    repeat_here =
        rw (repeat_is t sound)
        (same_here (member.repeat_of t.member longest_packet) (repeat_leaves t.member) (memberOrdering.repeat_good group i acknowledged accepted order took submitted t.member own_terminal))

    pub status_here : let x = terminal.status_of t longest_packet in Owes x.terminal x.answer took submitted (written x.bytes)
    status_here =
        rw (status_is t sound)
        (same_here (member.status_of t.member longest_packet) (status_leaves t.member) (memberOrdering.status_good group i acknowledged accepted order took submitted t.member own_terminal))

    -- a packet of the group
    module _ (voice : ℕ → Voice) (p : List ℕ) (kn : Known group.number (facts_of group order accepted voice) p) where
      reads : (read_of p ≡ Ok (fields_of group.number kn.content)) × (payload_at p ≡ kn.payload)
      reads = rw kn.bytes_are (read_written (fields_of group.number kn.content) kn.payload kn.allowed)

      ours : ((fields_of group.number kn.content).group =? t.member.group.number) ≡ true
      ours = eq-eqb _ _ (fields_group group.number kn.content ∙ sym e)

      pub received_is : terminal.receive_of t p longest_packet
          ≡ when from_elected t.member.group kn.content
          then (when true and (when t.reset.replied then false else true) then terminal.heard_of t kn.content kn.payload else terminal.refused t Refusal.OtherGroup)
          else terminal.refused t Refusal.ForbiddenFields
      unfolding terminal.receive_of judged terminal.read_step when◌then◌else◌
      received_is = rw (called t sound, reads.0, reads.1, content_fields group.number kn.content, known_plain (facts_of group order accepted voice) kn.content kn.payload kn.says, ours)

      abbrev Received : terminal.Outcome → Type 0
      Received x = Owes x.terminal x.answer took submitted (written x.bytes)

      refused_owes : (refusal : Refusal) → Received (terminal.refused t refusal)
      unfolding terminal.refused written
      refused_owes refusal = left t (Answer.Refused refusal) refl

      heard_owes : from_elected t.member.group kn.content ≡ true → Received (terminal.heard_of t kn.content kn.payload)
      unfolding terminal.heard_of
      heard_owes named =
          let m = t.member in
          let x = member.content_step m kn.content kn.payload in
          let kept : Kept = terminal.kept_read t.kept x.answer (terminal.floor_in kn.content) in
          let is = member_here group cut t e in
          let y : member.receive_of m p longest_packet ≡ x =
          ap (λ (z : List ℕ). member.receive_of m z longest_packet) kn.bytes_are ∙ receive_named m group kn.content kn.payload own_sound own_terminal.seat.group_is named kn.allowed in
          let g : MemberGood group i acknowledged accepted order submitted m took submitted (written x.bytes) x =
          subst (λ (o : member.Outcome). MemberGood group i acknowledged accepted order submitted m took submitted (written o.bytes) o) y
          (memberOrdering.receive_good group i acknowledged accepted order took submitted m own_terminal voice p kn) in
          let is' = member_here group cut (terminal.with_member t x.member kept) (ap (λ (z : Group). z.number) g.terminal.seat.group_is) in
          rw (is, is') (record { terminal = g.terminal; louder = g.louder; known = g.known })

      pub receive_here : Received (terminal.receive_of t p longest_packet)
      receive_here =
          subst Received (sym received_is)
          (when_elim Received (from_elected t.member.group kn.content)
          (λ named. when_elim Received (true and (when t.reset.replied then false else true)) (λ _. heard_owes named) (λ _. refused_owes Refusal.OtherGroup))
          (λ _. refused_owes Refusal.ForbiddenFields))

    module _ (numbered : (k : ℕ) (x : Ordered) → at order k ≡ some x → x.number ≡ k) where
      takes_here : let o = member.take_of t.member longest_packet in Owes (terminal.with_member t o.member keeps) o.answer (took ++ took_by o.answer o.bytes) submitted []
      takes_here =
          let o = member.take_of t.member longest_packet in
          let is = member_here group cut t e in
          let g = take_good group i acknowledged accepted order took submitted t.member (subst (λ (m : Member). memberInvariant.Terminal group i acknowledged accepted m order took submitted) is h) numbered in
          let is' = member_here group cut (terminal.with_member t o.member keeps) (ap (λ (x : Group). x.number) (take_group t.member) ∙ e) in
          rw (is, is') (record { terminal = g.terminal; louder = g.louder; known = tt })

      pub take_here : let x = terminal.take_of t longest_packet in Owes x.terminal x.answer (took ++ took_by x.answer x.bytes) submitted []
      take_here = rw (take_is t sound) takes_here

  -- without it: they are of the group before
  module _ (e : t.member.group.number ≢ group.number) where
    submits_there : (payload : List ℕ) → let o = member.submit_of t.member payload longest_packet in
        Owes (terminal.with_member t o.member t.kept) o.answer took (submitted ++ accepted_by o.answer payload) []
    submits_there payload =
        let m' : Member = member_in t.member group cut in
        let o = member.submit_of t.member payload longest_packet in
        let is = member_there group cut t e in
        let h' = subst (λ (m : Member). memberInvariant.Terminal group i acknowledged accepted m order took submitted) is h in
        let g = memberOrdering.submit_good group i acknowledged accepted order took submitted m' h' payload in
        let same = submit_same t.member group cut own_sound h'.content.sound payload in
        let is' = member_there group cut (terminal.with_member t o.member t.kept) (λ z. e (sym (ap (λ (x : Group). x.number) (submit_group t.member payload)) ∙ z)) in
        rw (is, is' ∙ same.0, sym same.1) (record { terminal = g.terminal; louder = g.louder; known = tt })

    pub submit_there : (payload : List ℕ) → let x = terminal.submit_of t payload longest_packet in
        Owes x.terminal x.answer took (submitted ++ accepted_by x.answer payload) []
    submit_there payload = rw (submit_is t sound payload) (submits_there payload)

    pub repeat_there : let x = terminal.repeat_of t longest_packet in Owes x.terminal x.answer took submitted []
    repeat_there = rw (repeat_is t sound) (left (terminal.with_member t (member.repeat_of t.member longest_packet).member t.kept) _ (repeat_leaves t.member))

    pub status_there : let x = terminal.status_of t longest_packet in Owes x.terminal x.answer took submitted []
    status_there = rw (status_is t sound) (left (terminal.with_member t (member.status_of t.member longest_packet).member t.kept) _ (status_leaves t.member))

    -- what is next lies within the group's beginning
    module _ (numbered : (k : ℕ) (x : Ordered) → at order k ≡ some x → x.number ≡ k) (near : member.is_ready t.member next ≡ true → next ≤ cut) where
      takes_there : (r : Bool) → member.is_ready t.member next ≡ r → let o = member.take_of t.member longest_packet in
          Owes (terminal.with_member t o.member keeps) o.answer (took ++ took_by o.answer o.bytes) submitted []
      takes_there true r =
          let m' : Member = member_in t.member group cut in
          let o = member.take_of t.member longest_packet in
          let is = member_there group cut t e in
          let h' = subst (λ (m : Member). memberInvariant.Terminal group i acknowledged accepted m order took submitted) is h in
          let g = take_good group i acknowledged accepted order took submitted m' h' numbered in
          let long : length t.member.held ≡ held_most = held-long in
          let same = take_same t.member group cut own_sound h'.content.sound long (near r) r in
          let is' = member_there group cut (terminal.with_member t o.member keeps) (λ z. e (sym (ap (λ (x : Group). x.number) (take_group t.member)) ∙ z)) in
          rw (is, is' ∙ same.0, sym same.1) (record { terminal = g.terminal; louder = g.louder; known = tt })
      takes_there false r =
          let is = member_there group cut t e in
          let h' = subst (λ (m : Member). memberInvariant.Terminal group i acknowledged accepted m order took submitted) is h in
          let o = member.take_of t.member longest_packet in
          let stays = take_none t.member group cut own_sound h'.content.sound r in
          let is' = member_there group cut (terminal.with_member t o.member keeps) (λ z. e (sym (ap (λ (x : Group). x.number) (take_group t.member)) ∙ z)) in
          rw (is, is' ∙ ap (λ (m : Member). member_in m group cut) stays.0, stays.1, append-nil took)
          (record { terminal = h'; louder = record { row = le_refl _; reach = le_refl _; submitted = λ c p z. z }; known = tt })

      pub take_there : let x = terminal.take_of t longest_packet in Owes x.terminal x.answer (took ++ took_by x.answer x.bytes) submitted []
      take_there = rw (take_is t sound) (takes_there (member.is_ready t.member next) refl)
