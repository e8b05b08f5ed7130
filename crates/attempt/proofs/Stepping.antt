-- The functions that take a step leave what the step says. Assumes nothing.
use mathlib.Core.Path.{◌≡◌, refl, ap, ◌∙◌, subst}
use mathlib.Core.Bool.{true, false}
use mathlib.Core.List.{List, []}
use Prim.Native.Nat.{ℕ, ◌≤◌, ◌<◌}
use lib.Bits.{bit_or}
use lib.ListN.{set, replicate}
use Rattle.group.specs.Lent.{Laid}
use Rattle.group.specs.Limits.{members_most}
use Rattle.group.specs.Members.{only_of, is_in}
use Rattle.group.specs.declared.MemberNumber.{MemberNumber}
use Rattle.group.specs.declared.Refusal.{Refusal}
use Rattle.group.specs.declared.SequenceNumber.{SequenceNumber}
use Rattle.group.proofs.Choice.{when_lt, when_nlt, when_eq, when_ne, when_true, when_false}
use Rattle.packet.specs.Packet.{invitation_kind, fields_of, packet_of}
use Rattle.packet.specs.declared.Header.{Header}
use Rattle.packet.specs.declared.Packet.{Packet}
use Rattle.member.specs.declared.Answer.{Answer}
use Rattle.recovery.specs.Steps.{reply_in}
use Rattle.recovery.specs.declared.Head.{Head}
use Rattle.attempt.specs.Steps.{Step, Takes, declined_step, replied_head, invitation_head, invite_step, reply_packet, reply_step, awaits_in, note_step, answer_step}
use Rattle.attempt.specs.declared.Done.{Done}

takes_as : {x y : Step} {done : Done} {left before after : List ℕ} → x ≡ y → Takes x done left before after → Takes y done left before after
takes_as {done = done} {left = left} {before = before} {after = after} e t = subst (λ (z : Step). Takes z done left before after) e t

declines : (head : Head) (replies : List ℕ) (refusal : Refusal) {done : Done} {out : List ℕ} → done ≡ record { head = head; reply = record { answer = Answer.Refused refusal; written = 0 } }
    → Takes (declined_step head replies refusal) done replies out out
declines head replies refusal e = record { result = e; replies_are = refl; lent = refl }

module _ (head : Head) (held : List ℕ) (attempt : ℕ) {number : SequenceNumber} (number_is : number.0 ≡ reply_in head held) {opened : Head} (opened-is : opened ≡ replied_head head attempt number) where
  opened_as : opened ≡ replied_head head attempt (record { 0 = reply_in head held })
  opened_as = opened-is ∙ (λ i. replied_head head attempt (record { 0 = number_is i }))

  pub invite_takes : {own written : ℕ} {next : Head} {left before after : List ℕ} → own ≡ only_of head.member.number → next ≡ invitation_head opened 1 attempt own
      → left ≡ set (replicate members_most 0) head.member.number.0 number.0
      → Laid (packet_of (fields_of head.member.group.number (Packet.Invitation head.member.number attempt)) []) written before after
      → Takes (invite_step head held attempt) (record { head = next; reply = record { answer = Answer.Sent; written = written } }) left before after
  unfolding invite_step
  invite_takes o n l p =
      let next-as = n ∙ (λ i. invitation_head (opened_as i) 1 attempt (o i)) in
      record {
        result = λ i. record { head = next-as i; reply = record { answer = Answer.Sent; written = p.size i } };
        replies_are = l ∙ ap (λ (x : ℕ). set (replicate members_most 0) head.member.number.0 x) number_is;
        lent = p.lent;
      }

  module _ (replies : List ℕ) (sender : MemberNumber) (below : sender.0 < head.member.group.n) {written : ℕ} {before after : List ℕ}
      (laid : Laid (packet_of (fields_of head.member.group.number (Packet.Reply head.member.number attempt number)) []) written before after) where
    laid_as : Laid (reply_packet head held attempt) written before after
    laid_as =
        subst (λ (x : ℕ). Laid (packet_of (fields_of head.member.group.number (Packet.Reply head.member.number attempt (record { 0 = x }))) []) written before after) number_is laid

    pub reply_takes : sender.0 ≡ head.member.number.0
        → Takes (reply_step head held replies sender attempt) (record { head = opened; reply = record { answer = Answer.Noted; written = written } }) replies before after
    unfolding reply_step
    reply_takes e =
        takes_as (when_lt _ _ _ _ _ below (when_eq _ _ _ _ _ e refl))
        (record {
          result = λ i. record { head = opened_as i; reply = record { answer = Answer.Noted; written = laid_as.size i } };
          replies_are = refl;
          lent = laid_as.lent;
        })

    pub reply_closes : {next : Head} {left : List ℕ} → (sender.0 ≡ head.member.number.0 → ⊥) → next ≡ invitation_head opened 0 0 0 → left ≡ replicate members_most 0
        → Takes (reply_step head held replies sender attempt) (record { head = next; reply = record { answer = Answer.Noted; written = written } }) left before after
    unfolding reply_step
    reply_closes e n l =
        let next-as = n ∙ (λ i. invitation_head (opened_as i) 0 0 0) in
        takes_as (when_lt _ _ _ _ _ below (when_ne _ _ _ _ _ e refl))
        (record {
          result = λ i. record { head = next-as i; reply = record { answer = Answer.Noted; written = laid_as.size i } };
          replies_are = l;
          lent = laid_as.lent;
        })

pub reply_declines : (head : Head) (held replies : List ℕ) (sender : MemberNumber) (attempt : ℕ) {done : Done} {out : List ℕ} → head.member.group.n ≤ sender.0
    → done ≡ record { head = head; reply = record { answer = Answer.Refused Refusal.UnknownMember; written = 0 } } → Takes (reply_step head held replies sender attempt) done replies out out
unfolding reply_step
reply_declines head held replies sender attempt h e = takes_as (when_nlt _ _ _ _ _ h refl) (declines head replies Refusal.UnknownMember e)

module _ (head : Head) (replies : List ℕ) (sender : MemberNumber) (attempt number : ℕ) {out : List ℕ} where
  pub note_unknown : {done : Done} → head.member.group.n ≤ sender.0
      → done ≡ record { head = head; reply = record { answer = Answer.Refused Refusal.UnknownMember; written = 0 } } → Takes (note_step head replies sender attempt number) done replies out out
  unfolding note_step
  note_unknown h e = takes_as (when_nlt _ _ _ _ _ h refl) (declines head replies Refusal.UnknownMember e)

  pub note_other : {done : Done} → sender.0 < head.member.group.n → awaits_in head attempt ≡ false
      → done ≡ record { head = head; reply = record { answer = Answer.Refused Refusal.NotOfAttempt; written = 0 } } → Takes (note_step head replies sender attempt number) done replies out out
  unfolding note_step
  note_other h a e = takes_as (when_lt _ _ _ _ _ h (when_false _ _ _ _ a refl)) (declines head replies Refusal.NotOfAttempt e)

  pub note_again : sender.0 < head.member.group.n → awaits_in head attempt ≡ true → is_in head.repliers sender.0 ≡ true
      → Takes (note_step head replies sender attempt number) (record { head = head; reply = record { answer = Answer.Noted; written = 0 } }) replies out out
  unfolding note_step
  note_again h a b =
      takes_as (when_lt _ _ _ _ _ h (when_true _ _ _ _ a (when_true _ _ _ _ b refl))) (record { result = refl; replies_are = refl; lent = refl })

  pub note_first : {next : Head} {own : ℕ} {left : List ℕ} → sender.0 < head.member.group.n → awaits_in head attempt ≡ true → is_in head.repliers sender.0 ≡ false
      → left ≡ set replies sender.0 number → own ≡ only_of sender → next ≡ invitation_head head head.inviting head.invited (bit_or head.repliers own)
      → Takes (note_step head replies sender attempt number) (record { head = next; reply = record { answer = Answer.Noted; written = 0 } }) left out out
  unfolding note_step
  note_first h a b l o n =
      let next-as = n ∙ (λ i. invitation_head head head.inviting head.invited (bit_or head.repliers (o i))) in
      takes_as (when_lt _ _ _ _ _ h (when_true _ _ _ _ a (when_false _ _ _ _ b refl)))
      (record { result = λ i. record { head = next-as i; reply = record { answer = Answer.Noted; written = 0 } }; replies_are = l; lent = refl })

-- a packet of kind 9 or 10
module _ (head : Head) (held replies : List ℕ) (h : Header) {done : Done} {left before after : List ℕ} where
  pub answer_invited : h.kind ≡ invitation_kind → Takes (reply_step head held replies h.member h.a) done left before after → Takes (answer_step head held replies h) done left before after
  unfolding answer_step
  answer_invited e t = takes_as (when_eq _ _ _ _ _ e refl) t

  pub answer_noted : (h.kind ≡ invitation_kind → ⊥) → Takes (note_step head replies h.member h.a h.b) done left before after → Takes (answer_step head held replies h) done left before after
  unfolding answer_step
  answer_noted e t = takes_as (when_ne _ _ _ _ _ e refl) t
