-- A member whose arrays are all zero is a fresh one, and opening leaves it. Assumes nothing.
use mathlib.Core.Path.{◌≡◌, ap, ◌∙◌}
use Prim.Native.Nat.{◌*◌}
use lib.ListN.{replicate}
use Rattle.group.specs.Limits.{held_most, waiting_most, payload_most}
use Rattle.group.specs.Wording.{verdict_wording}
use Rattle.group.specs.declared.Group.{Group}
use Rattle.group.specs.declared.MemberNumber.{MemberNumber}
use Rattle.group.specs.Question.{Verdict}
use Rattle.store.proofs.Places.{messages_none}
use Rattle.member.specs.Calls.{Opening}
use Rattle.member.specs.Promise.{Opens}
use Rattle.member.specs.State.{fresh_member}
use Rattle.member.specs.View.{Stored, whole, view_of}
use Rattle.member.specs.declared.Head.{Head}

abbrev pub idle_head : Group → MemberNumber → Head
idle_head group number = record { group = group; number = number; taken = record { 0 = 0 }; accepted = record { 0 = 0 }; submitted = 0; waiting = 0 }

abbrev pub zeroed : Head → Stored
zeroed head =
    whole head (replicate waiting_most 0) (replicate held_most 0) (replicate waiting_most 0) (replicate waiting_most 0) (replicate held_most 0) (replicate held_most 0) (replicate (waiting_most * payload_most) 0) (replicate (held_most * payload_most) 0)

pub fresh_is : {head : Head} {group : Group} {number : MemberNumber} → head ≡ idle_head group number → view_of (zeroed head) ≡ fresh_member group number
unfolding view_of fresh_member
fresh_is e = rw (e, messages_none waiting_most, messages_none held_most)

pub opens : {o : Opening} {verdict : Verdict} {head : Head} {group : Group} {number : MemberNumber} → head ≡ idle_head group number
    → record { member = fresh_member group number; verdict = verdict } ≡ o → Opens o verdict (zeroed head)
opens e z =
    record {
      answer = ap (λ (o : Opening). o.verdict) z;
      state = fresh_is e ∙ ap (λ (o : Opening). o.member) z;
      wording = ap (λ (o : Opening). verdict_wording o.verdict) z;
    }
