-- The kinds are told apart as in the definition; question 9 is asked of a broadcast and of an offer.
use mathlib.Core.Path.{◌≡◌, refl}
use mathlib.Core.List.{List}
use Prim.Native.Nat.{ℕ}
use Rattle.group.proofs.Choice.{choices}
use Rattle.group.specs.declared.MemberNumber.{MemberNumber}
use Rattle.group.specs.declared.Refusal.{Refusal}
use Rattle.group.specs.declared.SequenceNumber.{SequenceNumber}
use Rattle.packet.specs.declared.Packet.{Packet}
use Rattle.window.proofs.Places.{counted_in_lem}
use Rattle.member.specs.Calls.{refused, with_accepted, content_step}
use Rattle.member.specs.State.{Member}
use Rattle.member.specs.Steps.{accepting}
use Rattle.member.proofs.Confirming.{offer_number}
use Rattle.member.proofs.Outcomes.{replied_as, quiet_done}
use borrow.Author.Rules.{rules}
use Rattle.member_calls.proofs.content.Goals as goal

pub returns-then-head-originator : goal.returns-then-head-originator
unfolding content_step
returns-then-head-originator c = λ queue. replied_as (rw c.in-Broadcast.is (search (choices, rules) depth 9)) (quiet_done c.args.head queue _ _ _ c.args.out.now c.declined.ensures)

pub returns-else-head-originator : goal.returns-else-head-originator
unfolding content_step
returns-else-head-originator c = λ queue. replied_as (rw c.in-Broadcast.is (search (choices, rules) depth 9)) (c.broadcast.ensures queue)

pub offer-reply-requires : goal.offer-reply-requires
offer-reply-requires c = let a = c.args in let p = c.requires in (offer_number a.head.group.number _ _ _ _ _ (rw c.in-Offer.is at p.0), p.1, p.2)

pub returns-then-head-originator-2 : goal.returns-then-head-originator-2
unfolding content_step
returns-then-head-originator-2 c = λ queue. replied_as (rw c.in-Offer.is (search (choices, rules) depth 9)) (quiet_done c.args.head queue _ _ _ c.args.out.now c.declined-then-head-originator-2.ensures)

pub returns-else-head-originator-2 : goal.returns-else-head-originator-2
unfolding content_step
returns-else-head-originator-2 c = λ queue. replied_as (rw c.in-Offer.is (search (choices, rules) depth 9)) (c.offer-reply.ensures queue)

pub returns-in-Poll : goal.returns-in-Poll
unfolding content_step
returns-in-Poll c = λ queue. replied_as (rw c.in-Poll.is) (c.poll-reply.ensures queue _ (counted_in_lem _ _ _ _))

pub returns-in-Accept : goal.returns-in-Accept
unfolding content_step with_accepted
returns-in-Accept c = λ queue. replied_as (rw c.in-Accept.is) (quiet_done (accepting c.args.head _) queue _ _ _ c.args.out.now c.noted.ensures)

-- the kinds that are not for this end
other_end : (m : Member) (packet : Packet) (payload : List ℕ)
    → ((originator : MemberNumber) (number : SequenceNumber) (count : ℕ) (floor : SequenceNumber) → packet ≡ Packet.Broadcast originator number count floor → ⊥)
    → ((elected : MemberNumber) (top floor : SequenceNumber) → packet ≡ Packet.Poll elected top floor → ⊥)
    → ((originator : MemberNumber) (number : SequenceNumber) (count : ℕ) (floor : SequenceNumber) → packet ≡ Packet.Offer originator number count floor → ⊥)
    → ((elected : MemberNumber) (number : SequenceNumber) → packet ≡ Packet.Accept elected number → ⊥)
    → refused m Refusal.OtherEnd ≡ content_step m packet payload
unfolding content_step
other_end m (Packet.Request sender taken count) payload b p o a = refl
other_end m (Packet.Broadcast originator number count floor) payload b p o a = absurd (b _ _ _ _ refl)
other_end m (Packet.Gap sender taken first last) payload b p o a = refl
other_end m (Packet.Status sender taken) payload b p o a = refl
other_end m (Packet.Poll elected top floor) payload b p o a = absurd (p _ _ _ refl)
other_end m (Packet.Offer originator number count floor) payload b p o a = absurd (o _ _ _ _ refl)
other_end m (Packet.Confirm sender number) payload b p o a = refl
other_end m (Packet.Accept elected number) payload b p o a = absurd (a _ _ refl)
other_end m (Packet.Invitation sender attempt) payload b p o a = refl
other_end m (Packet.Reply sender attempt number) payload b p o a = refl
other_end m (Packet.Result sender attempt elected number) payload b p o a = refl

pub returns-in_default : goal.returns-in_default
returns-in_default c =
    let d = c.in_default in
    λ queue. replied_as (other_end _ _ _ d.not-Broadcast d.not-Poll d.not-Offer d.not-Accept) (quiet_done c.args.head queue _ _ _ c.args.out.now c.declined-in_default.ensures)
