-- An answer that is not Took hands out nothing, and what a take handed out lies at the front of its output. Assumes nothing.
use mathlib.Core.Path.{◌≡◌, refl, ap, ◌∙◌}
use mathlib.Core.Logic.{inl, inr}
use mathlib.Core.Bool.{Bool, true}
use mathlib.Core.List.{List, [], ◌∷◌}
use Prim.Native.Nat.{ℕ, ◌≤◌, ◌<◌}
use native.Mathlib.Omega.{arith}
use borrow.Author.Tests.{leb-true}
use lib.ListN.{length, take, drop}
use lib.Seq.{take_at}
use types.Run.{OneOf}
use Rattle.group.specs.Choice.{◌and◌, ◌≤?◌, ◌=?◌}
use Rattle.group.specs.Lent.{front}
use Rattle.group.proofs.Choice.{both_then}
use Rattle.packet.specs.declared.Header.{Header}
use Rattle.group.specs.declared.MemberNumber.{MemberNumber}
use Rattle.group.specs.declared.SequenceNumber.{SequenceNumber}
use Rattle.member.specs.Calls.{Outcome, take_of}
use Rattle.member.specs.Order.{took_by}
use Rattle.member.specs.View.{view_of}
use Rattle.member.specs.declared.Reply.{Reply}
use Rattle.member.specs.declared.Answer.{Answer}
use Rattle.member.specs.declared.Answer.TheVariants.{Refused, Sent, Queued, Old, Kept, KeptGap, Beyond, BeyondGap, Gap, Status, None, Noted, Took}
use Rattle.terminal.specs.Left.{is_message, is_next}
use Rattle.terminal.specs.Laws.{TakeFeeds}
use Rattle.terminal.specs.Take.{feeding_of}

front_take : (bytes lent : List ℕ) → take (length bytes) (front bytes lent) ≡ bytes
front_take bytes lent = take_at bytes (drop (length bytes) lent) (length bytes) refl

-- a tag is not among those below it
unfoldable below : ℕ → List ℕ → Type 0
below x [] = Unit {0}
below x (k ∷ ks) = (k < x) × below x ks

no_key : (x k : ℕ) (ks : List ℕ) → below x (k ∷ ks) → OneOf (k ∷ ks) x → ⊥
unfolding below
no_key x k [] p e = let z = p.0 in omega arith
no_key x k (j ∷ ks) p (inl e) = let z = p.0 in omega arith
no_key x k (j ∷ ks) p (inr o) = no_key x j ks p.1 o

-- Took is the last of the answers
pub took_key : OneOf (0 ∷ 1 ∷ 2 ∷ 3 ∷ 4 ∷ 5 ∷ 6 ∷ 7 ∷ 8 ∷ 9 ∷ 10 ∷ 11 ∷ []) 12 → ⊥
unfolding below
took_key =
    no_key 12 0 (1 ∷ 2 ∷ 3 ∷ 4 ∷ 5 ∷ 6 ∷ 7 ∷ 8 ∷ 9 ∷ 10 ∷ 11 ∷ [])
    (omega arith, (omega arith, (omega arith, (omega arith, (omega arith, (omega arith, (omega arith, (omega arith, (omega arith, (omega arith, (omega arith, (omega arith, tt))))))))))))

pub not_took : (answer : Answer) (bytes : List ℕ)
    → ((number : SequenceNumber) (originator : MemberNumber) (count : ℕ) (more : Bool) → answer ≡ Took number originator count more → ⊥) → took_by answer bytes ≡ []
unfolding took_by
not_took (Refused refusal) bytes n = refl
not_took Sent bytes n = refl
not_took (Queued count) bytes n = refl
not_took Old bytes n = refl
not_took Kept bytes n = refl
not_took KeptGap bytes n = refl
not_took Beyond bytes n = refl
not_took BeyondGap bytes n = refl
not_took Gap bytes n = refl
not_took Status bytes n = refl
not_took None bytes n = refl
not_took Noted bytes n = refl
not_took (Took number originator count more) bytes n = absurd (n number originator count more refl)

-- what a take handed out lies at the front of the output
pub take_feeds : TakeFeeds
take_feeds s s' before after reply jobs t =
    let o : Outcome = take_of (view_of s) (length before) in
    let e : take reply.written after ≡ o.bytes =
    ap (λ (r : Reply). take r.written after) t.answer ∙ ap (take (length o.bytes)) t.lent ∙ front_take o.bytes before in
    ap (λ (bytes : List ℕ). feeding_of jobs (took_by reply.answer bytes)) e ∙ ap (λ (r : Reply). feeding_of jobs (took_by r.answer o.bytes)) t.answer

-- a number that comes next was taken
pub next_most : (t number : ℕ) (h : Header) → is_next t number h ≡ true → number ≤ t
unfolding is_next
next_most t number h e =
    leb-true number t (both_then (h.a =? number) (number ≤? t) (both_then (is_message h) (h.a =? number and number ≤? t) e))
