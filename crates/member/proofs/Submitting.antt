-- A submission that no question refuses, as the code takes it: the head's two numbers grow, and the message lies in the place of its count. Assumes nothing.
use Rattle.group.specs.Question.{all_yes}
use mathlib.Core.Path.{◌≡◌, refl, sym, ap, ◌∙◌, subst}
use mathlib.Core.List.{List}
use Prim.Native.Nat.{ℕ, ◌+◌, ◌-◌, ◌≤◌, ◌<◌}
use native.Mathlib.Omega.{arith}
use lib.ListN.{length, set}
use lib.Seq.{get_or-set_same}
use Rattle.group.specs.Lent.{Laid}
use Rattle.group.specs.Limits.{largest_number}
use Rattle.group.specs.Question.{Verdict}
use Rattle.group.proofs.Choice.{when_eq, when_ne}
use Rattle.message.specs.Message.{Message, message_of, payload_of, blank}
use Rattle.message.proofs.Kept.{kept_payload}
use Rattle.window.specs.Places.{queue_place, queued_at}
use Rattle.window.specs.Steps.{Counted}
use Rattle.member.specs.Calls.{call_verdict, submit_verdict, submit_of, request_packet, with_waiting}
use Rattle.member.specs.Steps.{Replied, member_of, empty_handed, request_in}
use Rattle.member.specs.declared.Answer.{Answer}
use Rattle.member.specs.declared.Head.{Head}
use Rattle.member.proofs.Outcomes.{replied_as, left_as, quiet, sent, judged_yes}
use Rattle.member.proofs.View.{request_is}

-- the head after it
abbrev pub grown : Head → Head
grown head =
    record { group = head.group; number = head.number; taken = head.taken; accepted = head.accepted; submitted = head.submitted + 1; waiting = head.waiting + 1 }

module _ (head : Head) (queue held queue' : List Message) (payload : List ℕ)
    (e : queue' ≡ set queue (queue_place (head.submitted + 1)) (message_of head.number (head.submitted + 1) payload)) where
  left_is : with_waiting (member_of head queue held) payload ≡ member_of (grown head) queue' held
  unfolding with_waiting
  left_is = ap (λ (q : List Message). member_of (grown head) q held) (sym e)

  -- the head where none waits before it
  abbrev first : Head
  first = record { group = head.group; number = head.number; taken = head.taken; accepted = head.accepted; submitted = head.submitted + 1; waiting = 1 }

  first_is : head.waiting ≡ 0 → member_of (grown head) queue' held ≡ member_of first queue' held
  first_is z = let e : head.waiting + 1 ≡ 1 = omega arith in λ j. record { group = head.group; number = head.number; taken = head.taken; accepted = head.accepted; submitted = head.submitted + 1; waiting = e j; queue = queue'; held = held }

  count_is : head.submitted + 1 - 1 + 1 ≡ head.submitted + 1
  count_is = omega arith

  kept_is : queue_place (head.submitted + 1) < length queue → payload ≡ payload_of (queued_at queue' (head.submitted + 1 - 1 + 1))
  kept_is inside =
      sym (ap payload_of (ap (λ (c : ℕ). queued_at queue' c) count_is ∙ ap (λ (q : List Message). queued_at q (head.submitted + 1)) e ∙ get_or-set_same queue (queue_place (head.submitted + 1)) _ blank inside)
      ∙ kept_payload head.number (head.submitted + 1) payload)

  module _ {x : List ℕ} (v : call_verdict (member_of head queue held) (length x) ≡ all_yes) (w : submit_verdict (member_of head queue held) (length payload) ≡ all_yes) where
    -- behind one that waits nothing is written
    pub submits_behind : (head.waiting ≡ 0 → ⊥)
        → Replied (member_of (grown head) queue' held) (submit_of (member_of head queue held) payload (length x)) (record { answer = Answer.Queued (head.submitted + 1); written = 0 }) x x
    unfolding submit_of
    submits_behind n =
        left_as left_is
        (replied_as (when_ne head.waiting 0 _ _ _ n refl ∙ judged_yes _ _ _ w ∙ judged_yes _ _ _ v)
        (quiet (with_waiting (member_of head queue held) payload) (Answer.Queued (head.submitted + 1)) _ x refl))

    -- where none waits, the request is written
    pub submits_first : head.waiting ≡ 0 → (counts : List ℕ) {written : ℕ} {y : List ℕ} → Counted counts held → head.taken.0 ≤ largest_number → queue_place (head.submitted + 1) < length queue
        → Laid (request_in first counts (head.submitted + 1) payload) written x y
        → Replied (member_of first queue' held) (submit_of (member_of head queue held) payload (length x)) (record { answer = Answer.Sent; written = written }) x y
    unfolding submit_of
    submits_first z counts {written} {y} c most inside l =
        let left : with_waiting (member_of head queue held) payload ≡ member_of first queue' held = left_is ∙ first_is z in
        let request : request_in first counts (head.submitted + 1) payload ≡ request_packet (with_waiting (member_of head queue held) payload) =
        ap (λ (k : ℕ). request_in first counts k payload) (sym count_is) ∙ request_is first counts queue' held c most payload (kept_is inside) ∙ ap request_packet (sym left) in
        left_as left
        (replied_as (when_eq head.waiting 0 _ _ _ z refl ∙ judged_yes _ _ _ w ∙ judged_yes _ _ _ v)
        (sent (with_waiting (member_of head queue held) payload) Answer.Sent _ written x y (subst (λ (bytes : List ℕ). Laid bytes written x y) request l)))

-- questions 13, 14 and 16 are of the head alone
pub submission_alike : (head : Head) (queue held : List Message) (size : ℕ) {v : Verdict} → submit_verdict (empty_handed head) size ≡ v → submit_verdict (member_of head queue held) size ≡ v
unfolding submit_verdict
submission_alike head queue held size e = e
