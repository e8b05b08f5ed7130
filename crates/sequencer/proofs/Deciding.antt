-- What the questions of a packet lead to: what is decided by the code's questions is what the call for packets comes to.
-- Assumes nothing.
use Rattle.group.specs.Question.{all_yes}
use Rattle.std.specs.Prelude.{Ok, Err, Option, Some, None}
use mathlib.Core.Path.{◌≡◌, refl, sym, ap, subst, ◌∙◌}
use mathlib.Core.List.{List}
use Prim.Native.Nat.{ℕ, ◌-◌}
use native.Mathlib.Omega.{arith}
use lib.ListN.{length, take, length-drop}
use lib.Seq.{take_all}
use Rattle.group.specs.Limits.{header_size}
use Rattle.group.specs.Question.{judged}
use Rattle.group.specs.declared.Group.{Group}
use Rattle.group.specs.declared.Refusal.{Refusal}
use Rattle.group.specs.declared.SequenceNumber.{SequenceNumber}
use Rattle.group.specs.Question.{Verdict}
use Rattle.group.proofs.Lists.{judged_elim}
use Rattle.packet.specs.Packet.{content_of, payload_at, read_of}
use Rattle.packet.specs.declared.Header.{Header}
use Rattle.packet.specs.declared.Packet.{Packet}
use Rattle.packet.specs.Answers.{Reading}
use Rattle.packet.proofs.Verdicts.{readable}
use Rattle.history.specs.Ask.{packet_verdict}
use Rattle.history.specs.State.{Acknowledgement}
use Rattle.history.specs.View.{counts_only}
use Rattle.history.proofs.Asking.{judged_yes, judged_no}
use Rattle.history.proofs.View.{packet_only}
use Rattle.sequencer.specs.Calls.{refused, read_step, call_verdict, receive_of}
use Rattle.sequencer.specs.Owed.{Due, Judged}
use Rattle.sequencer.specs.State.{Sequencer}
use Rattle.sequencer.specs.Steps.{accepted_step, confirmation_of, sorted_by, decision_of}
use Rattle.sequencer.specs.View.{whole, view_of, Fits}
use Rattle.group.specs.declared.MemberNumber.{MemberNumber}
use Rattle.sequencer.specs.declared.Decision.{Decision}
use Rattle.sequencer.specs.Decided.{Decided}
use Rattle.sequencer.specs.declared.Head.{Head}
use Rattle.sequencer.proofs.Confirmed.{confirm_is, confirm_inside}
use Rattle.sequencer.proofs.Owed.{call_asked}
use Rattle.sequencer.proofs.Settling.{read_is, content_was}

-- what the code's questions say, in the order in which it asks them
module _ (group : Group) (table : List Acknowledgement) (accepted top : SequenceNumber) (packet : List ℕ) (reading : Reading) (read : reading ≡ read_of packet) where
  pub unread : (q : Refusal) → reading ≡ Err q → Err q ≡ decision_of group table accepted top (read_of packet)
  unfolding decision_of
  unread q e = ap (decision_of group table accepted top) (sym e ∙ read)

  module _ (h : Header) (fields : reading ≡ Ok h) (content : Packet) (is : content ≡ content_of h)
      (v : Verdict) (asked : v ≡ packet_verdict group table accepted.0 top.0 h.group content) where
    abbrev Sort : Packet → Decided
    Sort p = Ok (sorted_by (confirmation_of p) p)

    known : judged v Err (Sort content) ≡ decision_of group table accepted top (read_of packet)
    unfolding decision_of
    known =
        (λ i. judged (asked i) Err (Sort content))
        ∙ (λ i. judged (packet_verdict group table accepted.0 top.0 h.group (is i)) Err (Sort (is i)))
        ∙ ap (decision_of group table accepted top) (sym fields ∙ read)

    pub not_asked : (q : Refusal) → v ≡ Err q → Err q ≡ decision_of group table accepted top (read_of packet)
    not_asked q e = judged_no v Err (Sort content) q e ∙ known

    pub sorted : v ≡ all_yes → (who : Option (MemberNumber × SequenceNumber)) → who ≡ confirmation_of content → (w : Option (MemberNumber × SequenceNumber)) → who ≡ w → Ok (sorted_by w content) ≡ decision_of group table accepted top (read_of packet)
    sorted e who f w g = ap (λ (x : Option (MemberNumber × SequenceNumber)). Ok (sorted_by x content)) (sym g ∙ f) ∙ judged_yes v Err (Sort content) e ∙ known

-- the part of a packet behind its header, as it is lent
pub payload_lent : (p : List ℕ) → take (length p - header_size) (payload_at p) ≡ payload_at p
payload_lent p = take_all (length p - header_size) (payload_at p) (simp length-drop (omega arith))

pub judged_as : (s : Sequencer) (packet : List ℕ) (room : ℕ) (d e : Decided) → d ≡ e → Judged s packet room d → Judged s packet room e
judged_as s packet room d e is j = subst (λ (x : Decided). Judged s packet room x) is j

pub judged_ok : (s : Sequencer) (packet : List ℕ) (room : ℕ) (r : Decided) (d e : Decision) → r ≡ Ok d → d ≡ e → Judged s packet room r → Judged s packet room (Ok e)
judged_ok s packet room r d e is known j = subst (λ (x : Decision). Judged s packet room (Ok x)) known (judged_as s packet room r (Ok d) is j)

-- what is decided of a state
module _ (head : Head) (taken counts repeats kept marks originators lengths payloads : List ℕ) (fits : Fits (whole head taken counts repeats kept marks originators lengths payloads))
    (packet : List ℕ) (room : ℕ) where
  abbrev held : Sequencer
  held = view_of (whole head taken counts repeats kept marks originators lengths payloads)

  abbrev decision_in : Reading → Decided
  decision_in reading = decision_of held.group held.acknowledgements held.accepted held.top reading

  pub refused_is : (q : Refusal) → call_verdict held room ≡ Err q → Judged held packet room (Err q)
  unfolding receive_of
  refused_is q e = judged_no (call_verdict held room) (refused held) (read_step held (read_of packet) (payload_at packet)) q e

  module _ (asked : call_verdict held room ≡ all_yes) where
    received : (reading : Reading) → read_of packet ≡ reading → read_step held reading (payload_at packet) ≡ receive_of held packet room
    unfolding receive_of
    received reading e =
        ap (λ (r : Reading). read_step held r (payload_at packet)) (sym e)
        ∙ judged_yes (call_verdict held room) (refused held) (read_step held (read_of packet) (payload_at packet)) asked

    module _ (h : Header) (e : read_of packet ≡ Ok h) where
      abbrev content : Packet
      content = content_of h

      abbrev verdict : Verdict
      verdict = packet_verdict held.group held.acknowledgements held.accepted.0 held.top.0 h.group content

      step : judged verdict (refused held) (accepted_step held content (payload_at packet)) ≡ receive_of held packet room
      step = sym (read_is held h (payload_at packet)) ∙ received (Ok h) e

      due : verdict ≡ all_yes → Due held content (length (payload_at packet)) room
      due v =
          let w = call_asked held room asked in
          record { sizes = record { sound = w.0; payload = (readable packet h e).payload; output = w.1 }; accepted = content_was _ _ _ _ _ _ v }

      sorts : verdict ≡ all_yes → (who : Option (MemberNumber × SequenceNumber)) → confirmation_of content ≡ who → Judged held packet room (Ok (sorted_by who content))
      unfolding sorted_by
      sorts v None f = (f, due v, (readable packet h e).long, judged_yes verdict (refused held) (accepted_step held content (payload_at packet)) v ∙ step)
      sorts v (Some (m, number)) f = (
        confirm_inside head taken counts repeats kept marks originators lengths payloads fits content (payload_at packet) room (due v) m number f,
        (call_asked held room asked).1,
        confirm_is held content (payload_at packet) m number f ∙ judged_yes verdict (refused held) (accepted_step held content (payload_at packet)) v ∙ step,
      )

    decided : (reading : Reading) → read_of packet ≡ reading → Judged held packet room (decision_in reading)
    unfolding decision_of read_step
    decided (Ok h) e =
        judged_elim (λ (d : Decided). Judged held packet room d) (verdict h e)
        (λ q v. judged_no (verdict h e) (refused held) (accepted_step held (content_of h) (payload_at packet)) q v ∙ step h e)
        (λ v. sorts h e v (confirmation_of (content_of h)) refl)
    decided (Err q) e = received (Err q) e

    same_table : (reading : Reading) → decision_of head.group (counts_only counts) head.accepted head.top reading ≡ decision_in reading
    unfolding decision_of view_of
    same_table (Ok h) =
        let size = fits.entries.counts_size ∙ sym fits.entries.taken_size in
        ap (λ (v : Verdict). judged v Err (Ok (sorted_by (confirmation_of (content_of h)) (content_of h))))
        (packet_only taken counts repeats size head.group head.accepted.0 head.top.0 h.group (content_of h))
    same_table (Err q) = refl

    pub decided_is : (d : Decided) → d ≡ decision_of head.group (counts_only counts) head.accepted head.top (read_of packet) → Judged held packet room d
    decided_is d e = subst (λ (x : Decided). Judged held packet room x) (sym (e ∙ same_table (read_of packet))) (decided (read_of packet) refl)
