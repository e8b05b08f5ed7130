-- A made group's terminal: its sequencer, its member, and both together are as the result leaves them. Assumes nothing.
use mathlib.Core.Path.{◌≡◌, refl, sym, ap, ◌∙◌, subst}
use mathlib.Core.Bool.{true, false}
use mathlib.Core.List.{List}
use Prim.Native.Nat.{ℕ}
use native.Mathlib.Omega.{arith}
use borrow.Author.Tests.{le-leb, eq-eqb, ne_eqb}
use Rattle.group.specs.Choice.{◌≤?◌, ◌=?◌}
use Rattle.group.specs.Limits.{held_most}
use Rattle.group.specs.declared.Group.{Group}
use Rattle.group.specs.declared.MemberNumber.{MemberNumber}
use Rattle.group.specs.declared.SequenceNumber.{SequenceNumber}
use Rattle.group.proofs.Choice.{when_eq, when_ne, both_hold, both_first, both_then}
use Rattle.store.specs.Places.{messages_in}
use Rattle.window.specs.Places.{larger_of}
use Rattle.member.specs.View as memberView
use Rattle.member.specs.declared.Head as memberHead
use Rattle.sequencer.specs.View as sequencerView
use Rattle.sequencer.specs.declared.Head as sequencerHead
use Rattle.recovery.specs.Begin.{made_group, dropped_of, result_of}
use Rattle.recovery.specs.View.{whole, terminal_of, flags_sound}
use Rattle.recovery.specs.declared.Head.{Head}
use Rattle.election.specs.Promise.{Enters}
use Rattle.election.specs.Steps.{SequencerBegun, seated_head, Seated, entered_head, MemberEntered}

seated_flags : (head : Head) (begun' : sequencerHead.Head) → flags_sound head ≡ true → flags_sound (seated_head head begun') ≡ true
unfolding flags_sound
seated_flags head begun' e =
    let a = both_then (head.replied ≤? 1) _ e in
    both_hold (head.replied ≤? 1) _ (both_first (head.replied ≤? 1) _ e)
    (both_hold (head.inviting ≤? 1) _ (both_first (head.inviting ≤? 1) _ a) (both_hold (1 ≤? 1) _ (le-leb 1 1 (omega arith)) (le-leb 0 1 (omega arith))))

entered_flags : (head : Head) (group : Group) (accepted : SequenceNumber) → flags_sound head ≡ true → flags_sound (entered_head head group accepted) ≡ true
unfolding flags_sound
entered_flags head group accepted e =
    both_hold (0 ≤? 1) _ (le-leb 0 1 (omega arith))
    (both_hold (0 ≤? 1) _ (le-leb 0 1 (omega arith)) (both_then (head.inviting ≤? 1) _ (both_then (head.replied ≤? 1) _ e)))

module _ (head : Head) (held held_originators held_lengths held_payloads past past_originators past_lengths past_payloads highest taken counts repeats kept marks originators lengths payloads : List ℕ) (group : Group) (number : SequenceNumber) where
  -- the elected terminal's sequencer begins
  pub seated_own : {head' : Head} {begun' : sequencerHead.Head} {taken' counts' repeats' kept' marks' originators' lengths' payloads' : List ℕ} → group.elected.0 ≡ head.member.number.0 → head' ≡ seated_head head begun'
      → SequencerBegun head held held_originators held_lengths held_payloads past past_originators past_lengths past_payloads highest taken counts repeats kept marks originators lengths payloads group number begun' taken' counts' repeats' kept' marks' originators' lengths' payloads'
      → Seated head held held_originators held_lengths held_payloads past past_originators past_lengths past_payloads highest taken counts repeats kept marks originators lengths payloads group number head' taken' counts' repeats' kept' marks' originators' lengths' payloads'
  seated_own {head'} {begun'} {taken'} {counts'} {repeats'} {kept'} {marks'} {originators'} {lengths'} {payloads'} h e b =
      record {
        flags = λ f. subst (λ (x : Head). flags_sound x ≡ true) (sym e) (seated_flags head begun' f);
        member_stays = ap (λ (x : Head). x.member) e;
        read_stays = ap (λ (x : Head). x.read) e;
        sequencing_is = ap (λ (x : Head). x.sequencing =? 1) e ∙ when_eq group.elected.0 head.member.number.0 (1 =? 1) true _ h (eq-eqb 1 1 refl);
        frozen_is = ap (λ (x : Head). x.frozen =? 1) e ∙ when_eq group.elected.0 head.member.number.0 (0 =? 1) false _ h (ne_eqb 0 1 (λ z. absurd (omega arith)));
        sequencer_is = λ queued queued_originators queued_lengths queued_payloads replies. ap (λ (x : Head). sequencerView.view_of (sequencerView.whole x.sequencer taken' counts' repeats' kept' marks' originators' lengths' payloads')) e
            ∙ when_eq group.elected.0 head.member.number.0 _ _ _ h (b queued queued_originators queued_lengths queued_payloads replies);
      }

  -- another stays
  pub seated_other : (group.elected.0 ≡ head.member.number.0 → ⊥) → Seated head held held_originators held_lengths held_payloads past past_originators past_lengths past_payloads highest taken counts repeats kept marks originators lengths payloads group number head taken counts repeats kept marks originators lengths payloads
  seated_other h =
      record {
        flags = λ f. f;
        member_stays = refl;
        read_stays = refl;
        sequencing_is = when_ne group.elected.0 head.member.number.0 _ _ _ h refl;
        frozen_is = when_ne group.elected.0 head.member.number.0 _ _ _ h refl;
        sequencer_is = λ queued queued_originators queued_lengths queued_payloads replies. when_ne group.elected.0 head.member.number.0 _ _ _ h refl;
      }

module _ (head : Head) (held held_originators held_lengths held_payloads past past_originators past_lengths past_payloads highest replies taken counts repeats kept marks originators lengths payloads : List ℕ) (attempt : ℕ) (elected : MemberNumber) (number : SequenceNumber) (survivors : ℕ) where
  abbrev made : Group
  made = made_group head.member.group attempt elected survivors

  enters_made : {seated head' : Head} {held' held_originators' held_lengths' held_payloads' replies' taken' counts' repeats' kept' marks' originators' lengths' payloads' : List ℕ} → Seated head held held_originators held_lengths held_payloads past past_originators past_lengths past_payloads highest taken counts repeats kept marks originators lengths payloads made number seated taken' counts' repeats' kept' marks' originators' lengths' payloads' → MemberEntered seated held held_originators held_lengths held_payloads made number head' held' held_originators' held_lengths' held_payloads' replies'
      → Enters head held held_originators held_lengths held_payloads past past_originators past_lengths past_payloads highest replies taken counts repeats kept marks originators lengths payloads attempt elected number survivors head' held' held_originators' held_lengths' held_payloads' replies' taken' counts' repeats' kept' marks' originators' lengths' payloads'
  unfolding terminal_of memberView.view_of result_of
  enters_made {seated} {head'} {held'} {held_originators'} {held_lengths'} {held_payloads'} {replies'} {taken'} {counts'} {repeats'} {kept'} {marks'} {originators'} {lengths'} {payloads'} s m =
      let same = s.member_stays in
      let none : (0 =? 1) ≡ false = ne_eqb 0 1 (λ z. absurd (omega arith)) in
      let held-as = m.held_are ∙ ap (λ (x : memberHead.Head). dropped_of (messages_in held held_originators held_lengths held_payloads) number.0 x.taken.0 held_most) same in
      record {
        flags = λ f. subst (λ (x : Head). flags_sound x ≡ true) (sym m.head_is) (entered_flags seated made _ (s.flags f));
        result = λ queued queued_originators queued_lengths queued_payloads. ap (λ (x : Head). terminal_of (whole x queued held' queued_originators queued_lengths held_originators' held_lengths' queued_payloads held_payloads' past past_originators past_lengths past_payloads highest replies' taken' counts' repeats' kept' marks' originators' lengths' payloads')) m.head_is
            ∙ (λ i. record {
              member = record {
                group = made;
                number = (same i).number;
                taken = (same i).taken;
                accepted = record { 0 = larger_of (same i).taken.0 number.0 };
                submitted = (same i).submitted;
                waiting = (same i).waiting;
                queue = messages_in queued queued_originators queued_lengths queued_payloads;
                held = held-as i;
              };
              kept = record { read = s.read_stays i; past = messages_in past past_originators past_lengths past_payloads; counts = highest };
              reset = record { replied = none i; attempt = 0; number = record { 0 = 0 }; inviting = none i; invited = 0; repliers = 0; replies = m.replies_are i };
              sequencing = s.sequencing_is i;
              frozen = s.frozen_is i;
              sequencer = s.sequencer_is queued queued_originators queued_lengths queued_payloads replies i;
            });
      }

  -- what the result leaves
  pub enters : {seated head' : Head} {held' held_originators' held_lengths' held_payloads' replies' taken' counts' repeats' kept' marks' originators' lengths' payloads' : List ℕ} {group : Group} → group ≡ made → Seated head held held_originators held_lengths held_payloads past past_originators past_lengths past_payloads highest taken counts repeats kept marks originators lengths payloads group number seated taken' counts' repeats' kept' marks' originators' lengths' payloads' → MemberEntered seated held held_originators held_lengths held_payloads group number head' held' held_originators' held_lengths' held_payloads' replies'
      → Enters head held held_originators held_lengths held_payloads past past_originators past_lengths past_payloads highest replies taken counts repeats kept marks originators lengths payloads attempt elected number survivors head' held' held_originators' held_lengths' held_payloads' replies' taken' counts' repeats' kept' marks' originators' lengths' payloads'
  enters {seated} {head'} {held'} {held_originators'} {held_lengths'} {held_payloads'} {replies'} {taken'} {counts'} {repeats'} {kept'} {marks'} {originators'} {lengths'} {payloads'} {group} e s m =
      enters_made (subst (λ (x : Group). Seated head held held_originators held_lengths held_payloads past past_originators past_lengths past_payloads highest taken counts repeats kept marks originators lengths payloads x number seated taken' counts' repeats' kept' marks' originators' lengths' payloads') e s) (subst (λ (x : Group). MemberEntered seated held held_originators held_lengths held_payloads x number head' held' held_originators' held_lengths' held_payloads' replies') e m)
