-- An event that is refused, or names a packet or member not there, leaves the group as it was: where the answer is a refusal,
-- some question said no, and then the state is the same and nothing is written. Assumes nothing.
use Rattle.group.specs.Question.{all_yes}
use Rattle.std.specs.Prelude.{Ok, Err}
use mathlib.Core.Path.{◌≡◌, refl, sym, ap, ◌∙◌}
use mathlib.Core.Bool.{true, false}
use mathlib.Core.Option.{Option, none, some}
use mathlib.Core.List.{List, [], ◌∷◌, ◌++◌, append-nil}
use Prim.Native.Nat.{ℕ, zero, suc, ◌<◌}
use native.Mathlib.Nat.{not-suc-le-zero, le_of_suc-le-suc}
use borrow.Author.Tests.{ltb-true}
use lib.ListN.{length, get_or, set, get_elem?}
use Rattle.group.proofs.Lists.{when_elim}
use Rattle.group.specs.Choice.{◌<?◌}
use Rattle.group.specs.Limits.{longest_packet}
use Rattle.group.specs.Question.{Question, first_no}
use Rattle.group.specs.declared.Refusal.{Refusal}
use Rattle.group.specs.Question.{Verdict}
use Rattle.member.proofs.Asking as memberAsking
use Rattle.member.specs.Calls as member
use Rattle.member.specs.Laws as memberLaws
use Rattle.member.specs.declared.Answer as memberAnswer
use Rattle.member.specs.State.{Member}
use Rattle.model.specs.Claim.{NotDone, RefusedChangesNothing}
use Rattle.model.specs.World.{submit, repeat, status, poll, copy, hand_member, hand_sequencer, Group, Happened, missing, with_member, with_sequencer, no_member, hand_to_member, hand_to_sequencer, happen}
use Rattle.model.specs.World as world
use Rattle.packet.specs.Packet.{written}
use Rattle.sequencer.proofs.Laws as sequencerProofs
use Rattle.sequencer.specs.Calls as sequencer
use Rattle.sequencer.specs.Laws as sequencerLaws
use Rattle.sequencer.specs.declared.Answer as sequencerAnswer
use Rattle.sequencer.specs.State.{Sequencer}

-- what a refusal leaves of an end
unchanged_member : (m : Member) (questions : List Question) (o : member.Outcome) → memberLaws.FirstNo m questions o
    → (refusal : Refusal) → o.answer ≡ memberAnswer.Answer.Refused refusal → (o.member ≡ m) × (o.bytes ≡ [])
unfolding member.answered
unchanged_member m questions o h refusal e = go (first_no questions) refl
  where
    go : (v : Verdict) → first_no questions ≡ v → (o.member ≡ m) × (o.bytes ≡ [])
    go (Ok _) d = absurd (h.accepts refusal d e)
    go (Err r) d = rw (h.refuses r d) (refl, refl)

unchanged_sequencer : (s : Sequencer) (questions : List Question) (o : sequencer.Outcome) → sequencerLaws.FirstNo s questions o
    → (refusal : Refusal) → o.answer ≡ sequencerAnswer.Answer.Refused refusal → (o.sequencer ≡ s) × (o.bytes ≡ [])
unfolding sequencer.answered
unchanged_sequencer s questions o h refusal e = go (first_no questions) refl
  where
    go : (v : Verdict) → first_no questions ≡ v → (o.sequencer ≡ s) × (o.bytes ≡ [])
    go (Ok _) d = absurd (h.accepts refusal d e)
    go (Err r) d = rw (h.refuses r d) (refl, refl)

set_same : {A : Type 0} (l : List A) (i : ℕ) (d : A) → i < length l → set l i (get_or l i d) ≡ l
set_same [] i d h = absurd (not-suc-le-zero h)
set_same (x ∷ l) zero d h = refl
set_same (x ∷ l) (suc i) d h = ap (λ (r : List _). x ∷ r) (set_same l i d (le_of_suc-le-suc h))

abbrev Stays : Group → Happened → Type 0
Stays g d = NotDone d.answer → d.group ≡ g

module _ (g : Group) (i : ℕ) where
  abbrev m : Member
  m = get_or g.members i no_member

  -- a call of member i; `packets` are none where it writes no byte
  at_member_lem : (questions : List Question) (o : member.Outcome) (packets : List (List ℕ)) → memberLaws.FirstNo m questions o → (o.bytes ≡ [] → packets ≡ [])
      → (i <? length g.members) ≡ true → Stays g (with_member g i o packets)
  at_member_lem questions o packets h w t (refusal, e) =
      let u = unchanged_member m questions o h refusal e in
      let a : set g.members i o.member ≡ g.members = ap (set g.members i) u.0 ∙ set_same g.members i no_member (ltb-true i _ t) in
      let b : g.packets ++ packets ≡ g.packets = ap (λ (l : List (List ℕ)). g.packets ++ l) (w u.1) ∙ append-nil g.packets in
      λ k. record { sequencer = g.sequencer; members = a k; packets = b k }

at_sequencer_lem : (g : Group) (questions : List Question) (o : sequencer.Outcome) → sequencerLaws.FirstNo g.sequencer questions o → Stays g (with_sequencer g o)
unfolding written
at_sequencer_lem g questions o h (refusal, e) =
    let u = unchanged_sequencer g.sequencer questions o h refusal e in
    let b : g.packets ++ written o.bytes ≡ g.packets = ap (λ (l : List ℕ). g.packets ++ written l) u.1 ∙ append-nil g.packets in
    λ k. record { sequencer = u.0 k; members = g.members; packets = b k }

nothing_written : (bytes : List ℕ) → bytes ≡ [] → written bytes ≡ []
unfolding written
nothing_written bytes e = ap written e

pub refused_changes_nothing : RefusedChangesNothing
unfolding happen
refused_changes_nothing g (submit i payload) =
    when_elim (Stays g) (i <? length g.members) (at_member_lem g i _ _ _ (memberAsking.submit_first_no (m g i) payload longest_packet) (nothing_written _)) (λ f d. refl)
refused_changes_nothing g (repeat i) =
    when_elim (Stays g) (i <? length g.members) (at_member_lem g i _ _ _ (memberAsking.repeat_first_no (m g i) longest_packet) (nothing_written _)) (λ f d. refl)
refused_changes_nothing g (world.take i) =
    when_elim (Stays g) (i <? length g.members) (at_member_lem g i _ _ [] (memberAsking.take_first_no (m g i) longest_packet) (λ e. refl)) (λ f d. refl)
refused_changes_nothing g (status i) =
    when_elim (Stays g) (i <? length g.members) (at_member_lem g i _ _ _ (memberAsking.status_first_no (m g i) longest_packet) (nothing_written _)) (λ f d. refl)
refused_changes_nothing g poll = at_sequencer_lem g _ _ (sequencerProofs.poll_first_no g.sequencer longest_packet)
refused_changes_nothing g (copy number) = at_sequencer_lem g _ _ (sequencerProofs.copy_first_no g.sequencer (record { 0 = number }) longest_packet)
refused_changes_nothing g (hand_member k i) = go (get_elem? g.packets k)
  where
    go : (x : Option (List ℕ)) → Stays g (hand_to_member g i x)
    go none = λ d. refl
    go (some packet) =
        when_elim (Stays g) (i <? length g.members) (at_member_lem g i _ _ _ (memberAsking.receive_first_no (m g i) packet longest_packet) (nothing_written _)) (λ f d. refl)
refused_changes_nothing g (hand_sequencer k) = go (get_elem? g.packets k)
  where
    go : (x : Option (List ℕ)) → Stays g (hand_to_sequencer g x)
    go none = λ d. refl
    go (some packet) = at_sequencer_lem g _ _ (sequencerProofs.receive_first_no g.sequencer packet longest_packet)
