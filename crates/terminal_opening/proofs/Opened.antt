-- What opening leaves is what its member's opening and its sequencer's left, with nothing kept and no part in a reset. Assumes nothing.
use Rattle.group.specs.Question.{all_yes}
use Rattle.std.specs.Prelude.{Ok, Err}
use mathlib.Core.Path.{◌≡◌, refl, sym, ap, ◌∙◌}
use mathlib.Core.Bool.{Bool, true, false}
use Prim.Native.Nat.{ℕ, ◌*◌}
use native.Mathlib.Omega.{arith}
use lib.ListN.{replicate}
use Rattle.group.specs.Choice.{when◌then◌else◌, ◌<?◌, ◌=?◌}
use Rattle.group.specs.Limits.{members_most, places_most, payload_most}
use Rattle.group.specs.Opening.{description_of, open_of}
use Rattle.group.specs.Question.{judged}
use Rattle.group.specs.Wording.{verdict_wording}
use Rattle.group.specs.declared.MemberNumber.{MemberNumber}
use Rattle.group.specs.Opening.{Opened}
use Rattle.group.specs.declared.Refusal.{Refusal}
use Rattle.group.specs.Question.{Verdict}
use Rattle.store.proofs.Places.{messages_none}
use Rattle.member.specs.Calls as member
use Rattle.member.specs.Promise as memberPromise
use Rattle.member.specs.State.{fresh_member}
use Rattle.member.specs.View as memberView
use Rattle.sequencer.specs.Calls as sequencer
use Rattle.sequencer.specs.View as sequencerView
use Rattle.recovery.specs.Calls.{fresh_terminal}
use Rattle.recovery.specs.State.{fresh_kept, no_reset, no_sequencer}
use Rattle.recovery.specs.View.{Stored, seen, whole, terminal_of, flags_sound, view_of}
use Rattle.recovery.specs.declared.Head.{Head}
use Rattle.terminal_opening.specs.Opening.{closed_terminal, Opening, not_opened, fresh_of, Opens, RefusedCloses}
use Rattle.terminal_opening.specs.Steps.{sequencing_of, fresh_head}

-- a sequencer of a group of nobody is none
none_fresh : (group resilience : ℕ) → (sequencer.fresh_of 0 group resilience).sequencer ≡ no_sequencer
unfolding sequencer.fresh_of sequencer.opened_of open_of when◌then◌else◌
none_fresh group resilience = refl

-- a member that is not opened is all zero
apart : (refusal : Refusal) → all_yes ≡ Err refusal → ⊥
apart refusal e = let z : ◌≡◌ {A = ℕ} 0 1 = cc in absurd (omega arith)

not_opened_lem : (number : MemberNumber) (refusal : Refusal) (test : Bool) (o : Opened)
    → (when test then member.opened_of o number else member.not_opened Refusal.Opening).verdict ≡ Err refusal
    → (when test then member.opened_of o number else member.not_opened Refusal.Opening).member ≡ fresh_member (description_of 0 0 0) (record { 0 = 0 })
unfolding when◌then◌else◌ member.opened_of
not_opened_lem number refusal true (Ok group) e = absurd (apart refusal e)
not_opened_lem number refusal true (Err r) e = refl
not_opened_lem number refusal false o e = refl

closed_member : (n : ℕ) (number : MemberNumber) (group resilience : ℕ) (refusal : Refusal) → (member.fresh_of n number group resilience).verdict ≡ Err refusal
    → (member.fresh_of n number group resilience).member ≡ fresh_member (description_of 0 0 0) (record { 0 = 0 })
unfolding member.fresh_of
closed_member n number group resilience refusal e = not_opened_lem number refusal (number.0 <? n) (open_of n group resilience) e

-- the two ways of opening
fresh_yes : (n : ℕ) (number : MemberNumber) (group resilience : ℕ) → all_yes ≡ (member.fresh_of n number group resilience).verdict
    → record { terminal = fresh_terminal n group resilience number.0; verdict = all_yes } ≡ fresh_of n number group resilience
unfolding fresh_of judged
fresh_yes n number group resilience e =
    ap (λ (v : Verdict). judged v not_opened (record { terminal = fresh_terminal n group resilience number.0; verdict = all_yes })) e

fresh_no : (n : ℕ) (number : MemberNumber) (group resilience : ℕ) (refusal : Refusal) → Err refusal ≡ (member.fresh_of n number group resilience).verdict
    → not_opened refusal ≡ fresh_of n number group resilience
unfolding fresh_of judged
fresh_no n number group resilience refusal e =
    ap (λ (v : Verdict). judged v not_opened (record { terminal = fresh_terminal n group resilience number.0; verdict = all_yes })) e

-- a refused opening leaves a terminal that is all zero
pub refused_closes : RefusedCloses
refused_closes n number group resilience refusal e = go (member.fresh_of n number group resilience).verdict refl
  where
    go : (v : Verdict) → (member.fresh_of n number group resilience).verdict ≡ v → (fresh_of n number group resilience).terminal ≡ closed_terminal
    go (Ok _) z = absurd (apart refusal (ap (λ (o : Opening). o.verdict) (fresh_yes n number group resilience (sym z)) ∙ e))
    go (Err r) z = ap (λ (o : Opening). o.terminal) (sym (fresh_no n number group resilience r (sym z)))

-- the parts of both ends, with nothing kept and nobody's reply
abbrev pub parts : memberView.Stored → sequencerView.Stored → Head → Stored
parts a b head = whole head a.queued a.held a.queued_originators a.queued_lengths a.held_originators a.held_lengths a.queued_payloads a.held_payloads (replicate places_most 0) (replicate places_most 0) (replicate places_most 0) (replicate (places_most * payload_most) 0) (replicate members_most 0) (replicate members_most 0) b.taken b.counts b.repeats b.kept b.marks b.originators b.lengths b.payloads

seen_of : (a : memberView.Stored) (b : sequencerView.Stored) (yes : Bool)
    → view_of (parts a b (fresh_head a.head b.head (when yes then 1 else 0)))
    ≡ seen (record { member = memberView.view_of a; kept = fresh_kept; reset = no_reset; sequencing = yes; frozen = false; sequencer = sequencerView.view_of b })
unfolding view_of terminal_of flags_sound when◌then◌else◌
seen_of a b true =
    λ i. seen (record { member = memberView.view_of a; kept = record { read = record { 0 = 0 }; past = messages_none places_most i; counts = replicate members_most 0 }; reset = no_reset; sequencing = true; frozen = false; sequencer = sequencerView.view_of b })
seen_of a b false =
    λ i. seen (record { member = memberView.view_of a; kept = record { read = record { 0 = 0 }; past = messages_none places_most i; counts = replicate members_most 0 }; reset = no_reset; sequencing = false; frozen = false; sequencer = sequencerView.view_of b })

-- both ends all zero
pub closed_seen : (a : memberView.Stored) (b : sequencerView.Stored) {head : Head} → memberView.view_of a ≡ fresh_member (description_of 0 0 0) (record { 0 = 0 })
    → sequencerView.view_of b ≡ no_sequencer → head ≡ fresh_head a.head b.head 0 → view_of (parts a b head) ≡ seen closed_terminal
unfolding when◌then◌else◌
closed_seen a b m s e =
    ap (λ (h : Head). view_of (parts a b h)) e ∙ seen_of a b false
    ∙ (λ i. seen (record { member = m i; kept = fresh_kept; reset = no_reset; sequencing = false; frozen = false; sequencer = s i }))

seats_of : (n group resilience : ℕ) (yes : Bool)
    → (sequencer.fresh_of (when (when yes then 1 else 0) =? 1 then n else 0) group resilience).sequencer ≡ (when yes then (sequencer.fresh_of n group resilience).sequencer else no_sequencer)
unfolding when◌then◌else◌
seats_of n group resilience true = refl
seats_of n group resilience false = none_fresh group resilience

pub opened : (n : ℕ) (number : MemberNumber) (group resilience : ℕ) {verdict : Verdict} {a : memberView.Stored} {b : sequencerView.Stored} {head : Head} {sequencing seats : ℕ}
    → memberPromise.Opens (member.fresh_of n number group resilience) verdict a → sequencing ≡ sequencing_of verdict number → seats ≡ (when sequencing =? 1 then n else 0)
    → sequencerView.view_of b ≡ (sequencer.fresh_of seats group resilience).sequencer → head ≡ fresh_head a.head b.head sequencing
    → Opens (fresh_of n number group resilience) verdict (parts a b head)
unfolding sequencing_of when◌then◌else◌
opened n number group resilience {verdict} {a} {b} {head} {sequencing} {seats} p f k s e = go verdict p.answer f
  where
    go : (v : Verdict) → v ≡ (member.fresh_of n number group resilience).verdict → sequencing ≡ sequencing_of v number → Opens (fresh_of n number group resilience) v (parts a b head)
    go (Ok _) z f =
        let w = fresh_yes n number group resilience z in
        let t : sequencerView.view_of b ≡ (when number.0 =? 0 then (sequencer.fresh_of n group resilience).sequencer else no_sequencer) =
        s ∙ ap (λ (x : ℕ). (sequencer.fresh_of x group resilience).sequencer) (k ∙ ap (λ (x : ℕ). when x =? 1 then n else 0) f) ∙ seats_of n group resilience (number.0 =? 0) in
        record {
          answer = ap (λ (o : Opening). o.verdict) w;
          state =
              ap (λ (h : Head). view_of (parts a b h)) (e ∙ ap (fresh_head a.head b.head) f) ∙ seen_of a b (number.0 =? 0)
              ∙ (λ i. seen (record { member = p.state i; kept = fresh_kept; reset = no_reset; sequencing = number.0 =? 0; frozen = false; sequencer = t i }))
              ∙ ap (λ (o : Opening). seen o.terminal) w;
          wording = ap (λ (o : Opening). verdict_wording o.verdict) w;
        }
    go (Err refusal) z f =
        let w = fresh_no n number group resilience refusal z in
        let t : sequencerView.view_of b ≡ no_sequencer =
        s ∙ ap (λ (x : ℕ). (sequencer.fresh_of x group resilience).sequencer) (k ∙ ap (λ (x : ℕ). when x =? 1 then n else 0) f) ∙ none_fresh group resilience in
        record {
          answer = ap (λ (o : Opening). o.verdict) w;
          state = closed_seen a b (p.state ∙ closed_member n number group resilience refusal (sym z)) t (e ∙ ap (fresh_head a.head b.head) f) ∙ ap (λ (o : Opening). seen o.terminal) w;
          wording = ap (λ (o : Opening). verdict_wording o.verdict) w;
        }
