-- Survival at a making in a world where as many as have to confirm have all that is accepted, and every survivor has the result. Assumes nothing.
use mathlib.Core.Path.{◌≡◌, refl, sym, ap, ◌∙◌, subst}
use mathlib.Core.Logic.{◌≢◌}
use mathlib.Core.Bool.{true, false≢true}
use mathlib.Core.List.{List}
use Prim.Native.Nat.{ℕ, ◌+◌, ◌≤◌, ◌<◌}
use native.Mathlib.Omega.{arith}
use lib.Count.{ones}
use lib.ListN.{length, length-take}
use lib.ListN as list
use lib.Seq.{take-take, length-take-le}
use Rattle.group.proofs.Choice.{when_true}
use Rattle.group.proofs.Lists.{when_elim}
use Rattle.group.proofs.Members.{survivor_lt}
use Rattle.group.specs.Members.{is_in}
use Rattle.group.specs.declared.Group as description
use Rattle.message.specs.Order.{Ordered}
use Rattle.member.proofs.Acknowledged.{reach_least}
use Rattle.member.specs.State.{reach_of}
use Rattle.packet.proofs.Facts.{Voice}
use Rattle.sequencer.proofs.Soundness as sequencerSoundness
use Rattle.sequencer.specs.State.{Sequencer}
use Rattle.window.proofs.Row.{le_larger}
use Rattle.recovery.specs.Begin.{cut_of}
use Rattle.recovery.specs.State.{Reset, Terminal, serves, reply_number}
use Rattle.reset.specs.Claim.{Begins, Survived}
use Rattle.reset.specs.Closing as closing
use Rattle.reset.specs.Course.{Course, is_sent, course_in, taken}
use Rattle.reset.specs.World.{make, happen, terminal_at, World, step}
use Rattle.reset.proofs.Electing.{reach_view}
use Rattle.reset.proofs.Invariant.{group_in, Inv}
use Rattle.reset.proofs.Keep.{taken_same}
use Rattle.reset.proofs.Led.{Led, made_next, made_course}
use Rattle.reset.proofs.Making.{itself, survives, reply_most, mask_small}
use Rattle.reset.proofs.Numbering.{view_is, serves_here}
use Rattle.reset.proofs.Seen.{voices}
use Rattle.reset.proofs.Surviving.{accepted_kept}
use Rattle.reset.proofs.Unmade.{submitted_in}
use Rattle.reset.proofs.View.{member_of, sequencer_of}

module _ (n number resilience : ℕ) (w : World) (v : Led n number resilience 0 w) (all : (j : ℕ) → is_in (course_in n number w).survivors j ≡ true → (terminal_at w.group j).member.group.number ≡ (course_in n number w).number)
    (i demand : ℕ) (allowed : (course_in n number w).initiator ≡ i) (sent : is_sent (happen w.group (make i demand)).answer ≡ true) where
  abbrev c : Course
  c = course_in n number w

  abbrev at : ℕ → Terminal
  at = terminal_at w.group

  abbrev tk : ℕ → List Ordered
  tk j = taken j w.log

  abbrev sb : ℕ → List (List ℕ)
  sb j = submitted_in j w.log

  abbrev h : Inv n resilience 0 c at w.group.packets tk sb
  h = v.holds

  abbrev group : description.Group
  group = group_in n resilience c

  abbrev r : Reset
  r = (at i).reset

  abbrev last : ℕ
  last = cut_of r

  b : i < n
  b = (made_next n number resilience 0 w v i demand allowed sent).inside

  inviting : r.inviting ≡ true
  inviting = (made_next n number resilience 0 w v i demand allowed sent).inviting

  within : (j : ℕ) → is_in r.repliers j ≡ true → is_in c.survivors j ≡ true
  within = survives n resilience 0 c at w.group.packets tk sb h i b allowed inviting

  replies : (j : ℕ) → is_in r.repliers j ≡ true → reply_number (at j) ≤ last
  replies = reply_most n resilience 0 c at w.group.packets tk sb h i b allowed inviting

  elected_lt : c.elected < n
  elected_lt = survivor_lt group h.seen.standing c.elected h.seen.standing.elected_in

  elected_here : (at c.elected).member.group.number ≡ c.number
  elected_here = all c.elected h.seen.standing.elected_in

  abbrev view : Sequencer
  view = sequencer_of group h.cut (at c.elected)

  real : view ≡ closing.sequencer_of w c
  real = view_is n resilience 0 c at w.group.packets tk sb h elected_lt elected_here

  abbrev reach : ℕ → ℕ
  reach j = (voices group 0 (λ k. member_of group h.cut (at k)) sb h.lost j).reach

  elected_replies : is_in r.repliers c.elected ≡ true → view.top.0 ≤ last
  unfolding reply_number
  elected_replies e =
      let x = replies c.elected e in
      let y : (at c.elected).sequencer.top.0 ≡ reply_number (at c.elected) = when_true (serves (at c.elected)) _ _ _ (serves_here n resilience 0 c at w.group.packets tk sb h elected_lt elected_here) refl in
      let z = ap (λ (s : Sequencer). s.top.0) real in
      omega arith

  others_reply : (j : ℕ) → is_in r.repliers j ≡ true → j ≢ c.elected → reach j ≤ last
  unfolding voices
  others_reply j e q =
      let inside = within j e in
      let less = survivor_lt group h.seen.standing j inside in
      let x = reach_view n resilience 0 c at w.group.packets tk sb h j less inside in
      let y = ((h.sits j less).survivor inside).reach_le in
      let z = replies j e in
      when_elim (λ (o : Voice). o.reach ≤ last) (is_in c.survivors j) (λ _. le_larger (reach_of (member_of group h.cut (at j))) 0 last (omega arith) (omega arith)) (λ o. absurd (false≢true (sym o ∙ inside)))

  accepted_le : ones c.survivors ≤ ones r.repliers + resilience → view.accepted.0 ≤ last
  accepted_le few =
      accepted_kept group h.seen.standing reach view.accepted.0 view.top.0 last r.repliers (sequencerSoundness.sound_of_lem view h.seen.sequencer.sound).accepted_le h.seen.confirmed.enough
      (mask_small n resilience 0 c at w.group.packets tk sb h i b allowed inviting) within i (itself n resilience 0 c at w.group.packets tk sb h i b allowed inviting) elected_replies others_reply few

  taken_begins : (j : ℕ) → is_in r.repliers j ≡ true → Begins (taken j w.log) (list.take last c.order)
  taken_begins j e =
      let inside = within j e in
      let less = survivor_lt group h.seen.standing j inside in
      let x = (h.seen.terminal j inside).content in
      let m = member_of group h.cut (at j) in
      let same = taken_same group h.cut (at j) in
      let a = reach_least (at j).member in
      let d = ((h.sits j less).survivor inside).reach_le in
      let z = replies j e in
      let le : m.taken.0 ≤ last = omega arith in
      let within-le = x.taken_le in
      let size : length (taken j w.log) ≡ m.taken.0 = ap length x.took_is ∙ length-take-le m.taken.0 c.order x.taken_le in
      let short : m.taken.0 ≤ length (list.take last c.order) = simp length-take (omega arith) in
      record {
        fits = omega arith;
        is = ap (λ (k : ℕ). list.take k (list.take last c.order)) size ∙ take-take m.taken.0 last c.order le ∙ sym x.took_is;
      }

  pub survived : Survived resilience w c (course_in n number (step w (make i demand)))
  survived =
      subst (Survived resilience w c) (sym (made_course n number resilience 0 w v i demand allowed sent))
      (record {
        within = within;
        accepted_kept = λ few.
            let a = accepted_le few in
            let s : (closing.sequencer_of w c).accepted.0 ≡ view.accepted.0 = ap (λ (x : Sequencer). x.accepted.0) (sym real) in
            take-take (closing.sequencer_of w c).accepted.0 last c.order (omega arith);
        taken_begin = taken_begins;
      })
