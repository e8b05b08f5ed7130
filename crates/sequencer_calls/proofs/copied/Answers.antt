-- Question 17; then the packet.
use mathlib.Core.Path.{◌≡◌, sym, ◌∙◌}
use mathlib.Core.Bool.{true}
use borrow.Author.Tests.{ltb-true, leb-true}
use Rattle.group.specs.Choice.{◌and◌, ◌<?◌, ◌≤?◌}
use Prim.Native.Nat.{◌≤◌, ◌<◌}
use native.Mathlib.Omega.{arith}
use lib.ListN.{length}
use Rattle.group.proofs.Choice.{choices, both_first, both_then}
use Rattle.history.proofs.Asking.{judged_yes}
use Rattle.sequencer.specs.Calls.{broadcast_of, copy_of}
use Rattle.sequencer.specs.View.{whole, view_of}
use Rattle.sequencer.specs.declared.Answer.TheVariants.{Sent}
use Rattle.sequencer.proofs.Outcomes.{told_as_lem, told_laid, refusal_told}
use Rattle.sequencer.proofs.Owed.{call_asked}
use Rattle.sequencer.proofs.Soundness.{sound_of_lem}
use borrow.Author.Rules.{rules}
use Rattle.sequencer_calls.proofs.copied.Goals as goal

pub returns-then-not-in_history : goal.returns-then-not-in_history
unfolding copy_of view_of
returns-then-not-in_history c =
    let a = c.args in
    told_as_lem (search (choices, rules) depth 9 ∙ judged_yes _ _ _ c.requires.0) (refusal_told _ _ a.out.now c.refused.ensures (view_of (whole a.head a.taken.now a.counts.now a.repeats.now a.kept.now a.marks.now a.originators.now a.lengths.now a.payloads.now)))

pub send-written-requires : goal.send-written-requires
unfolding view_of
send-written-requires c =
    let a = c.args in
    let w = call_asked (view_of (whole a.head a.taken.now a.counts.now a.repeats.now a.kept.now a.marks.now a.originators.now a.lengths.now a.payloads.now)) (length a.out.now) c.requires.0 in
    let p = c.place-at.ensures in
    let held : (a.head.floor.0 <? a.number.0 and a.number.0 ≤? a.head.top.0) ≡ true = sym c.in_history.ensures ∙ c.if-not-in_history.false in
    let lo : a.head.floor.0 < a.number.0 = ltb-true _ _ (both_first _ _ held) in
    let hi : a.number.0 ≤ a.head.top.0 = leb-true _ _ (both_then _ _ held) in
    let k = (sound_of_lem (view_of (whole a.head a.taken.now a.counts.now a.repeats.now a.kept.now a.marks.now a.originators.now a.lengths.now a.payloads.now)) w.0).kept a.number.0 lo hi in
    (omega (arith, p), rw p (k.short, k.count_least, lo), w.1, c.requires.1.places)

pub returns : goal.returns
unfolding copy_of broadcast_of view_of
returns c =
    let a = c.args in
    let s = view_of (whole a.head a.taken.now a.counts.now a.repeats.now a.kept.now a.marks.now a.originators.now a.lengths.now a.payloads.now) in
    told_as_lem {o = record { sequencer = s; answer = Sent; bytes = broadcast_of s a.number.0 }} (search (choices, rules) depth 9 ∙ judged_yes _ _ _ c.requires.0)
    (told_laid (record { sequencer = s; answer = Sent; bytes = broadcast_of s a.number.0 }) _ _ _ (rw c.place-at.ensures at c.send-written.ensures))
