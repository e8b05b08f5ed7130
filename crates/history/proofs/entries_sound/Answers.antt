-- The loop's invariant: the entries are sound exactly if those after the first `i` are.
use native.Mathlib.Omega.{arith}
use Rattle.group.proofs.Fold.{all_on, all_off, all_done}
use Rattle.history.specs.Sound.{entry_sound}
use Rattle.history.proofs.View.{entry_asked, length_table}
use Rattle.history.proofs.entries_sound.Goals as goal

pub loop-i-preserved : goal.loop-i-preserved
loop-i-preserved c =
    let l = c.loop-i in
    let a = c.args in
    let z = length_table a.taken.now a.counts.now a.repeats.now in
    (l.invariant.0, all_on _ _ l.i l.invariant.1 _ c.entry_sound.result (omega arith) (entry_asked (entry_sound a.group a.top.0) a.taken.now a.counts.now a.repeats.now l.i _ (omega arith) c.entry_sound.ensures) c.if-not-entry_sound.false)

pub returns-then-not-entry_sound : goal.returns-then-not-entry_sound
returns-then-not-entry_sound c =
    let l = c.loop-i in
    let a = c.args in
    let z = length_table a.taken.now a.counts.now a.repeats.now in
    all_off _ _ l.i l.invariant.1 _ c.entry_sound.result (omega arith) (entry_asked (entry_sound a.group a.top.0) a.taken.now a.counts.now a.repeats.now l.i _ (omega arith) c.entry_sound.ensures) c.if-not-entry_sound.true

pub returns : goal.returns
returns c =
    let l = c.loop-i in
    let a = c.args in
    let z = length_table a.taken.now a.counts.now a.repeats.now in
    all_done _ _ l.i l.invariant.1 (omega arith)
