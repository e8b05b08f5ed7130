-- The line that is left, and then the last.
use mathlib.Core.Path.{refl, ap, ◌∙◌}
use mathlib.Core.List.{List, ◌++◌, append_assoc}
use Prim.Native.Nat.{ℕ}
use Rattle.player.proofs.Laws.{laid_front}
use Rattle.player.proofs.Telling.{last_told_lem}
use Rattle.player.specs.Feed.{end_of}
use Rattle.player.specs.Play.{last_of}
use Rattle.player.specs.Player.{state_of}
use Rattle.simulator.specs.Whole.{whole_of}
use Rattle.playback.proofs.Showing.{as_shown}
use Rattle.playback.proofs.finish.Goals as goal

pub put-next-requires : goal.put-next-requires
put-next-requires c = c.requires

pub returns : goal.returns
returns c =
    let a = c.args in
    let w = (whole_of a.player.head a.taken.now a.counts.now a.repeats.now a.kept.now a.marks.now a.originators.now a.lengths.now a.payloads.now a.numbers.now a.queued.now a.held.now a.queued_originators.now a.queued_lengths.now a.held_originators.now a.held_lengths.now a.queued_payloads.now a.held_payloads.now a.sizes.now a.packets.now) in
    let e = end_of (state_of a.player w a.line.now) in
    let d = c.end-fed.ensures in
    let t = laid_front e.text _ _ _ d.output d.written in
    let l = last_told_lem d c.last-size.ensures refl in
    let u = laid_front (last_of e.state.stage) _ _ _ l.lent l.size in
    λ printed lent s.
    let one = as_shown (ap (λ (x : List ℕ). printed ++ x) t) (c.put-next.ensures.adds printed lent s) in
    let two = c.put.ensures.adds (printed ++ e.text) lent one in
    as_shown (append_assoc printed e.text _ ∙ ap (λ (x : List ℕ). printed ++ (e.text ++ x)) u) two
