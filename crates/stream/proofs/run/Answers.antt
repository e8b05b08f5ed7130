-- What the turns printed, with the end of the input behind it, is what the whole input prints.
use mathlib.Core.Path.{refl}
use mathlib.Core.List.{[]}
use Rattle.descriptor.proofs.Laws.{takes_both, takes_as}
use Rattle.player.proofs.Laws.{continues_end}
use Rattle.stream.specs.Steps.{program_of}
use Rattle.stream.proofs.Laws.{quiet_of}
use Rattle.stream.proofs.Turning.{puts_from}
use Rattle.stream.proofs.run.Goals as goal

pub returns : goal.returns
returns g c =
    let quiet = c.args.quiet in
    let t = c.play_all-turn.ensures in
    let p = puts_from (c.fresh-start.ensures _ _) t.puts in
    let e = continues_end (program_of quiet) (quiet_of quiet) _ t.input p.printed [] refl p.continues in
    record { input = t.input; gives = t.gives; takes = takes_as e (takes_both p.takes c.finish-last.ensures) }
