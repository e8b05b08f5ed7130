-- What the program says of the rest of the part goes behind what the sink took.
use Prim.Native.Nat.{◌-◌, ◌≤◌}
use lib.ListN.{length, drop}
use Rattle.player.specs.Player.{state_of}
use Rattle.simulator.specs.Whole.{whole_of}
use Rattle.stream.specs.Steps.{program_of, Puts}
use Rattle.stream.proofs.play_part.Given as goal

abbrev pub invariant-loop-from : goal.invariant-loop-from
invariant-loop-from g l =
    (l.from ≤ length l.part) × Puts g.W.Write.contents (program_of l.quiet) (state_of l.initial.player (whole_of l.initial.player.head l.initial.taken l.initial.counts l.initial.repeats l.initial.kept l.initial.marks l.initial.originators l.initial.lengths l.initial.payloads l.initial.numbers l.initial.queued l.initial.held l.initial.queued_originators l.initial.queued_lengths l.initial.held_originators l.initial.held_lengths l.initial.queued_payloads l.initial.held_payloads l.initial.sizes l.initial.packets) l.initial.line) l.part (state_of l.player (whole_of l.player.head l.taken l.counts l.repeats l.kept l.marks l.originators l.lengths l.payloads l.numbers l.queued l.held l.queued_originators l.queued_lengths l.held_originators l.held_lengths l.queued_payloads l.held_payloads l.sizes l.packets) l.line) (drop l.from l.part) l.initial.sink l.sink

abbrev pub decreases-loop-from : goal.decreases-loop-from
decreases-loop-from g l = length l.part - l.from
