-- The loop's invariant: what was played since its first turn.
use Rattle.stream.specs.Steps.{program_of, Turns}
use Rattle.player.specs.Player.{state_of}
use Rattle.simulator.specs.Whole.{whole_of}
use Rattle.stream.proofs.play_all.Given as goal

abbrev pub invariant-turns : goal.invariant-turns
invariant-turns g l =
    Turns g.R.Read.remaining g.W.Write.contents (program_of l.quiet) (state_of l.initial.turn.player (whole_of l.initial.turn.player.head l.initial.taken l.initial.counts l.initial.repeats l.initial.kept l.initial.marks l.initial.originators l.initial.lengths l.initial.payloads l.initial.numbers l.initial.queued l.initial.held l.initial.queued_originators l.initial.queued_lengths l.initial.held_originators l.initial.held_lengths l.initial.queued_payloads l.initial.held_payloads l.initial.sizes l.initial.packets) l.initial.line) (state_of l.turn.player (whole_of l.turn.player.head l.taken l.counts l.repeats l.kept l.marks l.originators l.lengths l.payloads l.numbers l.queued l.held l.queued_originators l.queued_lengths l.held_originators l.held_lengths l.queued_payloads l.held_payloads l.sizes l.packets) l.line) l.initial.turn.source l.initial.turn.sink l.turn
