-- The loop's invariant: what was played since its first turn.
use Rattle.reset_player.specs.Player.{state_of}
use Rattle.reset_simulator.specs.Whole.{whole_of}
use Rattle.reset_stream.specs.Steps.{Turns}
use Rattle.reset_stream.proofs.play_all.Given as goal

abbrev pub invariant-turns : goal.invariant-turns
invariant-turns g l =
    Turns g.R.Read.remaining g.W.Write.contents (state_of l.initial.turn.player (whole_of l.initial.turn.player.world l.initial.small l.initial.masks l.initial.numbers l.initial.queued l.initial.held l.initial.queued_originators l.initial.queued_lengths l.initial.held_originators l.initial.held_lengths l.initial.queued_payloads l.initial.held_payloads l.initial.past l.initial.past_originators l.initial.past_lengths l.initial.past_payloads l.initial.highest l.initial.replies l.initial.taken l.initial.counts l.initial.repeats l.initial.kept l.initial.marks l.initial.originators l.initial.lengths l.initial.payloads l.initial.sizes l.initial.packets) l.initial.line) (state_of l.turn.player (whole_of l.turn.player.world l.small l.masks l.numbers l.queued l.held l.queued_originators l.queued_lengths l.held_originators l.held_lengths l.queued_payloads l.held_payloads l.past l.past_originators l.past_lengths l.past_payloads l.highest l.replies l.taken l.counts l.repeats l.kept l.marks l.originators l.lengths l.payloads l.sizes l.packets) l.line) l.initial.turn.source l.initial.turn.sink l.turn
