-- What the rest of the part prints goes behind what the sink took.
use Prim.Native.Nat.{◌-◌, ◌≤◌}
use lib.ListN.{length, drop}
use Rattle.reset_player.specs.Player.{state_of}
use Rattle.reset_simulator.specs.Whole.{whole_of}
use Rattle.reset_stream.specs.Steps.{Puts}
use Rattle.reset_stream.proofs.play_part.Given as goal

abbrev pub invariant-loop-from : goal.invariant-loop-from
invariant-loop-from g l =
    (l.from ≤ length l.part) × Puts g.W.Write.contents (state_of l.initial.player (whole_of l.initial.player.world l.initial.small l.initial.masks l.initial.numbers l.initial.queued l.initial.held l.initial.queued_originators l.initial.queued_lengths l.initial.held_originators l.initial.held_lengths l.initial.queued_payloads l.initial.held_payloads l.initial.past l.initial.past_originators l.initial.past_lengths l.initial.past_payloads l.initial.highest l.initial.replies l.initial.taken l.initial.counts l.initial.repeats l.initial.kept l.initial.marks l.initial.originators l.initial.lengths l.initial.payloads l.initial.sizes l.initial.packets) l.initial.line) l.part (state_of l.player (whole_of l.player.world l.small l.masks l.numbers l.queued l.held l.queued_originators l.queued_lengths l.held_originators l.held_lengths l.queued_payloads l.held_payloads l.past l.past_originators l.past_lengths l.past_payloads l.highest l.replies l.taken l.counts l.repeats l.kept l.marks l.originators l.lengths l.payloads l.sizes l.packets) l.line) (drop l.from l.part) l.initial.sink l.sink

abbrev pub decreases-loop-from : goal.decreases-loop-from
decreases-loop-from g l = length l.part - l.from
