-- One member after the other.
use Prim.Native.Nat.{◌≤◌}
use Rattle.group.specs.Limits.{members_most}
use Rattle.simulator.specs.Whole.{rows_of, terminals_of}
use Rattle.simulator.specs.Steps.{Begun}
use Rattle.simulator.proofs.open_members.Given as goal

abbrev pub invariant-loop-i : goal.invariant-loop-i
invariant-loop-i l =
    (l.i ≤ members_most) × Begun (terminals_of l.group l.numbers (rows_of l.queued l.held l.queued_originators l.queued_lengths l.held_originators l.held_lengths l.queued_payloads l.held_payloads)) l.i
