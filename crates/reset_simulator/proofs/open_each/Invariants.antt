-- One terminal after the other.
use mathlib.Core.Path.{◌≡◌}
use Prim.Native.Nat.{◌-◌, ◌≤◌}
use Rattle.group.specs.Limits.{members_most}
use Rattle.reset_simulator.specs.Whole.{rows_of, terminals_of}
use Rattle.reset_simulator.specs.Steps.{Begun}
use Rattle.reset_simulator.proofs.open_each.Given as goal

abbrev pub invariant-loop-i : goal.invariant-loop-i
invariant-loop-i l =
    (l.i ≤ members_most) × Begun l.n l.number l.resilience (terminals_of l.small l.masks l.numbers (rows_of l.queued l.held l.queued_originators l.queued_lengths l.held_originators l.held_lengths l.queued_payloads l.held_payloads l.past l.past_originators l.past_lengths l.past_payloads l.highest l.replies l.taken l.counts l.repeats l.kept l.marks l.originators l.lengths l.payloads)) l.i × (l.out ≡ l.initial.out)

abbrev pub decreases-loop-i : goal.decreases-loop-i
decreases-loop-i l = members_most - l.i
