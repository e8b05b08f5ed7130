-- The loop's invariant: the sink took the lines of the places passed.
use Prim.Native.Nat.{◌≤◌}
use Rattle.descriptor.specs.Descriptor.{Takes}
use Rattle.group.specs.Limits.{jobs_most}
use Rattle.inspection.specs.Lists.{job_lines}
use Rattle.stream.proofs.put_jobs.Given as goal

abbrev pub invariant-loop-place : goal.invariant-loop-place
invariant-loop-place g l = (l.place ≤ jobs_most) × Takes g.W.Write.contents l.initial.sink (job_lines l.i l.jobs l.place) l.sink
