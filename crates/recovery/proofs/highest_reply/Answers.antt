-- The loop's invariant: what was found is that of the members from `i` on.
use native.Mathlib.Omega.{arith}
use Rattle.group.specs.Limits.{members_most}
use Rattle.recovery.proofs.Turning.{highest_end}
use Rattle.recovery.proofs.highest_reply.Goals as goal

pub loop-i-init : goal.loop-i-init
loop-i-init c = highest_end c.args.repliers c.args.replies.now members_most (omega arith)
