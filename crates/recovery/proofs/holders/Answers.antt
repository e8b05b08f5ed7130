-- The loop's invariant: what was found is that of the members from `i` on.
use native.Mathlib.Omega.{arith}
use Rattle.group.specs.Limits.{members_most}
use Rattle.recovery.proofs.Turning.{holders_end}
use Rattle.recovery.proofs.holders.Goals as goal

pub loop-i-init : goal.loop-i-init
loop-i-init c = holders_end c.args.repliers c.args.highest.0 c.args.replies.now members_most (omega arith)
