-- A number past the end is none.
use mathlib.Core.Path.{sym}
use lib.ListN.{get_or-eq_default}
use native.Mathlib.Omega.{arith}
use Rattle.recovery.proofs.reply_of.Goals as goal

pub returns-else-at-lt-MEMBERS : goal.returns-else-at-lt-MEMBERS
returns-else-at-lt-MEMBERS c = let p = c.requires in sym (get_or-eq_default c.args.replies.now 0 (omega arith))
