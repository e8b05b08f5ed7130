-- From member 16 on nothing is left.
use native.Mathlib.Omega.{arith}
use lib.Pow.{pow_mono}
use Rattle.group.specs.Limits.{members_most}
use Rattle.group.specs.Members.{others_of}
use Rattle.group.proofs.Group.others.Goals as goal

pub returns-else-self-lt-MEMBERS : goal.returns-else-self-lt-MEMBERS
unfolding others_of
returns-else-self-lt-MEMBERS c = let p = pow_mono {i = members_most} {j = c.args.self.elected.0} (omega arith) in omega arith
