-- Nothing is shifted out, and the mask of 16 members fits.
use mathlib.Core.Path.{◌≡◌}
use Prim.Native.Nat.{ℕ, ◌*◌, ◌%◌, ◌^◌, ◌≤◌}
use native.Mathlib.Omega.{arith}
use lib.Pow.{pow_pos, pow_mono}
use Rattle.group.specs.Limits.{members_most}
use Rattle.group.proofs.Members.{one_shifted}
use Rattle.recovery.proofs.members.Goals as goal

shifted : (n : ℕ) → n ≤ members_most → (1 * 2 ^ n) % 4294967296 ≡ 2 ^ n
shifted n h = one_shifted n 32 (omega arith)

pub overflow_sub-all : goal.overflow_sub-all
overflow_sub-all c = rw (shifted c.args.n c.requires) (pow_pos c.args.n)

pub overflow_cast-result : goal.overflow_cast-result
overflow_cast-result c = let n = c.args.n in let p = pow_pos n in let m = pow_mono {i = n} {j = members_most} c.requires in rw (shifted n c.requires) (record { fits = omega arith })

pub returns : goal.returns
returns c = rw (shifted c.args.n c.requires)
