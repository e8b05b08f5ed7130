-- What the answer told is laid into its place and counted; another answer leaves the arrays.
use mathlib.Core.Path.{sym}
use Prim.Native.Nat.{◌≤◌}
use native.Mathlib.Omega.{arith}
use lib.ListN.{length, take, length-take}
use lib.Seq.{length-take-le}
use Rattle.group.specs.Limits.{payload_most}
use Rattle.recovery.specs.View.{kept_in}
use Rattle.terminals.proofs.Taking.{not_took, told_laid}
use Rattle.terminals.proofs.remember.Goals as goal

pub slice_bounds-keep-end : goal.slice_bounds-keep-end
slice_bounds-keep-end c = sym (length-take-le _ _ c.requires.3)

pub keep-requires : goal.keep-requires
keep-requires c = let p = c.requires in let at = c.place-at.ensures in let a = c.args in let k : length (take a.written a.out.now) ≤ payload_most = simp length-take (omega arith) in let z = p.0 in (omega arith, omega arith, omega arith, omega arith, k)

pub count_one-requires : goal.count_one-requires
count_one-requires c = c.requires.1

pub returns-in-Took : goal.returns-in-Took
returns-in-Took c = let a = c.args in λ head. rw c.in-Took.is (told_laid (kept_in head a.past.now a.past_originators.now a.past_lengths.now a.past_payloads.now a.highest.now) _ _ _ _ _ c.place-at.ensures c.keep.ensures c.count_one.ensures)

pub returns-in_default : goal.returns-in_default
returns-in_default c = let a = c.args in λ head. sym (not_took _ a.answer _ c.in_default.not-Took)
