-- The message lies in the place of its number, and what is below it is looked at.
use mathlib.Core.Path.{◌≡◌, ap}
use mathlib.Core.List.{List}
use Prim.Native.Nat.{◌+◌, ◌-◌}
use native.Mathlib.Omega.{arith}
use Rattle.message.specs.Message.{Message}
use Rattle.window.proofs.Places.{counted_in_lem}
use Rattle.member.specs.Calls.{answered, gap_up_to, with_held, kept_of}
use Rattle.member.specs.Steps.{member_of}
use Rattle.member.specs.declared.Answer.{Answer}
use Rattle.member.proofs.Outcomes.{replied_as}
use Rattle.member.proofs.kept.Goals as goal

pub returns : goal.returns
unfolding kept_of with_held
returns c =
    λ queue. let a = c.args in
    let e : a.number.0 + 0 ≡ a.number.0 = omega arith in
    replied_as (ap (λ (held : List Message). gap_up_to (member_of a.head queue held) (a.number.0 - 1) Answer.KeptGap (answered (member_of a.head queue held) Answer.Kept)) (rw (c.place-at.ensures, e) at c.keep.ensures))
    (c.gap_up_to.ensures queue _ (counted_in_lem _ _ _ _))
