-- The row's end decides between a gap and the status.
use Prim.Native.Nat.{◌+◌, ◌≤◌, ◌<◌}
use native.Mathlib.Omega.{arith}
use Rattle.group.specs.Limits.{held_most}
use Rattle.window.proofs.Row.{smaller_le}
use Rattle.member.specs.Calls.{poll_of, status_packet}
use Rattle.member.specs.Steps.{member_of}
use Rattle.member.specs.declared.Answer.{Answer}
use Rattle.member.proofs.Acknowledged.{end_counted}
use Rattle.member.proofs.Outcomes.{replied_as, sent, none_missing_lem, some_missing}
use Rattle.member.proofs.View.{reported}
use borrow.Author.Rules.{rules}
use Rattle.member.proofs.poll.Goals as goal

pub returns-then-le : goal.returns-then-le
unfolding poll_of
returns-then-le c =
    λ queue held n. let a = c.args in
    let m = member_of a.head queue held in
    let e = end_counted m a.held.now n _ (let g = c.well_formed.0 in omega (arith, g)) c.row_end-end.ensures in
    let near : c.reach-last.result.0 ≤ a.head.taken.0 + held_most = rw c.reach-last.ensures (smaller_le a.top.0 (a.head.taken.0 + held_most)).1 in
    let h : c.reach-last.result.0 ≤ c.row_end-end.result.0 = search rules in
    rw (← c.reach-last.ensures) (replied_as (none_missing_lem m _ _ e near (search rules) Answer.Gap _ h) (sent m Answer.Status (status_packet m) _ _ _ (reported m _ e c.put_status-written.ensures)))

pub returns : goal.returns
unfolding poll_of
returns c =
    λ queue held n. let a = c.args in
    let m = member_of a.head queue held in
    let e = end_counted m a.held.now n _ (let g = c.well_formed.0 in omega (arith, g)) c.row_end-end.ensures in
    let near : c.reach-last.result.0 ≤ a.head.taken.0 + held_most = rw c.reach-last.ensures (smaller_le a.top.0 (a.head.taken.0 + held_most)).1 in
    let h : c.row_end-end.result.0 < c.reach-last.result.0 = search rules in
    rw (← c.reach-last.ensures) (replied_as (some_missing m _ _ e near (search rules) Answer.Gap _ h) (sent m Answer.Gap _ _ _ _ c.put_gap-written.ensures))
