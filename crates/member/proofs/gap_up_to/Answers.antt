-- The row's end decides, as the lowest missing number does in the definition.
use mathlib.Core.Path.{refl}
use Prim.Native.Nat.{◌≤◌}
use native.Mathlib.Omega.{arith}
use Rattle.member.specs.Steps.{member_of}
use Rattle.member.proofs.Acknowledged.{end_counted}
use Rattle.member.proofs.Outcomes.{replied_as, quiet, sent, none_missing_lem, some_missing}
use borrow.Author.Rules.{rules}
use Rattle.member.proofs.gap_up_to.Goals as goal

pub returns-then-le : goal.returns-then-le
returns-then-le c =
    λ queue held n. let a = c.args in
    let m = member_of a.head queue held in
    let h : a.last.0 ≤ c.row_end-end.result.0 = search rules in
    replied_as (none_missing_lem m a.last.0 _ (end_counted m a.held.now n _ (let g = c.well_formed.0 in omega (arith, g)) c.row_end-end.ensures) c.requires.0 (search rules) a.gapped _ h) (quiet m a.whole _ a.out.now refl)

pub returns : goal.returns
returns c =
    λ queue held n. let a = c.args in
    let m = member_of a.head queue held in
    replied_as (some_missing m a.last.0 _ (end_counted m a.held.now n _ (let g = c.well_formed.0 in omega (arith, g)) c.row_end-end.ensures) c.requires.0 (search rules) a.gapped _ (search rules)) (sent m a.gapped _ _ _ _ c.put_gap-written.ensures)
