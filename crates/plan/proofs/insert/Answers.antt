-- Each turn moves one row up; then the row is put in the place that is left.
use Rattle.std.proofs.Common.{◌≡◌, ◌∙◌, ap, ◌++◌, ◌+◌, ◌-◌, ◌<◌, length, take, drop, rules, arith}
use Rattle.plan.specs.Table.{inserted}
use Rattle.plan.proofs.Tables.{room_first, room_next, room_last}
use Rattle.plan.proofs.insert.Goals as goal

pub loop-k-init : goal.loop-k-init
loop-k-init c = (c.requires.0, room_first c.args.rows.now c.args.at c.args.count c.args.row)

pub loop-k-preserved : goal.loop-k-preserved
loop-k-preserved c =
    let l = c.loop-k in
    let a = c.args in
    let room : a.count < length l.rows = search (rules, arith) in
    let up = c.loop-k-test.true in
    let most = l.auto.k in
    let e : l.k - 1 + 1 ≡ l.k = omega (arith, up) in (
      omega (arith, up),
      room_next l.rows a.at (l.k - 1) a.count a.row _ (omega (arith, up)) (omega (arith, up, most)) room
          ∙ ap (λ n. inserted a.at a.row (take n l.rows) ++ drop (n + 1) (take (a.count + 1) l.rows)) e ∙ l.invariant.1,
    )

pub returns : goal.returns
returns c =
    let l = c.loop-k in
    let a = c.args in
    let room : a.count < length l.rows = search (rules, arith) in
    let low = l.invariant.0 in
    let down = c.loop-k-test.false in
    let e : l.k ≡ a.at = omega (arith, low, down) in
    room_last l.rows a.at a.count a.row c.requires.0 room ∙ rw e at l.invariant.1
