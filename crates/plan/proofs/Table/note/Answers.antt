-- The three ways to note a row, each by its law.
use Rattle.std.proofs.Common.{rules, rules}
use Rattle.std.proofs.lemmas.List.Sorted.{answers_always}
use Rattle.plan.proofs.Noting.{noted_over, noted_full, noted_new}
use Rattle.plan.proofs.Table.note.Goals as goal

pub returns-in-Ok : goal.returns-in-Ok
returns-in-Ok c =
    let a = c.args in
    let t = a.self.now in
    let e = c.binary_search_by_key.ensures in
    let by_unit = e.position (λ row. row.unit) (answers_always _ _ _ (λ f x r g called. search rules)) in
    noted_over t.rows t.count a.row (search rules) c.in-Ok.i (rw c.in-Ok.is at e.bound, rw c.in-Ok.is at by_unit)

pub returns-then-self-eq-UNITS : goal.returns-then-self-eq-UNITS
returns-then-self-eq-UNITS c =
    let a = c.args in
    let t = a.self.now in
    let e = c.binary_search_by_key.ensures in
    let by_unit = e.position (λ row. row.unit) (answers_always _ _ _ (λ f x r g called. search rules)) in
    noted_full t.rows t.count a.row (search rules) c.in-Err.i (rw c.in-Err.is at e.bound, rw c.in-Err.is at by_unit) c.if-self-eq-UNITS.true

pub returns-else-self-eq-UNITS : goal.returns-else-self-eq-UNITS
returns-else-self-eq-UNITS c =
    let a = c.args in
    let t = a.self.now in
    let e = c.binary_search_by_key.ensures in
    let by_unit = e.position (λ row. row.unit) (answers_always _ _ _ (λ f x r g called. search rules)) in
    noted_new t.rows t.count a.row (search rules) c.in-Err.i (rw c.in-Err.is at e.bound, rw c.in-Err.is at by_unit) c.insert.ensures
