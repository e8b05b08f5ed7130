-- The library's sort puts the rows in the order that `sorted` gives the places of their payloads.
use Rattle.std.proofs.Common.{ap, ◌∙◌, take, drop, rules}
use Rattle.std.proofs.lemmas.List.Sorted.{IsNonDecreasingBy-from_sort_by_key}
use lib.Seq.{length-take-le, take_at}
use Rattle.plan.specs.Table.{starts_of}
use Rattle.plan.proofs.Sorting.{starts_sorted}
use Rattle.plan.proofs.sort.Goals as goal

pub returns : goal.returns
returns c =
    let a = c.args in
    let e = c.sort_unstable_by_key.ensures in
    let up = IsNonDecreasingBy-from_sort_by_key (λ row. row.start) _ e.sorted (λ f r g called. search rules) in
    ap starts_of (take_at c.sort_unstable_by_key.new.self (drop a.count a.rows.now) a.count (e.len ∙ length-take-le a.count a.rows.now c.requires.0))
    ∙ starts_sorted (take a.count a.rows.now) c.sort_unstable_by_key.new.self c.requires.1 e.permutation up
