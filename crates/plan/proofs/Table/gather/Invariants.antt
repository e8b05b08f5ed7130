-- The loop's invariant: the table holds the rows of the records passed.
use Rattle.std.proofs.Common.{◌-◌, take}
use Rattle.plan.specs.Table.{rows_in}
use Rattle.plan.proofs.Gathering.{Progress}
use Rattle.plan.proofs.Table.gather.Given as goal

abbrev pub invariant-records : goal.invariant-records
invariant-records l = Progress l.journal (rows_in l.journal l.fn.found.blocks l.fn.found.messages) (take l.self.count l.self.rows) l.cursor (l.end - l.counter)
