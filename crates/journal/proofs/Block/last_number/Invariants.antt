-- The loop's invariant: the last number, of all records, is that of those that are left, from here on.
use mathlib.Core.Path.{◌≡◌}
use Prim.Native.Nat.{◌-◌, ◌≤◌}
use Rattle.journal.specs.Limits.{records_at, records_end}
use Rattle.journal.specs.Walk.{last_or}
use Rattle.journal.proofs.Block.last_number.Given as goal

abbrev pub invariant-loop : goal.invariant-loop
invariant-loop l =
    (l.at ≤ records_end) × (last_or l.form l.self records_at l.before l.records ≡ last_or l.form l.self l.at l.number (l.records - l.counter))
