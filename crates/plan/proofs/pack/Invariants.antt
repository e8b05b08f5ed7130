-- The loop's invariant: what was packed and what is left come to the whole.
use Rattle.std.proofs.Common.{length}
use Rattle.plan.specs.Table.{starts_of}
use Rattle.plan.specs.Pack.{messages_at, packs, fresh_packer, packed_by}
use Rattle.plan.proofs.Stepping.{Stepping}
use Rattle.plan.proofs.pack.Given as goal

abbrev pub invariant-loop-row : goal.invariant-loop-row
invariant-loop-row l =
    Stepping l.journal l.rows (length l.initial.out) (packed_by (packs fresh_packer l.initial.out) (messages_at l.journal (starts_of l.rows))) (packs l.packer l.out) l.row-index
