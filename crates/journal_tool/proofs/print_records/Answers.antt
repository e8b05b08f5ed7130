-- The cursor stays within the block.
use Rattle.std.proofs.Common.{sym, ◌∙◌, rules}
use Rattle.journal.proofs.Given.{gives_standing}
use Rattle.plan.proofs.Gathering.{cursor_within}
use Rattle.journal_tool.proofs.print_records.Goals as goal

pub records-init : goal.records-init
records-init c = cursor_within c.args.block.now 1 _ c.of-cursor.ensures (search rules)

pub next-requires : goal.next-requires
next-requires c = c.records.invariant

pub print_record-requires : goal.print_record-requires
print_record-requires c = (gives_standing c.args.block.now c.records.cursor _ _ c.records.invariant (sym c.next.ensures ∙ c.in-Some.is)).0

pub records-preserved : goal.records-preserved
records-preserved c = (gives_standing c.args.block.now c.records.cursor _ _ c.records.invariant (sym c.next.ensures ∙ c.in-Some.is)).1
