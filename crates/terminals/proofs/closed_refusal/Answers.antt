-- A packet that was read has a meaning; then each test is one of the definition's.
use mathlib.Core.Path.{sym, ◌∙◌}
use native.Mathlib.Omega.{arith}
use Rattle.big_endian.specs.Laws.{Bytes}
use Rattle.packet.proofs.Verdicts.{read_named}
use Rattle.group.proofs.Choice.{choices}
use Rattle.terminals.specs.Steps.{closed_refusal}
use borrow.Author.Rules.{rules}
use Rattle.terminals.proofs.closed_refusal.Goals as goal

pub of-requires : goal.of-requires
unfolding Bytes
of-requires c = read_named _ (λ i _. let z = c.shared_slice_known-1.given i in omega (arith, z)) _ (sym c.read.ensures.answer ∙ c.in-Ok.is)

pub returns-then-from_elected : goal.returns-then-from_elected
unfolding closed_refusal
returns-then-from_elected c = rw (← c.read.ensures.answer, c.in-Ok.is, ← c.of.ensures) (search (choices, rules) depth 9)

pub returns-else-from_elected : goal.returns-else-from_elected
unfolding closed_refusal
returns-else-from_elected c = rw (← c.read.ensures.answer, c.in-Ok.is, ← c.of.ensures) (search (choices, rules) depth 9)

pub returns-in-Err : goal.returns-in-Err
unfolding closed_refusal
returns-in-Err c = rw (← c.read.ensures.answer, c.in-Err.is)
