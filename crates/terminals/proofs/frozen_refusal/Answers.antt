-- A packet that was read has a meaning; then each test is one of the definition's.
use mathlib.Core.Path.{sym, ◌∙◌}
use native.Mathlib.Omega.{arith}
use Rattle.big_endian.specs.Laws.{Bytes}
use Rattle.packet.proofs.Verdicts.{read_named}
use Rattle.group.proofs.Choice.{choices, tests}
use Rattle.terminals.specs.Steps.{frozen_refusal}
use borrow.Author.Rules.{rules}
use Rattle.terminals.proofs.frozen_refusal.Goals as goal

pub of-requires : goal.of-requires
unfolding Bytes
of-requires c = read_named _ (λ i _. let z = c.shared_slice_known-1.given i in omega (arith, z)) _ (sym c.read.ensures.answer ∙ c.in-Ok.is)

pub of_reset-requires : goal.of_reset-requires
unfolding Bytes
of_reset-requires c = (read_named _ (λ i _. let z = c.shared_slice_known-1.given i in omega (arith, z)) _ (sym c.read.ensures.answer ∙ c.in-Ok.is)).0

pub returns-then-not-from_elected : goal.returns-then-not-from_elected
unfolding frozen_refusal
returns-then-not-from_elected c = rw (← c.read.ensures.answer, c.in-Ok.is, ← c.of.ensures) (search (choices, tests, rules) depth 9)

pub returns-then-of_reset : goal.returns-then-of_reset
unfolding frozen_refusal
returns-then-of_reset c = rw (← c.read.ensures.answer, c.in-Ok.is, ← c.of_reset.ensures, ← c.of.ensures) (search (choices, tests, rules) depth 9)

pub returns-else-h-group : goal.returns-else-h-group
unfolding frozen_refusal
returns-else-h-group c = rw (← c.read.ensures.answer, c.in-Ok.is, ← c.of.ensures) (search (choices, tests, rules) depth 9)

pub returns-in-Err : goal.returns-in-Err
unfolding frozen_refusal
returns-in-Err c = rw (← c.read.ensures.answer, c.in-Err.is)
