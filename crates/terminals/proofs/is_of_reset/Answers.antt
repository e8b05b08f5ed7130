-- A packet that was read has a kind.
use mathlib.Core.Path.{sym, ◌∙◌}
use native.Mathlib.Omega.{arith}
use Rattle.big_endian.specs.Laws.{Bytes}
use Rattle.packet.proofs.Verdicts.{read_named}
use Rattle.terminals.specs.Steps.{resets}
use Rattle.terminals.proofs.is_of_reset.Goals as goal

pub of_reset-requires : goal.of_reset-requires
unfolding Bytes
of_reset-requires c = (read_named _ (λ i _. let z = c.shared_slice_known-1.given i in omega (arith, z)) _ (sym c.read.ensures.answer ∙ c.in-Ok.is)).0

pub returns-in-Ok : goal.returns-in-Ok
unfolding resets
returns-in-Ok c = rw (← c.read.ensures.answer, c.in-Ok.is) c.of_reset.ensures

pub returns-in-Err : goal.returns-in-Err
unfolding resets
returns-in-Err c = rw (← c.read.ensures.answer, c.in-Err.is)
