-- A packet that was read has a meaning.
use mathlib.Core.Path.{sym, ◌∙◌}
use native.Mathlib.Omega.{arith}
use Rattle.big_endian.specs.Laws.{Bytes}
use Rattle.packet.proofs.Verdicts.{read_named}
use Rattle.terminals.specs.Steps.{floor_said}
use Rattle.terminals.proofs.floor_said.Goals as goal

pub of-requires : goal.of-requires
unfolding Bytes
of-requires c = read_named _ (λ i _. let z = c.shared_slice_known-1.given i in omega (arith, z)) _ (sym c.read.ensures.answer ∙ c.in-Ok.is)

pub returns-in-Ok : goal.returns-in-Ok
unfolding floor_said
returns-in-Ok c = rw (← c.read.ensures.answer, c.in-Ok.is, ← c.of.ensures) c.floor_in.ensures

pub returns-in-Err : goal.returns-in-Err
unfolding floor_said
returns-in-Err c = rw (← c.read.ensures.answer, c.in-Err.is)
