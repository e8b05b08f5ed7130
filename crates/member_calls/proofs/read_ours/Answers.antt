-- A packet that was read has a meaning; then each test is one of the definition's.
use mathlib.Core.Path.{sym, ◌∙◌}
use native.Mathlib.Omega.{arith}
use Rattle.big_endian.specs.Laws.{Bytes}
use Rattle.packet.proofs.Verdicts.{read_named}
use Rattle.member_calls.proofs.read_ours.Goals as goal

pub of-requires : goal.of-requires
unfolding Bytes
of-requires c = read_named _ (λ i _. let z = c.shared_slice_known-1.given i in omega (arith, z)) _ (sym c.read.ensures.answer ∙ c.in_ok-header.was)
