-- A mask has no member beyond the most.
use mathlib.Core.Path.{◌≡◌, sym}
use mathlib.Core.Bool.{false}
use native.Mathlib.Omega.{arith}
use borrow.Author.Rules.{rules}
use Rattle.group.specs.Members.{is_in}
use Rattle.group.proofs.Choice.{choices}
use Rattle.group.proofs.Members.{in_beyond}
use Rattle.packet.proofs.Header.among.Goals as goal

pub returns-else-self-lt16 : goal.returns-else-self-lt16
returns-else-self-lt16 c = grind (arith, choices, in_beyond)
