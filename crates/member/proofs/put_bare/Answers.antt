-- What is laid is a packet without payload.
use mathlib.Core.List.{[]}
use native.Mathlib.Omega.{arith}
use Rattle.packet.proofs.Permitted.{laid_whole}
use Rattle.member.proofs.put_bare.Goals as goal

pub returns : goal.returns
returns c = let p = c.requires in laid_whole _ [] _ p.0 (omega arith) p.1 c.put.ensures
