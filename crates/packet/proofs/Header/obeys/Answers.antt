-- What is left is kind 11, whose payload has two bytes.
use native.Mathlib.Omega.{arith}
use Prim.Native.Nat.{◌<◌}
use lib.ListN.{length}
use Rattle.group.proofs.Choice.{choices}
use Rattle.packet.proofs.Verdicts.{kind_low, result_size}
use Rattle.packet.specs.Packet.{reply_kind, obeys}
use borrow.Author.Rules.{rules}
use Rattle.packet.proofs.Header.obeys.Goals as goal

pub among-requires : goal.among-requires
among-requires c =
    let low = kind_low c.args.self.kind c.requires.0 in
    let high : reply_kind < c.args.self.kind = grind arith in
    result_size c.args.self.kind (length c.args.payload.now) c.requires.0 c.requires.1 high

pub returns-then-self : goal.returns-then-self
unfolding obeys
returns-then-self c = search (choices, rules) depth 12

pub returns-else-self : goal.returns-else-self
unfolding obeys
returns-else-self c = search (choices, rules) depth 12

pub returns-else-self-eq0-2 : goal.returns-else-self-eq0-2
unfolding obeys
returns-else-self-eq0-2 c = search (choices, rules) depth 12
