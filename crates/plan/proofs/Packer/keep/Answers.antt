-- The record goes behind the others (`kept_fits`), or begins the next block after the one in hand was closed (`kept_over`).
use Rattle.std.proofs.Common.{◌+◌, ◌≤◌, ◌<◌, arith}
use Rattle.journal.specs.Block.{message_at}
use Rattle.journal.specs.Walk.{message_on}
use Rattle.plan.specs.Kept.{record_size, records_room}
use Rattle.plan.proofs.Filling.{message_size, kept_fits, kept_over}
use Rattle.plan.proofs.Packer.keep.Goals as goal

pub returns-then-self-spot : goal.returns-then-self-spot
unfolding message_at
returns-then-self-spot c =
    let a = c.args in
    let n = message_size a.journal.now a.spot c.requires.stands_in in
    let h : a.self.now.used + record_size (message_on a.journal.now a.spot) ≤ records_room = let t = c.if-self-spot.true in omega arith in
    kept_fits a.self.now (message_on a.journal.now a.spot) a.out.now _ _ _ h c.put_numbered-end.ensures c.grow.ensures

pub returns : goal.returns
unfolding message_at
returns c =
    let a = c.args in
    let n = message_size a.journal.now a.spot c.requires.stands_in in
    let h : records_room < a.self.now.used + record_size (message_on a.journal.now a.spot) = let t = c.if-self-spot.false in omega arith in
    kept_over a.self.now (message_on a.journal.now a.spot) a.out.now _ _ _ h c.put_numbered-self.ensures c.close.ensures
