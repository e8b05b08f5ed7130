-- The loop's invariant: what was packed and what is left come to the whole. With no record in hand all blocks are laid then; else the
-- last is closed.
use Rattle.std.proofs.Common.{rules}
use Rattle.plan.specs.Table.{starts_of}
use Rattle.plan.proofs.Stepping.{stepping_start, stepping_spotted, stepping_on, stepping_done, messages_small}
use Rattle.plan.proofs.Filling.{packed_none, packed_last}
use Rattle.plan.proofs.pack.Goals as goal

pub loop-row-init : goal.loop-row-init
loop-row-init c = stepping_start c.args.journal.now c.args.rows.now c.args.out.now _ c.new-packer.ensures

pub spot_at-requires : goal.spot_at-requires
spot_at-requires c = (stepping_spotted _ _ _ _ _ _ c.requires c.loop-row.invariant c.loop-row-test.true).within

pub keep-requires : goal.keep-requires
keep-requires c =
    let f = c.loop-row.invariant.fit in
    let s = f.sound in
    let met = s.met in
    let spotted = stepping_spotted _ _ _ _ _ _ c.requires c.loop-row.invariant c.loop-row-test.true in
    record {
      stands_in = rw (← c.spot_at.ensures) at spotted.stands;
      records_le_used = (s.few, s.room, search rules);
    }

pub loop-row-preserved : goal.loop-row-preserved
loop-row-preserved c = stepping_on _ _ _ _ _ _ c.requires c.loop-row.invariant _ _ c.loop-row-test.true c.spot_at.ensures c.keep.ensures

pub returns-then-packer-eq0 : goal.returns-then-packer-eq0
returns-then-packer-eq0 c =
    let a = c.args in
    let (whole, sound) = stepping_done _ _ _ _ _ _ c.requires c.loop-row.invariant (search rules) in
    packed_none _ (messages_small a.journal.now (starts_of a.rows.now) c.requires) a.out.now _ _ whole c.if-packer-eq0.true

pub returns : goal.returns
returns c =
    let a = c.args in
    let (whole, sound) = stepping_done _ _ _ _ _ _ c.requires c.loop-row.invariant (search rules) in
    packed_last _ (messages_small a.journal.now (starts_of a.rows.now) c.requires) a.out.now _ _ whole _ c.if-packer-eq0.false c.close.ensures
