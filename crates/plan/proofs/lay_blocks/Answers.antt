-- The blocks are counted, the room is asked, and they are laid.
use native.Mathlib.Omega.{arith}
use Rattle.plan.proofs.Planning.{lays_short, lays_all}
use Rattle.plan.proofs.lay_blocks.Goals as goal

pub returns-then-out-needed : goal.returns-then-out-needed
returns-then-out-needed c =
    let s = c.pack-needed.ensures.size in
    let t = c.if-out-needed.true in
    lays_short _ _ c.args.out.now (omega arith)

pub returns : goal.returns
returns c =
    let s = c.pack-needed.ensures.size in
    let t = c.if-out-needed.false in
    let out = c.args.out.now in
    lays_all _ _ out _ _ (omega arith) s (c.pack.ensures.lays (omega arith))
