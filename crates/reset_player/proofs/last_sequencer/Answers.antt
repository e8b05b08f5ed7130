-- The line fits the output, and is that of every terminal with this head; without a sequencer there is none.
use mathlib.Core.Path.{◌≡◌}
use native.Mathlib.Omega.{arith}
use lib.ListN.{length}
use Rattle.player.specs.Player.{output_room}
use Rattle.player.proofs.Telling.{fits_in}
use Rattle.reset_report.specs.Print.{sequencer_room}
use Rattle.reset_player.proofs.Ending.{sequencer_text, lays_sequencer, lays_none}
use borrow.Author.Rules.{rules}
use Rattle.reset_player.proofs.last_sequencer.Goals as goal

pub read_head-head-requires : goal.read_head-head-requires
read_head-head-requires c = (search rules, search rules, search rules)

pub returns-then-head-eq1 : goal.returns-then-head-eq1
returns-then-head-eq1 c =
    let lent = c.args.out.now in
    let room : length lent ≡ output_room = search rules in
    let h = c.read_head-head.result in
    let e = c.read_head-head.ensures in
    lays_sequencer h c.args.i lent _ _ _ _ _ e c.if-head-eq1.true (fits_in sequencer_room (length lent) (sequencer_text c.args.i h) (omega arith)) c.write_sequencer.ensures.size c.write_sequencer.ensures.lent

pub returns : goal.returns
returns c = lays_none c.read_head-head.result c.args.i c.args.out.now _ _ _ c.read_head-head.ensures c.if-head-eq1.false
