-- The line fits the output, and is that of every terminal with this head.
use mathlib.Core.Path.{◌≡◌}
use native.Mathlib.Omega.{arith}
use lib.ListN.{length}
use Rattle.player.specs.Player.{output_room}
use Rattle.player.proofs.Telling.{fits_in}
use Rattle.reset_report.specs.Print.{terminal_room}
use Rattle.reset_player.proofs.Ending.{member_text, lays_member}
use borrow.Author.Rules.{rules}
use Rattle.reset_player.proofs.last_member.Goals as goal

pub read_head-head-requires : goal.read_head-head-requires
read_head-head-requires c = (search rules, search rules, search rules)

pub returns : goal.returns
returns c =
    let lent = c.args.out.now in
    let room : length lent ≡ output_room = search rules in
    let h = c.read_head-head.result in
    let e = c.read_head-head.ensures in
    lays_member h c.args.i lent _ _ _ _ _ e (fits_in terminal_room (length lent) (member_text c.args.i h) (omega arith)) c.write_terminal.ensures.size c.write_terminal.ensures.lent
