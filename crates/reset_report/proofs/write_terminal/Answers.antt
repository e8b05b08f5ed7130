-- Where the room is there: its numbers, the survivors and the line feed, one behind the other.
use mathlib.Core.List.{[], ◌∷◌, map}
use Rattle.group.specs.Limits.{members_most}
use Rattle.report.proofs.Pieces.{laid_longer, written, unwritten}
use Rattle.text.specs.Text.{text_of}
use Rattle.text.specs.Written.{decimal_of}
use Rattle.reset_report.specs.Print.{terminal_line, terminal_room, members_below}
use borrow.Author.Rules.{rules}
use Rattle.reset_report.proofs.write_terminal.Goals as goal

pub returns-then-out-lt-TERMINAL_ROOM : goal.returns-then-out-lt-TERMINAL_ROOM
returns-then-out-lt-TERMINAL_ROOM c = let a = c.args in let both = unwritten terminal_room (terminal_line a.terminal a.group a.taken.0 a.elected.0 a.survivors) a.out.now (search rules) in record { size = both.0; lent = both.1 }

pub returns : goal.returns
returns c =
    let a = c.args in
    let both = written terminal_room (terminal_line a.terminal a.group a.taken.0 a.elected.0 a.survivors) a.out.now c.put.result _ (search rules)
    (laid_longer (text_of "terminal") (decimal_of a.terminal ∷ text_of "group" ∷ decimal_of a.group ∷ text_of "taken" ∷ decimal_of a.taken.0 ∷ text_of "elected" ∷ decimal_of a.elected.0 ∷ text_of "survivors" ∷ []) (map decimal_of (members_below a.survivors members_most)) c.put_terminal-next.ensures.laid c.put_members-next.ensures.laid c.put.ensures) in
    record { size = both.0; lent = both.1 }
