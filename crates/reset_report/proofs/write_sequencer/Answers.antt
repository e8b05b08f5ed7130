-- Where the room is there: its numbers, whether it is frozen, and the line feed, one behind the other.
use mathlib.Core.List.{[], ◌∷◌}
use Rattle.report.proofs.Pieces.{laid_longer, written, unwritten}
use Rattle.text.specs.Text.{text_of}
use Rattle.text.specs.Written.{decimal_of}
use Rattle.reset_report.specs.Print.{sequencer_line, sequencer_room, frozen_text}
use borrow.Author.Rules.{rules}
use Rattle.reset_report.proofs.write_sequencer.Goals as goal

pub returns-then-out-lt-SEQUENCER_ROOM : goal.returns-then-out-lt-SEQUENCER_ROOM
returns-then-out-lt-SEQUENCER_ROOM c = let a = c.args in let both = unwritten sequencer_room (sequencer_line a.terminal a.group a.top.0 a.floor.0 a.frozen) a.out.now (search rules) in record { size = both.0; lent = both.1 }

pub returns : goal.returns
returns c =
    let a = c.args in
    let both = written sequencer_room (sequencer_line a.terminal a.group a.top.0 a.floor.0 a.frozen) a.out.now c.put.result _ (search rules)
    (laid_longer (text_of "sequencer") (decimal_of a.terminal ∷ text_of "group" ∷ decimal_of a.group ∷ text_of "top" ∷ decimal_of a.top.0 ∷ text_of "floor" ∷ decimal_of a.floor.0 ∷ []) (frozen_text a.frozen) c.put_sequencer-next.ensures.laid c.put_frozen-next.ensures.laid c.put.ensures) in
    record { size = both.0; lent = both.1 }
