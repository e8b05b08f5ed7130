-- A list of one character is that character.
use Rattle.text.proofs.Split.{letter_one, letter_none, letter_several}
use Rattle.text.proofs.letter.Goals as goal

pub returns-in-len1 : goal.returns-in-len1
returns-in-len1 c = letter_one c.args.field.now c.in-len1.len_at_least c.in-len1.len_below

pub returns-in_default : goal.returns-in_default
returns-in_default c = letter_none c.args.field.now c.in_default.len_below

pub returns-in_default-2 : goal.returns-in_default-2
returns-in_default-2 c = letter_several c.args.field.now c.in_default.len_at_least
