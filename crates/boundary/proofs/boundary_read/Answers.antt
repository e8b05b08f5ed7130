-- What is read settles the code and the fields.
use mathlib.Core.Path.{sym, ap, ◌∙◌}
use Rattle.packet.specs.Wording.{reading_wording}
use Rattle.group.specs.Choice.{when◌then◌else◌}
use Rattle.group.specs.Codes.{numbers_in, code_of, word_code}
use Rattle.boundary.specs.Codes.{numbers_after, read_code, fields_after}
use Rattle.boundary.proofs.boundary_read.Goals as goal

pub returns-in-Ok : goal.returns-in-Ok
unfolding reading_wording numbers_in code_of word_code when◌then◌else◌ numbers_after
returns-in-Ok c =
    let e = sym c.in-Ok.is ∙ c.read.ensures.answer in
    record { answer = ap read_code e; lent = ap (λ r. fields_after r c.args.fields.now) e }

pub returns-in-Err : goal.returns-in-Err
unfolding reading_wording numbers_in code_of word_code when◌then◌else◌ numbers_after
returns-in-Err c =
    let e = sym c.in-Err.is ∙ c.read.ensures.answer in
    record { answer = c.number.ensures ∙ ap read_code e; lent = ap (λ r. fields_after r c.args.fields.now) e }
