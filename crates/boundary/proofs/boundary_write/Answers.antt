-- What is written settles the code.
use mathlib.Core.Path.{sym, ap, ◌∙◌}
use Rattle.packet.specs.Wording.{writing_wording}
use Rattle.group.specs.Codes.{numbers_in}
use Rattle.boundary.specs.Codes.{first_number, write_code, header_with}
use Rattle.boundary.proofs.boundary_write.Goals as goal

pub returns-in-Ok : goal.returns-in-Ok
unfolding writing_wording numbers_in first_number header_with
returns-in-Ok c =
    let e = sym c.in-Ok.is ∙ c.write.ensures.answer in
    record { answer = ap write_code e; lent = c.write.ensures.lent }

pub returns-in-Err : goal.returns-in-Err
unfolding writing_wording numbers_in first_number header_with
returns-in-Err c =
    let e = sym c.in-Err.is ∙ c.write.ensures.answer in
    record { answer = c.number.ensures ∙ ap write_code e; lent = c.write.ensures.lent }
