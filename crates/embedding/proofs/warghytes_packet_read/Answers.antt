-- What is read settles the code and the fields.
use mathlib.Core.Path.{sym, ap, ◌∙◌}
use Rattle.packet.specs.Wording.{reading_wording}
use Rattle.embedding.specs.Codes.{code_of, numbers_in, numbers_of}
use Rattle.embedding.specs.Packets.{read_code, fields_after}
use Rattle.embedding.proofs.Codes.{fields_code}
use Rattle.embedding.proofs.warghytes_packet_read.Goals as goal

pub returns-in-Ok : goal.returns-in-Ok
unfolding reading_wording code_of numbers_of numbers_in fields_after
returns-in-Ok c =
    let e = sym c.in-Ok.is ∙ c.read-reading.ensures.answer in
    record { answer = sym fields_code ∙ ap read_code e; lent = ap (λ r. fields_after r c.args.fields.now) e }

pub returns-in-Err : goal.returns-in-Err
unfolding reading_wording code_of numbers_of numbers_in fields_after
returns-in-Err c =
    let e = sym c.in-Err.is ∙ c.read-reading.ensures.answer in
    record { answer = c.number.ensures ∙ ap read_code e; lent = ap (λ r. fields_after r c.args.fields.now) e }
