-- What is written settles the code and the number.
use mathlib.Core.Path.{sym, ap, ◌∙◌}
use Rattle.packet.specs.Wording.{writing_wording}
use Rattle.embedding.specs.Codes.{answer_of}
use Rattle.embedding.specs.Packets.{header_with}
use Rattle.embedding.proofs.Answers.{bytes_answer}
use Rattle.embedding.proofs.warghytes_packet_write.Goals as goal

pub returns-in-Ok : goal.returns-in-Ok
unfolding writing_wording header_with
returns-in-Ok c =
    let e = sym c.in-Ok.is ∙ c.write-writing.ensures.answer in
    record { answer = bytes_answer _ _ ∙ ap (λ w. answer_of (writing_wording w)) e; lent = c.write-writing.ensures.lent }

pub returns-in-Err : goal.returns-in-Err
unfolding writing_wording header_with
returns-in-Err c =
    let e = sym c.in-Err.is ∙ c.write-writing.ensures.answer in
    record { answer = c.refused.ensures ∙ ap (λ w. answer_of (writing_wording w)) e; lent = c.write-writing.ensures.lent }
