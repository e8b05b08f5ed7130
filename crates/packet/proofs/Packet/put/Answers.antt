-- What writing lays of the fields that mean the packet, and its length by what writing answers.
use mathlib.Core.Path.{sym, ◌∙◌}
use lib.ListN.{length}
use borrow.Author.Rules.{rules}
use Rattle.packet.proofs.Permitted.{written_length}
use Rattle.packet.proofs.Packet.put.Goals as goal

pub returns : goal.returns
returns c =
    let a = c.args in
    let w = c.write.ensures in
    rw (← c.fields.ensures)
    (record { size = search rules ∙ written_length c.fields.result a.payload.now (length a.out.now) c.write.result w.answer; lent = w.lent })
