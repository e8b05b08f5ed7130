-- The payload fits its own length.
use lib.ListN.{length}
use Rattle.packet.proofs.Verdicts.{fits_size}
use borrow.Author.Rules.{rules}
use Rattle.packet.proofs.ask_fields.Goals as goal

pub obeys-requires : goal.obeys-requires
obeys-requires c =
    let a = c.args in
    (search rules, fits_size a.h.kind a.l (length a.payload.now) (search rules))
