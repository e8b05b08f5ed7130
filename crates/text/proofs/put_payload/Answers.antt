-- A space, and `-` or the bytes in hex behind it.
use mathlib.Core.List.{[], ◌∷◌}
use Rattle.text.proofs.Pieces.{laid_field}
use Rattle.text.specs.Written.{hex_of}
use Rattle.text.proofs.Hex.{payload_empty, payload_hex}
use Rattle.text.specs.Text.{dash}
use borrow.Author.Rules.{rules}
use Rattle.text.proofs.put_payload.Goals as goal

pub returns-then-is_empty : goal.returns-then-is_empty
returns-then-is_empty c =
    let e = payload_empty c.args.payload.now (search rules) in
    record { laid = rw e (laid_field (dash ∷ []) c.put-next.ensures c.put.ensures); short = search rules }

pub returns-else-is_empty : goal.returns-else-is_empty
returns-else-is_empty c =
    let e = payload_hex c.args.payload.now (search rules) in
    record { laid = rw e (laid_field (hex_of c.args.payload.now) c.put-next.ensures c.put_hex.ensures.laid); short = search rules }
