-- The two digits of the byte, one behind the other.
use mathlib.Core.List.{[], ◌∷◌}
use Rattle.text.proofs.Pieces.{laid_then}
use Rattle.text.specs.Written.{hex_of}
use borrow.Author.Rules.{rules}
use Rattle.text.proofs.put_byte.Goals as goal

pub returns : goal.returns
unfolding hex_of
returns c =
    let f = laid_then (c.glyph-high.result ∷ []) (c.glyph-low.result ∷ []) c.put-next.ensures c.put.ensures in
    record { laid_at = rw (← c.glyph-high.ensures, ← c.glyph-low.ensures) f; value = search rules }
