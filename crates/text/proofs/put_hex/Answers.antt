-- The loop's invariant: the digits of the bytes passed are laid.
use mathlib.Core.List.{[], ◌∷◌}
use lib.ListN.{take, get_or}
use Rattle.text.specs.Written.{hex_of}
use Rattle.text.proofs.Pieces.{laid_none, laid_then}
use lib.Seq.{take_all}
use Rattle.text.proofs.Hex.{hex_on}
use borrow.Author.Rules.{rules}
use Rattle.text.proofs.put_hex.Goals as goal

pub loop-byte-init : goal.loop-byte-init
unfolding hex_of
loop-byte-init c = (search rules, laid_none c.args.at c.args.out.now (search rules))

pub loop-byte-preserved : goal.loop-byte-preserved
loop-byte-preserved c =
    let l = c.loop-byte in
    let b = c.args.bytes.now in (
      search rules,
      rw (hex_on b l.byte-index (search rules)) (laid_then (hex_of (take l.byte-index b)) (hex_of (get_or b l.byte-index 0 ∷ [])) l.invariant.1 c.put_byte-next.ensures.laid_at),
    )

pub returns : goal.returns
returns c =
    let l = c.loop-byte in
    record { laid = rw (take_all l.byte-index c.args.bytes.now (search rules)) at l.invariant.1; short = search rules }
