-- The loop's invariant: the bytes laid, then those of the rest, are those of the whole, and the rest keeps its value.
use Prim.Native.Nat.{◌+◌, ◌*◌}
use Rattle.text.proofs.Digits.{digit_at, pairs_laid, pairs_rest, pairs_done}
use borrow.Author.Rules.{rules}
use Rattle.text.proofs.lay_pairs.Goals as goal

pub pair-requires : goal.pair-requires
pair-requires c =
    let a = c.args in
    let i = c.loop-i.i in
    (digit_at 16 (2 * i) a.field.now 0 c.requires.field_value (search rules), digit_at 16 (2 * i + 1) a.field.now 0 c.requires.field_value (search rules))

pub loop-i-preserved : goal.loop-i-preserved
loop-i-preserved c =
    let l = c.loop-i in
    let a = c.args in (
      pairs_laid a.field.now a.payload.now l.payload l.i l.invariant.0 l.invariant.1 (search rules) c.pair.result (search rules) c.pair.ensures,
      pairs_rest a.field.now a.payload.now l.payload l.i l.invariant.0 l.invariant.1 (search rules) c.pair.result,
    )

pub returns : goal.returns
returns c =
    let l = c.loop-i in
    let a = c.args in
    pairs_done a.field.now a.payload.now l.payload l.i (search rules) l.invariant.0 l.invariant.1
