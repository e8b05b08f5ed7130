-- The loop's invariant: the digits of what is left, then those written, are those of the number, and have room.
use mathlib.Core.List.{append-nil}
use native.Mathlib.Omega.{arith}
use Rattle.text.specs.Written.{count_digits}
use Rattle.text.proofs.Decimal.{digits_most, spell_room, spell_fewer, spell_on, spell_done}
use borrow.Author.Rules.{rules}
use Rattle.text.proofs.spell.Goals as goal

pub loop-rest-init : goal.loop-rest-init
loop-rest-init c = (search rules, search rules, digits_most count_digits c.args.n (omega arith), append-nil _)

pub overflow_sub-start : goal.overflow_sub-start
overflow_sub-start c = let l = c.loop-rest in spell_room c.args.n l.rest l.start l.digits l.invariant.2 l.invariant.3 c.loop-rest-test.true

pub loop-rest-preserved : goal.loop-rest-preserved
loop-rest-preserved c =
    let l = c.loop-rest in
    let n = c.args.n in (
      search rules,
      search rules,
      spell_fewer n l.rest l.start l.digits l.invariant.2 l.invariant.3 c.loop-rest-test.true,
      spell_on n l.rest l.start l.digits l.invariant.2 l.invariant.3 c.glyph.result c.loop-rest-test.true (search rules) c.glyph.ensures,
    )

pub returns : goal.returns
returns c =
    let l = c.loop-rest in
    record { digits = spell_done c.args.n l.rest l.start l.digits l.invariant.2 l.invariant.3 (search rules); within = (search rules, search rules) }
