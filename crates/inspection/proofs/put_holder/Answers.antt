-- The test is the definition's.
use Rattle.text.specs.Text.{text_of}
use Rattle.text.specs.Written.{decimal_of}
use Rattle.inspection.specs.Lists.{holder_text}
use Rattle.inspection.proofs.Lists.{waiting_text, holder_text_lem, field_as}
use borrow.Author.Rules.{rules}
use Rattle.inspection.proofs.put_holder.Goals as goal

pub returns-then-state-eq-WAITING : goal.returns-then-state-eq-WAITING
returns-then-state-eq-WAITING c =
    let a = c.args in
    record { laid = field_as (text_of "waiting") (holder_text a.state a.member) (waiting_text a.state a.member c.if-state-eq-WAITING.true) c.put_word.ensures.laid; short = search rules }

pub returns : goal.returns
returns c =
    let a = c.args in
    record { laid = field_as (decimal_of a.member.0) (holder_text a.state a.member) (holder_text_lem a.state a.member c.if-state-eq-WAITING.false) c.put_number.ensures.laid; short = search rules }
