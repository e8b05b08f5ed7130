-- A message is fed where the answer is Took, and nothing else is.
use Rattle.std.proofs.Common.{refl, ap, Some}
use Rattle.member.specs.Order.{took_by}
use Rattle.terminal.specs.Take.{feeding_of, fed_by, answered_by}
use Rattle.terminal.specs.Wording.{fed_wording}
use Rattle.terminal.proofs.Telling.{not_took}
use Rattle.terminal.proofs.feed.Goals as goal

pub returns-in_default : goal.returns-in_default
unfolding feeding_of fed_by answered_by
returns-in_default c = rw (not_took c.args.answer c.args.bytes.now c.in_default.not-Took) (record { answer = refl; wording = refl })

pub returns : goal.returns
unfolding feeding_of fed_by answered_by took_by
returns c =
    let f = c.feed.ensures in
    rw c.in-Took.is (record { answer = λ i. record { jobs = f.lent i; fed = Some (f.answer i) }; wording = ap (λ r. fed_wording (Some r)) f.answer })
