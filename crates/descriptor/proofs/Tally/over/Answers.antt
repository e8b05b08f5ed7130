-- The tally of bytes is the fold along them.
use Rattle.std.proofs.Common.{◌≡◌, ◌∙◌, fold, rules, tests}
use Rattle.std.proofs.lemmas.Iterator.{YieldsList-from_slice}
use Rattle.std.proofs.lemmas.Iterator.Consumers.{fold_from_yields_List}
use Rattle.descriptor.specs.Tally.{counted}
use Rattle.descriptor.proofs.Laws.{folded}
use Rattle.descriptor.proofs.Tally.over.Goals as goal

pub returns : goal.returns
returns c =
    let e : c.fold.result ≡ fold counted c.args.self c.args.bytes.now =
    fold_from_yields_List _ counted _ c.fold.result c.fold.ensures.ran (YieldsList-from_slice c.args.bytes.now cc) (λ b x q k. search (rules, tests)) in
    e ∙ folded c.args.self c.args.bytes.now
