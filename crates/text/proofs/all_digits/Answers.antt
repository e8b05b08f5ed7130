-- The chain asks each character what the definition asks.
use mathlib.Core.Path.{◌∙◌}
use Rattle.std.proofs.Common.{tests}
use Rattle.std.proofs.lemmas.Iterator.{YieldsList-from_slice}
use Rattle.std.proofs.lemmas.Iterator.Search.{all_from_yields_List}
use Rattle.group.specs.Choice.{◌<?◌}
use Rattle.text.specs.Text.{digit_of}
use Rattle.text.proofs.Digits.{all_each}
use borrow.Author.Rules.{rules}
use Rattle.text.proofs.all_digits.Goals as goal

pub returns : goal.returns
returns c =
    let a = c.args in
    all_from_yields_List (λ x. digit_of x <? a.base) _ _ _ c.all.ensures.ran (YieldsList-from_slice a.field.now cc) (λ x b q k. search (rules, tests))
    ∙ all_each (λ x. digit_of x <? a.base) 0 a.field.now
