-- The test is the definition's.
use mathlib.Core.Path.{◌≡◌, sym, refl}
use mathlib.Core.List.{[], ◌∷◌}
use Rattle.group.proofs.Choice.{when_eq, when_ne}
use Rattle.text.specs.Written.{decimal_of}
use Rattle.report.specs.Print.{index_text}
use borrow.Author.Rules.{rules}
use Rattle.report.proofs.put_any.Goals as goal

pub returns-then-size-eq0 : goal.returns-then-size-eq0
unfolding index_text
returns-then-size-eq0 c =
    let a = c.args in
    let e : index_text a.size a.index [] ≡ [] = sym (when_eq a.size 0 [] [] (decimal_of a.index ∷ []) c.if-size-eq0.true refl) in
    record { laid = rw e c.put_word.ensures.laid; short = search rules }

pub returns-else-size-eq0 : goal.returns-else-size-eq0
unfolding index_text
returns-else-size-eq0 c =
    let a = c.args in
    let e : index_text a.size a.index [] ≡ decimal_of a.index ∷ [] = sym (when_ne a.size 0 (decimal_of a.index ∷ []) [] (decimal_of a.index ∷ []) c.if-size-eq0.false refl) in
    record { laid = rw e c.put_indexed.ensures.laid; short = search rules }
