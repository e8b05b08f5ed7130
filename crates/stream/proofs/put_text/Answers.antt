-- A size past the end of the text takes it whole.
use Rattle.std.proofs.Common.{◌≡◌, ◌∙◌, sym, ap, List, ℕ, min, length, take, arith}
use lib.Seq.{take_all}
use Rattle.descriptor.proofs.Laws.{takes_as}
use Rattle.group.proofs.Lists.{le_or}
use Rattle.stream.proofs.put_text.Goals as goal

cut : (size : ℕ) (text : List ℕ) (n : ℕ) → n ≡ min size (length text) → take n text ≡ take size text
cut size text n e =
    le_or (length text) size (λ h. take_all n text (omega (arith, e, h)) ∙ sym (take_all size text h)) (λ h. ap (λ (k : ℕ). take k text) (omega (arith, e, h)))

pub returns : goal.returns
returns g c = takes_as (cut c.args.size c.args.text.now c.min.result c.min.ensures) c.write.ensures
