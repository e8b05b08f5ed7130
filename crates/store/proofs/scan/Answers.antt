-- What is left is under the mask all of it at first, a pair less each turn, and nothing at the end.
use mathlib.Core.Path.{ap, ◌∙◌}
use mathlib.Core.Logic.{⊎_map}
use native.Mathlib.Omega.{arith}
use Rattle.store.proofs.Scanning.{under_next, under_end, under_mask}
use Rattle.store.proofs.scan.Goals as goal

pub loop-byte-init : goal.loop-byte-init
loop-byte-init c =
    let z = c.zip-byte-items.ensures in
    rw c.into_iter-byte-iterator.ensures.into_iter_gives
    (under_mask c.args.block.now c.args.mask.now _ _ c.args.from (λ i. let z = c.type_inv.block i in omega (arith, z)) c.requires (ap (λ i. i.rest.now) z.first ∙ c.iter.ensures.rest) z.second.0)

pub loop-byte-preserved : goal.loop-byte-preserved
loop-byte-preserved c =
    let l = c.loop-byte in
    let h = c.in-Some.ensures.steps in
    under_next l.seen c.in-Some.byte.now c.in-Some.bits.now _ _ _ _ h.0 h.1 ∙ l.invariant

pub returns : goal.returns
returns c =
    let l = c.loop-byte in
    under_end l.seen _ _ (⊎_map (λ a. a.1.0) (λ b. b.1.0) c.in-None.ensures.steps) ∙ l.invariant
