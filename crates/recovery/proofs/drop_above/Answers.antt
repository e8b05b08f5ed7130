-- The loop's invariant: of the first `k` numbers above the last taken those above the number are dropped.
use mathlib.Core.Path.{◌≡◌, sym, ◌∙◌}
use native.Mathlib.Omega.{arith}
use Rattle.group.specs.Limits.{held_most}
use Rattle.recovery.proofs.Turning.{drop_on, drop_off, drop_begun}
use Rattle.recovery.proofs.drop_above.Goals as goal

pub loop-k-init : goal.loop-k-init
loop-k-init c = (c.requires, drop_begun _ _ _)

pub loop-k-preserved : goal.loop-k-preserved
loop-k-preserved c = let l = c.loop-k in let h = l.invariant.0 in (record { held_size = c.held-1.given ∙ h.held_size; originators_size = c.held_originators-1.given ∙ h.originators_size; lengths_size = c.held_lengths-1.given ∙ h.lengths_size; payloads_size = c.held_payloads-1.given ∙ h.payloads_size }, drop_on _ _ _ l.k l.invariant.1 _ (omega arith) c.place-at.ensures c.clear.ensures)

pub loop-k-preserved-then-taken-k : goal.loop-k-preserved-then-taken-k
loop-k-preserved-then-taken-k c = let l = c.loop-k in (l.invariant.0, drop_off _ _ _ l.k l.invariant.1 (omega arith))

pub shape_of-held : goal.shape_of-held
shape_of-held c = c.loop-k.invariant.0.held_size ∙ sym c.requires.held_size

pub shape_of-held_originators : goal.shape_of-held_originators
shape_of-held_originators c = c.loop-k.invariant.0.originators_size ∙ sym c.requires.originators_size

pub shape_of-held_lengths : goal.shape_of-held_lengths
shape_of-held_lengths c = c.loop-k.invariant.0.lengths_size ∙ sym c.requires.lengths_size

pub shape_of-held_payloads : goal.shape_of-held_payloads
shape_of-held_payloads c = c.loop-k.invariant.0.payloads_size ∙ sym c.requires.payloads_size

pub returns : goal.returns
returns c = let l = c.loop-k in let z : l.k ≡ held_most = omega arith in rw z at l.invariant.1
