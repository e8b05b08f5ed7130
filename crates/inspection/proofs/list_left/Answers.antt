-- The loop's invariant: what the packets that are left make of the list so far, all make of the empty one.
use mathlib.Core.Path.{◌≡◌, sym, ap, ◌∙◌}
use Prim.Native.Nat.{ℕ, ◌+◌, ◌-◌}
use native.Mathlib.Omega.{arith}
use Rattle.simulator.specs.Whole.{list_of, packets_of, packet_at}
use Rattle.terminal.specs.Left.{heard_all}
use Rattle.terminal.specs.declared.Left.{Left}
use Rattle.inspection.proofs.Lists.{heard_on, heard_end}
use borrow.Author.Rules.{rules}
use Rattle.inspection.proofs.list_left.Goals as goal

pub loop-k-init : goal.loop-k-init
loop-k-init c =
    let a = c.args in
    let packet = packet_at (packets_of a.sizes.now a.packets.now a.count) in
    let z : a.count - 0 ≡ a.count = omega arith in (
      search rules,
      ap (λ (n : ℕ). heard_all a.taken.0 c.fresh-left.result (list_of packet 0 n)) z
          ∙ ap (λ (x : Left). heard_all a.taken.0 x (list_of packet 0 a.count)) c.fresh-left.ensures,
    )

pub loop-k-preserved : goal.loop-k-preserved
unfolding packet_at
loop-k-preserved c =
    let l = c.loop-k in
    let a = c.args in
    let p = packets_of a.sizes.now a.packets.now a.count in
    let rest = list_of (packet_at p) (l.k + 1) (a.count - (l.k + 1)) in (
      search rules,
      ap (λ (x : Left). heard_all a.taken.0 x rest) c.hear-left.ensures ∙ sym (heard_on a.taken.0 l.left p a.count l.k c.loop-k-test.true) ∙ l.invariant.1,
    )

pub returns : goal.returns
returns c =
    let l = c.loop-k in
    let a = c.args in
    let p = packets_of a.sizes.now a.packets.now a.count in
    let t = c.loop-k-test.false in
    ap (λ (x : Left). x.jobs) (sym (heard_end a.taken.0 l.left p a.count l.k (omega arith)) ∙ l.invariant.1)
