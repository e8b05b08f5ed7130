-- A packet that is read as the broadcast of the number that comes next feeds the list what lies behind its header.
use mathlib.Core.Path.{refl, sym, ◌∙◌}
use Rattle.group.proofs.Choice.{when_true, when_false}
use Rattle.packet.proofs.Verdicts.{readable, payload_part}
use Prim.Native.Nat.{◌+◌}
use Rattle.terminal.specs.Left.{is_next, heard_of}
use Rattle.terminal.proofs.Telling.{next_most}
use borrow.Author.Rules.{rules}
use Rattle.terminal.proofs.Left.hear.Goals as goal

pub payload_length-end-requires : goal.payload_length-end-requires
payload_length-end-requires c = (readable _ _ (sym c.read.ensures.answer ∙ c.in-Ok.is)).long

pub overflow_add-end : goal.overflow_add-end
overflow_add-end c = let e = payload_part _ _ (sym c.read.ensures.answer ∙ c.in-Ok.is) in rw (c.payload_length-end.ensures, e.0) (search rules)

pub slice_bounds-feed-end-then-is_next : goal.slice_bounds-feed-end-then-is_next
slice_bounds-feed-end-then-is_next c = let e = payload_part _ _ (sym c.read.ensures.answer ∙ c.in-Ok.is) in rw (c.payload_length-end.ensures, e.0) (search rules)

pub overflow_add-self : goal.overflow_add-self
overflow_add-self c = let z = next_most _ _ _ (sym c.is_next.ensures ∙ c.if-is_next.true) in search rules

pub returns-then-is_next : goal.returns-then-is_next
unfolding heard_of
returns-then-is_next c =
    let a = c.args in
    let e = sym c.read.ensures.answer ∙ c.in-Ok.is in
    let n = sym c.is_next.ensures ∙ c.if-is_next.true in
    let o = rw (c.payload_length-end.ensures, (payload_part _ _ e).1) at c.feed.ensures.lent in
    rw e (when_true (is_next a.taken.0 a.self.next _) _ _ _ n (λ i. record { jobs = o i; next = a.self.next + 1 }))

pub returns-else-is_next : goal.returns-else-is_next
unfolding heard_of
returns-else-is_next c =
    let a = c.args in
    let e = sym c.read.ensures.answer ∙ c.in-Ok.is in
    rw e (when_false (is_next a.taken.0 a.self.next _) _ _ _ (sym c.is_next.ensures ∙ c.if-is_next.false) refl)

pub returns-in_default : goal.returns-in_default
unfolding heard_of
returns-in_default c = rw (sym c.read.ensures.answer ∙ c.in_default.is) refl
