-- The loop's invariant: what the journal gives is what was found and what the rest gives behind it.
use mathlib.Core.Path.{◌≡◌, refl, sym, ap, ◌∙◌}
use Prim.Native.Nat.{ℕ}
use native.Mathlib.Nat.{add-sub_cancel_left}
use native.Mathlib.Omega.{arith}
use Rattle.journal.specs.declared.Found.{Found}
use Rattle.journal.proofs.Walking.{blocks_start, blocks_on, blocks_off, blocks_done}
use borrow.Author.Rules.{rules}
use Rattle.journal.proofs.read_blocks.Goals as goal

as_found : (f : Found) {k : ℕ} {whole : Found} → f.blocks ≡ k → record { blocks = k; messages = f.messages; tail = f.tail } ≡ whole → f ≡ whole
as_found f e g = ap (λ (k : ℕ). record { blocks = k; messages = f.messages; tail = f.tail }) e ∙ g

pub loop-i-init : goal.loop-i-init
loop-i-init c = (refl, omega arith, blocks_start _ _ c.fresh.ensures)

pub overflow_add-found-in-loop-i : goal.overflow_add-found-in-loop-i
overflow_add-found-in-loop-i c =
    let l = c.loop-i in
    let e = rw add-sub_cancel_left at c.in-Some.ensures.answer in
    let (_, most) = blocks_on c.args.journal.now l.found.tail l.i l.found.messages _ _ l.invariant.2 c.loop-i-test.true _ (sym e) in
    search rules

pub loop-i-preserved : goal.loop-i-preserved
loop-i-preserved c =
    let l = c.loop-i in
    let e = rw add-sub_cancel_left at c.in-Some.ensures.answer in
    let (on, most) = blocks_on c.args.journal.now l.found.tail l.i l.found.messages _ _ l.invariant.2 c.loop-i-test.true _ (sym e) in
    (omega arith, omega arith, on)

pub returns-after-loop-i : goal.returns-after-loop-i
returns-after-loop-i c =
    let l = c.loop-i in
    as_found l.found l.invariant.0 (blocks_done c.args.journal.now l.found.tail l.i l.found.messages _ _ l.invariant.2 c.loop-i-test.false)

pub returns-in_default : goal.returns-in_default
returns-in_default c =
    let l = c.loop-i in
    let e = rw add-sub_cancel_left at c.next.ensures.answer in
    as_found l.found l.invariant.0 (blocks_off c.args.journal.now l.found.tail l.i l.found.messages _ _ l.invariant.2 c.loop-i-test.true (sym e ∙ c.in_default.is))
