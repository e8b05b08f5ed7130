-- The loop's invariant: the sink took the lines of the terminals passed.
use mathlib.Core.Path.{◌≡◌, sym, ap}
use Prim.Native.Nat.{ℕ, ◌-◌}
use native.Mathlib.Omega.{arith}
use Rattle.descriptor.proofs.Laws.{takes_none, takes_both, takes_as}
use Rattle.reset_output.specs.Recover.{terminals_told}
use Rattle.reset_simulator.specs.Whole.{terminals_of, terminal_at}
use Rattle.simulator.specs.Whole.{list_of}
use Rattle.reset_stream.proofs.Laws.{laid_text, told_on, told_none}
use borrow.Author.Rules.{rules}
use Rattle.reset_stream.proofs.put_terminals.Goals as goal

pub loop-i-init : goal.loop-i-init
loop-i-init g c = let a = c.args in (search rules, λ rows. takes_as (sym (told_none (terminal_at (terminals_of a.small.now a.masks.now a.numbers.now rows)))) (takes_none a.sink))

pub last_member-size-requires : goal.last_member-size-requires
last_member-size-requires g c = let t = c.loop-i-test.true in let p = c.requires in omega arith

pub last_sequencer-size-requires : goal.last_sequencer-size-requires
last_sequencer-size-requires g c = let t = c.loop-i-test.true in let p = c.requires in omega arith

pub loop-i-preserved : goal.loop-i-preserved
loop-i-preserved g c =
    let l = c.loop-i in
    let a = c.args in (
      search rules,
      λ rows.
          let f = (terminal_at (terminals_of a.small.now a.masks.now a.numbers.now rows)) in
          let first = takes_as (laid_text (c.last_member-size.ensures rows)) c.put_text-next.ensures in
          let second = takes_as (laid_text (c.last_sequencer-size.ensures rows)) c.put_text-sink.ensures in
          takes_as (told_on f l.i) (takes_both (l.invariant.1 rows) (takes_both first second)),
    )

pub returns : goal.returns
returns g c =
    let l = c.loop-i in
    let a = c.args in
    let t = c.loop-i-test.false in
    let b = l.invariant.0 in
    let e : l.i ≡ a.n = omega arith in
    λ rows. takes_as (ap (λ (k : ℕ). terminals_told 0 (list_of (terminal_at (terminals_of a.small.now a.masks.now a.numbers.now rows)) 0 k)) e) (l.invariant.1 rows)
