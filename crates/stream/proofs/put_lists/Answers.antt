-- The loop's invariant: the sink took the lists of the terminals passed.
use mathlib.Core.Path.{◌≡◌, sym, ap}
use mathlib.Core.List.{List}
use lib.ListN.{length}
use native.Mathlib.Omega.{arith}
use Rattle.descriptor.proofs.Laws.{takes_none, takes_both, takes_as}
use Rattle.inspection.proofs.Lists.{lists_on, no_lists_yet}
use Rattle.inspection.specs.Lists.{job_lines, list_lines, list_on}
use Rattle.jobs.specs.declared.Job.{Job}
use Rattle.simulator.specs.Whole.{packets_of, packets_in}
use borrow.Author.Rules.{rules}
use Rattle.stream.proofs.put_lists.Goals as goal

pub loop-i-init : goal.loop-i-init
loop-i-init g c = let a = c.args in (search rules, takes_as (sym (no_lists_yet (list_on a.numbers.now (packets_in (packets_of a.sizes.now a.packets.now a.count))))) (takes_none a.sink))

pub loop-i-preserved : goal.loop-i-preserved
loop-i-preserved g c =
    let l = c.loop-i in
    let a = c.args in
    let f = takes_as (ap (λ (jobs : List Job). job_lines l.i jobs (length jobs)) c.list_left-jobs.ensures) c.put_jobs-sink.ensures in
    (search rules, takes_as (sym (lists_on (list_on a.numbers.now (packets_in (packets_of a.sizes.now a.packets.now a.count))) l.i)) (takes_both l.invariant.1 f))

pub returns : goal.returns
returns g c =
    let l = c.loop-i in
    let a = c.args in
    let t = c.loop-i-test.false in
    let e : l.i ≡ a.n = omega arith in
    takes_as (ap (list_lines (list_on a.numbers.now (packets_in (packets_of a.sizes.now a.packets.now a.count)))) e) l.invariant.1
