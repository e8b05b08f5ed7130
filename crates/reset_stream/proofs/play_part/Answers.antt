-- What the rest of the part prints goes behind what the sink took.
use mathlib.Core.Path.{refl}
use Prim.Native.Nat.{◌+◌, ◌-◌, ◌≤◌, ◌<◌}
use native.Mathlib.Omega.{arith}
use lib.ListN.{length, drop_of_length-le}
use Rattle.descriptor.proofs.Laws.{takes_both, takes_as}
use Rattle.player.proofs.Parts.{continues_fed}
use Rattle.reset_player.proofs.Laws.{reads_within}
use Rattle.reset_player.specs.Player.{state_of}
use Rattle.reset_output.specs.Recover.{recover_program}
use Rattle.reset_simulator.specs.Whole.{whole_of}
use Rattle.stream.proofs.Turning.{puts_none}
use Rattle.reset_stream.proofs.Laws.{text_told}
use borrow.Author.Rules.{rules}
use Rattle.reset_stream.proofs.play_part.Goals as goal

pub loop-from-init : goal.loop-from-init
loop-from-init g c = let a = c.args in (search rules, puts_none (state_of a.player (whole_of a.player.world a.small.now a.masks.now a.numbers.now a.queued.now a.held.now a.queued_originators.now a.queued_lengths.now a.held_originators.now a.held_lengths.now a.queued_payloads.now a.held_payloads.now a.past.now a.past_originators.now a.past_lengths.now a.past_payloads.now a.highest.now a.replies.now a.taken.now a.counts.now a.repeats.now a.kept.now a.marks.now a.originators.now a.lengths.now a.payloads.now a.sizes.now a.packets.now) a.line.now) a.part.now a.sink)

pub overflow_add-from : goal.overflow_add-from
overflow_add-from g c =
    let a = c.args in
    let part = a.part.now in
    let l = c.loop-from in
    let r = c.feed-fed.result in
    let d = c.feed-fed.ensures in
    let w = reads_within _ part _ l.from _ refl c.loop-from-test.true d.used in
    let y : l.from + r.used ≤ length part = w.1 in
    let g = c.well_formed.1.1.1.1.1.1.1.1.1.1.1.1.1.1.1.1.1.1.1.1.1.1.1.1.1.1.1.1.1.0 in
    let z : l.from + r.used < 18446744073709551616 = omega arith in
    record { fits = z }

pub loop-from-smaller : goal.loop-from-smaller
loop-from-smaller g c =
    let a = c.args in
    let part = a.part.now in
    let l = c.loop-from in
    let r = c.feed-fed.result in
    let d = c.feed-fed.ensures in
    let w = reads_within _ part _ l.from _ refl c.loop-from-test.true d.used in
    let y : l.from + r.used ≤ length part = w.1 in
    let z : 1 ≤ r.used = w.0 in
    search rules

pub loop-from-preserved : goal.loop-from-preserved
loop-from-preserved g c =
    let a = c.args in
    let part = a.part.now in
    let l = c.loop-from in
    let r = c.feed-fed.result in
    let d = c.feed-fed.ensures in
    let w = reads_within _ part _ l.from _ refl c.loop-from-test.true d.used in
    let y : l.from + r.used ≤ length part = w.1 in
    let k = l.invariant.1 in (
      y,
      record {
        printed = _;
        takes = takes_both k.takes (takes_as (text_told d) c.put_text-sink.ensures);
        continues = continues_fed recover_program _ _ _ part k.printed _ l.from _ refl d.used d.state k.continues;
      },
    )

pub returns : goal.returns
returns g c =
    let l = c.loop-from in
    rw (drop_of_length-le c.args.part.now {i = l.from} c.loop-from-test.false) at l.invariant.1
