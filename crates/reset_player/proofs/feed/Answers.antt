-- A line feed stands in the part, or none.
use mathlib.Core.Path.{refl, sym}
use Prim.Native.Nat.{zero-le}
use native.Mathlib.Omega.{arith}
use lib.Seq.{length-take-le}
use Rattle.reset_simulator.specs.Whole.{whole_of}
use Rattle.text.proofs.Split.{found_from}
use Rattle.text.specs.Text.{line_feed}
use Rattle.reset_player.specs.Player.{state_of}
use Rattle.reset_player.proofs.Opening.{feeds_line, feeds_none}
use borrow.Author.Rules.{rules}
use Rattle.reset_player.proofs.feed.Goals as goal

pub slice_bounds-keep-end-in-Some : goal.slice_bounds-keep-end-in-Some
slice_bounds-keep-end-in-Some c = let h = (found_from line_feed c.args.part.now 0 _ zero-le (sym c.in-Some.ensures)).1 in sym (length-take-le _ c.args.part.now (omega arith))

pub overflow_add-e : goal.overflow_add-e
overflow_add-e c = let h = (found_from line_feed c.args.part.now 0 _ zero-le (sym c.in-Some.ensures)).1 in let g = c.well_formed.1.1.1.1.1.1.1.1.1.1.1.1.1.1.1.1.1.1.1.1.1.1.1.1.1.1.1.1.1.0 in search rules

pub play_line-requires : goal.play_line-requires
play_line-requires c = let k = c.keep-size.ensures.most in search rules

pub returns-in-Some : goal.returns-in-Some
returns-in-Some c =
    let a = c.args in
    let w = (whole_of a.player.world a.small.now a.masks.now a.numbers.now a.queued.now a.held.now a.queued_originators.now a.queued_lengths.now a.held_originators.now a.held_lengths.now a.queued_payloads.now a.held_payloads.now a.past.now a.past_originators.now a.past_lengths.now a.past_payloads.now a.highest.now a.replies.now a.taken.now a.counts.now a.repeats.now a.kept.now a.marks.now a.originators.now a.lengths.now a.payloads.now a.sizes.now a.packets.now) in
    feeds_line (state_of a.player w a.line.now) _ _ _ _ _ a.part.now _ _ (sym c.in-Some.ensures) c.keep-size.ensures.kept (c.play_line.ensures _)

pub returns-in-None : goal.returns-in-None
returns-in-None c =
    let a = c.args in
    let w = (whole_of a.player.world a.small.now a.masks.now a.numbers.now a.queued.now a.held.now a.queued_originators.now a.queued_lengths.now a.held_originators.now a.held_lengths.now a.queued_payloads.now a.held_payloads.now a.past.now a.past_originators.now a.past_lengths.now a.past_payloads.now a.highest.now a.replies.now a.taken.now a.counts.now a.repeats.now a.kept.now a.marks.now a.originators.now a.lengths.now a.payloads.now a.sizes.now a.packets.now) in
    let s = state_of a.player w a.line.now in
    feeds_none s _ _ _ _ _ a.part.now (sym c.in-None.ensures)
    (record { state = λ i. record { stage = s.stage; line = c.keep-size-in-None.ensures.kept i }; used = refl; written = refl; output = refl })
