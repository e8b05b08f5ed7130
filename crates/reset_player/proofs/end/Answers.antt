-- A line is kept, or none.
use mathlib.Core.Path.{◌≡◌, refl, sym, ap, ◌∙◌}
use Prim.Native.Nat.{ℕ}
use native.Mathlib.Omega.{arith}
use lib.ListN.{length, take}
use lib.Seq.{length-take-le}
use Rattle.player.proofs.Keeping.{min_fits, min_zero, whole_min}
use Rattle.player.specs.Parts.{kept_most}
use Rattle.reset_simulator.specs.Whole.{whole_of}
use Rattle.reset_player.specs.Player.{state_of}
use Rattle.reset_player.proofs.Opening.{ends_none, ends_told}
use borrow.Author.Rules.{rules}
use Rattle.reset_player.proofs.end.Goals as goal

pub returns-then-size-eq0 : goal.returns-then-size-eq0
returns-then-size-eq0 c =
    let a = c.args in
    let w = (whole_of a.player.world a.small.now a.masks.now a.numbers.now a.queued.now a.held.now a.queued_originators.now a.queued_lengths.now a.held_originators.now a.held_lengths.now a.queued_payloads.now a.held_payloads.now a.past.now a.past_originators.now a.past_lengths.now a.past_payloads.now a.highest.now a.replies.now a.taken.now a.counts.now a.repeats.now a.kept.now a.marks.now a.originators.now a.lengths.now a.payloads.now a.sizes.now a.packets.now) in
    ends_none (state_of a.player w a.line.now) _ _ _ _ _ (ap (λ (k : ℕ). length (take k a.line.now)) (min_zero a.player.length kept_most _ (omega arith) c.min-size.ensures c.if-size-eq0.true))
    (record { state = refl; used = refl; written = refl; output = refl })

pub play_line-requires : goal.play_line-requires
play_line-requires c = let k = (min_fits c.args.player.length kept_most _ c.min-size.ensures).1 in search rules

pub returns : goal.returns
returns c =
    let a = c.args in
    let w = (whole_of a.player.world a.small.now a.masks.now a.numbers.now a.queued.now a.held.now a.queued_originators.now a.queued_lengths.now a.held_originators.now a.held_lengths.now a.queued_payloads.now a.held_payloads.now a.past.now a.past_originators.now a.past_lengths.now a.past_payloads.now a.highest.now a.replies.now a.taken.now a.counts.now a.repeats.now a.kept.now a.marks.now a.originators.now a.lengths.now a.payloads.now a.sizes.now a.packets.now) in
    let line = a.line.now in
    let n : length line ≡ kept_most = search rules in
    let size = c.min-size.result in
    let e : take size line ≡ take a.player.length line = ap (λ (k : ℕ). take k line) c.min-size.ensures ∙ whole_min line a.player.length kept_most n in
    let k = (min_fits a.player.length kept_most size c.min-size.ensures).1 in
    let l = length-take-le size line (omega arith) in
    ends_told (state_of a.player w line) _ _ _ _ _ (λ z. c.if-size-eq0.false (sym l ∙ ap length e ∙ z)) (rw e at (c.play_line.ensures line))
