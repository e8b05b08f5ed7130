-- What the rest of the input prints goes behind what is shown.
use mathlib.Core.Path.{◌≡◌}
use mathlib.Core.List.{List}
use Prim.Native.Nat.{ℕ, ◌-◌, ◌≤◌}
use lib.ListN.{length, drop}
use Rattle.player.specs.Feed.{start}
use Rattle.player.specs.Laws.{Continues}
use Rattle.player.specs.Play.{play_program}
use Rattle.player.specs.Player.{state_of}
use Rattle.simulator.specs.Whole.{whole_of}
use Rattle.playback.specs.Shown.{Shows}
use Rattle.playback.proofs.play.Given as goal

abbrev pub invariant-loop-from : goal.invariant-loop-from
invariant-loop-from l =
    (l.from ≤ length l.input) × (l.at ≤ length l.out) × (length l.out ≡ length l.initial.out)
    × ((printed : List ℕ) × Shows printed l.initial.out l.out l.at × Continues play_program start l.input printed (state_of l.player (whole_of l.player.head l.taken l.counts l.repeats l.kept l.marks l.originators l.lengths l.payloads l.numbers l.queued l.held l.queued_originators l.queued_lengths l.held_originators l.held_lengths l.queued_payloads l.held_payloads l.sizes l.packets) l.line) (drop l.from l.input))

abbrev pub decreases-loop-from : goal.decreases-loop-from
decreases-loop-from l = length l.input - l.from
