-- The loop's invariant: what was played since its first turn.
use Rattle.stream.proofs.Turning.{turns_none, turns_both}
use Rattle.stream.proofs.play_all.Goals as goal

pub turns-init : goal.turns-init
turns-init g c = turns_none _ _ _

pub turns-preserved : goal.turns-preserved
turns-preserved g c = turns_both c.turns.invariant c.play_some-turn.ensures
