-- All zero, both ends and the rest.
use Rattle.member.proofs.Opening.{fresh_is}
use Rattle.sequencer.proofs.View.{fresh_view}
use Rattle.terminal_opening.proofs.Opened.{closed_seen}
use Rattle.terminal_state.proofs.Terminal.closed.Goals as goal

pub returns : goal.returns
returns c = closed_seen _ _ (fresh_is c.idle-member.ensures) (rw c.fresh_head-sequencer.ensures (fresh_view _)) c.fresh_head-head.ensures
