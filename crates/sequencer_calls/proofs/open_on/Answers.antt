-- Opening goes by what opening the group answers.
use mathlib.Core.Path.{refl, sym, ◌∙◌}
use Rattle.sequencer.specs.Calls.{opened_of, fresh_of}
use Rattle.sequencer.proofs.View.{fresh_view}
use Rattle.sequencer_calls.proofs.open_on.Goals as goal

pub returns-in-Ok : goal.returns-in-Ok
unfolding fresh_of opened_of
returns-in-Ok c = let e = sym c.fresh.ensures.answer ∙ c.in-Ok.is in rw (e, c.fresh_head.ensures) (record { answer = refl; state = fresh_view _; wording = refl })

pub returns-in-Err : goal.returns-in-Err
unfolding fresh_of opened_of
returns-in-Err c = let e = sym c.fresh.ensures.answer ∙ c.in-Err.is in rw (e, c.fresh_head-in-Err.ensures) (record { answer = refl; state = fresh_view _; wording = refl })
