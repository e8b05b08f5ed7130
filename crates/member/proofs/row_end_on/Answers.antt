-- The scan of the counts finds the end of the view's row.
use Rattle.store.specs.Places.{messages_in}
use Rattle.window.proofs.Places.{counted_in_lem}
use Rattle.member.specs.Steps.{member_of}
use Rattle.member.specs.View.{view_of}
use Rattle.member.proofs.Acknowledged.{end_counted}
use borrow.Author.Rules.{rules}
use Rattle.member.proofs.row_end_on.Goals as goal

pub returns : goal.returns
unfolding view_of
returns c =
    let a = c.args in
    let queue = messages_in a.queued.now a.queued_originators.now a.queued_lengths.now a.queued_payloads.now in
    let held = messages_in a.held.now a.held_originators.now a.held_lengths.now a.held_payloads.now in
    end_counted (member_of a.head queue held) a.held.now (counted_in_lem a.held.now a.held_originators.now a.held_lengths.now a.held_payloads.now) _ (search rules) c.row_end.ensures
