-- An accepted sender is within the table, and its count there is that of its entry.
use mathlib.Core.Path.{sym, ◌∙◌}
use Rattle.group.proofs.Members.{in_lt}
use Rattle.history.specs.Ask.{request_verdict}
use Rattle.history.proofs.Asking.{sender_was, judged_yes}
use Rattle.history.proofs.View.{count_own}
use borrow.Author.Rules.{rules}
use Rattle.history.proofs.ask_request.Goals as goal

pub bounds-counts-sender : goal.bounds-counts-sender
bounds-counts-sender c = rw c.requires (in_lt c.args.survivors c.args.sender.0 (search rules) (sender_was _ _ _ _ (sym c.ask_sender.ensures ∙ c.in_ok-ask_sender.was)).0)

pub returns : goal.returns
unfolding request_verdict
returns c = rw (count_own c.args.counts.now c.args.sender.0) (c.ask_count.ensures ∙ judged_yes _ _ _ (sym c.ask_sender.ensures ∙ c.in_ok-ask_sender.was))
