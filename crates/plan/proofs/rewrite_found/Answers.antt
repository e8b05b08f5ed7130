-- Too many units, or the blocks of the records of the rows in order are those of the messages that are kept.
use Rattle.std.proofs.lemmas.Result.{err_from_is_err_and}
use Rattle.plan.specs.Calls.{rewrite_of}
use Rattle.plan.proofs.Planning.{few_used, found_within, asked_many}
use Rattle.plan.proofs.Latest.{rewrite_apart, rewrite_spotted, rewrite_laid}
use Rattle.plan.proofs.rewrite_found.Goals as goal

pub gather-requires-clause-within : goal.gather-requires-clause-within
gather-requires-clause-within c = found_within c.args.journal.now _ _ c.requires

pub returns-in_err-gather : goal.returns-in_err-gather
unfolding rewrite_of
returns-in_err-gather c =
    let p = err_from_is_err_and c.from_residual.result c.from_residual.ensures.1 in
    rw (p.1, p.2) (asked_many c.args.journal.now _ _ c.requires _ _ c.in_err-gather.ensures _ _ _)

pub sort_by_start-requires : goal.sort_by_start-requires
sort_by_start-requires c = rewrite_apart c.args.journal.now _ _ c.requires _ _ c.in_ok-gather.ensures (few_used c.gather.new.self.rows c.gather.new.self.count c.gather.new.self.few)

pub lay_blocks-requires : goal.lay_blocks-requires
lay_blocks-requires c =
    rw c.used.ensures (rewrite_spotted c.args.journal.now _ _ c.requires _ _ c.in_ok-gather.ensures (few_used c.gather.new.self.rows c.gather.new.self.count c.gather.new.self.few) _ c.sort_by_start.ensures)

pub returns : goal.returns
returns c =
    rewrite_laid c.args.journal.now _ _ c.requires _ _ c.in_ok-gather.ensures (few_used c.gather.new.self.rows c.gather.new.self.count c.gather.new.self.few) _ c.sort_by_start.ensures _ _ _ _ (rw c.used.ensures at c.lay_blocks.ensures)
