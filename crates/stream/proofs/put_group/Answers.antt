-- The heading, and the lists, which are those of every such group.
use Rattle.descriptor.proofs.Laws.{takes_both, takes_as}
use Rattle.inspection.proofs.Lists.{lists_of}
use Rattle.inspection.specs.Lists.{job_columns}
use Rattle.simulator.specs.Whole.{packets_of, packets_in}
use Rattle.text.specs.Written.{spaced, line}
use borrow.Author.Rules.{rules}
use Rattle.stream.proofs.put_group.Goals as goal

pub put_lists-requires : goal.put_lists-requires
put_lists-requires g c = (c.requires.members, c.requires.packets, search rules)

pub returns : goal.returns
unfolding spaced
returns g c =
    let a = c.args in
    λ g s. takes_both {a = line job_columns} c.write-next.ensures (takes_as (lists_of a.head a.numbers.now (packets_in (packets_of a.sizes.now a.packets.now a.head.count)) g s) c.put_lists.ensures)
