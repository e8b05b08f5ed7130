-- Each question is one of the definition's, and what they say is what it says.
use Rattle.sequencer.specs.Steps.{sorted_by, decision_of}
use Rattle.sequencer.proofs.Deciding.{unread, not_asked, sorted}
use mathlib.Core.Path.{sym, ◌∙◌}
use native.Mathlib.Omega.{arith}
use Rattle.big_endian.specs.Laws.{Bytes}
use Rattle.packet.proofs.Verdicts.{read_named}
use Rattle.history.specs.View.{counts_only}
use borrow.Author.Rules.{rules}
use Rattle.sequencer.proofs.decide.Goals as goal

pub of-content-requires : goal.of-content-requires
unfolding Bytes
of-content-requires c = read_named c.args.packet.now (λ i h. let z = c.type_inv.packet i in omega (arith, z)) _ (sym c.read.ensures.answer ∙ c.in_ok-header.was)

pub returns-in_err-header : goal.returns-in_err-header
returns-in_err-header c = let a = c.args in let z = unread a.head.group (counts_only a.counts.now) a.head.accepted a.head.top a.packet.now _ c.read.ensures.answer _ c.in_err-header.was in search rules

pub returns-in_err-ask_packet : goal.returns-in_err-ask_packet
unfolding decision_of
returns-in_err-ask_packet c = let z = not_asked _ _ _ _ _ _ c.read.ensures.answer _ c.in_ok-header.was _ c.of-content.ensures _ c.ask_packet.ensures _ c.in_err-ask_packet.was in search rules

pub returns-in-Some : goal.returns-in-Some
unfolding sorted_by
returns-in-Some c = sorted _ _ _ _ _ _ c.read.ensures.answer _ c.in_ok-header.was _ c.of-content.ensures _ c.ask_packet.ensures c.in_ok-ask_packet.was _ c.confirmed_by.ensures _ c.in-Some.is

pub returns-in-None : goal.returns-in-None
unfolding sorted_by
returns-in-None c = sorted _ _ _ _ _ _ c.read.ensures.answer _ c.in_ok-header.was _ c.of-content.ensures _ c.ask_packet.ensures c.in_ok-ask_packet.was _ c.confirmed_by.ensures _ c.in-None.is
