-- The verdict decides: the message is kept, or nothing changes.
use mathlib.Core.Path.{sym, ◌∙◌}
use Rattle.journal.specs.Write.{message_with}
use Rattle.journal.proofs.Keeping.{done_says, write_accepted, write_refused}
use Rattle.journal.proofs.Records.{may}
use Rattle.journal.proofs.Sound.{sound_says, accepted_says}
use borrow.Author.Rules.{rules}
use Rattle.journal.proofs.Writer.write.Goals as goal

pub keep-requires : goal.keep-requires
keep-requires c =
    let a = c.args in
    let (s, m, _) = accepted_says a.self (message_with a.number a.originator a.count a.payload.now) (sym c.ask-verdict.ensures ∙ c.in-Ok.is) in
    let sound = sound_says a.self s in
    let low = sound.begins in
    let high = sound.ends in
    let fits = sound.fits in
    let size = (may (message_with a.number a.originator a.count a.payload.now) m).size in
    search rules

pub returns-in-Ok : goal.returns-in-Ok
returns-in-Ok c =
    let a = c.args in
    let m = message_with a.number a.originator a.count a.payload.now in
    let both = done_says (write_accepted a.self m a.hand.now (sym c.ask-verdict.ensures ∙ c.in-Ok.is) c.keep.ensures) in
    record { answer = both.0; hand = both.1.0; lent = both.1.1.0; wording = both.1.1.1 }

pub returns-in-Err : goal.returns-in-Err
returns-in-Err c =
    let a = c.args in
    let m = message_with a.number a.originator a.count a.payload.now in
    let both = done_says (write_refused a.self m a.hand.now a.out.now _ (sym c.ask-verdict.ensures ∙ c.in-Err.is)) in
    record { answer = both.0; hand = both.1.0; lent = both.1.1.0; wording = both.1.1.1 }
