-- A sound writer hands out what it has in hand.
use mathlib.Core.Path.{sym, ◌∙◌}
use Rattle.journal.proofs.Keeping.{closed_says, closed_none, closed_block, closed_refused}
use Rattle.journal.proofs.Sound.{sound_says}
use borrow.Author.Rules.{rules}
use Rattle.journal.proofs.Writer.finish.Goals as goal

pub returns-then-self-eq0 : goal.returns-then-self-eq0
returns-then-self-eq0 c =
    let a = c.args in
    let both = closed_says (closed_none a.self a.hand.now a.out.now _ (sym c.sound.ensures ∙ c.if-not-sound.false) c.if-self-eq0.true c.after-writer.ensures) in
    record { answer = both.0; lent = both.1.0; wording = both.1.1 }

pub hand_out-requires : goal.hand_out-requires
hand_out-requires c =
    let sound = sound_says c.args.self (sym c.sound.ensures ∙ c.if-not-sound.false) in
    let low = sound.begins in
    let high = sound.ends in
    let fits = sound.fits in
    search rules

pub returns : goal.returns
returns c =
    let a = c.args in
    let s = sym c.sound.ensures ∙ c.if-not-sound.false in
    let sound = sound_says a.self s in
    let both = closed_says
    (closed_block a.self a.hand.now a.out.now _ s c.if-self-eq0.false c.after-writer.ensures (search rules) (search rules) sound.begins sound.ends
    c.hand_out.ensures) in
    record { answer = both.0; lent = both.1.0; wording = both.1.1 }

pub returns-then-not-sound : goal.returns-then-not-sound
returns-then-not-sound c =
    let a = c.args in
    let both = closed_says (closed_refused a.self a.hand.now a.out.now (sym c.sound.ensures ∙ c.if-not-sound.true)) in
    record { answer = both.0; lent = both.1.0; wording = both.1.1 }
