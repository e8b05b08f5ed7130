-- Each answer's code and numbers are its wording's.
use mathlib.Core.Path.{sym, ap, ◌∙◌}
use Prim.Native.Nat.{ℕ}
use Rattle.group.specs.Choice.{when◌then◌else◌}
use Rattle.group.specs.Codes.{code_of, word_code, numbers_of, numbers_in, more_of, more_in, flag_of}
use Rattle.ends.specs.Telling.{told_of}
use Rattle.ends.specs.declared.Told.{Told}
use Rattle.sequencer.specs.Wording.{wording_of}
use Rattle.ends.proofs.sequencer_tells.Goals as goal

-- an answer that is a number alone
abbrev plain : ℕ → ℕ → Told
plain k written = record { code = k; first = 0; second = 0; third = 0; more = 0; written = written }

pub returns-in-Refused : goal.returns-in-Refused
unfolding told_of code_of word_code numbers_of numbers_in more_of more_in flag_of when◌then◌else◌ wording_of
returns-in-Refused c = c.word.ensures ∙ ap (λ (k : ℕ). plain k c.args.reply.written) c.number.ensures ∙ ap (λ a. told_of (wording_of a) c.args.reply.written) (sym c.in-Refused.is)

pub returns-in-Old : goal.returns-in-Old
unfolding told_of code_of word_code numbers_of numbers_in more_of more_in flag_of when◌then◌else◌ wording_of
returns-in-Old c = c.word-in-Old.ensures ∙ ap (λ a. told_of (wording_of a) c.args.reply.written) (sym c.in-Old.is)

pub returns-in-Again : goal.returns-in-Again
unfolding told_of code_of word_code numbers_of numbers_in more_of more_in flag_of when◌then◌else◌ wording_of
returns-in-Again c = c.numbered.ensures ∙ ap (λ a. told_of (wording_of a) c.args.reply.written) (sym c.in-Again.is)

pub returns-in-Full : goal.returns-in-Full
unfolding told_of code_of word_code numbers_of numbers_in more_of more_in flag_of when◌then◌else◌ wording_of
returns-in-Full c = c.word-in-Full.ensures ∙ ap (λ a. told_of (wording_of a) c.args.reply.written) (sym c.in-Full.is)

pub returns-in-Numbered : goal.returns-in-Numbered
unfolding told_of code_of word_code numbers_of numbers_in more_of more_in flag_of when◌then◌else◌ wording_of
returns-in-Numbered c = c.numbered-in-Numbered.ensures ∙ ap (λ a. told_of (wording_of a) c.args.reply.written) (sym c.in-Numbered.is)

pub returns-in-Noted : goal.returns-in-Noted
unfolding told_of code_of word_code numbers_of numbers_in more_of more_in flag_of when◌then◌else◌ wording_of
returns-in-Noted c = c.word-in-Noted.ensures ∙ ap (λ a. told_of (wording_of a) c.args.reply.written) (sym c.in-Noted.is)

pub returns-in-Wanted : goal.returns-in-Wanted
unfolding told_of code_of word_code numbers_of numbers_in more_of more_in flag_of when◌then◌else◌ wording_of
returns-in-Wanted c = c.numbered-in-Wanted.ensures ∙ ap (λ a. told_of (wording_of a) c.args.reply.written) (sym c.in-Wanted.is)

pub returns-in-Sent : goal.returns-in-Sent
unfolding told_of code_of word_code numbers_of numbers_in more_of more_in flag_of when◌then◌else◌ wording_of
returns-in-Sent c = c.word-in-Sent.ensures ∙ ap (λ a. told_of (wording_of a) c.args.reply.written) (sym c.in-Sent.is)

pub returns-in-Marked : goal.returns-in-Marked
unfolding told_of code_of word_code numbers_of numbers_in more_of more_in flag_of when◌then◌else◌ wording_of
returns-in-Marked c = c.word-in-Marked.ensures ∙ ap (λ a. told_of (wording_of a) c.args.reply.written) (sym c.in-Marked.is)

pub returns-in-Accepted : goal.returns-in-Accepted
unfolding told_of code_of word_code numbers_of numbers_in more_of more_in flag_of when◌then◌else◌ wording_of
returns-in-Accepted c = c.word-in-Accepted.ensures ∙ ap (λ a. told_of (wording_of a) c.args.reply.written) (sym c.in-Accepted.is)
