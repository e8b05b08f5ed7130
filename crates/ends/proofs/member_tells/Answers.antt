-- Each answer's code and numbers are its wording's.
use mathlib.Core.Path.{sym, ap, ◌∙◌}
use Prim.Native.Nat.{ℕ}
use Rattle.group.specs.Choice.{when◌then◌else◌}
use Rattle.group.specs.Codes.{code_of, word_code, numbers_of, numbers_in, more_of, more_in, flag_of}
use Rattle.ends.specs.Telling.{told_of}
use Rattle.ends.specs.declared.Told.{Told}
use Rattle.member.specs.Wording.{wording_of}
use Rattle.ends.proofs.member_tells.Goals as goal

-- a message that was handed out
abbrev took : ℕ → ℕ → ℕ → ℕ → ℕ → Told
took first second third more written = record { code = 55; first = first; second = second; third = third; more = more; written = written }

-- an answer that is a number alone
abbrev plain : ℕ → ℕ → Told
plain k written = record { code = k; first = 0; second = 0; third = 0; more = 0; written = written }

pub returns-in-Refused : goal.returns-in-Refused
unfolding told_of code_of word_code numbers_of numbers_in more_of more_in flag_of when◌then◌else◌ wording_of
returns-in-Refused c = c.word.ensures ∙ ap (λ (k : ℕ). plain k c.args.reply.written) c.number.ensures ∙ ap (λ a. told_of (wording_of a) c.args.reply.written) (sym c.in-Refused.is)

pub returns-in-Sent : goal.returns-in-Sent
unfolding told_of code_of word_code numbers_of numbers_in more_of more_in flag_of when◌then◌else◌ wording_of
returns-in-Sent c = c.word-in-Sent.ensures ∙ ap (λ a. told_of (wording_of a) c.args.reply.written) (sym c.in-Sent.is)

pub returns-in-Queued : goal.returns-in-Queued
unfolding told_of code_of word_code numbers_of numbers_in more_of more_in flag_of when◌then◌else◌ wording_of
returns-in-Queued c = c.numbered.ensures ∙ ap (λ a. told_of (wording_of a) c.args.reply.written) (sym c.in-Queued.is)

pub returns-in-Old : goal.returns-in-Old
unfolding told_of code_of word_code numbers_of numbers_in more_of more_in flag_of when◌then◌else◌ wording_of
returns-in-Old c = c.word-in-Old.ensures ∙ ap (λ a. told_of (wording_of a) c.args.reply.written) (sym c.in-Old.is)

pub returns-in-Kept : goal.returns-in-Kept
unfolding told_of code_of word_code numbers_of numbers_in more_of more_in flag_of when◌then◌else◌ wording_of
returns-in-Kept c = c.word-in-Kept.ensures ∙ ap (λ a. told_of (wording_of a) c.args.reply.written) (sym c.in-Kept.is)

pub returns-in-KeptGap : goal.returns-in-KeptGap
unfolding told_of code_of word_code numbers_of numbers_in more_of more_in flag_of when◌then◌else◌ wording_of
returns-in-KeptGap c = c.word-in-KeptGap.ensures ∙ ap (λ a. told_of (wording_of a) c.args.reply.written) (sym c.in-KeptGap.is)

pub returns-in-Beyond : goal.returns-in-Beyond
unfolding told_of code_of word_code numbers_of numbers_in more_of more_in flag_of when◌then◌else◌ wording_of
returns-in-Beyond c = c.word-in-Beyond.ensures ∙ ap (λ a. told_of (wording_of a) c.args.reply.written) (sym c.in-Beyond.is)

pub returns-in-BeyondGap : goal.returns-in-BeyondGap
unfolding told_of code_of word_code numbers_of numbers_in more_of more_in flag_of when◌then◌else◌ wording_of
returns-in-BeyondGap c = c.word-in-BeyondGap.ensures ∙ ap (λ a. told_of (wording_of a) c.args.reply.written) (sym c.in-BeyondGap.is)

pub returns-in-Gap : goal.returns-in-Gap
unfolding told_of code_of word_code numbers_of numbers_in more_of more_in flag_of when◌then◌else◌ wording_of
returns-in-Gap c = c.word-in-Gap.ensures ∙ ap (λ a. told_of (wording_of a) c.args.reply.written) (sym c.in-Gap.is)

pub returns-in-Status : goal.returns-in-Status
unfolding told_of code_of word_code numbers_of numbers_in more_of more_in flag_of when◌then◌else◌ wording_of
returns-in-Status c = c.word-in-Status.ensures ∙ ap (λ a. told_of (wording_of a) c.args.reply.written) (sym c.in-Status.is)

pub returns-in-None : goal.returns-in-None
unfolding told_of code_of word_code numbers_of numbers_in more_of more_in flag_of when◌then◌else◌ wording_of
returns-in-None c = c.word-in-None.ensures ∙ ap (λ a. told_of (wording_of a) c.args.reply.written) (sym c.in-None.is)

pub returns-in-Noted : goal.returns-in-Noted
unfolding told_of code_of word_code numbers_of numbers_in more_of more_in flag_of when◌then◌else◌ wording_of
returns-in-Noted c = c.word-in-Noted.ensures ∙ ap (λ a. told_of (wording_of a) c.args.reply.written) (sym c.in-Noted.is)

pub returns-in-Took : goal.returns-in-Took
unfolding told_of code_of word_code numbers_of numbers_in more_of more_in flag_of when◌then◌else◌ wording_of
returns-in-Took c =
    ap (λ (m : ℕ). took c.in-Took.number.0 c.in-Took.originator.0 c.in-Took.count m c.args.reply.written) c.flag.ensures
    ∙ ap (λ a. told_of (wording_of a) c.args.reply.written) (sym c.in-Took.is)
