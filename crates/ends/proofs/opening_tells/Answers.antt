-- Each answer's code and numbers are its wording's.
use mathlib.Core.Path.{sym, ap, ◌∙◌}
use Prim.Native.Nat.{ℕ}
use Rattle.group.specs.Choice.{when◌then◌else◌}
use Rattle.group.specs.Codes.{code_of, word_code, numbers_of, numbers_in, more_of, more_in, flag_of}
use Rattle.ends.specs.Telling.{told_of}
use Rattle.ends.specs.declared.Told.{Told}
use Rattle.group.specs.Wording.{verdict_wording}
use Rattle.ends.proofs.opening_tells.Goals as goal

-- an answer that is a number alone
abbrev plain : ℕ → ℕ → Told
plain k written = record { code = k; first = 0; second = 0; third = 0; more = 0; written = written }

pub returns-in-Ok : goal.returns-in-Ok
unfolding told_of code_of word_code numbers_of numbers_in more_of more_in flag_of when◌then◌else◌ verdict_wording
returns-in-Ok c = c.word.ensures ∙ ap (λ a. told_of (verdict_wording a) 0) (sym c.in-Ok.is)
