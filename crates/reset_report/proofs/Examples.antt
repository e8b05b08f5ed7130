-- Lines of terminals and sequencers, computed. Assumes nothing.
use mathlib.Core.Path.{◌≡◌, refl}
use mathlib.Core.Bool.{true, false}
use mathlib.Core.List.{[], ◌∷◌, map}
use Rattle.group.specs.Choice.{when◌then◌else◌}
use Rattle.text.specs.Text.{text_of, glyph_of}
use Rattle.text.specs.Written.{decimal_digits, decimal_of, spaced}
use Rattle.reset_report.specs.Print.{listed_at, members_below, terminal_line, frozen_text, sequencer_line}

lines : terminal_line 0 7 0 0 7
    ∷ sequencer_line 0 7 1 0 false
    ∷ terminal_line 1 8 0 1 6
    ∷ sequencer_line 1 8 1 0 true
    ∷ terminal_line 15 300 20 12 65535
    ∷ terminal_line 3 9 1 3 8
    ∷ []
    ≡ map text_of
    ("terminal 0 group 7 taken 0 elected 0 survivors 0 1 2\n"
    ∷ "sequencer 0 group 7 top 1 floor 0\n"
    ∷ "terminal 1 group 8 taken 0 elected 1 survivors 1 2\n"
    ∷ "sequencer 1 group 8 top 1 floor 0 frozen\n"
    ∷ "terminal 15 group 300 taken 20 elected 12 survivors 0 1 2 3 4 5 6 7 8 9 10 11 12 13 14 15\n"
    ∷ "terminal 3 group 9 taken 1 elected 3 survivors 3\n"
    ∷ [])
unfolding spaced decimal_of decimal_digits glyph_of listed_at members_below frozen_text when◌then◌else◌
lines = refl
