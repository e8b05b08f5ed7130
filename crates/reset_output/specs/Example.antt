-- Schedules with resets and what they print. `proofs/Example.antt` has the proof, by computation.
use Rattle.std.specs.Prelude.{◌≡◌}
use Rattle.reset_output.specs.Recover.{recover_of}
use Rattle.text.specs.Text.{text_of}

-- three terminals: 0's message is numbered, and 1 has it; then 0 burns out, 1 invites, 2 replies, and 1 makes the group of both, with itself
-- elected, as it has more. It copies the message, and 2 takes it
abbrev pub BurntOut : Type 0
BurntOut =
    recover_of (text_of "N 3 7\nS 0 6162\nQ 0 0\nM 1 1\nI 1 8\nM 2 2\nM 3 1\nG 1 2\nM 4 2\nC 1 1\nM 5 2\nT 2\n")
    ≡ text_of "1 sent 0\n2 numbered 1 1\n3 kept\n4 sent 2\n5 noted 3\n6 noted\n7 sent 4\n8 noted\n9 sent 5\n10 kept\n11 took 1 0 1 6162 last\nterminal 0 group 7 taken 0 elected 0 survivors 0 1 2\nsequencer 0 group 7 top 1 floor 0\nterminal 1 group 8 taken 0 elected 1 survivors 1 2\nsequencer 1 group 8 top 1 floor 0\nterminal 2 group 8 taken 1 elected 1 survivors 1 2\n"

-- an old sequencer that replied is frozen and refuses, a making without an invitation is refused, a sequencer that is not there is absent, and
-- a line of another form ends the events
abbrev pub Refused : Type 0
Refused =
    recover_of (text_of "N 2 7\nG 1 1\nP 1\nI 1 9\nM 0 0\nS 1 -\nQ 2 0\nP 0\nG 1 2\nQ 0\nT 0\n")
    ≡ text_of "1 refused 27\n2 absent\n3 sent 0\n4 noted 1\n5 sent 2\n6 refused 7\n7 sent 3\n8 refused 26\n9 bad line\nterminal 0 group 7 taken 0 elected 0 survivors 0 1\nsequencer 0 group 7 top 0 floor 0 frozen\nterminal 1 group 7 taken 0 elected 0 survivors 0 1\n"

-- first lines that open no group, and none
abbrev pub Unopened : Type 0
Unopened =
    (recover_of (text_of "N 0 7\nT 0\n") ≡ text_of "refused 18\n")
    × (recover_of (text_of "P 0\n") ≡ text_of "bad line\n")
    × (recover_of (text_of "") ≡ text_of "bad line\n")
