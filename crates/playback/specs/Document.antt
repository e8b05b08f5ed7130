-- The schedule of document 01 and what it prints. `proofs/Document.antt` has the proof, by computation.
use Rattle.std.specs.Prelude.{◌≡◌}
use Rattle.player.specs.Play.{play_of}
use Rattle.text.specs.Text.{text_of}

abbrev pub DocumentPlayed : Type 0
DocumentPlayed =
    play_of (text_of "N 2 7\nS 1 6162\nQ 0\nM 1 1\nT 1\nT 0\n")
    ≡ text_of "1 sent 0\n2 numbered 1 1\n3 kept\n4 took 1 1 1 6162 last\n5 none\ntop 1 floor 0 taken 0 1\n"
