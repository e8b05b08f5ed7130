-- What is printed part by part is what the whole input prints. `proofs/Laws.antt` has the proofs.
use Rattle.std.specs.Prelude.{◌≡◌, List, ℕ}
use Rattle.player.specs.Parts as parts
use Rattle.reset_player.specs.Feed.{State, start}
use Rattle.reset_output.specs.Recover.{line_told, recover_program, recover_of}

-- an input that is read in parts, each from where the one before was read to, and all that is printed
abbrev pub Prints : State → List ℕ → List ℕ → Type 0
Prints s input output = parts.Prints line_told recover_program s input output

-- an input was read but for what is left of it, and something printed
abbrev pub Continues : State → List ℕ → List ℕ → State → List ℕ → Type 0
Continues from input printed to left = parts.Continues line_told recover_program from input printed to left

-- a part that is not empty is read further, and no further than its end
abbrev pub ReadsOn : Type 0
ReadsOn = parts.ReadsOn line_told

abbrev pub PrintsAll : Type 0
PrintsAll = (input output : List ℕ) → Prints start input output → output ≡ recover_of input
