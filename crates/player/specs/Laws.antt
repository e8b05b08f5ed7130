-- What a program prints part by part is what the whole input prints. `proofs/Laws.antt` has the proofs.
use Rattle.std.specs.Prelude.{List, ℕ}
use Rattle.player.specs.Parts as parts
use Rattle.player.specs.Play.{opening, Program, line_told}
use Rattle.player.specs.Feed.{State}
pub use Rattle.player.specs.Parts.{Quiet}

-- an input was read but for what is left of it, and something printed
abbrev pub Continues : Program → State → List ℕ → List ℕ → State → List ℕ → Type 0
Continues program from input printed to left = parts.Continues line_told program from input printed to left

-- a part that is not empty is read further, and no further than its end
abbrev pub ReadsOn : Type 0
ReadsOn = parts.ReadsOn line_told

abbrev pub PrintsAll : Type 0
PrintsAll = parts.PrintsAll line_told opening
