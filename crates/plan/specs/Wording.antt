-- How the paper words what the two calls answer: how many bytes were laid, or the refusal.
use Rattle.std.specs.Prelude.{ℕ, [], ◌∷◌, Result, Ok, Err}
use Rattle.group.specs.declared.Refusal.{Refusal}
use Rattle.group.specs.Wording.{Wording, word, number, refused_wording}

unfoldable pub wording_of : Result ℕ Refusal → Wording
wording_of (Ok size) = word "bytes" (number size ∷ [])
wording_of (Err r) = refused_wording r
