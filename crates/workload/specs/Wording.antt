-- How an answer is worded: a line that was written lies at the front of the lent output.
use Rattle.std.specs.Prelude.{[], Result, Ok, Err, ⊤}
use Rattle.group.specs.Wording.{Wording, word, refused_wording}
use Rattle.group.specs.declared.Refusal.{Refusal}

unfoldable pub wording_of : Result ⊤ Refusal → Wording
wording_of (Ok done) = word "written" []
wording_of (Err r) = refused_wording r
