-- How the paper words what reading and writing a journal answer.
use Rattle.std.specs.Prelude.{Option, Some, None, Result, Ok, Err, [], ◌∷◌}
use Rattle.group.specs.declared.Refusal.{Refusal}
use Rattle.group.specs.Wording.{Wording, word, number, refused_wording}
use Rattle.journal.specs.declared.Answer.{Answer}
use Rattle.journal.specs.declared.Found.{Found}
use Rattle.journal.specs.declared.Record.{Record}

-- reading gives how many blocks and messages precede the first wrong block
unfoldable pub reading_wording : Result Found Refusal → Wording
reading_wording (Ok found) = word "read" (number found.blocks ∷ number found.messages ∷ [])
reading_wording (Err r) = refused_wording r

-- a right block gives its messages, as many as it has
unfoldable pub block_wording : Option Found → Wording
block_wording (Some found) = word "right" (number found.blocks ∷ number found.messages ∷ [])
block_wording None = word "wrong" []

-- a right record gives its number, originator and count, and where its payload begins and how long it is
unfoldable pub entry_wording : Option Record → Wording
entry_wording (Some r) =
    word "right" (number r.number.0 ∷ number r.originator.0 ∷ number r.count ∷ number r.start ∷ number r.length ∷ [])
entry_wording None = word "wrong" []

-- a writer has kept the message, or has closed
unfoldable pub wording_of : Result Answer Refusal → Wording
wording_of (Ok Answer.Kept) = word "kept" []
wording_of (Ok Answer.Closed) = word "closed" []
wording_of (Err r) = refused_wording r
