-- What demand 3 speaks of: a message of the order is its number, originator, count and payload; a terminal's own messages
-- and its accepted submissions are compared by count and payload.
use Rattle.std.specs.Prelude.{List, [], ◌∷◌, ℕ, ◌+◌}
use Rattle.group.specs.Choice.{when◌then◌else◌, ◌=?◌}

pub record Ordered : Type 0 where
  pub number : ℕ
  pub originator : ℕ
  pub count : ℕ
  pub payload : List ℕ

pub record Submission : Type 0 where
  pub count : ℕ
  pub payload : List ℕ

-- the messages of an order of which i is the originator
unfoldable pub own_of : ℕ → List Ordered → List Submission
own_of i [] = []
own_of i (m ∷ rest) =
    when m.originator =? i then record { count = m.count; payload = m.payload } ∷ own_of i rest else
    own_of i rest

-- payloads submitted one after the other, the first with that count
unfoldable pub counted_from : ℕ → List (List ℕ) → List Submission
counted_from count [] = []
counted_from count (payload ∷ rest) = record { count = count; payload = payload } ∷ counted_from (count + 1) rest
