-- The plan: of each unit that some message sets, its number and its latest description.
use Rattle.std.specs.Prelude.{Bool, List, [], ◌∷◌, ◌++◌, ℕ, length, get_or, drop}
use Rattle.group.specs.Choice.{when◌then◌else◌, ◌and◌, ◌<?◌, ◌≤?◌, ◌=?◌}
use Rattle.message.specs.Order.{Ordered}
use Rattle.big_endian.specs.Number.{number_at, bytes_of}

-- a message sets a unit if its payload begins with byte 3 and has two bytes behind it
unfoldable pub sets : Ordered → Bool
sets m = 3 ≤? length m.payload and get_or m.payload 0 0 =? 3

-- the unit's number, and its description: what stands behind the number
unfoldable pub unit_of : Ordered → ℕ
unit_of m = number_at 2 m.payload 1

unfoldable pub description_of : Ordered → List ℕ
description_of m = drop 3 m.payload

-- a message in its unit's place; rows rise by unit number
unfoldable pub placed : Ordered → List Ordered → List Ordered
placed m [] = m ∷ []
placed m (row ∷ rest) =
    when unit_of row <? unit_of m then row ∷ placed m rest else
    when unit_of row =? unit_of m then m ∷ rest else
    m ∷ row ∷ rest

-- the latest message of each unit, where `rows` are those so far
unfoldable pub latest_from : List Ordered → List Ordered → List Ordered
latest_from rows [] = rows
latest_from rows (m ∷ rest) = latest_from (when sets m then placed m rows else rows) rest

abbrev pub latest : List Ordered → List Ordered
latest ms = latest_from [] ms

-- each row: the unit's number (2 bytes), the description's length (2), the description
unfoldable pub plan_bytes : List Ordered → List ℕ
plan_bytes [] = []
plan_bytes (m ∷ rest) =
    bytes_of 2 (unit_of m) ++ (bytes_of 2 (length (description_of m)) ++ (description_of m ++ plan_bytes rest))
