-- How rows are kept while a journal is read: a table of unit numbers, rising, each with the index in the journal at which its payload
-- stands.
use Rattle.std.specs.Prelude.{◌≡◌, List, [], ◌∷◌, ◌++◌, map, ℕ, ◌+◌, ◌-◌, ◌≤◌, ◌<◌, length, get_or, take, drop, Result, MatchResult}
use Rattle.group.specs.Choice.{when◌then◌else◌, ◌<?◌}
use Rattle.group.specs.declared.Refusal.{Refusal}
use Rattle.group.specs.declared.Refusal.TheVariants.{ManyUnits}
use Rattle.message.specs.Order.{Ordered}
use Rattle.journal.specs.Limits.{record_head}
use Rattle.journal.specs.Walk.{cursor_of, given_by, message_on}
use Rattle.journal.specs.declared.Spot.{Spot}
use Rattle.big_endian.specs.Number.{number_at, bytes_of}
use Rattle.plan.specs.Units.{sets, unit_of, placed, latest}
use Rattle.plan.specs.Laws.{◌among◌, Rises}
use Rattle.plan.specs.declared.Row.{Row}

-- the most units of a plan
abbrev pub units_most : ℕ
units_most = 512

-- how many of a list stand before the first that is not below a number
unfoldable pub place_of : ℕ → List ℕ → ℕ
place_of number [] = 0
place_of number (x ∷ rest) = when x <? number then place_of number rest + 1 else 0

-- the numbers of a list rise
abbrev pub Rising : List ℕ → Type 0
Rising l = (i j : ℕ) → i < j → j < length l → get_or l i 0 < get_or l j 0

-- a list with one more element at an index
abbrev pub inserted : {A : Type 0} → ℕ → A → List A → List A
inserted i x l = take i l ++ (x ∷ drop i l)

-- the row of a message that has the index of its payload for a number, and where the payloads of some rows stand
abbrev pub row_for : Ordered → Row
row_for m = record { unit = unit_of m; start = m.number }

abbrev pub starts_of : List Row → List ℕ
starts_of table = map (λ (row : Row). row.start) table

-- what noting a row makes of a table that holds some messages' rows: its message is in its place, or there are too many
pub record Noted (table : List Row) (row : Row) (r : Result (Unit {0}) Refusal) (table' : List Row) : Type 0 where
  pub held : (rows : List Ordered) (m : Ordered) → Rises unit_of rows → table ≡ map row_for rows → row ≡ row_for m
      → MatchResult r (λ _. table' ≡ map row_for (placed m rows)) (λ refusal. (refusal ≡ ManyUnits) × (units_most < length (placed m rows)))

-- the length of the payload that stands at an index of a journal: it is in the two bytes before it
abbrev pub length_before : List ℕ → ℕ → ℕ
length_before journal start = number_at 2 journal (start - 2)

-- a payload with a unit's number stands there
pub record Stands (journal : List ℕ) (start : ℕ) : Type 0 where
  pub low : 2 ≤ start
  pub long : 3 ≤ length_before journal start
  pub ends : start + length_before journal start ≤ length journal

abbrev pub AllStand : List ℕ → List ℕ → Type 0
AllStand journal places = (i : ℕ) → i < length places → Stands journal (get_or places i 0)

-- the row of such a payload, and the plan of a table of them
unfoldable pub row_at : List ℕ → ℕ → List ℕ
row_at journal start =
    bytes_of 2 (number_at 2 journal (start + 1))
    ++ (bytes_of 2 (length_before journal start - 3) ++ take (length_before journal start - 3) (drop (start + 3) journal))

unfoldable pub plan_at : List ℕ → List ℕ → List ℕ
plan_at journal [] = []
plan_at journal (start ∷ rest) = row_at journal start ++ plan_at journal rest

-- a record of a journal as a message that has the index of its payload for a number: what a plan is made of is its payload
abbrev pub spotted : List ℕ → Spot → Ordered
spotted journal s =
    record {
      number = s.start + record_head;
      originator = (message_on journal s).originator;
      count = (message_on journal s).count;
      payload = (message_on journal s).payload;
    }

-- the rows with a record noted
abbrev pub rows_with : List ℕ → Spot → List Ordered → List Ordered
rows_with journal s rows = when sets (spotted journal s) then placed (spotted journal s) rows else rows

-- what noting a record makes of such a table
pub record NotedSpot (journal : List ℕ) (s : Spot) (table : List Row) (r : Result (Unit {0}) Refusal) (table' : List Row) : Type 0 where
  pub held : (rows : List Ordered) → Rises unit_of rows → table ≡ map row_for rows
      → MatchResult r (λ _. table' ≡ map row_for (rows_with journal s rows)) (λ refusal. (refusal ≡ ManyUnits) × (units_most < length (rows_with journal s rows)))

-- the rows of the records that a cursor gives, numbered by their payloads' indices
abbrev pub rows_in : List ℕ → ℕ → ℕ → List Ordered
rows_in journal blocks messages = latest (map (spotted journal) (given_by messages (cursor_of journal blocks) journal))

-- a row stands in the journal: its payload is the one at its number
pub record Stood (journal : List ℕ) (m : Ordered) : Type 0 where
  pub stands : Stands journal m.number
  pub payload_is : m.payload ≡ take (length_before journal m.number) (drop m.number journal)

-- what gathering the rows of a journal comes to: a table holds them, and they stand in the journal, or there are too many
pub record Gathered (journal : List ℕ) (rows : List Ordered) (r : Result (Unit {0}) Refusal) (table : List Row) : Type 0 where
  pub held : MatchResult r (λ _. (table ≡ map row_for rows) × ((row : Ordered) → row among rows → Stood journal row))
      (λ refusal. (refusal ≡ ManyUnits) × (units_most < length rows))
