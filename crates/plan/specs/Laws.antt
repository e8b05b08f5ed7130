-- What is proved of the plan and of rewriting, as lists of messages. `proofs/` has a proof of each statement.
use Rattle.std.specs.Prelude.{◌≡◌, true, ℕ, ◌≤◌, ◌<◌, ◌+◌, length}
use mathlib.Core.List.{List, [], ◌∷◌, ◌++◌, Memᴰ, map, flatten}
use Rattle.group.specs.Limits.{payload_most}
use Rattle.message.specs.Order.{Ordered}
use Rattle.big_endian.specs.Laws.{Bytes}
use Rattle.plan.specs.Units.{sets, unit_of, description_of, latest, plan_bytes}
use Rattle.plan.specs.Kept.{last_ones, total, packed}

infix 40 ◌among◌
-- x is one of the list
abbrev pub ◌among◌ : {A : Type 0} → A → List A → Type 0
x among l = Memᴰ x l

-- each value lies below all those behind it
unfoldable pub Rises : {A : Type 0} → (A → ℕ) → List A → Type 0
Rises value [] = Unit {0}
Rises {A} value (x ∷ rest) = ((y : A) → y among rest → value x < value y) × Rises value rest

-- the unit numbers of the rows rise
abbrev pub UnitsRise : Type 0
UnitsRise = (ms : List Ordered) → Rises unit_of (latest ms)

-- a row is one of the messages and sets its unit, and its number is the highest of those that set that unit
pub record Highest (ms : List Ordered) (row : Ordered) : Type 0 where
  pub one : row among ms
  pub setting : sets row ≡ true
  pub highest : (m : Ordered) → m among ms → sets m ≡ true → unit_of m ≡ unit_of row → m.number ≤ row.number

abbrev pub HighestWins : Type 0
HighestWins = (ms : List Ordered) → Rises (λ m. m.number) ms → (row : Ordered) → row among latest ms → Highest ms row

-- every unit that is set has a row
abbrev pub EveryUnit : Type 0
EveryUnit = (ms : List Ordered) (m : Ordered) → m among ms → sets m ≡ true → (row : Ordered) × (row among latest ms) × (unit_of row ≡ unit_of m)

-- what is kept gives the same plan
abbrev pub SamePlan : Type 0
SamePlan = (ms : List Ordered) → latest (last_ones ms) ≡ latest ms

-- and goes on to the same plan
abbrev pub GoesOn : Type 0
GoesOn = (ms more : List Ordered) → latest (last_ones ms ++ more) ≡ latest (ms ++ more)

-- rewriting what was rewritten changes nothing
abbrev pub RewriteTwice : Type 0
RewriteTwice = (ms : List Ordered) → last_ones (last_ones ms) ≡ last_ones ms

-- what is kept goes by number as before
abbrev pub StillRises : Type 0
StillRises = (ms : List Ordered) → Rises (λ m. m.number) ms → Rises (λ m. m.number) (last_ones ms)

-- a record is kept for each unit, and no more
abbrev pub OneEach : Type 0
OneEach = (ms : List Ordered) → length (last_ones ms) ≡ length (latest ms)

abbrev pub NoMore : Type 0
NoMore = (ms : List Ordered) → length (latest ms) ≤ length ms

-- payloads that a record may hold
abbrev pub Short : List Ordered → Type 0
Short ms = (m : Ordered) → m among ms → length m.payload ≤ payload_most

abbrev pub OfBytes : List Ordered → Type 0
OfBytes ms = (m : Ordered) → m among ms → Bytes m.payload

-- the plan's bytes say what its rows are: which units, and with which descriptions
abbrev pub SameBytesSameRows : Type 0
SameBytesSameRows =
    (ms ms' : List Ordered) → Short ms → Short ms' → OfBytes ms → OfBytes ms' → plan_bytes (latest ms) ≡ plan_bytes (latest ms')
    → (map unit_of (latest ms) ≡ map unit_of (latest ms')) × (map description_of (latest ms) ≡ map description_of (latest ms'))

-- no messages that give the same plan are fewer than those that are kept
abbrev pub FewestRecords : Type 0
FewestRecords =
    (ms ms' : List Ordered) → Short ms → Short ms' → plan_bytes (latest ms) ≡ plan_bytes (latest ms')
    → length (last_ones ms) ≤ length ms'

-- the blocks have the records, in their order
abbrev pub PackedWhole : Type 0
PackedWhole = (size : Ordered → ℕ) (room : ℕ) (ms : List Ordered) → flatten (packed size room [] ms) ≡ ms

-- a block has a record, and its records have room
pub record Filled (size : Ordered → ℕ) (room : ℕ) (block : List Ordered) : Type 0 where
  pub some : 1 ≤ length block
  pub fits : total size block ≤ room

abbrev pub PackedFits : Type 0
PackedFits =
    (size : Ordered → ℕ) (room : ℕ) (ms : List Ordered) → ((m : Ordered) → m among ms → size m ≤ room)
    → (block : List Ordered) → block among packed size room [] ms → Filled size room block

-- a block is followed by another only where the first record of that one has no room in it
unfoldable pub Tight : (Ordered → ℕ) → ℕ → List (List Ordered) → Type 0
Tight size room [] = Unit {0}
Tight size room (block ∷ rest) =
    ((m : Ordered) (next : List Ordered) (behind : List (List Ordered)) → rest ≡ (m ∷ next) ∷ behind → room < total size block + size m)
    × Tight size room rest

abbrev pub PackedTight : Type 0
PackedTight = (size : Ordered → ℕ) (room : ℕ) (ms : List Ordered) → Tight size room (packed size room [] ms)
