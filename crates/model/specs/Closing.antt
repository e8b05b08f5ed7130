-- A closing round goes through members 0 to n - 1. One take for each number of the member's row. For each number above the row to
-- the last accepted: copy, hand the copy to the member, take. Then: status call, hand it to the sequencer.
use Rattle.std.specs.Prelude.{List, [], ◌∷◌, ◌++◌, ℕ, zero, suc, ◌+◌, ◌-◌, ◌*◌, length}
use Rattle.group.specs.Limits.{held_most, places_most}
use Rattle.member.specs.State.{Member, acknowledged_of}
use Rattle.model.specs.World.{Event, copy, hand_member, take, status, hand_sequencer, World}

-- member i takes k numbers
unfoldable pub take_row : ℕ → ℕ → List Event
take_row i zero = []
take_row i (suc k) = take i ∷ take_row i k

-- member i, for the k numbers above t, where b is the index of the next packet to be written
unfoldable pub close_member : ℕ → ℕ → ℕ → ℕ → List Event
close_member i t zero b = status i ∷ hand_sequencer b ∷ []
close_member i t (suc k) b = copy (t + 1) ∷ hand_member b i ∷ take i ∷ close_member i (t + 1) k (b + 1)

-- members from i on, up to a last number
unfoldable pub close_from : List Member → ℕ → ℕ → ℕ → List Event
close_from [] i last b = []
close_from (m ∷ rest) i last b =
    take_row i ((acknowledged_of m).0 - m.taken.0)
    ++ close_member i (acknowledged_of m).0 (last - (acknowledged_of m).0) b
    ++ close_from rest (i + 1) last (b + (last - (acknowledged_of m).0) + 1)

abbrev pub closing : World → List Event
closing w = close_from w.group.members 0 w.group.sequencer.accepted.0 (length w.group.packets)

-- that is at most 8 + 32 × 3 + 2 events a member
abbrev pub closing_most : ℕ
closing_most = held_most + places_most * 3 + 2
