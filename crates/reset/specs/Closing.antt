-- A closing round goes through the survivors, at the elected one's terminal. One take for each number of the member's row. For each number
-- above the row to the last accepted: copy, hand the copy to the member, take. Then: status call, hand it to the sequencer.
use Rattle.std.specs.Prelude.{List, [], ◌∷◌, ◌++◌, ℕ, zero, suc, ◌+◌, ◌-◌, length}
use Rattle.group.specs.Choice.{when◌then◌else◌}
use Rattle.group.specs.Members.{is_in}
use Rattle.member.specs.State.{acknowledged_of}
use Rattle.recovery.specs.State.{Terminal}
use Rattle.sequencer.specs.State.{Sequencer}
use Rattle.reset.specs.Course.{Course}
use Rattle.reset.specs.World.{Event, copy, hand_member, take, status, hand_sequencer, World, terminal_at}

-- terminal i takes k numbers
unfoldable pub take_row : ℕ → ℕ → List Event
take_row i zero = []
take_row i (suc k) = take i ∷ take_row i k

-- terminal i, for the k numbers above t, where e is the elected and b the index of the next packet to be written
unfoldable pub close_member : ℕ → ℕ → ℕ → ℕ → ℕ → List Event
close_member e i t zero b = status i ∷ hand_sequencer b e ∷ []
close_member e i t (suc k) b = copy e (t + 1) ∷ hand_member b i ∷ take i ∷ close_member e i (t + 1) k (b + 1)

-- the survivors from i on, up to a last number
unfoldable pub close_from : ℕ → ℕ → List Terminal → ℕ → ℕ → ℕ → List Event
close_from survivors e [] i last b = []
close_from survivors e (t ∷ rest) i last b =
    when is_in survivors i
    then take_row i ((acknowledged_of t.member).0 - t.member.taken.0)
    ++ close_member e i (acknowledged_of t.member).0 (last - (acknowledged_of t.member).0) b
    ++ close_from survivors e rest (i + 1) last (b + (last - (acknowledged_of t.member).0) + 1)
    else close_from survivors e rest (i + 1) last b

-- the elected terminal's sequencer
abbrev pub sequencer_of : World → Course → Sequencer
sequencer_of w c = (terminal_at w.group c.elected).sequencer

abbrev pub closing : World → Course → List Event
closing w c = close_from c.survivors c.elected w.group.terminals 0 (sequencer_of w c).accepted.0 (length w.group.packets)
