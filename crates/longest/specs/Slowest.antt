-- For each n from 1 to 16 a list of events after which a closing round is as long as `model` says that it can be: it leaves top 40,
-- terminal 0 at 40 - n with no row, the others at 0 with a row of eight, and a history that is full (with n = 1 it is not).
-- `proofs/Reached.antt` computes it.
use Rattle.std.specs.Prelude.{◌≡◌, List, [], ◌∷◌, ◌++◌, ℕ, zero, suc, ◌+◌, ◌-◌, ◌*◌, ◌≤◌, length}
use Rattle.group.specs.Limits.{members_most, places_most, held_most}
use Rattle.model.specs.Closing.{closing}
use Rattle.model.specs.Longest.{longest_closing}
use Rattle.model.specs.World.{Event, submit, take, status, hand_member, hand_sequencer, run, fresh}

-- k times: terminal 0 submits, its message is numbered, and it gets and takes it; b is the index of the next packet to be written
unfoldable pub rounds : ℕ → ℕ → List Event
rounds zero b = []
rounds (suc k) b = submit 0 [] ∷ hand_sequencer b ∷ hand_member (b + 1) 0 ∷ take 0 ∷ rounds k (b + 2)

-- terminal i gets the broadcasts of the first k rounds: packets 1, 3, ..
unfoldable pub hands : ℕ → ℕ → List Event
hands i zero = []
hands i (suc k) = hands i k ++ (hand_member (2 * k + 1) i ∷ [])

-- k terminals from i on hold eight and take none, and the sequencer gets their status
unfoldable pub holders : ℕ → ℕ → ℕ → List Event
holders i zero b = []
holders i (suc k) b = hands i held_most ++ (status i ∷ hand_sequencer b ∷ holders (i + 1) k (b + 1))

-- k terminals from i on submit; each message is numbered and handed to nobody
unfoldable pub lasts : ℕ → ℕ → ℕ → List Event
lasts i zero b = []
lasts i (suc k) b = submit i [] ∷ hand_sequencer b ∷ lasts (i + 1) k (b + 2)

-- eight rounds, which the others hold and all acknowledge; then rounds until there is room for n messages more, and these
unfoldable pub slowest : ℕ → List Event
slowest n =
    rounds held_most 0
    ++ (holders 1 (n - 1) (2 * held_most)
    ++ (status 0 ∷ hand_sequencer (2 * held_most + (n - 1))
    ∷ (rounds (places_most - n) (2 * held_most + n) ++ lasts 0 n (2 * held_most + n + 2 * (places_most - n)))))

-- a closing round after it takes exactly as many events as one can
abbrev pub Reaches : ℕ → Type 0
Reaches n = length (closing (run (fresh n 7 0) (slowest n))) ≡ longest_closing n

abbrev pub Reached : Type 0
Reached = (n : ℕ) → 1 ≤ n → n ≤ members_most → Reaches n
