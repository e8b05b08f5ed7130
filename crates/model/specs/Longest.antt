-- How long catching up can take: the most events that a closing round has after any list of events. `proofs/Longest.antt` has the
-- proofs; the crate `longest` has, for each n, a list after which the round is that long.
use Rattle.std.specs.Prelude.{◌≡◌, List, ℕ, ◌+◌, ◌-◌, ◌*◌, ◌≤◌, ◌<◌, length, get_or}
use Rattle.model.specs.Claim.{Opens}
use Rattle.model.specs.Closing.{closing, closing_most}
use Rattle.model.specs.World.{Event, World, no_member, run, fresh}

-- 8 + 3 × 32 + 2 events for each terminal but one, and 3 × n + 2 for that one
abbrev pub longest_closing : ℕ → ℕ
longest_closing n = closing_most * (n - 1) + (3 * n + 2)

-- that is 109 × n - 104
abbrev pub Figure : Type 0
Figure = (n : ℕ) → 1 ≤ n → longest_closing n ≡ 109 * n - 104

-- after any list of events a closing round takes at most that many
abbrev pub AtMost : Type 0
AtMost = (n number resilience : ℕ) → Opens n number resilience → (events : List Event)
    → length (closing (run (fresh n number resilience) events)) ≤ longest_closing n

-- terminal i's t
abbrev pub last_taken : World → ℕ → ℕ
last_taken w i = (get_or w.group.members i no_member).taken.0

-- above the t of a terminal that took most lie at most n numbers: each terminal has at most one message of its own above its t
abbrev pub FewLeft : Type 0
FewLeft = (n number resilience : ℕ) → Opens n number resilience → (events : List Event)
    → let w = run (fresh n number resilience) events in
    (j : ℕ) → j < n → ((i : ℕ) → i < n → last_taken w i ≤ last_taken w j) → w.group.sequencer.top.0 - last_taken w j ≤ n
