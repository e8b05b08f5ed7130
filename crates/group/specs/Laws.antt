-- What is proved of the group's sets of members. `proofs/Expected.antt` has the proofs.
use Rattle.std.specs.Prelude.{◌≡◌, ℕ, ◌≤◌, ◌<◌}
use Rattle.group.specs.Choice.{◌and◌, ◌≤?◌}
use Rattle.group.specs.Limits.{members_most}
use Rattle.group.specs.Members.{is_in, expected_of, needed_of}
use Rattle.group.specs.Opening.{description_of}

-- the members that are expected to confirm an offer are 1 to r
abbrev pub ExpectedAre : Type 0
ExpectedAre =
    (n number resilience : ℕ) → n ≤ members_most → resilience < n
    → (i : ℕ) → is_in (expected_of (description_of n number resilience)) i ≡ (1 ≤? i and i ≤? resilience)

-- in a fresh group r confirmations are needed
abbrev pub NeededAre : Type 0
NeededAre =
    (n number resilience : ℕ) → n ≤ members_most → resilience < n → needed_of (description_of n number resilience) ≡ resilience
