-- Five messages, their plan and what is kept of them. `proofs/Examples.antt` computes both.
use Rattle.std.specs.Prelude.{◌≡◌, List, [], ◌∷◌, ℕ}
use Rattle.message.specs.Order.{Ordered}
use Rattle.plan.specs.Units.{latest, plan_bytes}
use Rattle.plan.specs.Kept.{last_ones}

abbrev pub message : ℕ → List ℕ → Ordered
message number payload = record { number = number; originator = 0; count = number; payload = payload }

-- unit 7, unit 256, too short, unit 7 with no description, another first byte
abbrev pub five : List Ordered
five =
    message 1 (3 ∷ 0 ∷ 7 ∷ 65 ∷ [])
    ∷ message 2 (3 ∷ 1 ∷ 0 ∷ 66 ∷ [])
    ∷ message 3 (3 ∷ 0 ∷ [])
    ∷ message 4 (3 ∷ 0 ∷ 7 ∷ [])
    ∷ message 5 (4 ∷ 0 ∷ 7 ∷ 67 ∷ [])
    ∷ []

abbrev pub FivePlan : Type 0
FivePlan = plan_bytes (latest five) ≡ 0 ∷ 7 ∷ 0 ∷ 0 ∷ 1 ∷ 0 ∷ 0 ∷ 1 ∷ 66 ∷ []

abbrev pub FiveKept : Type 0
FiveKept = last_ones five ≡ message 2 (3 ∷ 1 ∷ 0 ∷ 66 ∷ []) ∷ message 4 (3 ∷ 0 ∷ 7 ∷ []) ∷ []
