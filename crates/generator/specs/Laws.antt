-- Where k steps lead, and that all states are passed before one comes back. `proofs/Laws.antt` has the proofs.
use Rattle.std.specs.Prelude.{◌≡◌, ℕ, ◌+◌, ◌*◌, ◌%◌, ◌<◌, ◌≤◌, ◌≢◌}
use Rattle.generator.specs.Generator.{increment, modulus, after}

-- the state after k steps is seed + k × 2,654,435,769 so reduced
abbrev pub Formula : Type 0
Formula = (k seed : ℕ) → seed < modulus → after k seed ≡ (seed + k * increment) % modulus

-- no state comes back before 4,294,967,296 steps: not the seed, nor the state after any number j of steps
abbrev pub NoReturn : Type 0
NoReturn = (seed j k : ℕ) → seed < modulus → 1 ≤ k → k < modulus → after (j + k) seed ≢ after j seed

-- and then it does
abbrev pub Returns : Type 0
Returns = (seed : ℕ) → seed < modulus → after modulus seed ≡ seed
