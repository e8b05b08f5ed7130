-- The laws of specs/Laws.antt: a step is a sum, and k increments are a multiple of the modulus only if k is, since the increment
-- has an inverse: 2,654,435,769 × 340,573,321 = 1 + 4,294,967,296 × 210,485,888. Assumes nothing.
use Rattle.std.proofs.Common.{◌≡◌, ℕ, zero, suc, ◌+◌, ◌-◌, ◌*◌, ◌/◌, ◌%◌, ◌<◌, ◌≤◌, ◌∙◌, arith}
use Rattle.generator.specs.Generator.{increment, modulus, stepped, after}
use Rattle.generator.specs.Laws.{Formula, NoReturn, Returns}

pub formula : Formula
unfolding after stepped
formula zero seed h = omega arith
formula (suc k) seed h = formula k ((seed + increment) % modulus) (omega arith) ∙ omega arith

-- the inverse, and how often the modulus goes into it times the increment
abbrev inverse : ℕ
inverse = 340573321

abbrev quotient : ℕ
quotient = 210485888

-- k increments that are t times the modulus: then k is w times the modulus
multiple : (k t w : ℕ) → k * increment ≡ t * modulus → w + k * quotient ≡ t * inverse → k ≡ w * modulus
multiple k t w e f = omega arith

no_multiple : (k t : ℕ) → k * increment ≡ t * modulus → 1 ≤ k → k < modulus → ⊥
no_multiple k t e h l =
    let m = multiple k t (t * inverse - k * quotient) e (omega arith) in
    omega arith

pub no_return : NoReturn
no_return seed j k s h l e =
    let a = formula (j + k) seed s in
    let b = formula j seed s in
    no_multiple k ((seed + (j + k) * increment) / modulus - (seed + j * increment) / modulus) (omega arith) h l

pub returns : Returns
returns seed s = formula modulus seed s ∙ omega arith
