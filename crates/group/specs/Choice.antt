-- How every definition chooses: by one of three tests, with `when .. then .. else`, or with `ask .. or .. then` where a no ends it.
use Rattle.std.specs.Prelude.{Bool, true, false, ℕ, leb, ltb, eqb}

infix 40 ◌<?◌ ◌≤?◌ ◌=?◌
infixr 20 ◌and◌
infixr 10 when◌then◌else◌ ask◌or◌then◌
abbrev pub ◌<?◌ : ℕ → ℕ → Bool
a <? b = ltb a b

abbrev pub ◌≤?◌ : ℕ → ℕ → Bool
a ≤? b = leb a b

abbrev pub ◌=?◌ : ℕ → ℕ → Bool
a =? b = eqb a b

-- the first of two values where the test holds, else the second
unfoldable pub when◌then◌else◌ : {A : Type 0} → Bool → A → A → A
when true then a else b = a
when false then a else b = b

-- what follows where the answer is yes, else what is refused
abbrev pub ask◌or◌then◌ : {A : Type 0} → Bool → A → A → A
ask test or refused then rest = when test then rest else refused

-- both tests hold
abbrev pub ◌and◌ : Bool → Bool → Bool
a and b = when a then b else false
