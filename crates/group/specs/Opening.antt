-- Opening a group, before either end is opened in it.
use Rattle.std.specs.Prelude.{ℕ, Result, Ok, Err}
use Rattle.group.specs.Choice.{ask◌or◌then◌, ◌and◌, ◌<?◌, ◌≤?◌}
use Rattle.group.specs.Limits.{members_most}
use Rattle.group.specs.Members.{all_of}
use Rattle.group.specs.declared.Group.{Group}
use Rattle.group.specs.declared.Refusal.{Refusal}
use Rattle.group.specs.declared.Refusal.TheVariants.{Opening, Resilience}

-- what describes a fresh group of n members with a group number and a resilience degree: all survive, and member 0 is elected
abbrev pub description_of : ℕ → ℕ → ℕ → Group
description_of n number resilience =
    record { n = n; resilience = resilience; survivors = all_of n; elected = record { 0 = 0 }; number = number }

-- what opening comes to: the group, or what is refused
abbrev pub Opened : Type 0
Opened = Result Group Refusal

-- question 18: is n 1 to 16? Then 24: is r below n?
unfoldable pub open_of : ℕ → ℕ → ℕ → Opened
open_of n number resilience =
    ask 1 ≤? n and n ≤? members_most or Err Opening then
    ask resilience <? n or Err Resilience then
    Ok (description_of n number resilience)
