-- All zero: nothing waits and nothing is held.
use mathlib.Core.Path.{◌≡◌, ◌∙◌}
use Rattle.group.specs.Opening.{description_of}
use Rattle.member.proofs.Opening.{fresh_is}
use Rattle.states.proofs.Member.closed.Goals as goal

pub returns : goal.returns
returns c =
    let h = c.default.ensures in
    let k = c.default-2.ensures in
    let none : c.default.result ≡ description_of 0 0 0 = λ i. record { n = h.0 i; resilience = h.1.0 i; survivors = h.1.1.0 i; elected = record { 0 = h.1.1.1.0 i }; number = h.1.1.1.1 i } in
    fresh_is (c.idle.ensures ∙ (λ i. record { group = none i; number = record { 0 = k i }; taken = record { 0 = 0 }; accepted = record { 0 = 0 }; submitted = 0; waiting = 0 }))
