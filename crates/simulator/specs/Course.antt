-- The events of the code, one after the other from an opening, lead where `run` leads: what is run is what demand 3 speaks
-- of. `proofs/Course.antt` has the proof.
use Rattle.group.specs.Question.{all_yes}
use Rattle.std.specs.Prelude.{◌≡◌, List, [], ◌∷◌, ◌++◌, map, ℕ, ◌<◌, take}
use Rattle.group.specs.Question.{Verdict}
use Rattle.model.specs.World.{Event, Answer, answer_of, run, fresh}
use Rattle.model.specs.declared.Reply.{Reply}
use Rattle.simulator.specs.Whole.{packets_most, Whole, group_of, Room, Plays, Opens}
use Rattle.simulator.specs.declared.Head.{Head}

-- a group that was opened, then events that each had room for a packet, and what they were answered
pub data Played (n number resilience : ℕ) : List Event → List Answer → Head → Whole → Type 0 where
  opened : (verdict : Verdict) (head : Head) (w : Whole) → Opens n number resilience verdict head w → verdict ≡ all_yes → Played n number resilience [] [] head w
  played : {events : List Event} {answers : List Answer} {head : Head} {w : Whole} (event : Event) (head' : Head) (reply : Reply) (written : ℕ) (w' : Whole) (before after : List ℕ)
      → Played n number resilience events answers head w → head.count < packets_most → Plays event head w head' reply written w' before after
      → Played n number resilience (events ++ (event ∷ [])) (answers ++ (answer_of reply (take written after) ∷ [])) head' w'

-- the group is the world's after those events, and each answer is that of its list
pub record Reached (n number resilience : ℕ) (events : List Event) (answers : List Answer) (w : Whole) : Type 0 where
  pub group : group_of w ≡ (run (fresh n number resilience) events).group
  pub log : map (λ entry. entry.answer) (run (fresh n number resilience) events).log ≡ answers

abbrev pub PlayedReached : Type 0
PlayedReached =
    (n number resilience : ℕ) (events : List Event) (answers : List Answer) (head : Head) (w : Whole) → Played n number resilience events answers head w → Reached n number resilience events answers w

-- what the group does not show is never seen: of two that show one group, and have room, each answers an event as the other does, and they go on showing
-- one group, whatever else their arrays hold
abbrev pub Unseen : Type 0
Unseen =
    (event : Event) (head head₁ head' head₁' : Head) (w w₁ w' w₁' : Whole) (reply reply₁ : Reply) (size size₁ : ℕ) (before before₁ after after₁ : List ℕ)
    → Room head → Room head₁
    → group_of w ≡ group_of w₁ → Plays event head w head' reply size w' before after → Plays event head₁ w₁ head₁' reply₁ size₁ w₁' before₁ after₁
    → (group_of w' ≡ group_of w₁') × (answer_of reply (take size after) ≡ answer_of reply₁ (take size₁ after₁))

-- and two that were opened alike show one group, accepted or not
abbrev pub OpensAlike : Type 0
OpensAlike =
    (n number resilience : ℕ) (verdict verdict₁ : Verdict) (head head₁ : Head) (w w₁ : Whole) → Opens n number resilience verdict head w → Opens n number resilience verdict₁ head₁ w₁
    → (verdict ≡ verdict₁) × (group_of w ≡ group_of w₁)
