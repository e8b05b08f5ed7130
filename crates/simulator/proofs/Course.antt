-- An event at a time: the group that was reached is the one that the event happens to. Assumes nothing.
use mathlib.Core.Path.{◌≡◌, refl, sym, ap, ◌∙◌}
use mathlib.Core.List.{List, [], ◌∷◌, ◌++◌, map}
use Prim.Native.Nat.{ℕ, ◌≤◌}
use Rattle.group.specs.Limits.{members_most}
use Rattle.model.specs.World.{Event, Answer, Group, happen, Entry, World, step, run, fresh}
use Rattle.simulator.specs.Course.{Played, opened, played, Reached, PlayedReached, Unseen, OpensAlike}
use Rattle.simulator.specs.Whole.{Room, Whole}
use Rattle.simulator.specs.declared.Head.{Head}

map_snoc : {A B : Type 0} (f : A → B) (l : List A) (x : A) → map f (l ++ (x ∷ [])) ≡ map f l ++ (f x ∷ [])
map_snoc f [] x = refl
map_snoc f (y ∷ l) x = ap (λ (r : List _). f y ∷ r) (map_snoc f l x)

run_snoc : (w : World) (events : List Event) (event : Event) → run w (events ++ (event ∷ [])) ≡ step (run w events) event
unfolding run
run_snoc w [] event = refl
run_snoc w (e ∷ events) event = run_snoc (step w e) events event

module _ (n number resilience : ℕ) where
  -- there is room for every member
  few : {events : List Event} {answers : List Answer} {head : Head} {w : Whole} → Played n number resilience events answers head w → head.sequencer.group.n ≤ members_most
  few (opened verdict head w o accepted) = o.room.members
  few (played {events} {answers} {head} {w} event head' reply written w' before after p room d) = let z = few p in rw d.same z

  here : {events : List Event} {answers : List Answer} {head : Head} {w : Whole} → Played n number resilience events answers head w → Reached n number resilience events answers w
  unfolding run fresh
  here (opened verdict head w o accepted) = record { group = o.group accepted; log = refl }
  here (played {events} {answers} {head} {w} event head' reply written w' before after p room d) =
      let h = here p in
      let has : Room head = record { packets = room; members = few p } in
      let w₀ = run (fresh n number resilience) events in
      let s : run (fresh n number resilience) (events ++ (event ∷ [])) ≡ step w₀ event = run_snoc (fresh n number resilience) events event in
      let a = ap (λ (g : Group). (happen g event).answer) (sym h.group) ∙ sym (d.answer has) in
      record {
        group = d.group has ∙ ap (λ (g : Group). (happen g event).group) h.group ∙ ap (λ (x : World). x.group) (sym s);
        log =
            ap (λ (x : World). map (λ (entry : Entry). entry.answer) x.log) s
            ∙ map_snoc (λ (entry : Entry). entry.answer) w₀.log (record { event = event; answer = (happen w₀.group event).answer })
            ∙ ap (λ (l : List Answer). l ++ ((happen w₀.group event).answer ∷ [])) h.log
            ∙ ap (λ (x : Answer). answers ++ (x ∷ [])) a;
      }

pub played_reached : PlayedReached
played_reached n number resilience events answers head w p = here n number resilience p

pub unseen : Unseen
unseen event head head₁ head' head₁' w w₁ w' w₁' reply reply₁ size size₁ before before₁ after after₁ room room₁ e p q = (
  p.group room ∙ ap (λ (g : Group). (happen g event).group) e ∙ sym (q.group room₁),
  p.answer room ∙ ap (λ (g : Group). (happen g event).answer) e ∙ sym (q.answer room₁),
)

pub opens_alike : OpensAlike
opens_alike n number resilience verdict verdict₁ head head₁ w w₁ p q = (p.verdict_is ∙ sym q.verdict_is, p.shown ∙ sym q.shown)
