-- Demand 3: the closing round over all terminals, and the claim about every list of events. Assumes nothing.
use mathlib.Core.Path.{◌≡◌, refl, sym, ap, ap₂, ◌∙◌, subst}
use mathlib.Core.List.{List, [], ◌∷◌, ◌++◌}
use Prim.Native.Nat.{ℕ, zero, suc, ◌+◌, ◌-◌, ◌*◌, ◌≤◌, ◌<◌}
use native.Mathlib.Nat.{not-suc-le-zero, zero-add}
use native.Mathlib.Omega.{arith}
use lib.ListN.{length, get_or, take, drop, length-append}
use Rattle.group.proofs.Lists.{eq_or}
use Rattle.group.specs.Limits.{members_most, places_most, largest_number}
use Rattle.group.specs.Opening.{description_of}
use Rattle.group.specs.declared.Group as description
use Rattle.history.proofs.Soundness.{taken_in}
use Rattle.member.proofs.Acknowledged.{acknowledged_near}
use Rattle.member.specs.State.{Member, acknowledged_of}
use Rattle.model.proofs.Invariant.{WorldInv, taken_of}
use Rattle.model.proofs.Round.{closes}
use Rattle.model.proofs.Step.{run_keeps, fresh_inv}
use Rattle.model.proofs.Whole.{floor_le, history_is, whole, total, owns}
use Rattle.message.specs.Order.{Ordered}
use Rattle.model.specs.Claim.{Claim, Demand3}
use Rattle.model.specs.Closing.{take_row, close_member, close_from, closing, closing_most}
use Rattle.model.specs.Log.{order}
use Rattle.model.specs.World.{Event, no_member, World, run, step, fresh}
use Rattle.sequencer.proofs.Ordering.{floor_all}
use Rattle.sequencer.proofs.Soundness.{sound_of_lem}

run_append : (w : World) (a b : List Event) → run w (a ++ b) ≡ run (run w a) b
unfolding run
run_append w [] b = refl
run_append w (e ∷ a) b = run_append (step w e) a b

-- terminal j took all up to a number, and the sequencer knows it
abbrev Has : World → ℕ → ℕ → Type 0
Has w last j = (taken_of w.group.members j ≡ last) × (last ≤ taken_in w.group.sequencer.acknowledgements j)

record Closes (n : ℕ) (w w' : World) : Type 0 where
  accepted_is : w'.group.sequencer.accepted.0 ≡ w.group.sequencer.accepted.0
  each : (j : ℕ) → j < n → Has w' w.group.sequencer.accepted.0 j
  order_is : order w'.log ≡ order w.log

module _ (group : description.Group) (hn : group.n ≤ members_most) (hg : group.number ≤ largest_number) where
  closes_from : (ms : List Member) (i b : ℕ) (w : World) → WorldInv group w → length w.group.packets ≡ b → i + length ms ≡ group.n
      → ((k : ℕ) → k < length ms → get_or w.group.members (i + k) no_member ≡ get_or ms k no_member)
      → ((j : ℕ) → j < i → Has w w.group.sequencer.accepted.0 j)
      → Closes group.n w (run w (close_from ms i w.group.sequencer.accepted.0 b))
  unfolding close_from run
  closes_from [] i b w v eb ei hm ha = record { accepted_is = refl; each = λ j x. ha j (omega arith); order_is = refl }
  closes_from (m ∷ ms) i b w v eb ei hm ha =
      let last : ℕ = w.group.sequencer.accepted.0 in
      let a : ℕ = (acknowledged_of m).0 in
      let hi : i < group.n = omega arith in
      let em : get_or w.group.members i no_member ≡ m = subst (λ (k : ℕ). get_or w.group.members k no_member ≡ m) (omega arith) (hm 0 (omega arith)) in
      let row : List Event = take_row i (a - m.taken.0) in
      let es : List Event = close_member i a (last - a) b in
      let w1 : World = run (run w row) es in
      let v1 : WorldInv group w1 = run_keeps group hn hg (run w row) es (run_keeps group hn hg w row v) in
      let c = closes group hn hg i hi m b w v em eb in
      let d = closes_from ms (i + 1) (b + (last - a) + 1) w1 v1 (c.length_is ∙ (omega arith)) (omega arith)
      (λ k x. let e : i + 1 + k ≡ i + suc k = omega arith in
      c.others_are (i + 1 + k) (λ z. omega arith) ∙ ap (λ (j : ℕ). get_or w.group.members j no_member) e ∙ hm (suc k) (omega arith))
      (λ j x. rw c.accepted_is
      (eq_or j i (λ e. rw e (c.taken_is, c.entry_is))
      (λ e. let y = ha j (omega arith) in (ap (λ (x : Member). x.taken.0) (c.others_are j e) ∙ y.0, rw (c.entry_other j e) y.1)))) in
      let accepted1 : w1.group.sequencer.accepted.0 ≡ last = c.accepted_is in
      let rest : List Event = close_from ms (i + 1) last (b + (last - a) + 1) in
      let d' : Closes group.n w1 (run w1 rest) = subst (λ (k : ℕ). Closes group.n w1 (run w1 (close_from ms (i + 1) k (b + (last - a) + 1)))) accepted1 d in
      subst (λ (x : World). Closes group.n w x) (sym (run_append w (row ++ es) rest ∙ ap (λ (x : World). run x rest) (run_append w row es)))
      (record { accepted_is = d'.accepted_is ∙ accepted1; each = λ j x. rw accepted1 at (d'.each j x); order_is = d'.order_is ∙ c.order_is })

-- its length
pub row_length : (i k : ℕ) → length (take_row i k) ≡ k
unfolding take_row
row_length i zero = refl
row_length i (suc k) = ap suc (row_length i k)

pub member_length : (i t k b : ℕ) → length (close_member i t k b) ≡ 3 * k + 2
unfolding close_member
member_length i t zero b = refl
member_length i t (suc k) b = let z = member_length i (t + 1) k (b + 1) in omega arith

from_length : (ms : List Member) (i top b : ℕ) → ((k : ℕ) → k < length ms → top - (acknowledged_of (get_or ms k no_member)).0 ≤ places_most) → length (close_from ms i top b) ≤ closing_most * length ms
unfolding close_from
from_length [] i top b h = omega arith
from_length (m ∷ ms) i top b h =
    let a : ℕ = (acknowledged_of m).0 in
    let x = h 0 (omega arith) in
    let near = acknowledged_near m in
    let r = row_length i (a - m.taken.0) in
    let y = member_length i a (top - a) b in
    let z = from_length ms (i + 1) top (b + (top - a) + 1) (λ k q. h (suc k) (omega arith)) in
    simp length-append (omega arith)

claim : (group : description.Group) → group.n ≤ members_most → group.number ≤ largest_number → (w : World) → WorldInv group w → Claim group.n w
claim group hn hg w v =
    let w' : World = run w (closing w) in
    let v' : WorldInv group w' = run_keeps group hn hg w (closing w) v in
    let c = closes_from group hn hg w.group.members 0 (length w.group.packets) w v refl (zero-add _ ∙ v.members)
    (λ k x. ap (λ (j : ℕ). get_or w.group.members j no_member) (zero-add k)) (λ j x. absurd (not-suc-le-zero x)) in
    let s' = v'.sequencer in
    let same = c.accepted_is in
    let fl = floor_all group (order w'.log) w'.group.sequencer s' (λ i b. let y = (c.each i b).1 in omega arith) in
    let e : w'.group.sequencer.floor.0 ≡ w.group.sequencer.accepted.0 = fl ∙ same in
    record {
      whole = λ i b. whole group w i v b;
      total = total group w v;
      own = λ i b. owns group w i v b;
      closing_short =
          let y = from_length w.group.members 0 w.group.sequencer.accepted.0 (length w.group.packets)
          (λ k a. let b : k < group.n = (let e = v.members in omega arith) in
          let f = floor_le group w k v b in
          let x = sound_of_lem w.group.sequencer v.sequencer.sound in
          let z = x.window in
          let q = x.accepted_le in
          omega arith) in
          subst (λ (k : ℕ). length (closing w) ≤ closing_most * k) v.members y;
      closing_order = c.order_is;
      closing_leaves =
          history_is group w'.group.sequencer (order w'.log) s'
          ∙ ap₂ (λ (k : ℕ) (l : List Ordered). drop k l) e c.order_is;
      closing_gives = λ i b.
          let h = (v'.terminal i b).content in
          let y = (c.each i b).0 in
          h.took_is ∙ ap₂ (λ (k : ℕ) (l : List Ordered). take k l) y c.order_is;
    }

pub demand3 : Demand3
demand3 n number resilience o events =
    claim (description_of n number resilience) o.most o.fits (run (fresh n number resilience) events)
    (run_keeps (description_of n number resilience) o.most o.fits (fresh n number resilience) events (fresh_inv n number resilience o))
