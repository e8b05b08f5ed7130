-- A closing round has at most 109 × n - 104 events: 106 for each terminal, but at most 3 × n + 2 for the one that took most, since each
-- terminal has at most one message above what it took. Assumes nothing.
use mathlib.Core.Path.{◌≡◌, refl, sym, ap, ◌∙◌, subst}
use mathlib.Core.Option.{some}
use mathlib.Core.List.{List, [], ◌∷◌, ◌++◌}
use Prim.Native.Nat.{ℕ, zero, suc, ◌+◌, ◌-◌, ◌*◌, ◌≤◌, ◌<◌}
use native.Mathlib.Omega.{arith}
use borrow.Author.Tests.{eq-eqb, ne_eqb}
use lib.ListN.{length, get_or, take, drop, length-append}
use lib.Seq.{length-take-le, take-add}
use Rattle.group.proofs.Lists.{none≢some, at, at_taken}
use Rattle.group.specs.Choice.{when◌then◌else◌}
use Rattle.group.specs.Opening.{description_of}
use Rattle.group.specs.declared.Group as description
use Rattle.member.proofs.Acknowledged.{acknowledged_least, acknowledged_near, acknowledged_most}
use Rattle.member.proofs.Invariant.{numbered_near}
use Rattle.member.proofs.Soundness as member
use Rattle.member.specs.State.{Member, acknowledged_of}
use Rattle.message.proofs.Owning.{own_grows}
use Rattle.message.specs.Order.{Ordered, own_of}
use Rattle.model.proofs.Invariant.{WorldInv}
use Rattle.model.proofs.Step.{run_keeps, fresh_inv}
use Rattle.model.proofs.Sums.{sum_first, sum_none, sum_more, sum_near, sum_one, largest_of}
use Rattle.model.proofs.Theorem.{row_length, member_length}
use Rattle.model.proofs.Whole.{floor_le}
use Rattle.model.specs.Claim.{sum, Opens}
use Rattle.model.specs.Closing.{take_row, close_member, close_from, closing, closing_most}
use Rattle.model.specs.Log.{order}
use Rattle.model.specs.Longest.{longest_closing, Figure, AtMost, last_taken, FewLeft}
use Rattle.model.specs.World.{Event, World, no_member, run, fresh}
use Rattle.sequencer.proofs.Soundness.{sound_of_lem}

-- the part of a closing round that is member m's: its row, three events for each number above it, a status and its handing over
abbrev part_of : ℕ → Member → ℕ
part_of last m = ((acknowledged_of m).0 - m.taken.0) + 3 * (last - (acknowledged_of m).0) + 2

-- a closing round is the sum of these parts
from_parts : (ms : List Member) (i top b : ℕ) → length (close_from ms i top b) ≡ sum (length ms) (λ k. part_of top (get_or ms k no_member))
unfolding close_from sum
from_parts [] i top b = refl
from_parts (m ∷ ms) i top b =
    let a : ℕ = (acknowledged_of m).0 in
    let r = row_length i (a - m.taken.0) in
    let y = member_length i a (top - a) b in
    let z = from_parts ms (i + 1) top (b + (top - a) + 1) in
    let s = sum_first (length ms) (λ k. part_of top (get_or (m ∷ ms) k no_member)) in
    simp length-append (omega arith)

pub closing_length : (w : World) → length (closing w) ≡ sum (length w.group.members) (λ k. part_of w.group.sequencer.accepted.0 (get_or w.group.members k no_member))
closing_length w = from_parts w.group.members 0 w.group.sequencer.accepted.0 (length w.group.packets)

at_behind : (m : Ordered) (l : List Ordered) (s : ℕ) {x : Ordered} → at l s ≡ some x → at (m ∷ l) (suc s) ≡ some x
at_behind m l zero e = absurd (none≢some e)
at_behind m l (suc s) e = e

-- a list of messages of n originators is as long as these have messages in it
sum_own : (n : ℕ) (l : List Ordered) → ((s : ℕ) (m : Ordered) → at l s ≡ some m → m.originator < n) → length l ≡ sum n (λ k. length (own_of k l))
unfolding own_of when◌then◌else◌
sum_own n [] h = sym (sum_none n)
sum_own n (m ∷ l) h =
    let z = sum_own n l (λ s x e. h (suc s) x (at_behind m l s e)) in
    let y = sum_more n m.originator (λ k. length (own_of k (m ∷ l))) (λ k. length (own_of k l)) (h 1 m refl)
    (rw (eq-eqb m.originator m.originator refl) (omega arith)) (λ i e. rw (ne_eqb m.originator i (λ q. e (sym q)))) in
    omega arith

module _ (group : description.Group) (w : World) (v : WorldInv group w) where
  -- at most one message of terminal k lies above what terminal j took, if k took no more
  own_near : (j k : ℕ) → j < group.n → k < group.n → last_taken w k ≤ last_taken w j
      → length (own_of k (order w.log)) ≤ length (own_of k (take (last_taken w j) (order w.log))) + 1
  own_near j k bj bk le =
      let ord : List Ordered = order w.log in
      let t : ℕ = last_taken w k in
      let up : t + (last_taken w j - t) ≡ last_taken w j = omega arith in
      let h = (v.terminal k bk).content in
      let most = (numbered_near h).1 in
      let has = h.own_taken in
      let took : length (own_of k (take t ord)) ≡ _ = ap (λ (l : List Ordered). length (own_of k l)) (sym h.took_is) ∙ has in
      let grows : length (own_of k (take t ord)) ≤ length (own_of k (take (last_taken w j) ord)) =
      subst (λ (l : List Ordered). length (own_of k (take t ord)) ≤ length (own_of k l)) (sym (take-add t (last_taken w j - t) ord) ∙ ap (λ (x : ℕ). take x ord) up)
      (own_grows k (take t ord) (take (last_taken w j - t) (drop t ord))) in
      omega arith

  few : (j : ℕ) → j < group.n → ((i : ℕ) → i < group.n → last_taken w i ≤ last_taken w j) → w.group.sequencer.top.0 ≤ last_taken w j + group.n
  few j bj most =
      let ord : List Ordered = order w.log in
      let t : ℕ = last_taken w j in
      let s = v.sequencer in
      let top = s.top_is in
      let all = sum_own group.n ord s.originator_ok in
      let below = sum_own group.n (take t ord) (λ k m e. s.originator_ok k m (at_taken t ord k e).1) in
      let size = length-take-le t ord (v.terminal j bj).content.taken_le in
      let near = sum_near group.n (λ k. length (own_of k ord)) (λ k. length (own_of k (take t ord))) (λ k b. own_near j k bj b (most k b)) in
      omega arith

  -- a terminal's part is at most 106
  part_most : (k : ℕ) → k < group.n → part_of w.group.sequencer.accepted.0 (get_or w.group.members k no_member) ≤ closing_most
  part_most k b =
      let m : Member = get_or w.group.members k no_member in
      let near = acknowledged_near m in
      let f = floor_le group w k v b in
      let x = sound_of_lem w.group.sequencer v.sequencer.sound in
      let wide = x.window in
      let high = x.accepted_le in
      omega arith

  short : 1 ≤ group.n → length (closing w) ≤ longest_closing group.n
  short lo =
      let n : ℕ = group.n in
      let last : ℕ = w.group.sequencer.accepted.0 in
      let part : ℕ → ℕ = λ k. part_of last (get_or w.group.members k no_member) in
      let best = largest_of n (last_taken w) lo in
      let j : ℕ = best.0 in
      let m : Member = get_or w.group.members j no_member in
      let left = few j best.1 best.2 in
      let least = acknowledged_least m (member.sound_of_lem m (v.terminal j best.1).content.sound) in
      let high = (sound_of_lem w.group.sequencer v.sequencer.sound).accepted_le in
      let most = acknowledged_most (v.terminal j best.1) in
      let top_is = v.sequencer.top_is in
      let one : part j ≤ 3 * n + 2 = omega arith in
      let z = sum_one n closing_most (3 * n + 2) j part best.1 part_most one in
      let e : length (closing w) ≡ sum n part = subst (λ (k : ℕ). length (closing w) ≡ sum k part) v.members (closing_length w) in
      omega arith

reached : (n number resilience : ℕ) → Opens n number resilience → (events : List Event) → WorldInv (description_of n number resilience) (run (fresh n number resilience) events)
reached n number resilience o events =
    run_keeps (description_of n number resilience) o.most o.fits (fresh n number resilience) events (fresh_inv n number resilience o)

pub at_most : AtMost
at_most n number resilience o events =
    short (description_of n number resilience) (run (fresh n number resilience) events) (reached n number resilience o events) o.least

pub few_left : FewLeft
few_left n number resilience o events j b most =
    let z = few (description_of n number resilience) (run (fresh n number resilience) events) (reached n number resilience o events) j b most in
    omega arith

pub figure : Figure
figure n lo = omega arith
