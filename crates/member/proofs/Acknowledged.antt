-- A member's reach, the end of the row that it took or holds, and what it acknowledges of it in its packets: what is accepted. The reach
-- lies between what it took and the order's length, below every missing number, and no call lowers it, nor the last number that it knows
-- to be accepted. Other proofs know of both only what these laws say. Assumes nothing.
use mathlib.Core.Path.{◌≡◌, ap, ◌∙◌}
use mathlib.Core.Logic.{◌≢◌}
use mathlib.Core.Bool.{false}
use mathlib.Core.List.{List}
use Prim.Native.Nat.{ℕ, ◌+◌, ◌-◌, ◌≤◌, ◌<◌}
use native.Mathlib.Nat.{le_refl, le_trans}
use native.Mathlib.Omega.{arith}
use borrow.Author.Tests.{ltb-false}
use lib.ListN.{length}
use Rattle.group.specs.Limits.{held_most, largest_number}
use Rattle.group.specs.declared.Group.{Group}
use Rattle.group.specs.declared.SequenceNumber.{SequenceNumber}
use Rattle.group.proofs.Lists.{at_le, le_or}
use Rattle.message.specs.Order.{Ordered}
use Rattle.message.specs.Message.{Message}
use Rattle.member.specs.Calls.{with_waiting, with_held, with_accepted, with_taken}
use Rattle.member.specs.Laws.{Typed}
use Rattle.member.specs.State.{Member, reach_of, acknowledged_of}
use Rattle.window.specs.Places.{message_at, is_held, lowest_missing, smaller_of}
use Rattle.window.specs.Steps.{Counted, row_counted}
use Rattle.window.proofs.Missing.{Lowest, lowest_is, lowest_none}
use Rattle.window.proofs.Row.{Row, row_is, row_one, row_reach, row_below, row_up, row_same, row_take, row_counted_lem, smaller_le, le_smaller, larger_le}
use Rattle.member.proofs.Invariant.{Content, Terminal}
use Rattle.member.proofs.Soundness.{Sound}

-- how many numbers above t there are, of eight
abbrev pub left : ℕ → ℕ
left t = smaller_of largest_number (t + held_most) - t

left_most : (t : ℕ) → left t ≤ held_most
left_most t = let z = (smaller_le largest_number (t + held_most)).1 in omega arith

-- what is at most each of the two numbers lies among them
pub in_left : (t last : ℕ) → last ≤ t + held_most → last ≤ largest_number → last ≤ t + left t
in_left t last near fits = let z = le_smaller largest_number (t + held_most) last fits near in omega arith

-- what no call lowers
pub record Up (m m' : Member) : Type 0 where
  pub reach : reach_of m ≤ reach_of m'
  pub accepted : m.accepted.0 ≤ m'.accepted.0

pub up_refl : (m : Member) → Up m m
up_refl m = record { reach = le_refl _; accepted = le_refl _ }

pub up_trans : {m m' m'' : Member} → Up m m' → Up m' m'' → Up m m''
up_trans a b = record { reach = le_trans a.reach b.reach; accepted = le_trans a.accepted b.accepted }

module _ (m : Member) where
  -- the reach is the end of the row above t
  reach_row : Row m.held m.taken.0 (left m.taken.0) (reach_of m)
  unfolding reach_of
  reach_row = row_is m.held m.taken.0 (left m.taken.0)

  pub reach_least : m.taken.0 ≤ reach_of m
  reach_least = reach_row.least

  pub reach_near : reach_of m ≤ m.taken.0 + held_most
  reach_near = let z = reach_row.most in let y = left_most m.taken.0 in omega arith

  -- what it reaches and did not take, it holds
  pub reach_holds : (s : ℕ) → m.taken.0 < s → s ≤ reach_of m → 1 ≤ (message_at m.held s).count
  reach_holds = reach_row.holds

  -- a missing number lies above it
  pub reach_missing : {k low : ℕ} → Lowest m.held m.taken.0 k low → reach_of m < low
  reach_missing {low = low} l = row_below reach_row low l.above l.missing

  -- a number up to which none is missing does not
  pub reach_none : (number : ℕ) → number ≤ largest_number → number ≤ m.taken.0 + held_most → lowest_missing m.held m.taken.0 (number - m.taken.0) ≡ 0
      → number ≤ reach_of m
  reach_none number most near none =
      le_or number m.taken.0 (λ h. let z = reach_least in omega arith)
      (λ h. row_reach reach_row number
      (let z = le_smaller largest_number (m.taken.0 + held_most) number most near in omega arith)
      (λ s lo hi. lowest_none m.held m.taken.0 (number - m.taken.0) none s lo (omega arith)))

  -- what is acknowledged is accepted and reached, and at least what is both
  pub acknowledged_reach : (acknowledged_of m).0 ≤ reach_of m
  unfolding acknowledged_of
  acknowledged_reach = (smaller_le (reach_of m) m.accepted.0).0

  pub acknowledged_accepted : (acknowledged_of m).0 ≤ m.accepted.0
  unfolding acknowledged_of
  acknowledged_accepted = (smaller_le (reach_of m) m.accepted.0).1

  pub acknowledged_both : (k : ℕ) → k ≤ reach_of m → k ≤ m.accepted.0 → k ≤ (acknowledged_of m).0
  unfolding acknowledged_of
  acknowledged_both = le_smaller (reach_of m) m.accepted.0

  pub acknowledged_least : Sound m → m.taken.0 ≤ (acknowledged_of m).0
  acknowledged_least sound = acknowledged_both m.taken.0 reach_least sound.taken_le

  pub acknowledged_near : (acknowledged_of m).0 ≤ m.taken.0 + held_most
  acknowledged_near = le_trans acknowledged_reach reach_near

  pub acknowledged_fits : Typed m → (acknowledged_of m).0 ≤ largest_number
  acknowledged_fits typed = le_trans acknowledged_accepted typed.accepted

  -- what it acknowledges and did not take, it holds
  pub acknowledged_holds : (s : ℕ) → m.taken.0 < s → s ≤ (acknowledged_of m).0 → 1 ≤ (message_at m.held s).count
  acknowledged_holds s lo hi = reach_holds s lo (le_trans hi acknowledged_reach)

  pub acknowledged_missing : {k low : ℕ} → Lowest m.held m.taken.0 k low → (acknowledged_of m).0 < low
  acknowledged_missing l = let z = reach_missing l in let y = acknowledged_reach in omega arith

  -- a message waits
  pub up_waiting : (payload : List ℕ) → Up m (with_waiting m payload)
  unfolding reach_of with_waiting
  up_waiting payload = record { reach = le_refl _; accepted = le_refl _ }

  -- all up to a number are accepted
  pub up_accepted : (k : ℕ) → Up m (with_accepted m k)
  unfolding reach_of with_accepted
  up_accepted k = record { reach = le_refl _; accepted = (larger_le m.accepted.0 k).0 }

  -- a message is kept under a number that was not held; where one below is missing, that changes nothing
  module _ (k : ℕ) (x : Message) (lo : m.taken.0 < k) (hi : k ≤ m.taken.0 + held_most) where
    pub up_held : is_held m.held k ≡ false → Up m (with_held m k x)
    unfolding reach_of with_held
    up_held e = record { reach = row_up reach_row k x (let z = ltb-false 0 (message_at m.held k).count e in omega arith); accepted = le_refl _ }

    pub reach_gapped : lowest_missing m.held m.taken.0 (k - 1 - m.taken.0) ≢ 0 → reach_of (with_held m k x) ≡ reach_of m
    unfolding reach_of with_held
    reach_gapped n =
        let l = lowest_is m.held m.taken.0 (k - 1 - m.taken.0) n in
        let low = lowest_missing m.held m.taken.0 (k - 1 - m.taken.0) in
        row_one (row_same reach_row k x low l.above (let z = l.up_to in omega arith) hi l.missing)

    pub acknowledged_gapped : lowest_missing m.held m.taken.0 (k - 1 - m.taken.0) ≢ 0 → acknowledged_of (with_held m k x) ≡ acknowledged_of m
    unfolding acknowledged_of with_held
    acknowledged_gapped n = let e = reach_gapped n in λ i. record { 0 = smaller_of (e i) m.accepted.0 }

  -- the next number, which is held, is taken
  pub reach_took : (x : Message) → Typed m → Sound m → 1 ≤ (message_at m.held (m.taken.0 + 1)).count → reach_of (with_taken m x) ≡ reach_of m
  unfolding reach_of with_taken
  reach_took x typed sound c =
      let t = m.taken.0 in
      let more = (sound.places.holds (t + 1) (omega arith) (omega arith) c).number_le in
      let w = reach_row in
      let near = smaller_le largest_number (t + held_most) in
      let next = smaller_le largest_number (t + 1 + held_most) in
      let a = le_smaller largest_number (t + held_most) in
      let b = le_smaller largest_number (t + 1 + held_most) in
      let one = row_reach w (t + 1) (let z = a (t + 1) (omega arith) (omega arith) in omega arith) (λ s lo hi. let e : s ≡ t + 1 = omega arith in rw e c) in
      row_one (row_take w (left (t + 1)) typed.held (left_most t) (omega arith)
      (let y = w.most in let z = b (smaller_of largest_number (t + held_most)) near.0 (let q = near.1 in omega arith) in let p = b (t + 1) (omega arith) (omega arith) in omega arith)
      (λ h. le_or (t + held_most) largest_number
      (λ z. let y = a (t + held_most) z (le_refl _) in let q = near.1 in omega arith)
      (λ z. let y = a largest_number (le_refl _) (omega arith) in let q = next.0 in absurd (omega arith))))

  pub acknowledged_took : (x : Message) → Typed m → Sound m → 1 ≤ (message_at m.held (m.taken.0 + 1)).count → (acknowledged_of (with_taken m x)).0 ≡ (acknowledged_of m).0
  unfolding acknowledged_of with_taken
  acknowledged_took x typed sound c = ap (λ (r : ℕ). smaller_of r m.accepted.0) (reach_took x typed sound c)

  pub up_took : (x : Message) → Typed m → Sound m → 1 ≤ (message_at m.held (m.taken.0 + 1)).count → Up m (with_taken m x)
  unfolding with_taken
  up_took x typed sound c = record { reach = rw (reach_took x typed sound c) (le_refl _); accepted = le_refl _ }

  -- what the scan of the counts finds
  pub end_counted : (counts : List ℕ) → Counted counts m.held → (r : ℕ) → m.taken.0 ≤ largest_number
      → r ≡ row_counted counts m.taken.0 (smaller_of largest_number (m.taken.0 + held_most)) → r ≡ reach_of m
  unfolding reach_of
  end_counted counts c r most e =
      e ∙ row_counted_lem counts m.held c m.taken.0 _ (le_smaller largest_number (m.taken.0 + held_most) m.taken.0 most (omega arith))

  -- what is acknowledged is the smaller of the row's end and the last accepted number
  pub acknowledged_end : (r : SequenceNumber) → r.0 ≡ smaller_of (reach_of m) m.accepted.0 → r ≡ acknowledged_of m
  unfolding acknowledged_of
  acknowledged_end r e = λ i. record { 0 = e i }

-- what a member acknowledges grows with its reach and with what is accepted
pub up_row : (m m' : Member) → Up m m' → (acknowledged_of m).0 ≤ (acknowledged_of m').0
up_row m m' u = acknowledged_both m' (acknowledged_of m).0 (le_trans (acknowledged_reach m) u.reach) (le_trans (acknowledged_accepted m) u.accepted)

-- a terminal reaches no more than was numbered
pub reach_most : {i : ℕ} {m : Member} {order took : List Ordered} {submitted : List (List ℕ)} → Content i m order took submitted → reach_of m ≤ length order
reach_most {m = m} {order = order} h =
    let a = reach_of m in
    le_or a m.taken.0
    (λ z. let y = h.taken_le in omega arith)
    (λ z. at_le order a (h.held_is a z (reach_near m) (reach_holds m a z (le_refl a))).1)

-- and acknowledges no more than was accepted
pub acknowledged_most : {group : Group} {i acknowledged accepted : ℕ} {m : Member} {order took : List Ordered} {submitted : List (List ℕ)}
    → Terminal group i acknowledged accepted m order took submitted → (acknowledged_of m).0 ≤ accepted
acknowledged_most {m = m} h = le_trans (acknowledged_accepted m) h.seat.accepted_le
