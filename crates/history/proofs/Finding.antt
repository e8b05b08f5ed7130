-- The law by which the search for a message goes one number on, from top downwards, and what is found is one of the numbers
-- that were searched. Assumes nothing.
use mathlib.Core.Path.{◌≡◌, refl, sym, ap, ◌∙◌}
use mathlib.Core.Bool.{Bool, true, false}
use mathlib.Core.List.{List}
use Prim.Native.Nat.{ℕ, suc, ◌+◌, ◌-◌, ◌≤◌, ◌<◌, zero}
use native.Mathlib.Omega.{arith}
use Rattle.group.specs.Choice.{when◌then◌else◌}
use Rattle.group.specs.declared.MemberNumber.{MemberNumber}
use Rattle.group.proofs.Choice.{when_true_of, when_false_of}
use Rattle.message.specs.Message.{Message}
use mathlib.Core.Logic.{◌≢◌}
use Rattle.group.proofs.Lists.{when_elim}
use Rattle.group.specs.declared.SequenceNumber.{SequenceNumber}
use Rattle.history.specs.Repeat.{is_of, find_of}
use Rattle.history.specs.State.{message_at, numbered}
use Rattle.std.specs.Prelude.{Option, Some, None}

module _ (history : List Message) (m : MemberNumber) (count floor top number : ℕ)
    (inv : find_of history m count floor (top - floor) ≡ find_of history m count floor (number - floor)) where
  find_step : floor < number
      → find_of history m count floor (top - floor)
      ≡ when is_of m count (message_at history number) then number else find_of history m count floor (number - 1 - floor)
  unfolding find_of
  find_step h =
      let e : number - floor ≡ suc (number - 1 - floor) = omega arith in
      let f : floor + suc (number - 1 - floor) ≡ number = omega arith in
      inv ∙ ap (find_of history m count floor) e ∙ rw f

  -- a turn of the search: found, on, and the end
  pub find_found : (r : Bool) → floor < number → r ≡ is_of m count (message_at history number) → r ≡ true
      → number ≡ find_of history m count floor (top - floor)
  find_found r h e t = when_true_of _ r _ _ _ e t refl ∙ sym (find_step h)

  pub find_on : (r : Bool) → floor < number → r ≡ is_of m count (message_at history number) → r ≡ false
      → find_of history m count floor (top - floor) ≡ find_of history m count floor (number - 1 - floor)
  find_on r h e t = find_step h ∙ sym (when_false_of _ r _ _ _ e t refl)

  pub find_end : number ≤ floor → 0 ≡ find_of history m count floor (top - floor)
  unfolding find_of
  find_end h = let e : number - floor ≡ 0 = omega arith in sym (inv ∙ ap (find_of history m count floor) e)

-- what is found, unless it is 0, is one of the k numbers above floor
pub found_in : (history : List Message) (m : MemberNumber) (count floor k : ℕ) → find_of history m count floor k ≢ 0
    → (floor < find_of history m count floor k) × (find_of history m count floor k ≤ floor + k)
unfolding find_of
found_in history m count floor zero some = absurd (some refl)
found_in history m count floor (suc k) some =
    when_elim (λ (x : ℕ). x ≢ 0 → (floor < x) × (x ≤ floor + suc k)) (is_of m count (message_at history (floor + suc k))) (λ t q. omega arith)
    (λ t q. let z = found_in history m count floor k q in omega arith) some

-- what was found, and that nothing was
pub numbered_some : (number found : ℕ) → 1 ≤ number → number ≡ found → Some (record { 0 = number }) ≡ numbered found
unfolding numbered
numbered_some zero found h e = absurd (omega arith)
numbered_some (suc n) found h e = rw (← e)

pub numbered_none : (found : ℕ) → 0 ≡ found → None ≡ numbered found
unfolding numbered
numbered_none found e = rw (← e)

-- and the other way round
abbrev number_in : Option SequenceNumber → ℕ
number_in None = 0
number_in (Some n) = n.0

number_in_numbered : (k : ℕ) → number_in (numbered k) ≡ k
unfolding numbered
number_in_numbered zero = refl
number_in_numbered (suc k) = refl

pub numbered_was : (k : ℕ) (n : SequenceNumber) → numbered k ≡ Some n → n.0 ≡ k
numbered_was k n e = sym (ap number_in e) ∙ number_in_numbered k

pub numbered_least : (k : ℕ) (n : SequenceNumber) → numbered k ≡ Some n → 1 ≤ n.0
unfolding numbered
numbered_least zero n e = absurd (let z : ◌≡◌ {A = ℕ} 0 1 = cc in omega arith)
numbered_least (suc k) n e = let z = numbered_was (suc k) n e in omega arith

pub numbered_not : (k : ℕ) → numbered k ≡ None → 0 ≡ k
numbered_not k e = sym (ap number_in e) ∙ number_in_numbered k
