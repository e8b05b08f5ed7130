-- What the questions on a packet's numbers asked, where they were accepted; and what a verdict that is known leads to. Assumes
-- nothing.
use Rattle.group.specs.Question.{all_yes}
use Rattle.std.specs.Prelude.{Ok, Err}
use mathlib.Core.Path.{◌≡◌, refl}
use mathlib.Core.Bool.{true}
use Prim.Native.Nat.{ℕ, ◌+◌, ◌≤◌, ◌<◌}
use borrow.Author.Tests.{ltb-true, leb-true, lt-leb}
use Rattle.group.proofs.Choice.{when_was}
use Rattle.group.proofs.Question.{accepted≢}
use Rattle.group.specs.Choice.{when◌then◌else◌, ◌<?◌, ◌≤?◌}
use Rattle.group.specs.Limits.{largest_number}
use Rattle.group.specs.Members.{is_in, expected_of}
use Rattle.group.specs.declared.Group.{Group}
use Rattle.group.specs.declared.MemberNumber.{MemberNumber}
use Rattle.group.specs.Question.{judged}
use Rattle.group.specs.declared.Refusal.{Refusal}
use Rattle.group.specs.declared.Refusal.TheVariants.{UnknownMember, AcknowledgedAhead, CountAhead, NumbersUsedUp, NotExpected}
use Rattle.group.specs.declared.SequenceNumber.{SequenceNumber}
use Rattle.group.specs.Question.{Verdict}
use Rattle.history.specs.Ask.{sender_verdict, count_verdict, expected_verdict}

pub sender_was : (survivors top : ℕ) (sender : MemberNumber) (taken : SequenceNumber) → sender_verdict survivors top sender taken ≡ all_yes
    → (is_in survivors sender.0 ≡ true) × (taken.0 ≤ top)
unfolding sender_verdict
sender_was survivors top sender taken e =
    let a = when_was (is_in survivors sender.0) _ _ all_yes e (accepted≢ UnknownMember) in
    let b = when_was (taken.0 ≤? top) _ _ all_yes a.1 (accepted≢ AcknowledgedAhead) in
    (a.0, leb-true taken.0 top b.0)

pub count_was : (last top count : ℕ) → count_verdict last top count ≡ all_yes → (count ≤ last + 1) × (last < count → top < largest_number)
unfolding count_verdict when◌then◌else◌
count_was last top count e =
    let a = when_was (count ≤? last + 1) _ _ all_yes e (accepted≢ CountAhead) in
    let b = when_was (when count ≤? last then true else top <? largest_number) _ _ all_yes a.1 (accepted≢ NumbersUsedUp) in
    (leb-true count (last + 1) a.0, λ h. ltb-true top largest_number (rw (lt-leb count last h) at b.0))

pub expected_was : (group : Group) (accepted : ℕ) (sender : MemberNumber) (number : SequenceNumber) → expected_verdict group accepted sender number ≡ all_yes
    → accepted < number.0 → is_in (expected_of group) sender.0 ≡ true
unfolding expected_verdict when◌then◌else◌
expected_was group accepted sender number e h =
    rw (lt-leb number.0 accepted h) at
    (when_was (when number.0 ≤? accepted then true else is_in (expected_of group) sender.0) _ _ all_yes e (accepted≢ NotExpected)).0

-- a verdict that is known
module _ {A : Type 0} (v : Verdict) (f : Refusal → A) (x : A) where
  pub judged_yes : v ≡ all_yes → x ≡ judged v f x
  unfolding judged
  judged_yes e = rw e

  pub judged_no : (r : Refusal) → v ≡ Err r → f r ≡ judged v f x
  unfolding judged
  judged_no r e = rw e

-- two verdicts of which the second is asked where the first accepts
pub judged_was : (v w : Verdict) → judged v Err w ≡ all_yes → (v ≡ all_yes) × (w ≡ all_yes)
unfolding judged
judged_was (Ok _) w e = (refl, e)
judged_was (Err r) w e = absurd (accepted≢ r e)
