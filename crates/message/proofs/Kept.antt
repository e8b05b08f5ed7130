-- What is known of a kept message and of the empty one: the payload comes back, and zeros stand behind it. Assumes nothing.
use mathlib.Core.Path.{◌≡◌, refl, ap, ◌∙◌}
use mathlib.Core.Bool.{true}
use mathlib.Core.List.{List}
use Prim.Native.Nat.{ℕ, zero, suc, ◌-◌, ◌≤◌}
use native.Mathlib.Omega.{arith}
use lib.ListN.{length, replicate, length-take}
use lib.Seq.{drop_at, take_at}
use Rattle.group.specs.Choice.{when◌then◌else◌}
use Rattle.group.specs.Limits.{payload_most}
use Rattle.group.specs.declared.MemberNumber.{MemberNumber}
use Rattle.message.specs.Message.{Message, all_zero, message_of, empty_message, payload_of, zero_behind, is_empty}

pub all_zeros : (k : ℕ) → all_zero (replicate k 0) ≡ true
unfolding all_zero when◌then◌else◌
all_zeros zero = refl
all_zeros (suc k) = all_zeros k

pub kept_payload : (m : MemberNumber) (count : ℕ) (payload : List ℕ) → payload_of (message_of m count payload) ≡ payload
unfolding payload_of message_of
kept_payload m count payload = take_at payload (replicate (payload_most - length payload) 0) (length payload) refl

-- a message's payload is as long as it says, or shorter
pub payload_short : (m : Message) → m.length ≤ payload_most → length (payload_of m) ≤ payload_most
unfolding payload_of
payload_short m h = simp length-take (omega arith)

pub kept_zero : (m : MemberNumber) (count : ℕ) (payload : List ℕ) → zero_behind (message_of m count payload) ≡ true
unfolding zero_behind message_of
kept_zero m count payload =
    ap all_zero (drop_at payload (replicate (payload_most - length payload) 0) (length payload) refl) ∙ all_zeros (payload_most - length payload)

pub empty_zero : is_empty empty_message ≡ true
unfolding is_empty zero_behind empty_message all_zero when◌then◌else◌
empty_zero = refl
