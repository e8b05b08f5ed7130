-- A kept message, and the place that holds none.
use Rattle.std.specs.Prelude.{Bool, true, List, [], ◌∷◌, ◌++◌, ℕ, ◌-◌, length, take, drop, replicate}
use Rattle.group.specs.Choice.{◌and◌, ◌=?◌}
use Rattle.group.specs.Limits.{payload_most}
use Rattle.group.specs.declared.MemberNumber.{MemberNumber}

-- a place that holds a message, or none: it is empty exactly if its count is 0
pub record Message : Type 0 where
  pub originator : MemberNumber
  pub count : ℕ
  pub length : ℕ
  pub payload : List ℕ

-- every byte is zero
unfoldable pub all_zero : List ℕ → Bool
all_zero [] = true
all_zero (b ∷ rest) = b =? 0 and all_zero rest

-- the first `from` bytes as they are, zeros behind them
abbrev pub zeroed_from : ℕ → List ℕ → List ℕ
zeroed_from from bytes = take from bytes ++ replicate (length bytes - from) 0

-- a payload with zeros behind it, up to the limit
abbrev pub padded : List ℕ → List ℕ
padded payload = payload ++ replicate (payload_most - length payload) 0

-- the message with that originator, count and payload
unfoldable pub message_of : MemberNumber → ℕ → List ℕ → Message
message_of originator count payload =
    record { originator = originator; count = count; length = length payload; payload = padded payload }

-- a place that holds no message is all zero
unfoldable pub empty_message : Message
empty_message = record { originator = record { 0 = 0 }; count = 0; length = 0; payload = replicate payload_most 0 }

-- the bytes of a message's payload
unfoldable pub payload_of : Message → List ℕ
payload_of m = take m.length m.payload

-- every byte behind the payload is zero
unfoldable pub zero_behind : Message → Bool
zero_behind m = all_zero (drop m.length m.payload)

-- every byte and field of the place is zero
unfoldable pub is_empty : Message → Bool
is_empty m = m.originator.0 =? 0 and m.count =? 0 and m.length =? 0 and zero_behind m

-- what a list of messages is read as past its end: the value that the code's own reads have there
abbrev pub blank : Message
blank = record { originator = record { 0 = 0 }; count = 0; length = 0; payload = [] }
