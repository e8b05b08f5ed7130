-- What is known of each member, and the history's 32 places.
use Rattle.std.specs.Prelude.{List, ℕ, zero, suc, ◌%◌, get_or, Option, Some, None}
use Rattle.group.specs.Fold.{least_of}
use Rattle.group.specs.Limits.{places_most, largest_number}
use Rattle.group.specs.Members.{is_in}
use Rattle.group.specs.declared.MemberNumber.{MemberNumber}
use Rattle.group.specs.declared.SequenceNumber.{SequenceNumber}
use Rattle.message.specs.Message.{Message, blank}

-- what is known of a member: the last number that it is known to have taken, its last own count that was numbered, and how often it
-- repeated itself
pub record Acknowledgement : Type 0 where
  pub taken : SequenceNumber
  pub count : ℕ
  pub repeats : ℕ

-- of a member of whom nothing is known yet
abbrev pub no_acknowledgement : Acknowledgement
no_acknowledgement = record { taken = record { 0 = 0 }; count = 0; repeats = 0 }

-- what is known of member m
abbrev pub acknowledgement_of : List Acknowledgement → MemberNumber → Acknowledgement
acknowledgement_of table m = get_or table m.0 no_acknowledgement

-- the message numbered s lies in place s modulo 32
abbrev pub place_of : ℕ → ℕ
place_of number = number % places_most

abbrev pub message_at : List Message → ℕ → Message
message_at history number = get_or history (place_of number) blank

-- floor is the smallest of the survivors' acknowledgements
unfoldable pub floor_of : ℕ → List Acknowledgement → ℕ
floor_of survivors table = least_of (is_in survivors) (λ a. a.taken.0) 0 largest_number table

-- a number that was looked for: 0 stands for none
unfoldable pub numbered : ℕ → Option SequenceNumber
numbered zero = None
numbered (suc n) = Some (record { 0 = suc n })
