-- A request that was sent before: which message of the history it is, the count of a member's repeats, and that of all members.
use Rattle.std.specs.Prelude.{Bool, List, [], ◌∷◌, ℕ, zero, suc, ◌+◌}
use Rattle.group.specs.Choice.{when◌then◌else◌, ◌and◌, ◌<?◌, ◌=?◌}
use Rattle.group.specs.Limits.{largest_number}
use Rattle.group.specs.declared.MemberNumber.{MemberNumber}
use Rattle.message.specs.Message.{Message}
use Rattle.history.specs.State.{Acknowledgement, message_at}

-- a message of that originator and count
unfoldable pub is_of : MemberNumber → ℕ → Message → Bool
is_of m count message = message.originator.0 =? m.0 and message.count =? count

-- the highest of the k numbers above floor whose message has that originator and count; 0: there is none
unfoldable pub find_of : List Message → MemberNumber → ℕ → ℕ → ℕ → ℕ
find_of history m count floor zero = 0
find_of history m count floor (suc k) =
    when is_of m count (message_at history (floor + suc k)) then floor + suc k else
    find_of history m count floor k

-- one repeat more; the count stays at the largest number once there
unfoldable pub one_more : ℕ → ℕ
one_more repeats = when repeats <? largest_number then repeats + 1 else repeats

-- the repeats of all members, added up
unfoldable pub repeats_sum : List Acknowledgement → ℕ
repeats_sum [] = 0
repeats_sum (a ∷ rest) = a.repeats + repeats_sum rest

-- and held at the largest number: the old count
unfoldable pub repeats_of : List Acknowledgement → ℕ
repeats_of table = when repeats_sum table <? largest_number then repeats_sum table else largest_number
