-- Who confirmed each number: a mark has one bit a member, and the mark of number s lies in place s modulo 32.
use Rattle.std.specs.Prelude.{Bool, List, ℕ, zero, suc, ◌+◌, get_or, set}
use Rattle.std.specs.Int.Bits.{bit_or}
use Rattle.std.specs.Int.Count.{ones}
use Rattle.group.specs.Choice.{when◌then◌else◌, ◌and◌, ◌<?◌, ◌≤?◌, ◌=?◌}
use Rattle.group.specs.Members.{only_of, is_within}
use Rattle.group.specs.declared.MemberNumber.{MemberNumber}
use Rattle.history.specs.State.{place_of}

abbrev pub mark_at : List ℕ → ℕ → ℕ
mark_at marks number = get_or marks (place_of number) 0

-- member m confirmed the k numbers above f
unfoldable pub marked_of : List ℕ → MemberNumber → ℕ → ℕ → List ℕ
marked_of marks m f zero = marks
marked_of marks m f (suc k) =
    set (marked_of marks m f k) (place_of (f + suc k)) (bit_or (mark_at (marked_of marks m f k) (f + suc k)) (only_of m))

-- the highest of the k numbers above f with at least so many marks; 0: there is none
unfoldable pub enough_of : List ℕ → ℕ → ℕ → ℕ → ℕ
enough_of marks needed f zero = 0
enough_of marks needed f (suc k) =
    when needed ≤? ones (mark_at marks (f + suc k)) then f + suc k else
    enough_of marks needed f k

-- the marks of the k numbers above f cleared
unfoldable pub unmarked_of : List ℕ → ℕ → ℕ → List ℕ
unmarked_of marks f zero = marks
unmarked_of marks f (suc k) = set (unmarked_of marks f k) (place_of (f + suc k)) 0

-- a mark has expected members' bits only, and stands only at a number above the last accepted, up to top; every other is zero
unfoldable pub mark_sound : ℕ → List ℕ → ℕ → ℕ → ℕ → Bool
mark_sound expected marks accepted top number =
    when accepted <? number and number ≤? top then is_within (mark_at marks number) expected else
    mark_at marks number =? 0
