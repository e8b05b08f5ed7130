-- Sets of members, one bit a member: bit i of a mask is member i's. The group's own: the survivors other than the elected one, those of
-- them that are expected to confirm an offer, and how many confirmations a message needs.
use Rattle.std.specs.Prelude.{Bool, ℕ, zero, suc, ◌-◌, ◌/◌, ◌%◌, ◌^◌}
use Rattle.std.specs.Int.Bits.{bit_and, bit_or}
use Rattle.std.specs.Int.Count.{count_trailing_zeros, ones}
use Rattle.group.specs.Choice.{when◌then◌else◌, ◌and◌, ◌<?◌, ◌≤?◌, ◌=?◌}
use Rattle.group.specs.Limits.{members_most}
use Rattle.group.specs.declared.Group.{Group}
use Rattle.group.specs.declared.MemberNumber.{MemberNumber}

-- the mask of one member
abbrev pub only_of : MemberNumber → ℕ
only_of m = 2 ^ m.0

-- member i is in a mask
abbrev pub is_in : ℕ → ℕ → Bool
is_in mask i = mask / 2 ^ i % 2 =? 1

-- every member of one mask is in the other
abbrev pub is_within : ℕ → ℕ → Bool
is_within mask other = bit_and mask other =? mask

-- the lowest member of a mask, and the mask without it
abbrev pub lowest : ℕ → ℕ
lowest mask = count_trailing_zeros members_most mask

abbrev pub without_lowest : ℕ → ℕ
without_lowest mask = bit_and mask (mask - 1)

-- the k lowest members of a mask; all of them where it has fewer
unfoldable pub lowest_of : ℕ → ℕ → ℕ
lowest_of zero mask = 0
lowest_of (suc k) mask = when mask =? 0 then 0 else bit_or (2 ^ lowest mask) (lowest_of k (without_lowest mask))

-- all of n members
abbrev pub all_of : ℕ → ℕ
all_of n = 2 ^ n - 1

-- the member whose terminal has the sequencer
abbrev pub elected_of : Group → MemberNumber
elected_of group = group.elected

-- the survivors other than that one
unfoldable pub others_of : Group → ℕ
others_of group = group.survivors - only_of (elected_of group)

-- the r lowest-numbered of them are expected to confirm
unfoldable pub expected_of : Group → ℕ
expected_of group = lowest_of group.resilience (others_of group)

-- all of those must have confirmed: r members, or all others where they are fewer
unfoldable pub needed_of : Group → ℕ
needed_of group = ones (expected_of group)

-- a description is sound: n is 1 to 16, r is below n, the survivors are members, and the elected is one of them
unfoldable pub group_sound : Group → Bool
group_sound group =
    1 ≤? group.n
    and group.n ≤? members_most
    and group.resilience <? group.n
    and is_within group.survivors (all_of group.n)
    and is_in group.survivors (elected_of group).0
