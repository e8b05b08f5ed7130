-- The group's limits, each named once. `Group` of the code has the same, and its functions tie the two.
use Rattle.std.specs.Prelude.{ℕ, ◌+◌, ◌-◌}

-- the most members that a group has
abbrev pub members_most : ℕ
members_most = 16

-- the places of the sequencer's history
abbrev pub places_most : ℕ
places_most = 32

-- the most bytes of a payload
abbrev pub payload_most : ℕ
payload_most = 240

-- the places of a member for what it has not taken yet
abbrev pub held_most : ℕ
held_most = 8

-- the most messages of a member that wait
abbrev pub waiting_most : ℕ
waiting_most = 5

-- the bytes of a packet before its payload
abbrev pub header_size : ℕ
header_size = 20

-- the bytes of the longest packet, and the least of a lent output
abbrev pub longest_packet : ℕ
longest_packet = header_size + payload_most

-- the largest number of any kind
abbrev pub largest_number : ℕ
largest_number = 4294967295

-- the records of a work list
abbrev pub jobs_most : ℕ
jobs_most = 64

-- the most bytes of a job: the payload that adds it has one byte before them
abbrev pub job_most : ℕ
job_most = payload_most - 1
