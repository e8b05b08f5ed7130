-- Each terminal's work list, read off a group: its packets in the sequence in which they were written. The broadcast or the offer of
-- each number was first written when the number was given, so that the first ones of 1, 2, .. are the order; terminal i took it up to t.
use Rattle.std.specs.Prelude.{Ok, Err}
use Rattle.std.specs.Prelude.{Bool, true, List, [], ◌∷◌, ℕ, ◌+◌, get_or}
use Rattle.group.specs.Choice.{when◌then◌else◌, ◌and◌, ◌≤?◌, ◌=?◌}
use Rattle.jobs.specs.Feed.{feed_of}
use Rattle.jobs.specs.Job.{no_jobs}
use Rattle.jobs.specs.declared.Job.{Job}
use Rattle.model.specs.World.{Group, no_member}
use Rattle.packet.specs.Packet.{broadcast_kind, offer_kind, read_of, payload_at}
use Rattle.packet.specs.declared.Header.{Header}
use Rattle.packet.specs.Answers.{Reading}
use Rattle.terminal.specs.declared.Left.{Left}

-- the fields are those of a message's packet: a broadcast or an offer
abbrev pub is_message : Header → Bool
is_message h = when h.kind =? broadcast_kind then true else h.kind =? offer_kind

-- they are those of the message of that number, and it was taken
unfoldable pub is_next : ℕ → ℕ → Header → Bool
is_next t number h = is_message h and h.a =? number and number ≤? t

-- a packet: where it is the message of the number that comes next, the list is fed its message
unfoldable pub heard_of : ℕ → Left → Reading → List ℕ → Left
heard_of t left (Ok h) payload =
    when is_next t left.next h
    then record { jobs = (feed_of left.jobs h.member payload).jobs; next = left.next + 1 }
    else left
heard_of t left (Err refusal) payload = left

-- all packets
unfoldable pub heard_all : ℕ → Left → List (List ℕ) → Left
heard_all t left [] = left
heard_all t left (packet ∷ rest) = heard_all t (heard_of t left (read_of packet) (payload_at packet)) rest

-- before the first of them
abbrev pub fresh_left : Left
fresh_left = record { jobs = no_jobs; next = 1 }

abbrev pub list_in : Group → ℕ → List Job
list_in g i = (heard_all (get_or g.members i no_member).taken.0 fresh_left g.packets).jobs
