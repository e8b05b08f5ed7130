-- When a state of a terminal is sound: question 1, sentence by sentence.
use Rattle.std.specs.Prelude.{Bool, true, false, List, ℕ, ◌-◌, get_or}
use Rattle.group.specs.Choice.{when◌then◌else◌, ◌and◌, ◌<?◌, ◌≤?◌, ◌=?◌}
use Rattle.group.specs.Fold.{all, all_above}
use Rattle.group.specs.Limits.{places_most, payload_most}
use Rattle.group.specs.Members.{is_in, is_within, all_of}
use Rattle.message.specs.Message.{Message, zero_behind, is_empty}
use Rattle.history.specs.State as history
use Rattle.history.specs.State.{Acknowledgement}
use Rattle.member.specs.Sound as member
use Rattle.member.specs.State.{Member}
use Rattle.sequencer.specs.Sound as sequencer
use Rattle.sequencer.specs.State.{Sequencer}
use Rattle.recovery.specs.State.{Kept, Reset, Terminal, serves, reply_number}

-- a message among the last taken: originator below n, count from 1 to that originator's highest, length at most 240, and every unused
-- byte zero
unfoldable pub past_sound : ℕ → List ℕ → Message → Bool
past_sound n counts m =
    m.originator.0 <? n
    and 1 ≤? m.count
    and m.count ≤? get_or counts m.originator.0 0
    and m.length ≤? payload_most
    and zero_behind m

-- of the 32 numbers above t - 32, or above 0: one up to t lies in its place, and the place of another is zero
unfoldable pub past_place_sound : ℕ → ℕ → Kept → ℕ → Bool
past_place_sound n taken kept number =
    when number ≤? taken then past_sound n kept.counts (history.message_at kept.past number) else
    is_empty (history.message_at kept.past number)

-- the counts from n on are zero, and the 32 places hold the last numbers up to t
unfoldable pub kept_sound : ℕ → ℕ → Kept → Bool
kept_sound n taken kept =
    all (λ i c. when i <? n then true else c =? 0) 0 kept.counts
    and all_above (past_place_sound n taken kept) (taken - places_most) places_most

-- its part in a reset: its own invitation is open only with a reply open, itself among the repliers with that number; repliers are
-- members; who did not reply has no number; and what is not open is zero
unfoldable pub reset_sound : Member → Reset → Bool
reset_sound m r =
    (when r.replied then true else (r.attempt =? 0 and r.number.0 =? 0))
    and (when r.inviting
    then (r.replied
    and is_in r.repliers m.number.0
    and get_or r.replies m.number.0 0 =? r.number.0
    and is_within r.repliers (all_of m.group.n))
    else (r.invited =? 0 and r.repliers =? 0))
    and all (λ i number. when is_in r.repliers i then true else number =? 0) 0 r.replies

-- the member's end: the member, what it keeps, and its part in a reset
unfoldable pub member_sound : Terminal → Bool
member_sound t =
    member.sound_of t.member
    and kept_sound t.member.group.n t.member.taken.0 t.kept
    and reset_sound t.member t.reset

-- a sequencer that is not there is all zero
unfoldable pub zero_sequencer : Sequencer → Bool
zero_sequencer s =
    s.group.n =? 0
    and s.group.resilience =? 0
    and s.group.survivors =? 0
    and s.group.elected.0 =? 0
    and s.group.number =? 0
    and s.top.0 =? 0
    and s.accepted.0 =? 0
    and s.floor.0 =? 0
    and all (λ i a. a.taken.0 =? 0 and a.count =? 0 and a.repeats =? 0) 0 s.acknowledgements
    and all (λ i m. is_empty m) 0 s.history
    and all (λ i mark. mark =? 0) 0 s.marks

-- the sequencer's end: sound, of a group of as many members; or not there
unfoldable pub sequencer_sound : Terminal → Bool
sequencer_sound t =
    when t.sequencing then (sequencer.sound_of t.sequencer and t.sequencer.group.n =? t.member.group.n) else
    (zero_sequencer t.sequencer and (when t.frozen then false else true))

-- with a reply open its number is what it would reply now, and its group's sequencer is frozen
unfoldable pub reply_sound : Terminal → Bool
reply_sound t =
    when t.reset.replied
    then (t.reset.number.0 =? reply_number t and (when serves t then t.frozen else true))
    else true

-- both ends are, and they agree
unfoldable pub terminal_sound : Terminal → Bool
terminal_sound t = member_sound t and sequencer_sound t and reply_sound t
