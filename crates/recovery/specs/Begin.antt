-- Beginning a group: who is elected of those that replied, what the elected terminal's sequencer begins with, and what a result leaves at a
-- survivor.
use Rattle.std.specs.Prelude.{true, false, List, [], ◌∷◌, ℕ, zero, suc, ◌+◌, ◌-◌, ◌^◌, set, replicate}
use Rattle.std.specs.Int.Bits.{bit_or}
use Rattle.group.specs.Choice.{when◌then◌else◌, ◌and◌, ◌≤?◌, ◌=?◌}
use Rattle.group.specs.Limits.{places_most, held_most}
use Rattle.group.specs.Members.{is_in, lowest}
use Rattle.group.specs.declared.Group.{Group}
use Rattle.group.specs.declared.MemberNumber.{MemberNumber}
use Rattle.group.specs.declared.SequenceNumber.{SequenceNumber}
use Rattle.message.specs.Message.{Message, empty_message}
use Rattle.history.specs.State as history
use Rattle.history.specs.State.{Acknowledgement}
use Rattle.window.specs.Places as window
use Rattle.window.specs.Places.{larger_of}
use Rattle.member.specs.State.{Member, reach_of}
use Rattle.sequencer.specs.State.{Sequencer}
use Rattle.recovery.specs.State.{Reset, Terminal, no_reset, serves, kept_floor, message_of_number, counts_of}

-- the highest number of those that replied, where the first entry is member i's
unfoldable pub highest_of : ℕ → ℕ → List ℕ → ℕ
highest_of repliers i [] = 0
highest_of repliers i (number ∷ rest) =
    larger_of (when is_in repliers i then number else 0) (highest_of repliers (i + 1) rest)

-- those that replied with it
unfoldable pub holders_of : ℕ → ℕ → ℕ → List ℕ → ℕ
holders_of repliers highest i [] = 0
holders_of repliers highest i (number ∷ rest) =
    bit_or (when is_in repliers i and number =? highest then 2 ^ i else 0) (holders_of repliers highest (i + 1) rest)

-- the order ends at the highest reply, and the lowest member number among equals becomes sequencer
abbrev pub cut_of : Reset → ℕ
cut_of r = highest_of r.repliers 0 r.replies

abbrev pub chosen_of : Reset → MemberNumber
chosen_of r = record { 0 = lowest (holders_of r.repliers (cut_of r) 0 r.replies) }

-- the description of a made group
abbrev pub made_group : Group → ℕ → MemberNumber → ℕ → Group
made_group group number elected survivors =
    record { n = group.n; resilience = group.resilience; survivors = survivors; elected = elected; number = number }

-- survivors' acknowledgements start at floor, lost members' at zero; last counts stay; repeat counts are zero
unfoldable pub table_from : ℕ → ℕ → ℕ → List ℕ → List Acknowledgement
table_from survivors floor i [] = []
table_from survivors floor i (count ∷ rest) =
    record { taken = record { 0 = when is_in survivors i then floor else 0 }; count = count; repeats = 0 } ∷ table_from survivors floor (i + 1) rest

-- the last counts of a table
unfoldable pub counts_in : List Acknowledgement → List ℕ
counts_in [] = []
counts_in (a ∷ rest) = a.count ∷ counts_in rest

-- the history of the k numbers above floor that a member has
unfoldable pub history_from : Terminal → ℕ → ℕ → List Message
history_from t floor zero = replicate places_most empty_message
history_from t floor (suc k) = set (history_from t floor k) (history.place_of (floor + suc k)) (message_of_number t (floor + suc k))

-- a sequencer that begins with a floor, last counts and a history, up to a number: all up to there and none above are accepted
abbrev pub begun : Group → ℕ → ℕ → List ℕ → List Message → Sequencer
begun group number floor counts kept =
    record {
      group = group;
      acknowledgements = table_from group.survivors floor 0 counts;
      top = record { 0 = number };
      accepted = record { 0 = number };
      floor = record { 0 = floor };
      history = kept;
      marks = replicate places_most 0;
    }

-- the elected terminal's: from its group's sequencer, or else from its member
unfoldable pub elected_sequencer : Terminal → Group → ℕ → Sequencer
elected_sequencer t group number =
    when serves t
    then begun group number t.sequencer.floor.0 (counts_in t.sequencer.acknowledgements) t.sequencer.history
    else begun group number (kept_floor t) (counts_of t) (history_from t (kept_floor t) (reach_of t.member - kept_floor t))

-- held messages without that of a number
abbrev pub without : List Message → ℕ → List Message
without held number = set held (window.place_of number) empty_message

-- of the k held numbers above t those above a number are dropped
unfoldable pub dropped_of : List Message → ℕ → ℕ → ℕ → List Message
dropped_of held number t zero = held
dropped_of held number t (suc k) =
    let rest : List Message = dropped_of held number t k in
    when t + suc k ≤? number then rest else without rest (t + suc k)

-- a survivor's member: the new group's, all up to the number and none above are accepted, held ones above are dropped
abbrev pub member_in : Member → Group → ℕ → Member
member_in m group number =
    record {
      group = group;
      number = m.number;
      taken = m.taken;
      accepted = record { 0 = larger_of m.taken.0 number };
      submitted = m.submitted;
      waiting = m.waiting;
      queue = m.queue;
      held = dropped_of m.held number m.taken.0 held_most;
    }

-- what a result leaves: its invitation and its reply end; the elected terminal's sequencer begins, another stays in the old group
unfoldable pub result_of : Terminal → ℕ → MemberNumber → SequenceNumber → ℕ → Terminal
result_of t attempt elected number survivors =
    let group : Group = made_group t.member.group attempt elected survivors in
    record {
      member = member_in t.member group number.0;
      kept = t.kept;
      reset = no_reset;
      sequencing = when elected.0 =? t.member.number.0 then true else t.sequencing;
      frozen = when elected.0 =? t.member.number.0 then false else t.frozen;
      sequencer = when elected.0 =? t.member.number.0 then elected_sequencer t group number.0 else t.sequencer;
    }
