-- What a terminal begins a group with, by its arrays: last counts, history, reach, reply and floor are those of the meaning. Assumes nothing.
use mathlib.Core.Path.{◌≡◌, refl, sym, ap, ◌∙◌}
use mathlib.Core.List.{List, [], ◌∷◌}
use Prim.Native.Nat.{ℕ, zero, suc, ◌+◌, ◌-◌, ◌≤◌, ◌<◌}
use native.Mathlib.Omega.{arith}
use lib.ListN.{length, get_or, set, drop, replicate}
use Rattle.group.specs.Choice.{when◌then◌else◌}
use Rattle.group.specs.Limits.{places_most, held_most, largest_number}
use Rattle.message.specs.Message.{Message, blank, empty_message}
use Rattle.store.specs.Places.{messages_in}
use Rattle.store.proofs.Places.{message_in_lem}
use Rattle.history.specs.State as history
use Rattle.history.specs.View.{table_in, listed}
use Rattle.window.specs.Places.{place_of, larger_of, smaller_of}
use Rattle.window.proofs.Places.{counted_in_lem}
use Rattle.member.specs.State.{reach_of}
use Rattle.member.specs.View as memberView
use Rattle.member.proofs.Acknowledged.{end_counted}
use Rattle.sequencer.specs.View as sequencerView
use Rattle.recovery.specs.Begin.{counts_in, history_from}
use Rattle.recovery.specs.State.{Terminal, reply_number, kept_floor, counted, counted_row, message_of_number}
use Rattle.recovery.specs.Steps.{reach_in, serves_in, reply_in, kept_floor_in, message_from, filled_of}
use Rattle.recovery.specs.View.{Stored, member_in, terminal_of}

-- the last counts of a table are an array of it
pub counts_in_lem : (taken counts repeats : List ℕ) → length taken ≡ length counts → counts_in (table_in taken counts repeats) ≡ counts
unfolding table_in counts_in
counts_in_lem [] [] repeats size = refl
counts_in_lem [] (c ∷ counts) repeats size = absurd (let z : 0 ≡ suc (length counts) = size in omega arith)
counts_in_lem (x ∷ taken) [] repeats size = absurd (let z : suc (length taken) ≡ 0 = size in omega arith)
counts_in_lem (x ∷ taken) (c ∷ counts) repeats size =
    ap (λ (l : List ℕ). c ∷ l) (counts_in_lem taken counts (drop 1 repeats) (let z : suc (length taken) ≡ suc (length counts) = size in omega arith))

-- the history that is filled place by place
pub history_filled : (t : Terminal) (floor k : ℕ)
    → filled_of (replicate places_most empty_message) t.kept.past t.member.held t.member.taken.0 floor k ≡ history_from t floor k
unfolding filled_of history_from message_from message_of_number
history_filled t floor zero = refl
history_filled t floor (suc k) =
    ap (λ (l : List Message). set l (history.place_of (floor + suc k)) (message_of_number t (floor + suc k))) (history_filled t floor k)

-- of a held message only its count and its originator count
listed_count : (held originators lengths payloads counts : List ℕ) (i : ℕ) → i < length held
    → counted counts (get_or (listed held originators) i blank) ≡ counted counts (get_or (messages_in held originators lengths payloads) i blank)
unfolding counted
listed_count held originators lengths payloads counts i h =
    ap (λ (m : Message). set counts m.originator.0 (larger_of (get_or counts m.originator.0 0) m.count)) (message_in_lem held originators [] [] i h)
    ∙ sym (ap (λ (m : Message). set counts m.originator.0 (larger_of (get_or counts m.originator.0 0) m.count)) (message_in_lem held originators lengths payloads i h))

pub row_listed : (counts held originators lengths payloads : List ℕ) (t k : ℕ) → length held ≡ held_most
    → counted_row counts (listed held originators) t k ≡ counted_row counts (messages_in held originators lengths payloads) t k
unfolding counted_row
row_listed counts held originators lengths payloads t zero size = refl
row_listed counts held originators lengths payloads t (suc k) size =
    ap (λ (l : List ℕ). counted l (get_or (listed held originators) (place_of (t + suc k)) blank)) (row_listed counts held originators lengths payloads t k size)
    ∙ listed_count held originators lengths payloads (counted_row counts (messages_in held originators lengths payloads) t k) (place_of (t + suc k)) (omega arith)

-- its reach by the counts of the places is the member's
pub reach_as : (s : Stored) → s.head.member.taken.0 ≤ largest_number → reach_in s.head s.held ≡ reach_of (terminal_of s).member
unfolding terminal_of memberView.view_of
reach_as s most =
    end_counted (memberView.view_of (member_in s)) s.held (counted_in_lem s.held s.held_originators s.held_lengths s.held_payloads) _ most refl

pub reply_as : (s : Stored) → s.head.member.taken.0 ≤ largest_number → reply_in s.head s.held ≡ reply_number (terminal_of s)
unfolding reply_in reply_number terminal_of sequencerView.view_of memberView.view_of
reply_as s most = ap (λ (x : ℕ). when serves_in s.head then s.head.sequencer.top.0 else x) (reach_as s most)

pub floor_as : (s : Stored) → s.head.member.taken.0 ≤ largest_number → kept_floor_in s.head s.held ≡ kept_floor (terminal_of s)
unfolding kept_floor_in kept_floor terminal_of memberView.view_of
floor_as s most = ap (λ (x : ℕ). smaller_of (larger_of s.head.read.0 (x - places_most)) x) (reach_as s most)
