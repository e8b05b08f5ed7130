-- The table of acknowledgements, read off three arrays of numbers; and tables and histories of which only some numbers are asked.
use Rattle.std.specs.Prelude.{◌≡◌, List, [], ◌∷◌, ℕ, ◌*◌, length, get_or, drop}
use Rattle.group.specs.Limits.{members_most, places_most, payload_most}
use Rattle.message.specs.Message.{Message}
use Rattle.store.specs.Places.{messages_in}
use Rattle.history.specs.State.{Acknowledgement}

-- arrays of as many entries as a group has members at the most, and of the history's places
pub record Entries (taken counts repeats : List ℕ) : Type 0 where
  pub taken_size : length taken ≡ members_most
  pub counts_size : length counts ≡ members_most
  pub repeats_size : length repeats ≡ members_most

pub record Places (kept originators lengths payloads : List ℕ) : Type 0 where
  pub kept_size : length kept ≡ places_most
  pub originators_size : length originators ≡ places_most
  pub lengths_size : length lengths ≡ places_most
  pub payloads_size : length payloads ≡ places_most * payload_most

-- what is known of a member
abbrev pub entry_in : ℕ → ℕ → ℕ → Acknowledgement
entry_in taken count repeats = record { taken = record { 0 = taken }; count = count; repeats = repeats }

-- what is known of all members
unfoldable pub table_in : List ℕ → List ℕ → List ℕ → List Acknowledgement
table_in [] counts repeats = []
table_in (t ∷ taken) counts repeats = entry_in t (get_or counts 0 0) (get_or repeats 0 0) ∷ table_in taken (drop 1 counts) (drop 1 repeats)

-- a table of which only the numbers taken are asked, only the counts, only the repeat counts
abbrev pub taken_only : List ℕ → List Acknowledgement
taken_only taken = table_in taken [] []

abbrev pub counts_only : List ℕ → List Acknowledgement
counts_only counts = table_in counts counts []

abbrev pub repeats_only : List ℕ → List Acknowledgement
repeats_only repeats = table_in repeats [] repeats

-- a history of which only counts and originators are asked
abbrev pub listed : List ℕ → List ℕ → List Message
listed counts originators = messages_in counts originators [] []
