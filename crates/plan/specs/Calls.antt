-- The two calls: the plan of a journal, and the journal rewritten. Both read the blocks before the first wrong one.
use Rattle.std.specs.Prelude.{◌≡◌, List, [], ℕ, ◌%◌, length, Result, Ok, Err}
use Rattle.group.specs.Choice.{ask◌or◌then◌, ◌≤?◌, ◌=?◌}
use Rattle.group.specs.Lent.{front}
use Rattle.group.specs.declared.Refusal.{Refusal}
use Rattle.group.specs.declared.Refusal.TheVariants.{WrongJournal, ManyUnits, NoRoom}
use Rattle.message.specs.Order.{Ordered}
use Rattle.journal.specs.Limits.{block_size}
use Rattle.journal.specs.Read.{found_in}
use Rattle.plan.specs.Units.{latest, plan_bytes}
use Rattle.plan.specs.Kept.{rewritten}
use Rattle.plan.specs.Table.{units_most}

-- what a call comes to: its answer, and the bytes that it lays at the front of the lent output
pub record Outcome : Type 0 where
  pub answer : Result ℕ Refusal
  pub bytes : List ℕ

abbrev pub refused : Refusal → Outcome
refused refusal = record { answer = Err refusal; bytes = [] }

abbrev pub written : List ℕ → Outcome
written bytes = record { answer = Ok (length bytes); bytes = bytes }

-- the messages that a journal's right blocks have
abbrev pub recorded_in : List ℕ → List Ordered
recorded_in journal = (found_in journal).messages

-- the last question: is there room for the bytes?
unfoldable pub laid_in : List ℕ → ℕ → Outcome
laid_in bytes room =
    ask length bytes ≤? room or refused NoRoom then
    written bytes

-- the questions of both calls: 21, 22, 23
unfoldable pub asked_of : List ℕ → List ℕ → ℕ → Outcome
asked_of journal bytes room =
    ask length journal % block_size =? 0 or refused WrongJournal then
    ask length (latest (recorded_in journal)) ≤? units_most or refused ManyUnits then
    laid_in bytes room

-- the plan, and the rewritten journal
unfoldable pub plan_of : List ℕ → ℕ → Outcome
plan_of journal room = asked_of journal (plan_bytes (latest (recorded_in journal))) room

unfoldable pub rewrite_of : List ℕ → ℕ → Outcome
rewrite_of journal room = asked_of journal (rewritten (recorded_in journal)) room

-- an answer and the output at exit are those of an outcome
pub record Lays (o : Outcome) (r : Result ℕ Refusal) (before after : List ℕ) : Type 0 where
  pub answers : r ≡ o.answer
  pub lent : after ≡ front o.bytes before

-- a journal whose length is right has so many right blocks, with so many messages
pub record FoundIn (journal : List ℕ) (blocks messages : ℕ) : Type 0 where
  pub sized : length journal % block_size ≡ 0
  pub blocks_are : blocks ≡ (found_in journal).blocks
  pub messages_are : messages ≡ length (recorded_in journal)
