-- Reading a journal: block by block, up to the first that is wrong.
use Rattle.std.specs.Prelude.{Option, Some, None, Result, Ok, Err, true, List, [], ◌++◌, ℕ, zero, suc, ◌+◌, ◌/◌, ◌%◌, length, get_or, take, drop}
use Rattle.big_endian.specs.Number.{number_at}
use Rattle.group.specs.Choice.{when◌then◌else◌, ask◌or◌then◌, ◌and◌, ◌=?◌}
use Rattle.group.specs.declared.Refusal.TheVariants.{WrongJournal}
use Rattle.group.specs.declared.SequenceNumber.{SequenceNumber}
use Rattle.message.specs.Order.{Ordered}
use Rattle.journal.specs.Limits.{block_size, record_head}
use Rattle.journal.specs.Block.{length_at, record_right, block_right, messages_of, tail_of}
use Rattle.journal.specs.declared.Tail.{Tail}
use Rattle.journal.specs.declared.Found.{Found}
use Rattle.journal.specs.declared.Record.{Record}
use Rattle.group.specs.declared.Refusal.{Refusal}

-- what reading finds: whole blocks, their messages, and the tail behind them
pub record Reads : Type 0 where
  pub blocks : ℕ
  pub messages : List Ordered
  pub tail : Tail

-- the tail of an empty journal: any number from 1 may follow
abbrev pub fresh_tail : Tail
fresh_tail = record { last = record { 0 = 0 }; free = true }

-- nothing more
abbrev pub nothing : Tail → Reads
nothing t = record { blocks = 0; messages = []; tail = t }

-- so many blocks and their messages before the others
abbrev pub joined : ℕ → List Ordered → Reads → Reads
joined k ms r = record { blocks = k + r.blocks; messages = ms ++ r.messages; tail = r.tail }

-- what k blocks give behind a tail, up to the first that is wrong
unfoldable pub found_from : Tail → List ℕ → ℕ → Reads
found_from t journal zero = nothing t
found_from t journal (suc k) =
    when block_right t (take block_size journal)
    then joined 1 (messages_of (take block_size journal)) (found_from (tail_of (take block_size journal)) (drop block_size journal) k)
    else nothing t

-- what a journal gives
unfoldable pub found_in : List ℕ → Reads
found_in journal = found_from fresh_tail journal (length journal / block_size)

-- what reading answers: of the messages their number
abbrev pub counted : Reads → Found
counted r = record { blocks = r.blocks; messages = length r.messages; tail = r.tail }

-- a journal's length that is no multiple of a block's is refused before any block is looked at; a wrong block is no refusal
unfoldable pub read_of : List ℕ → Result Found Refusal
read_of journal =
    ask length journal % block_size =? 0 or Err WrongJournal then
    Ok (counted (found_in journal))

-- what reading one block behind a tail answers
unfoldable pub next_of : Tail → List ℕ → Option Found
next_of t block =
    when block_right t block
    then Some (counted (record { blocks = 1; messages = messages_of block; tail = tail_of block }))
    else None

-- where the record at an index of a block stands, and what it says
abbrev pub record_at : List ℕ → ℕ → SequenceNumber → Record
record_at block at number =
    record {
      number = number;
      originator = record { 0 = get_or block at 0 };
      count = number_at 4 block (at + 1);
      start = at + record_head;
      length = length_at block at;
    }

-- what reading one record answers
unfoldable pub entry_of : List ℕ → ℕ → SequenceNumber → Option Record
entry_of block at number =
    when length block =? block_size and record_right block at number.0 then Some (record_at block at number) else None

-- the message that such a record holds
unfoldable pub held_by : List ℕ → Record → Ordered
held_by block r =
    record {
      number = r.number.0;
      originator = r.originator.0;
      count = r.count;
      payload = take r.length (drop r.start block);
    }
