-- Walking over the records of a block, and over those of the right blocks of a journal, one by one.
use Rattle.std.specs.Prelude.{Option, Some, None, List, [], ◌∷◌, ℕ, zero, suc, ◌+◌, ◌*◌, ◌-◌, ◌/◌, take, drop}
use Rattle.group.specs.Choice.{when◌then◌else◌, ◌<?◌, ◌=?◌}
use Rattle.message.specs.Order.{Ordered}
use Rattle.journal.specs.Limits.{block_size, records_at, record_head}
use Rattle.journal.specs.Block.{first_at, records_in, record_start, behind_in, record_number, step_right, records_right, form_of, last_from, message_at}
use Rattle.journal.specs.declared.Cursor.{Cursor}
use Rattle.journal.specs.declared.Form.{Form}
use Rattle.journal.specs.declared.Form.TheVariants.{Log}
use Rattle.journal.specs.declared.Passed.{Passed}
use Rattle.journal.specs.declared.Spot.{Spot}

-- a right record that was passed: where it ends, and its number
abbrev pub passed_of : Form → List ℕ → ℕ → ℕ → Option Passed
passed_of form block at before =
    when step_right form block at before
    then Some (record { end = behind_in form block at; number = record_number form block at before })
    else None

-- the last number of right records
abbrev pub last_or : Form → List ℕ → ℕ → ℕ → ℕ → Option ℕ
last_or form block at before k = when records_right form block at before k then Some (last_from form block at before k) else None

-- the number of a block's last record
abbrev pub last_of : List ℕ → ℕ
last_of block = last_from (form_of block) block records_at (first_at block - 1) (records_in block)

-- the block that stands at an index of a journal
abbrev pub block_at : List ℕ → ℕ → List ℕ
block_at journal base = take block_size (drop base journal)

-- a cursor before the first record of a block, where so many blocks are left, this one included
unfoldable pub entered_in : List ℕ → ℕ → ℕ → Cursor
entered_in block base blocks =
    record {
      base = base;
      blocks = blocks;
      form = form_of block;
      at = records_at;
      before = first_at block - 1;
      left = records_in block;
    }

-- a cursor before the first record of a journal of which so many blocks are right
unfoldable pub cursor_of : List ℕ → ℕ → Cursor
cursor_of journal blocks =
    when blocks =? 0 then record { base = 0; blocks = 0; form = Log; at = records_at; before = 0; left = 0 }
    else entered_in (block_at journal 0) 0 blocks

-- a cursor before the first record of a block, for the records of that block alone, as far as they are right
unfoldable pub alone_in : List ℕ → ℕ → Cursor
alone_in block base =
    record {
      base = base;
      blocks = 1;
      form = form_of block;
      at = records_at;
      before = first_at block - 1;
      left = block_size;
    }

abbrev pub alone_at : List ℕ → ℕ → Cursor
alone_at journal base = alone_in (block_at journal base) base

-- the record before which a cursor stands in its block, and the cursor behind it
abbrev pub spot_of : Cursor → List ℕ → Spot
spot_of c block =
    record {
      number = record { 0 = record_number c.form block c.at c.before };
      start = c.base + record_start c.form c.at;
      end = c.base + behind_in c.form block c.at;
    }

abbrev pub moved_of : Cursor → List ℕ → Cursor
moved_of c block =
    record {
      base = c.base;
      blocks = c.blocks;
      form = c.form;
      at = behind_in c.form block c.at;
      before = record_number c.form block c.at c.before;
      left = c.left - 1;
    }

-- what the block in hand gives next
unfoldable pub given_of : Cursor → List ℕ → Option (Spot × Cursor)
given_of c block =
    when step_right c.form block c.at c.before then Some (spot_of c block, moved_of c block) else None

-- what a cursor gives next: of the block in hand or, behind its last record, of the next block
unfoldable pub walk_of : Cursor → List ℕ → Option (Spot × Cursor)
walk_of c journal =
    when c.blocks <? 1 then None else
    when 0 <? c.left then given_of c (block_at journal c.base) else
    when c.blocks <? 2 then None else
    given_of (entered_in (block_at journal (c.base + block_size)) (c.base + block_size) (c.blocks - 1)) (block_at journal (c.base + block_size))

-- the records that a cursor gives, at most so many
unfoldable pub walked : Option (Spot × Cursor) → (Cursor → List Spot) → List Spot
walked None rest = []
walked (Some (s, c)) rest = s ∷ rest c

unfoldable pub given_by : ℕ → Cursor → List ℕ → List Spot
given_by zero c journal = []
given_by (suc k) c journal = walked (walk_of c journal) (λ next. given_by k next journal)

-- of some records the first whose payload stands at an index, and that of the block in which the index lies
unfoldable pub spot_with : ℕ → List Spot → Spot
spot_with start [] = record { number = record { 0 = 0 }; start = 0; end = 0 }
spot_with start (s ∷ rest) = when s.start + record_head =? start then s else spot_with start rest

unfoldable pub spot_at : List ℕ → ℕ → Spot
spot_at journal start = spot_with start (given_by block_size (alone_at journal (start / block_size * block_size)) journal)

-- the message of a record that stands in a journal
abbrev pub message_on : List ℕ → Spot → Ordered
message_on journal s = message_at journal s.start s.number.0
