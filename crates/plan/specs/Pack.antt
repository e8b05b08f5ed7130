-- How the latest records are put in order and packed into compacted blocks: they gather in the block in hand, which is laid at its
-- place in the output when the next does not fit, and at the end.
use Rattle.std.specs.Prelude.{◌≡◌, ◌≢◌, List, [], ◌∷◌, ◌++◌, map, ℕ, ◌+◌, ◌*◌, ◌/◌, ◌≤◌, ◌<◌, length, get_or, take, replicate}
use Rattle.group.specs.Choice.{when◌then◌else◌, ◌<?◌, ◌≤?◌, ◌=?◌}
use Rattle.group.specs.Lent.{front}
use Rattle.message.specs.Order.{Ordered}
use Rattle.text.specs.LaidAt.{written_at}
use Rattle.big_endian.specs.Number.{bytes_of}
use Rattle.journal.specs.Limits.{block_size, number_size}
use Rattle.journal.specs.Block.{record_of, compact_of}
use Rattle.journal.specs.Laws.{StandsIn}
use Rattle.journal.specs.Walk.{spot_at, message_on}
use Rattle.plan.specs.Kept.{packed, record_size, records_room, blocks_of}
use Rattle.plan.specs.Laws.{◌among◌}
use Rattle.plan.specs.Table.{place_of, inserted}
use Rattle.plan.specs.declared.Packer.{Packer}

-- numbers of which no two are equal
unfoldable pub Apart : List ℕ → Type 0
Apart [] = Unit {0}
Apart (x ∷ rest) = ((y : ℕ) → y among rest → x ≢ y) × Apart rest

-- numbers put in order, each where it belongs among those before it
unfoldable pub sorted : List ℕ → List ℕ → List ℕ
sorted done [] = done
sorted done (x ∷ rest) = sorted (inserted (place_of x done) x done) rest

-- in a block of the journal a record's payload stands at an index
pub record Spotted (journal : List ℕ) (start : ℕ) : Type 0 where
  pub within : start / block_size * block_size + block_size ≤ length journal
  pub stands : StandsIn journal (spot_at journal start)

abbrev pub AllSpotted : List ℕ → List ℕ → Type 0
AllSpotted journal places = (i : ℕ) → i < length places → Spotted journal (get_or places i 0)

-- the messages of the records whose payloads stand there
abbrev pub messages_at : List ℕ → List ℕ → List Ordered
messages_at journal places = map (λ (start : ℕ). message_on journal (spot_at journal start)) places

-- what packing has come to: the packer, and the output
pub record Packs : Type 0 where
  pub packer : Packer
  pub out : List ℕ

abbrev pub packs : Packer → List ℕ → Packs
packs packer out = record { packer = packer; out = out }

-- no block, and no record in hand
abbrev pub fresh_packer : Packer
fresh_packer = record { hand = replicate block_size 0; first = 0; records = 0; used = 0; blocks = 0 }

-- the same numbers, and another block in hand
abbrev pub with_hand : List ℕ → Packer → Packer
with_hand hand p = record { hand = hand; first = p.first; records = p.records; used = p.used; blocks = p.blocks }

-- a message's record, its number before it
abbrev pub numbered : Ordered → List ℕ
numbered m = bytes_of number_size m.number ++ record_of m

-- one more record in hand, up to that index
unfoldable pub grown_to : Packer → ℕ → ℕ → Packer
grown_to p number used =
    record {
      hand = p.hand;
      first = when p.records =? 0 then number else p.first;
      records = p.records + 1;
      used = used;
      blocks = p.blocks;
    }

-- a record that begins the next block
abbrev pub begun_with : Packer → ℕ → ℕ → Packer
begun_with p number used = record { hand = p.hand; first = number; records = 1; used = used; blocks = p.blocks + 1 }

-- the output with the block in hand behind those before it, if there is room
unfoldable pub closed_in : Packer → List ℕ → List ℕ
closed_in p out =
    when p.blocks <? length out / block_size
    then written_at (p.blocks * block_size) (compact_of p.first p.records (take p.used p.hand)) out
    else out

-- a record is kept: it goes behind the others, or begins the next block
unfoldable pub kept_by : Packs → Ordered → Packs
kept_by s m =
    when s.packer.used + record_size m ≤? records_room
    then packs (grown_to (with_hand (written_at s.packer.used (numbered m) s.packer.hand) s.packer) m.number (s.packer.used + record_size m)) s.out
    else packs (begun_with (with_hand (written_at 0 (numbered m) s.packer.hand) s.packer) m.number (record_size m)) (closed_in s.packer s.out)

unfoldable pub packed_by : Packs → List Ordered → Packs
packed_by s [] = s
packed_by s (m ∷ rest) = packed_by (kept_by s m) rest

-- the records in hand fit a block, and there are no more blocks than records were met, where so many are left of `most`
pub record Sound (p : Packer) (left most : ℕ) : Type 0 where
  pub room : p.used ≤ records_room
  pub few : p.records ≤ p.used
  pub some : 1 ≤ p.used → 1 ≤ p.records
  pub met : p.blocks + left ≤ most
  pub held : 1 ≤ p.records → p.blocks + 1 + left ≤ most

-- the blocks of some messages
abbrev pub blocks_for : List Ordered → List ℕ
blocks_for ms = blocks_of (packed record_size records_room [] ms)

-- so many blocks were packed, and laid at the front of the output if there is room for all of them
pub record Packed (bytes : List ℕ) (blocks : ℕ) (before after : List ℕ) : Type 0 where
  pub size : blocks * block_size ≡ length bytes
  pub lays : length bytes ≤ length before → after ≡ front bytes before
