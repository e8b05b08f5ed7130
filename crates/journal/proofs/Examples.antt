-- A block worked out by hand, and where a record just fits. Assumes nothing.
use mathlib.Core.Path.{◌≡◌, refl}
use mathlib.Core.List.{[], ◌∷◌, ◌++◌}
use Prim.Native.Nat.{ℕ}
use lib.ListN.{replicate}
use Rattle.group.specs.Choice.{when◌then◌else◌}
use Rattle.message.specs.Order.{Ordered}
use Rattle.big_endian.specs.Number.{bytes_of}
use Rattle.journal.specs.Block.{sum_from, record_of, records_of, framed, block_of, ended_at}
use Rattle.journal.specs.Write.{kept_of}
use Rattle.journal.specs.declared.Writer.{Writer}

-- message 1 of member 2, its third, with the payload `A`
message : Ordered
message = record { number = 1; originator = 2; count = 3; payload = 65 ∷ [] }

-- 1 × 75 + 2 × 74 + 3 × 66 + 4 × 49 + 8 × 1 + 10 × 1 + 11 × 2 + 15 × 3 + 17 × 1 + 18 × 65 is 1889, or 7 × 256 + 97
by_hand : block_of 1 1 (records_of (message ∷ []))
    ≡ (75 ∷ 74 ∷ 66 ∷ 49 ∷ 0 ∷ 0 ∷ 0 ∷ 1 ∷ 0 ∷ 1 ∷ 2 ∷ 0 ∷ 0 ∷ 0 ∷ 3 ∷ 0 ∷ 1 ∷ 65 ∷ []) ++ (replicate 490 0 ++ (0 ∷ 0 ∷ 7 ∷ 97 ∷ []))
unfolding message sum_from record_of records_of framed block_of bytes_of
by_hand = refl

-- its record of 8 bytes goes up to byte 507 of the block in hand, and not to 508
at_used : ℕ → Writer
at_used used = record { tail = ended_at 0; first = record { 0 = 0 }; records = 7; used = used }

just_fits : (kept_of (at_used 500) message []).writer.records ≡ 8
unfolding at_used message kept_of record_of bytes_of when◌then◌else◌
just_fits = refl

one_too_long : (kept_of (at_used 501) message []).writer.records ≡ 1
unfolding at_used message kept_of record_of bytes_of when◌then◌else◌
one_too_long = refl
