-- A record is read back from where it stands: each field by the law of its bytes. Assumes nothing.
use Rattle.std.specs.Prelude.{Some, None}
use mathlib.Core.Path.{◌≡◌, refl, sym, ap, ◌∙◌}
use mathlib.Core.Bool.{true}
use mathlib.Core.List.{List, [], ◌∷◌, ◌++◌, append_assoc}
use Prim.Native.Nat.{ℕ, ◌+◌, ◌≤◌, ◌<◌}
use native.Mathlib.Omega.{arith}
use borrow.Author.Tests.{lt-ltb, le-leb, eq-eqb, eqb-true, ltb-true}
use lib.ListN.{length, get_or, take, drop}
use lib.Seq.{get_or-drop, drop-drop, take_at}
use Rattle.group.specs.Choice.{◌and◌, ◌<?◌, ◌≤?◌, ◌=?◌}
use Rattle.group.specs.Limits.{members_most, payload_most, largest_number}
use Rattle.group.proofs.Choice.{says, when_true, when_was, both_hold, both_first, both_then}
use Rattle.group.specs.declared.SequenceNumber.{SequenceNumber}
use Rattle.message.specs.Order.{Ordered}
use Rattle.big_endian.specs.Laws.{Bytes}
use Rattle.big_endian.specs.Number.{number_at, bytes_of}
use Rattle.big_endian.proofs.Number.{bytes_cons, bytes_append, bytes_of-bytes}
use Rattle.journal.specs.Limits.{block_size, records_end, record_head}
use Rattle.journal.specs.Block.{record_of, length_at, behind, record_right, message_at, record_start, record_number, step_right}
use Rattle.journal.specs.Read.{record_at, entry_of, held_by}
use Rattle.journal.specs.Write.{allowed}
use Rattle.journal.specs.Laws.{Allowed, RecordBack, EntryHolds, EntryWithin}
use Rattle.journal.specs.declared.Record.{Record}
use Rattle.journal.specs.declared.Form.{Form}
use Rattle.journal.proofs.Lists.{number_in}

-- what `allowed` says
pub record May (m : Ordered) : Type 0 where
  pub originator : m.originator < members_most
  pub count : 1 ≤ m.count
  pub size : length m.payload ≤ payload_most

pub may : (m : Ordered) → allowed m ≡ true → May m
unfolding allowed
may m e = record { originator = search says; count = search says; size = search says }

-- what `record_right` says
pub record Says (block : List ℕ) (at number : ℕ) : Type 0 where
  pub begins : at + record_head ≤ records_end
  pub originator : get_or block at 0 < members_most
  pub count : 1 ≤ number_at 4 block (at + 1)
  pub size : length_at block at ≤ payload_most
  pub ends : behind block at ≤ records_end
  pub most : number ≤ largest_number

pub right_says : (block : List ℕ) (at number : ℕ) → record_right block at number ≡ true → Says block at number
unfolding record_right
right_says block at number e =
    record {
      begins = search says depth 9;
      originator = search says depth 9;
      count = search says depth 9;
      size = search says depth 9;
      ends = search says depth 9;
      most = search says depth 9;
    }

pub says_right : (block : List ℕ) (at number : ℕ) → Says block at number → record_right block at number ≡ true
unfolding record_right
says_right block at number s =
    both_hold (at + record_head ≤? records_end) _ (le-leb (at + record_head) records_end s.begins)
    (both_hold (get_or block at 0 <? members_most) _ (lt-ltb _ _ s.originator)
    (both_hold (1 ≤? number_at 4 block (at + 1)) _ (le-leb _ _ s.count)
    (both_hold (length_at block at ≤? payload_most) _ (le-leb _ _ s.size)
    (both_hold (behind block at ≤? records_end) _ (le-leb (behind block at) records_end s.ends) (le-leb _ _ s.most)))))

-- what `step_right` says: the number is above the one before, and the record is right
pub step_says : (block : List ℕ) (form : Form) (at before : ℕ) → step_right form block at before ≡ true
    → (before < record_number form block at before) × Says block (record_start form at) (record_number form block at before)
unfolding step_right
step_says block form at before e =
    let number = record_number form block at before in
    (ltb-true before number (both_first (before <? number) _ e), right_says block (record_start form at) number (both_then (before <? number) _ e))

pub says_step : (block : List ℕ) (form : Form) (at before : ℕ) → before < record_number form block at before
    → record_right block (record_start form at) (record_number form block at before) ≡ step_right form block at before
unfolding step_right
says_step block form at before h =
    let number = record_number form block at before in
    when_true (before <? number) _ _ _ (lt-ltb before number h) refl

-- a right record of a block is its entry
pub entry_right : (block : List ℕ) (at : ℕ) (number : SequenceNumber) → length block ≡ block_size → Says block at number.0
    → Some (record_at block at number) ≡ entry_of block at number
unfolding entry_of
entry_right block at number n s =
    when_true (length block =? block_size and record_right block at number.0) _ _ _
    (both_hold (length block =? block_size) _ (eq-eqb (length block) block_size n) (says_right block at number.0 s)) refl

-- and an entry was a right record of a block
pub entry_was : (block : List ℕ) (at : ℕ) (number : SequenceNumber) (r : Record) → entry_of block at number ≡ Some r
    → (length block ≡ block_size) × (record_right block at number.0 ≡ true) × (record_at block at number ≡ r)
unfolding entry_of
entry_was block at number r e =
    let (right, same) = when_was (length block =? block_size and record_right block at number.0) (Some (record_at block at number)) None (Some r) e
    (λ z. let y : ◌≡◌ {A = ℕ} 0 1 = cc in omega arith) in
    (eqb-true (length block) block_size (both_first (length block =? block_size) _ right), both_then (length block =? block_size) _ right, (cc))

pub entry_holds : EntryHolds
unfolding held_by message_at
entry_holds block at number r e = let (_, _, same) = entry_was block at number r e in rw (← same)

pub entry_within : EntryWithin
entry_within block at number r e =
    let (long, right, same) = entry_was block at number r e in
    let s = right_says block at number.0 right in
    rw (← same) (long, refl, s.size, s.ends)

pub record_length : (m : Ordered) → length (record_of m) ≡ record_head + length m.payload
unfolding record_of bytes_of
record_length m = omega arith

pub record_bytes : (m : Ordered) → Allowed m → Bytes (record_of m)
unfolding record_of
record_bytes m a =
    let o = (may m a.may).originator in
    bytes_cons m.originator _ (omega arith)
    (bytes_append (bytes_of 4 m.count) _ (bytes_of-bytes 4 m.count)
    (bytes_append (bytes_of 2 (length m.payload)) m.payload (bytes_of-bytes 2 (length m.payload)) a.fits.payload))

module _ (block rest : List ℕ) (at : ℕ) (m : Ordered) (a : Allowed m) (d : drop at block ≡ record_of m ++ rest) where
  originator_back : get_or block at 0 ≡ m.originator
  unfolding record_of
  originator_back =
      let e : at + 0 ≡ at = omega arith in
      rw e at (sym (get_or-drop at block 0 0) ∙ ap (λ (l : List ℕ). get_or l 0 0) d)

  count_back : number_at 4 block (at + 1) ≡ m.count
  unfolding record_of
  count_back =
      let f = a.fits.count in
      number_in 4 m.count block (m.originator ∷ []) ((bytes_of 2 (length m.payload) ++ m.payload) ++ rest) at 1
      (d ∙ simp append_assoc) refl (omega arith)

  length_back : length_at block at ≡ length m.payload
  unfolding record_of bytes_of
  length_back =
      let s = (may m a.may).size in
      number_in 2 (length m.payload) block (m.originator ∷ bytes_of 4 m.count) (m.payload ++ rest) at 5 d refl (omega arith)

  payload_back : take (length_at block at) (drop (at + record_head) block) ≡ m.payload
  unfolding record_of bytes_of
  payload_back =
      rw length_back
      (ap (take (length m.payload)) (sym (drop-drop record_head at block) ∙ ap (drop record_head) d)
      ∙ take_at m.payload rest (length m.payload) refl)

  behind_back : behind block at ≡ at + length (record_of m)
  behind_back = rw (length_back, record_length m) (omega arith)

  right_back : at + length (record_of m) ≤ records_end → record_right block at m.number ≡ true
  right_back h =
      let y = may m a.may in
      let n = record_length m in
      let e = behind_back in
      says_right block at m.number
      (record {
        begins = omega arith;
        originator = rw originator_back y.originator;
        count = rw count_back y.count;
        size = rw length_back y.size;
        ends = omega arith;
        most = a.fits.number;
      })

  message_back : message_at block at m.number ≡ m
  unfolding message_at
  message_back = rw (originator_back, count_back, payload_back)

pub record_back : RecordBack
record_back block rest at m a d h = (right_back block rest at m a d h, message_back block rest at m a d, behind_back block rest at m a d)
