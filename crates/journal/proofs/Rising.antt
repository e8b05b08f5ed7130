-- The messages that reading finds may stand in records, and their numbers rise, in blocks of either form. Assumes nothing.
use mathlib.Core.Path.{◌≡◌, refl, ap, ◌∙◌}
use mathlib.Core.Bool.{true}
use mathlib.Core.List.{List, [], ◌∷◌, ◌++◌}
use Prim.Native.Nat.{ℕ, zero, suc, ◌+◌, ◌-◌, ◌/◌, ◌≤◌, ◌<◌}
use native.Mathlib.Omega.{arith}
use borrow.Author.Tests.{ltb-true, eqb-true}
use lib.ListN.{length, take, drop}
use lib.Seq.{take_all}
use Rattle.group.proofs.Lists.{when_elim, le_or}
use Rattle.message.specs.Order.{Ordered}
use Rattle.big_endian.specs.Laws.{Bytes}
use Rattle.journal.specs.Limits.{block_size, records_at}
use Rattle.journal.specs.Block.{first_at, records_in, follows, behind_in, record_number, form_of, block_right, message_at, messages_from, last_from, messages_of, tail_with, tail_of}
use Rattle.journal.specs.Read.{Reads, found_from, found_in, fresh_tail}
use Rattle.journal.specs.Laws.{NumberedIn, last_number, RisesIn}
use Rattle.journal.specs.declared.Form.{Form}
use Rattle.journal.specs.declared.Form.TheVariants.{Log, Compact}
use Rattle.journal.specs.declared.Tail.{Tail}
use Rattle.journal.proofs.Walking.{messages_length}
use Rattle.journal.proofs.Only.{bytes_take, bytes_drop, records_only, block_says}

-- a number that may follow is above the last
follows_above : (t : Tail) (number : ℕ) → follows t number ≡ true → t.last.0 < number
unfolding follows
follows_above t number e =
    (when_elim (λ b. b ≡ true → t.last.0 < number) t.free (λ _ e. ltb-true _ _ e) (λ _ e. let z = eqb-true number (t.last.0 + 1) e in omega arith)) e

-- numbers that rise in a block of either form rise, from any lower number on
pub rising_from : (form : Form) (low before : ℕ) (ms : List Ordered) → low ≤ before → NumberedIn form before ms → NumberedIn Compact low ms
unfolding NumberedIn
rising_from form low before [] h n = tt
rising_from Log low before (m ∷ ms) h n = let e = n.1 in (n.0, omega arith, rising_from Log m.number m.number ms (omega arith) n.2)
rising_from Compact low before (m ∷ ms) h n = let e = n.1 in (n.0, omega arith, n.2)

-- the last of them
last_rising : (before : ℕ) (ms : List Ordered) → NumberedIn Compact before ms → before ≤ last_number before ms
unfolding NumberedIn last_number
last_rising before [] n = omega arith
last_rising before (m ∷ ms) n = let e = n.1 in let h = last_rising m.number ms n.2 in omega arith

pub rising_append : (before : ℕ) (ms ns : List Ordered) → NumberedIn Compact before ms → NumberedIn Compact (last_number before ms) ns → NumberedIn Compact before (ms ++ ns)
unfolding NumberedIn last_number
rising_append before [] ns n r = r
rising_append before (m ∷ ms) ns n r = (n.0, n.1, rising_append m.number ms ns n.2 r)

pub rising_parts : (before : ℕ) (ms ns : List Ordered) → NumberedIn Compact before (ms ++ ns) → NumberedIn Compact before ms × NumberedIn Compact (last_number before ms) ns
unfolding NumberedIn last_number
rising_parts before [] ns r = (tt, r)
rising_parts before (m ∷ ms) ns r = let (a, b) = rising_parts m.number ms ns r.2 in ((r.0, r.1, a), b)

-- the last number of a block's records is that of their messages, where they have any
last_messages : (form : Form) (block : List ℕ) (at before k : ℕ) → last_from form block at before k ≡ last_number before (messages_from form block at before k)
unfolding last_from messages_from last_number message_at
last_messages form block at before zero = refl
last_messages form block at before (suc k) = last_messages form block (behind_in form block at) (record_number form block at before) k

last_some : (low before : ℕ) (ms : List Ordered) → 1 ≤ length ms → last_number low ms ≡ last_number before ms
unfolding last_number
last_some low before [] h = absurd (omega arith)
last_some low before (m ∷ ms) h = refl

-- a block cut from the front is whole only if the journal has as many bytes
block_whole : (journal : List ℕ) → length (take block_size journal) ≡ block_size → block_size ≤ length journal
block_whole journal e = le_or block_size (length journal) (λ h. h) (λ h. let s = take_all block_size journal (omega arith) in let l = ap length s in absurd (omega arith))

tail_last : (form : Form) (number : ℕ) → (tail_with form number).last.0 ≡ number
tail_last Log number = refl
tail_last Compact number = refl

-- a right block, and what was found behind it
right_rises : (t : Tail) (journal : List ℕ) (ns : List Ordered) → Bytes journal → block_right t (take block_size journal) ≡ true
    → NumberedIn Compact (tail_of (take block_size journal)).last.0 ns → NumberedIn Compact t.last.0 (messages_of (take block_size journal) ++ ns)
unfolding messages_of tail_of
right_rises t journal ns bytes e rest =
    let block = take block_size journal in
    let r = block_says t block e in
    let form = form_of block in
    let first = first_at block - 1 in
    let ms = messages_from form block records_at first (records_in block) in
    let size : block_size ≤ length journal = block_whole journal r.long in
    let (numbered, _, _) = records_only block (bytes_take block_size journal bytes size) r.long form records_at first (records_in block) (omega arith) r.records in
    let above = follows_above t (first_at block) r.follow in
    let some = r.some in
    let many = messages_length form block records_at first (records_in block) in
    let last : (tail_with form (last_from form block records_at first (records_in block))).last.0 ≡ last_number t.last.0 ms =
    tail_last form _ ∙ last_messages form block records_at first (records_in block) ∙ last_some first t.last.0 ms (omega arith) in
    rising_append t.last.0 ms ns (rising_from form t.last.0 first ms (omega arith) numbered) (rw (← last) rest)

-- what was found behind a tail
found_rises : (t : Tail) (journal : List ℕ) (k : ℕ) → Bytes journal → NumberedIn Compact t.last.0 (found_from t journal k).messages
unfolding found_from NumberedIn
found_rises t journal zero bytes = tt
found_rises t journal (suc k) bytes =
    let block = take block_size journal in
    let rest = found_rises (tail_of block) (drop block_size journal) k (bytes_drop block_size journal bytes) in
    when_elim (λ (r : Reads). NumberedIn Compact t.last.0 r.messages) (block_right t block) (λ e. right_rises t journal _ bytes e rest) (λ e. tt)

pub found_rising : RisesIn
unfolding found_in
found_rising journal bytes = found_rises fresh_tail journal (length journal / block_size) bytes
