-- What a writer has in hand: the records of the messages since the last block, and how each call changes it. Assumes nothing.
use mathlib.Core.Path.{◌≡◌, refl, sym, ap, ◌∙◌}
use mathlib.Core.Bool.{true, false}
use mathlib.Core.List.{List, [], ◌∷◌, ◌++◌, append_assoc, append-nil}
use Prim.Native.Nat.{ℕ, ◌+◌, ◌-◌, ◌≤◌}
use native.Mathlib.Omega.{arith}
use borrow.Author.Tests.{eq-eqb, ne_eqb}
use lib.ListN.{length, take, drop, length-append, length-drop, drop_of_length-le}
use lib.Seq.{length-take-le, take_at, drop-append-le}
use Rattle.group.specs.Choice.{when◌then◌else◌, ◌=?◌}
use Rattle.message.specs.Order.{Ordered}
use Rattle.text.specs.LaidAt.{written_at}
use Rattle.journal.specs.Limits.{block_size, records_at, records_end}
use Rattle.journal.specs.Block.{record_of, records_of, framed, block_of, ended_at, follows}
use Rattle.journal.specs.Write.{writer_after, writer_sound, grown, in_hand}
use Rattle.journal.specs.Laws.{Allowed, Numbered, handed, messages_in}
use Rattle.journal.specs.declared.Tail.{Tail}
use Rattle.journal.specs.declared.Writer.{Writer}
use Rattle.journal.proofs.Blocks.{records_long, block_back}
use Rattle.journal.proofs.Rights.{Rights}
use Rattle.journal.proofs.Sound.{Numbers, sound_is, follows_ended, follows_positive}

-- how the numbers of the messages in hand stand to the tail behind the last block and to the writer's own tail
abbrev pub Ends : Tail → ℕ → List Ordered → Writer → Type 0
Ends u before [] w = w.tail ≡ u
Ends u before (m ∷ ms) w =
    (w.first.0 ≡ before + 1) × (follows u (before + 1) ≡ true) × (w.tail ≡ ended_at (before + length (m ∷ ms)))

pub record Pending (u : Tail) (ms : List Ordered) (w : Writer) (hand : List ℕ) : Type 0 where
  pub before : ℕ
  pub room : length hand ≡ block_size
  pub records : w.records ≡ length ms
  pub used : w.used ≡ records_at + length (records_of ms)
  pub fits : w.used ≤ records_end
  pub bytes : drop records_at (take w.used hand) ≡ records_of ms
  pub numbered : Numbered before ms
  pub ends : Ends u before ms w

-- with nothing in hand
pub pending_none : (u : Tail) (hand : List ℕ) → length hand ≡ block_size → Pending u [] (writer_after u) hand
unfolding records_of Numbered
pending_none u hand n =
    let l : length (take records_at hand) ≡ records_at = length-take-le records_at hand (omega arith) in
    record {
      before = 0;
      room = n;
      records = refl;
      used = refl;
      fits = omega arith;
      bytes = drop_of_length-le (take records_at hand) {i = records_at} (omega arith);
      numbered = tt;
      ends = refl;
    }

-- the writer is sound
pub pending_sound : (u : Tail) (ms : List Ordered) (w : Writer) (hand : List ℕ) → Pending u ms w hand → writer_sound w ≡ true
unfolding records_of
pending_sound u ms w hand p =
    let r = p.records in
    let e = p.used in
    let l = records_long ms in
    sound_is w
    (record {
      begins = omega arith;
      ends = p.fits;
      fits = omega arith;
      none = λ z. none ms (sym r ∙ z) e;
      some = λ z. some ms r z p.ends;
    })
  where
    none : (ms : List Ordered) → length ms ≡ 0 → w.used ≡ records_at + length (records_of ms) → w.used ≡ records_at
    none [] n e = e
    none (m ∷ ms) n e = absurd (omega arith)

    some : (ms : List Ordered) → w.records ≡ length ms → (w.records ≡ 0 → ⊥) → Ends u p.before ms w → Numbers w
    some [] r z ends = absurd (z r)
    some (m ∷ ms) r z (first, follow, end) =
        let n = ap (λ (t : Tail). t.last.0) end in
        record { closed = ap (λ (t : Tail). t.free) end; first = omega arith; last = omega arith }

handed_block : (first records : ℕ) (body : List ℕ) → handed (block_of first records body) ≡ block_of first records body ∷ []
unfolding handed block_of framed
handed_block first records body = refl

-- the block in hand is one block, right behind the tail, with the messages in hand
pub block_out : (u : Tail) (m : Ordered) (ms : List Ordered) (w : Writer) (hand : List ℕ) → Pending u (m ∷ ms) w hand
    → Rights u (handed (in_hand w hand)) w.tail × (messages_in (handed (in_hand w hand)) ≡ m ∷ ms)
unfolding messages_in
block_out u m ms w hand p =
    let (first, follow, end) = p.ends in
    let e = p.used in
    let f = p.fits in
    let (right, messages, tail) = block_back u p.before (m ∷ ms) (omega arith) p.numbered follow (omega arith) in
    rw (first, p.records, p.bytes, handed_block (p.before + 1) (length (m ∷ ms)) (records_of (m ∷ ms)))
    ((right, tail ∙ sym end), append-nil _ ∙ messages)

-- what shutdown hands out
pub closed_out : (u : Tail) (ms : List Ordered) (w : Writer) (hand : List ℕ) → Pending u ms w hand
    → let blocks = handed (when w.records =? 0 then [] else in_hand w hand) in
    Rights u blocks w.tail × (messages_in blocks ≡ ms)
unfolding handed messages_in when◌then◌else◌
closed_out u [] w hand p = rw p.records (sym p.ends, refl)
closed_out u (m ∷ ms) w hand p =
    let r = p.records in
    let z : (w.records =? 0) ≡ false = ne_eqb w.records 0 (λ e. omega arith) in
    rw z (block_out u m ms w hand p)

numbered_snoc : (before : ℕ) (ms : List Ordered) (m : Ordered) → Numbered before ms → Allowed m → m.number ≡ before + length ms + 1
    → Numbered before (ms ++ (m ∷ []))
unfolding Numbered
numbered_snoc before [] m n a e = (a, omega arith, tt)
numbered_snoc before (x ∷ ms) m n a e = (n.0, n.1, numbered_snoc (before + 1) ms m n.2 a (omega arith))

pub records_snoc : (ms : List Ordered) (m : Ordered) → records_of (ms ++ (m ∷ [])) ≡ records_of ms ++ record_of m
unfolding records_of
records_snoc [] m = append-nil (record_of m)
records_snoc (x ∷ ms) m = rw (records_snoc ms m) (sym (append_assoc (record_of x) (records_of ms) (record_of m)))

-- the block in hand with one more record laid in it
module _ (w : Writer) (m : Ordered) (hand : List ℕ) (room : length hand ≡ block_size) (low : records_at ≤ w.used) (fits : w.used + length (record_of m) ≤ records_end) where
  front_length : length (take w.used hand) ≡ w.used
  front_length = length-take-le w.used hand (omega arith)

  laid_length : length (written_at w.used (record_of m) hand) ≡ block_size
  laid_length =
      let f = front_length in
      let a = length-append (take w.used hand) (record_of m ++ drop (w.used + length (record_of m)) hand) in
      let b = length-append (record_of m) (drop (w.used + length (record_of m)) hand) in
      let d = length-drop (w.used + length (record_of m)) hand in
      omega arith

  laid_bytes : drop records_at (take (w.used + length (record_of m)) (written_at w.used (record_of m) hand)) ≡ drop records_at (take w.used hand) ++ record_of m
  laid_bytes =
      let f = front_length in
      let a = length-append (take w.used hand) (record_of m) in
      ap (drop records_at)
      (ap (take (w.used + length (record_of m))) (sym (append_assoc (take w.used hand) (record_of m) (drop (w.used + length (record_of m)) hand)))
      ∙ take_at (take w.used hand ++ record_of m) (drop (w.used + length (record_of m)) hand) (w.used + length (record_of m)) (omega arith))
      ∙ drop-append-le records_at (take w.used hand) (record_of m) (omega arith)

-- one more message in hand, where its number is the next
pending_grown : (u : Tail) (before : ℕ) (ms : List Ordered) (w : Writer) (hand : List ℕ) (m : Ordered) → Pending u ms w hand
    → w.used + length (record_of m) ≤ records_end → Numbered before (ms ++ (m ∷ [])) → Ends u before (ms ++ (m ∷ [])) (grown w m)
    → Pending u (ms ++ (m ∷ [])) (grown w m) (written_at w.used (record_of m) hand)
pending_grown u before ms w hand m p fits numbered ends =
    let e = p.used in
    let r = p.records in
    let low : records_at ≤ w.used = omega arith in
    let l = length-append ms (m ∷ []) in
    let s = records_snoc ms m in
    let n = length-append (records_of ms) (record_of m) in
    record {
      before = before;
      room = laid_length w m hand p.room low fits;
      records = omega arith;
      used = rw s (omega arith);
      fits = fits;
      bytes = laid_bytes w m hand p.room low fits ∙ ap (λ (x : List ℕ). x ++ record_of m) p.bytes ∙ sym s;
      numbered = numbered;
      ends = ends;
    }

pub pending_more : (u : Tail) (ms : List Ordered) (w : Writer) (hand : List ℕ) (m : Ordered) → Pending u ms w hand → Allowed m
    → follows w.tail m.number ≡ true → w.used + length (record_of m) ≤ records_end
    → Pending u (ms ++ (m ∷ [])) (grown w m) (written_at w.used (record_of m) hand)
unfolding when◌then◌else◌ Numbered
pending_more u [] w hand m p a follow fits =
    let h = follows_positive w.tail m.number follow in
    let n : m.number ≡ m.number - 1 + 1 = omega arith in
    let z : (w.records =? 0) ≡ true = eq-eqb w.records 0 p.records in
    let f : follows u m.number ≡ true = rw p.ends at follow in
    pending_grown u (m.number - 1) [] w hand m p fits (a, n, tt) (rw z n, rw (← n) f, ap ended_at n)
pending_more u (x ∷ ms) w hand m p a follow fits =
    let (first, before, end) = p.ends in
    let r = p.records in
    let n = follows_ended (p.before + length (x ∷ ms)) m.number (rw end at follow) in
    let z : (w.records =? 0) ≡ false = ne_eqb w.records 0 (λ e. omega arith) in
    let l = length-append ms (m ∷ []) in
    pending_grown u p.before (x ∷ ms) w hand m p fits (numbered_snoc p.before (x ∷ ms) m p.numbered a n)
    (rw z first, before, ap ended_at (omega arith))
