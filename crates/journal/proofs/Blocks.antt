-- A block is read back to its messages: its fields and its sum by the law of their bytes, its records one by one.
-- Assumes nothing.
use mathlib.Core.Path.{◌≡◌, refl, sym, ap, ◌∙◌}
use mathlib.Core.Bool.{true}
use mathlib.Core.List.{List, [], ◌∷◌, ◌++◌, append_assoc, append-nil}
use Prim.Native.Nat.{ℕ, ◌+◌, ◌*◌, ◌-◌, ◌≤◌, ◌<◌}
use native.Mathlib.Omega.{arith}
use borrow.Author.Tests.{lt-ltb, le-leb, eq-eqb}
use lib.ListN.{length, drop, replicate, length-append, length-replicate}
use lib.Seq.{drop-drop, take_at, drop_at}
use Rattle.group.specs.Choice.{when◌then◌else◌, ◌<?◌, ◌≤?◌, ◌=?◌}
use Rattle.group.specs.Fold.{all}
use Rattle.group.specs.Limits.{largest_number}
use Rattle.group.proofs.Choice.{both_hold, when_true}
use Rattle.message.specs.Order.{Ordered}
use Rattle.big_endian.specs.Laws.{Bytes}
use Rattle.big_endian.specs.Number.{number_at, bytes_of}
use Rattle.big_endian.proofs.Number.{bytes_of-length, number_behind, number_of_bytes, bytes_cons, bytes_append, bytes_of-bytes}
use Rattle.journal.specs.Limits.{block_size, records_at, records_end, record_head, number_size, mark, compact_mark}
use Rattle.journal.specs.Block.{sum_from, record_of, records_of, framed_by, framed, block_of, compact_records, compact_framed, compact_of, first_at, records_in, sum_at, ended_at, follows, record_start, behind_in, record_number, step_right, records_right, marked, form_of, form_right, sum_right, content_right, block_right, message_at, messages_from, last_from, messages_of, tail_with, tail_of}
use Rattle.journal.specs.Laws.{Allowed, Numbered, NextNumber, NumberedIn, records_with, block_with, last_number, BlockBack, CompactBack}
use Rattle.journal.specs.declared.Form.{Form}
use Rattle.journal.specs.declared.Form.TheVariants.{Log, Compact}
use Rattle.journal.specs.declared.Tail.{Tail}
use Rattle.message.proofs.Kept.{all_zeros}
use Rattle.journal.proofs.Lists.{number_in, drop_take, zeros_bytes}
use Rattle.journal.proofs.Summing.{sum_most}
use Rattle.journal.proofs.Records.{record_length, record_bytes, record_back}

-- the bytes of a message's record in a block of a form
abbrev pub record_within : Form → Ordered → List ℕ
record_within Log m = record_of m
record_within Compact m = bytes_of number_size m.number ++ record_of m

pub records_cons : (form : Form) (m : Ordered) (ms : List Ordered) → records_with form (m ∷ ms) ≡ record_within form m ++ records_with form ms
unfolding records_of compact_records
records_cons Log m ms = refl
records_cons Compact m ms = sym (append_assoc (bytes_of number_size m.number) (record_of m) (compact_records ms))

pub records_nil : (form : Form) → records_with form [] ≡ []
unfolding records_of compact_records
records_nil Log = refl
records_nil Compact = refl

within_bytes : (form : Form) (m : Ordered) → Allowed m → Bytes (record_within form m)
within_bytes Log m a = record_bytes m a
within_bytes Compact m a = bytes_append (bytes_of number_size m.number) (record_of m) (bytes_of-bytes number_size m.number) (record_bytes m a)

pub records_bytes : (form : Form) (before : ℕ) (ms : List Ordered) → NumberedIn form before ms → Bytes (records_with form ms)
unfolding NumberedIn
records_bytes form before [] n = rw (records_nil form) (zeros_bytes 0)
records_bytes form before (m ∷ ms) n =
    rw (records_cons form m ms) (bytes_append (record_within form m) (records_with form ms) (within_bytes form m n.0) (records_bytes form m.number ms n.2))

-- consecutive numbers are the next each
pub numbered_log : (before : ℕ) (ms : List Ordered) → Numbered before ms → NumberedIn Log before ms × (last_number before ms ≡ before + length ms)
unfolding Numbered NumberedIn last_number
numbered_log before [] n = (tt, omega arith)
numbered_log before (m ∷ ms) n =
    let (rest, last) = numbered_log (before + 1) ms n.2 in
    let e = n.1 in
    ((n.0, e, rw e rest), rw e (let l = last in omega arith))

-- each record takes at least its head
pub records_long : (ms : List Ordered) → record_head * length ms ≤ length (records_of ms)
unfolding records_of
records_long [] = omega arith
records_long (m ∷ ms) =
    let r = records_long ms in
    let l = record_length m in
    let a = length-append (record_of m) (records_of ms) in
    omega arith

compact_long : (ms : List Ordered) → record_head * length ms ≤ length (compact_records ms)
unfolding compact_records
compact_long [] = omega arith
compact_long (m ∷ ms) =
    let r = compact_long ms in
    let l = record_length m in
    let a = length-append (bytes_of number_size m.number) (record_of m ++ compact_records ms) in
    let b = length-append (record_of m) (compact_records ms) in
    omega arith

pub records_many : (form : Form) (ms : List Ordered) → record_head * length ms ≤ length (records_with form ms)
records_many Log ms = records_long ms
records_many Compact ms = compact_long ms

-- one record, read back from where it stands in a block of a form
record Back (form : Form) (block : List ℕ) (at before : ℕ) (m : Ordered) : Type 0 where
  number : record_number form block at before ≡ m.number
  right : step_right form block at before ≡ true
  message : message_at block (record_start form at) m.number ≡ m
  ends : behind_in form block at ≡ at + length (record_within form m)

step_back : (form : Form) (block rest : List ℕ) (at before : ℕ) (m : Ordered) → Allowed m → NextNumber form before m.number
    → drop at block ≡ record_within form m ++ rest → at + length (record_within form m) ≤ records_end → Back form block at before m
unfolding step_right
step_back Log block rest at before m a n d h =
    let b = record_back block rest at m a d h in
    record {
      number = sym n;
      right = both_hold (before <? before + 1) _ (lt-ltb before (before + 1) (omega arith)) (rw n at b.0);
      message = b.1;
      ends = b.2;
    }
step_back Compact block rest at before m a n d h =
    let l = length-append (bytes_of number_size m.number) (record_of m) in
    let k = bytes_of-length number_size m.number in
    let f = a.fits.number in
    let d4 : drop at block ≡ bytes_of number_size m.number ++ (record_of m ++ rest) = d ∙ append_assoc (bytes_of number_size m.number) (record_of m) rest in
    let d' : drop (at + number_size) block ≡ record_of m ++ rest =
    sym (drop-drop number_size at block) ∙ ap (drop number_size) d4 ∙ drop_at (bytes_of number_size m.number) (record_of m ++ rest) number_size k in
    let b = record_back block rest (at + number_size) m a d' (omega arith) in
    let v : number_at number_size block at ≡ m.number =
    number_behind number_size block at ∙ ap (λ (x : List ℕ). number_at number_size x 0) d4 ∙ number_of_bytes number_size m.number (record_of m ++ rest) (omega arith) in
    let e = b.2 in
    record {
      number = v;
      right = rw v (both_hold (before <? m.number) _ (lt-ltb before m.number n) b.0);
      message = b.1;
      ends = omega arith;
    }

-- the records that stand in a block from an index on, with zeros behind them
records_back : (form : Form) (block rest : List ℕ) (zeros at before : ℕ) (ms : List Ordered) → NumberedIn form before ms
    → drop at block ≡ records_with form ms ++ (replicate zeros 0 ++ rest) → at + length (records_with form ms) + zeros ≡ records_end
    → (records_right form block at before (length ms) ≡ true) × (messages_from form block at before (length ms) ≡ ms)
    × (last_from form block at before (length ms) ≡ last_number before ms)
unfolding records_right messages_from last_from NumberedIn last_number
records_back form block rest zeros at before [] n d h =
    let nil = records_nil form in
    let g : at + zeros ≡ records_end = let z = ap length nil in omega arith in
    let e : records_end - at ≡ zeros = omega arith in
    (rw (drop_take at records_end block, d, nil, e, take_at (replicate zeros 0) rest zeros (length-replicate zeros 0)) (all_zeros zeros), refl, refl)
records_back form block rest zeros at before (m ∷ ms) n d h =
    let cons = records_cons form m ms in
    let one = record_within form m in
    let more = records_with form ms ++ (replicate zeros 0 ++ rest) in
    let l = ap length cons ∙ length-append one (records_with form ms) in
    let d1 : drop at block ≡ one ++ more = d ∙ ap (λ (x : List ℕ). x ++ (replicate zeros 0 ++ rest)) cons ∙ append_assoc one (records_with form ms) (replicate zeros 0 ++ rest) in
    let b = step_back form block more at before m n.0 n.1 d1 (omega arith) in
    let d' : drop (behind_in form block at) block ≡ more =
    rw b.ends (sym (drop-drop (length one) at block) ∙ ap (drop (length one)) d1 ∙ drop_at one more (length one) refl) in
    let v = b.number in
    let (right, messages, last) = records_back form block rest zeros (behind_in form block at) m.number ms n.2 d' (rw b.ends (omega arith)) in (
      both_hold (step_right form block at before) _ b.right (rw v right),
      rw (v, b.message, messages),
      ap (λ (x : ℕ). last_from form block (behind_in form block at) x (length ms)) v ∙ last,
    )

-- a block part by part, whatever four bytes it begins with
module _ (begin : List ℕ) (four : length begin ≡ 4) (first records : ℕ) (body : List ℕ) (fits : records_at + length body ≤ records_end) where
  abbrev filling : List ℕ
  filling = replicate (records_end - records_at - length body) 0

  abbrev frame : List ℕ
  frame = framed_by begin first records body

  abbrev closing : List ℕ
  closing = bytes_of 4 (sum_from 0 (framed_by begin first records body))

  pub frame_length : length frame ≡ records_end
  unfolding bytes_of
  frame_length =
      let b = length-append begin (bytes_of 4 first ++ (bytes_of 2 records ++ (body ++ filling))) in
      let a = length-append body filling in
      let z = length-replicate {A = ℕ} (records_end - records_at - length body) 0 in
      omega arith

  whole_length : length (frame ++ closing) ≡ block_size
  whole_length =
      let f = frame_length in
      let s = bytes_of-length 4 (sum_from 0 (framed_by begin first records body)) in
      let a = length-append frame closing in
      omega arith

  first_back : first ≤ largest_number → first_at (frame ++ closing) ≡ first
  first_back h =
      number_in 4 first (frame ++ closing) begin ((bytes_of 2 records ++ (body ++ filling)) ++ closing) 0 4 (simp append_assoc) four (omega arith)

  records_in_back : records ≤ 65535 → records_in (frame ++ closing) ≡ records
  records_in_back h =
      let n = length-append begin (bytes_of 4 first) in
      let k = bytes_of-length 4 first in
      number_in 2 records (frame ++ closing) (begin ++ bytes_of 4 first) ((body ++ filling) ++ closing) 0 8 (simp append_assoc) (omega arith) (omega arith)

  body_back : drop records_at (frame ++ closing) ≡ body ++ (filling ++ closing)
  body_back =
      let n = length-append (begin ++ bytes_of 4 first) (bytes_of 2 records) in
      let m = length-append begin (bytes_of 4 first) in
      let k = bytes_of-length 4 first in
      let j = bytes_of-length 2 records in
      let e : frame ++ closing ≡ ((begin ++ bytes_of 4 first) ++ bytes_of 2 records) ++ (body ++ (filling ++ closing)) = simp append_assoc in
      ap (drop records_at) e ∙ drop_at ((begin ++ bytes_of 4 first) ++ bytes_of 2 records) (body ++ (filling ++ closing)) records_at (omega arith)

  frame_bytes : Bytes begin → Bytes body → Bytes frame
  frame_bytes g b =
      bytes_append begin _ g
      (bytes_append (bytes_of 4 first) _ (bytes_of-bytes 4 first)
      (bytes_append (bytes_of 2 records) _ (bytes_of-bytes 2 records)
      (bytes_append body _ b (zeros_bytes (records_end - records_at - length body)))))

  sum_back : Bytes begin → Bytes body → sum_right (frame ++ closing) ≡ true
  unfolding sum_right
  sum_back g b =
      let n = frame_length in
      let m = sum_most 0 frame (frame_bytes g b) (omega arith) in
      let s : sum_at (frame ++ closing) ≡ sum_from 0 frame =
      number_in 4 (sum_from 0 frame) (frame ++ closing) frame [] 0 records_end (rw append-nil) n (omega arith) in
      eq-eqb _ _ (s ∙ ap (sum_from 0) (sym (take_at frame closing records_end n)))

-- the marks are bytes
mark_bytes : (last : ℕ) → last < 256 → Bytes (75 ∷ 74 ∷ 66 ∷ last ∷ [])
mark_bytes last h =
    bytes_cons _ _ (omega arith) (bytes_cons _ _ (omega arith) (bytes_cons _ _ (omega arith) (bytes_cons _ _ h (zeros_bytes 0))))

module _ (first records : ℕ) (body : List ℕ) (fits : records_at + length body ≤ records_end) where
  pub framed_length : length (framed first records body) ≡ records_end
  unfolding framed
  framed_length = frame_length mark refl first records body fits

  pub block_length : length (block_of first records body) ≡ block_size
  unfolding framed block_of
  block_length = whole_length mark refl first records body fits

  pub compact_framed_length : length (compact_framed first records body) ≡ records_end
  unfolding compact_framed
  compact_framed_length = frame_length compact_mark refl first records body fits

  pub compact_length : length (compact_of first records body) ≡ block_size
  unfolding compact_framed compact_of
  compact_length = whole_length compact_mark refl first records body fits

-- what stands in a block of a form
record Parts (form : Form) (first records : ℕ) (body : List ℕ) : Type 0 where
  long : length (block_with form first records body) ≡ block_size
  form_of_lem : form_of (block_with form first records body) ≡ form
  first_at_lem : first ≤ largest_number → first_at (block_with form first records body) ≡ first
  records_at_lem : records ≤ 65535 → records_in (block_with form first records body) ≡ records
  sum : Bytes body → sum_right (block_with form first records body) ≡ true
  behind_head : (rest : List ℕ) × (drop records_at (block_with form first records body) ≡ body ++ (replicate (records_end - records_at - length body) 0 ++ rest))

parts : (form : Form) (first records : ℕ) (body : List ℕ) → records_at + length body ≤ records_end → Parts form first records body
unfolding framed block_of compact_framed compact_of form_of all when◌then◌else◌
parts Log first records body fits =
    record {
      long = whole_length mark refl first records body fits;
      form_of_lem = refl;
      first_at_lem = first_back mark refl first records body fits;
      records_at_lem = records_in_back mark refl first records body fits;
      sum = sum_back mark refl first records body fits (mark_bytes 49 (omega arith));
      behind_head = (_, body_back mark refl first records body fits);
    }
parts Compact first records body fits =
    record {
      long = whole_length compact_mark refl first records body fits;
      form_of_lem = refl;
      first_at_lem = first_back compact_mark refl first records body fits;
      records_at_lem = records_in_back compact_mark refl first records body fits;
      sum = sum_back compact_mark refl first records body fits (mark_bytes 50 (omega arith));
      behind_head = (_, body_back compact_mark refl first records body fits);
    }

log_marked : (first records : ℕ) (body : List ℕ) → marked mark (block_of first records body) ≡ true
unfolding framed block_of all when◌then◌else◌
log_marked first records body = refl

-- a block of a form is read back, if its mark and its first number may stand behind the tail
back_with : (form : Form) (t : Tail) (before : ℕ) (ms : List Ordered) → 1 ≤ length ms → NumberedIn form before ms → before + 1 ≤ largest_number
    → records_at + length (records_with form ms) ≤ records_end
    → let block = block_with form (before + 1) (length ms) (records_with form ms) in
    form_right form t block ≡ true → follows t (before + 1) ≡ true
    → (block_right t block ≡ true) × (messages_of block ≡ ms) × (tail_of block ≡ tail_with form (last_number before ms))
unfolding content_right block_right messages_of tail_of
back_with form t before ms some n most fits mark-right follow =
    let body = records_with form ms in
    let block = block_with form (before + 1) (length ms) body in
    let long = records_many form ms in
    let p = parts form (before + 1) (length ms) body fits in
    let f : first_at block ≡ before + 1 = p.first_at_lem most in
    let r : records_in block ≡ length ms = p.records_at_lem (omega arith) in
    let b : first_at block - 1 ≡ before = omega arith in
    let (rest, d) = p.behind_head in
    let (right, messages, last) = records_back form block rest (records_end - records_at - length body) records_at before ms n d (omega arith) in (
      both_hold (length block =? block_size) _ (eq-eqb _ _ p.long)
          (both_hold (form_right (form_of block) t block) _ (rw p.form_of_lem mark-right)
          (both_hold (sum_right block) _ (p.sum (records_bytes form before ms n))
          (both_hold (1 ≤? records_in block) _ (rw r (le-leb 1 (length ms) some))
          (both_hold (follows t (first_at block)) _ (rw f follow) (rw (p.form_of_lem, b, r) right))))),
      rw (p.form_of_lem, b, r) messages,
      rw (p.form_of_lem, b, r) (ap (tail_with form) last),
    )

-- the first number fits its type
number_fits : (before : ℕ) (ms : List Ordered) → 1 ≤ length ms → Numbered before ms → before + 1 ≤ largest_number
unfolding Numbered
number_fits before [] some n = absurd (omega arith)
number_fits before (m ∷ ms) some n =
    let f = n.0.fits.number in
    let e = n.1 in
    omega arith

pub block_back : BlockBack
unfolding form_right
block_back t before ms some n follow fits =
    let (log, last) = numbered_log before ms n in
    let (right, messages, tail) =
    back_with Log t before ms some log (number_fits before ms some n) fits (log_marked (before + 1) (length ms) (records_of ms)) follow in
    (right, messages, tail ∙ ap ended_at last)

-- the number of a compacted block is its first record's
compact_first : (m : Ordered) (ms : List Ordered) → Allowed m → records_at + length (compact_records (m ∷ ms)) ≤ records_end
    → let block = compact_of m.number (length (m ∷ ms)) (compact_records (m ∷ ms)) in
    number_at number_size block records_at ≡ m.number
unfolding compact_records
compact_first m ms a fits =
    let block = compact_of m.number (length (m ∷ ms)) (compact_records (m ∷ ms)) in
    let p = parts Compact m.number (length (m ∷ ms)) (compact_records (m ∷ ms)) fits in
    let (rest, d) = p.behind_head in
    let f = a.fits.number in
    number_behind number_size block records_at ∙ ap (λ (x : List ℕ). number_at number_size x 0) (d ∙ append_assoc (bytes_of number_size m.number) _ _)
    ∙ number_of_bytes number_size m.number _ (omega arith)

pub compact_back : CompactBack
unfolding form_right follows NumberedIn last_number
compact_back t m ms n free fits =
    let body = compact_records (m ∷ ms) in
    let above = n.1 in
    let f = n.0.fits.number in
    let e : m.number - 1 + 1 ≡ m.number = omega arith in
    let block = compact_of m.number (length (m ∷ ms)) body in
    let p = parts Compact m.number (length (m ∷ ms)) body fits in
    let same : (first_at block =? number_at number_size block records_at) ≡ true = eq-eqb _ _ (p.first_at_lem f ∙ sym (compact_first m ms n.0 fits)) in
    let right : form_right Compact t block ≡ true = both_hold t.free _ free same in
    let follow : follows t m.number ≡ true = sym (when_true t.free true _ _ free (sym (lt-ltb t.last.0 m.number above))) in
    rw e at (back_with Compact t (m.number - 1) (m ∷ ms) (omega arith) (n.0, omega arith, n.2) (omega arith) fits (rw e right) (rw e follow))
