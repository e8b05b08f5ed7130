-- A right block of bytes is the block of its messages: record by record, then its other parts. Assumes nothing.
use mathlib.Core.Path.{◌≡◌, refl, sym, ap, ◌∙◌}
use mathlib.Core.Bool.{Bool, true, false}
use mathlib.Core.List.{List, [], ◌∷◌, ◌++◌, append_assoc, append-nil}
use Prim.Native.Nat.{ℕ, zero, suc, ◌+◌, ◌-◌, ◌≤◌, ◌<◌}
use native.Mathlib.Numerals.{add-one}
use native.Mathlib.Omega.{arith}
use borrow.Author.Tests.{lt-ltb, le-leb, leb-true, eqb-true}
use lib.ListN.{length, get_or, take, drop, replicate, length-append, length-drop, take-append-drop, drop_of_length-le}
use lib.Seq.{length-take-le, drop-cons, get_or-take, get_or-drop, drop-drop, drop-append-le, take_at}
use Rattle.group.specs.Choice.{when◌then◌else◌, ◌<?◌, ◌≤?◌, ◌=?◌}
use Rattle.group.specs.Fold.{all}
use Rattle.group.specs.Limits.{members_most, payload_most}
use Rattle.group.proofs.Choice.{says, both_hold, both_first, both_then}
use Rattle.message.specs.Message.{all_zero}
use Rattle.big_endian.specs.Laws.{Bytes}
use Rattle.big_endian.specs.Number.{number_at, bytes_of}
use Rattle.big_endian.proofs.Number.{bytes_of-length, number_fits, bytes_of_number_then}
use Rattle.message.specs.Order.{Ordered}
use Rattle.journal.specs.Limits.{block_size, records_at, records_end, record_head, number_size, mark, compact_mark}
use Rattle.journal.specs.Block.{sum_from, record_of, framed_by, framed, block_of, compact_framed, compact_of, first_at, records_in, sum_at, length_at, behind, follows, record_start, behind_in, record_number, step_right, records_right, marked, form_of, form_right, sum_right, content_right, block_right, message_at, messages_from, messages_of}
use Rattle.journal.specs.Write.{allowed}
use Rattle.journal.specs.Laws.{Allowed, NextNumber, NumberedIn, records_with, block_with, BlockOnly}
use Rattle.journal.specs.declared.Form.{Form}
use Rattle.journal.specs.declared.Form.TheVariants.{Log, Compact}
use Rattle.journal.specs.declared.Tail.{Tail}
use Rattle.journal.proofs.Records.{Says, step_says, record_length}
use Rattle.journal.proofs.Blocks.{record_within, records_nil, records_cons, frame_length}

-- parts of bytes are bytes
pub bytes_take : (n : ℕ) (l : List ℕ) → Bytes l → n ≤ length l → Bytes (take n l)
unfolding Bytes
bytes_take n l b h = λ i k. let e = length-take-le n l h in rw (get_or-take n l i 0 (omega arith)) (b i (omega arith))

pub bytes_drop : (n : ℕ) (l : List ℕ) → Bytes l → Bytes (drop n l)
unfolding Bytes
bytes_drop n l b = λ i k. let e = length-drop n l in rw (get_or-drop n l i 0) (b (n + i) (omega arith))

zeros_only : (l : List ℕ) → all_zero l ≡ true → l ≡ replicate (length l) 0
unfolding all_zero
zeros_only [] e = refl
zeros_only (b ∷ l) e =
    let z : b ≡ 0 = eqb-true b 0 (both_first (b =? 0) (all_zero l) e) in
    rw z (ap (λ (x : List ℕ). 0 ∷ x) (zeros_only l (both_then (b =? 0) (all_zero l) e)))

module _ (block : List ℕ) (bytes : Bytes block) (long : length block ≡ block_size) where
  -- a right record holds an allowed message, and its bytes are those of that message
  payload_length : (at number : ℕ) → Says block at number → length (take (length_at block at) (drop (at + record_head) block)) ≡ length_at block at
  payload_length at number s =
      let d = length-drop (at + record_head) block in
      let h = s.ends in
      length-take-le (length_at block at) (drop (at + record_head) block) (omega arith)

  message_length : (at number : ℕ) → Says block at number → length (message_at block at number).payload ≡ length_at block at
  unfolding message_at
  message_length at number s = payload_length at number s

  pub message_number : (at number : ℕ) → (message_at block at number).number ≡ number
  unfolding message_at
  message_number at number = refl

  record_allowed : (at number : ℕ) → Says block at number → Allowed (message_at block at number)
  unfolding message_at allowed
  record_allowed at number s =
      let d = length-drop (at + record_head) block in
      let h = s.ends in
      let c = number_fits block bytes 4 (at + 1) (omega arith) in
      let l = payload_length at number s in
      record {
        fits =
            record {
              number = s.most;
              count = omega arith;
              payload = bytes_take (length_at block at) (drop (at + record_head) block) (bytes_drop (at + record_head) block bytes) (omega arith);
            };
        may =
            both_hold (get_or block at 0 <? members_most) _ (lt-ltb _ _ s.originator)
            (both_hold (length (take (length_at block at) (drop (at + record_head) block)) ≤? payload_most) _ (rw l (le-leb _ _ s.size))
            (le-leb 1 (number_at 4 block (at + 1)) s.count));
      }

  record_only : (at number : ℕ) → Says block at number → drop at block ≡ record_of (message_at block at number) ++ drop (behind block at) block
  unfolding message_at record_of
  record_only at number s =
      let h = s.ends in
      let payload = take (length_at block at) (drop (at + record_head) block) in
      let l = payload_length at number s in
      let e5 : at + 1 + 4 ≡ at + 5 = omega arith in
      let e7 : at + 5 + 2 ≡ at + record_head = omega arith in
      let p : payload ++ drop (behind block at) block ≡ drop (at + record_head) block =
      rw (← (drop-drop (length_at block at) (at + record_head) block)) (take-append-drop (length_at block at) (drop (at + record_head) block)) in
      let q : bytes_of 2 (length_at block at) ++ drop (at + record_head) block ≡ drop (at + 5) block = rw e7 at (bytes_of_number_then block bytes 2 (at + 5) (omega arith)) in
      let r : bytes_of 4 (number_at 4 block (at + 1)) ++ drop (at + 5) block ≡ drop (at + 1) block = rw e5 at (bytes_of_number_then block bytes 4 (at + 1) (omega arith)) in
      let o : drop at block ≡ get_or block at 0 ∷ drop (at + 1) block = rw add-one (drop-cons block at 0 (omega arith)) in
      o ∙ ap (λ (x : List ℕ). get_or block at 0 ∷ x)
      (sym (rw l
      (append_assoc (bytes_of 4 (number_at 4 block (at + 1))) (bytes_of 2 (length_at block at) ++ payload) (drop (behind block at) block)
      ∙ ap (λ (x : List ℕ). bytes_of 4 (number_at 4 block (at + 1)) ++ x)
      (append_assoc (bytes_of 2 (length_at block at)) payload (drop (behind block at) block) ∙ ap (λ (x : List ℕ). bytes_of 2 (length_at block at) ++ x) p ∙ q)
      ∙ r)))

  -- the record at an index of a block of a form, its number, and what stands behind it
  next_number_lem : (form : Form) (at before : ℕ) → before < record_number form block at before → NextNumber form before (record_number form block at before)
  next_number_lem Log at before h = refl
  next_number_lem Compact at before h = h

  abbrev message_in : Form → ℕ → ℕ → Ordered
  message_in form at before = message_at block (record_start form at) (record_number form block at before)

  step_only : (form : Form) (at before : ℕ) → Says block (record_start form at) (record_number form block at before)
      → drop at block ≡ record_within form (message_in form at before) ++ drop (behind_in form block at) block
  step_only Log at before s = record_only at (before + 1) s
  step_only Compact at before s =
      let h = s.ends in
      let number = number_at number_size block at in
      let m = message_at block (at + number_size) number in
      sym (bytes_of_number_then block bytes number_size at (omega arith))
      ∙ ap (λ (x : List ℕ). bytes_of number_size number ++ x) (record_only (at + number_size) number s)
      ∙ sym (append_assoc (bytes_of number_size number) (record_of m) (drop (behind block (at + number_size)) block))
      ∙ ap (λ (x : ℕ). (bytes_of number_size x ++ record_of m) ++ drop (behind block (at + number_size)) block) (sym (message_number (at + number_size) number))

  step_ends : (form : Form) (at before : ℕ) → Says block (record_start form at) (record_number form block at before)
      → behind_in form block at ≡ at + length (record_within form (message_in form at before))
  step_ends Log at before s =
      let l = record_length (message_at block at (before + 1)) in
      let n = message_length at (before + 1) s in
      omega arith
  step_ends Compact at before s =
      let m = message_at block (at + number_size) (number_at number_size block at) in
      let l = record_length m in
      let n = message_length (at + number_size) (number_at number_size block at) s in
      let a = length-append (bytes_of number_size m.number) (record_of m) in
      let b = bytes_of-length number_size m.number in
      omega arith

  -- so many right records from an index on, and the zeros behind them
  pub records_only : (form : Form) (at before k : ℕ) → at ≤ records_end → records_right form block at before k ≡ true
      → let ms = messages_from form block at before k in
      NumberedIn form before ms × (at + length (records_with form ms) ≤ records_end)
      × (drop at block ≡ records_with form ms ++ (replicate (records_end - at - length (records_with form ms)) 0 ++ drop records_end block))
  unfolding records_right messages_from NumberedIn
  records_only form at before zero h e =
      let nil = records_nil form in
      let front = take records_end block in
      let l : length front ≡ records_end = length-take-le records_end block (omega arith) in
      let d = length-drop at front in
      let n : length (drop at front) ≡ records_end - at - 0 = omega arith in
      let z : drop at front ≡ replicate (records_end - at - 0) 0 = zeros_only (drop at front) e ∙ rw n in (
        tt,
        rw nil (omega arith),
        rw nil
            (ap (drop at) (sym (take-append-drop records_end block))
            ∙ drop-append-le at front (drop records_end block) (omega arith)
            ∙ ap (λ (x : List ℕ). x ++ drop records_end block) z),
      )
  records_only form at before (suc k) h e =
      let (above, s) = step_says block form at before (both_first (step_right form block at before) _ e) in
      let number = record_number form block at before in
      let m = message_in form at before in
      let b = s.ends in
      let (numbered, fits, rest) = records_only form (behind_in form block at) number k b (both_then (step_right form block at before) _ e) in
      let ms = messages_from form block (behind_in form block at) number k in
      let one = record_within form m in
      let cons = records_cons form m ms in
      let a = length-append one (records_with form ms) in
      let l = step_ends form at before s in
      let v = message_number (record_start form at) number in
      let z : records_end - behind_in form block at - length (records_with form ms) ≡ records_end - at - length (one ++ records_with form ms) = omega arith in (
        (record_allowed (record_start form at) number s, rw v (next_number_lem form at before above), rw v numbered),
        rw cons (omega arith),
        rw cons
            (step_only form at before s ∙ ap (λ (x : List ℕ). one ++ x) (rw z at rest) ∙ sym (append_assoc one (records_with form ms) _)),
      )

  -- the mark
  begins_only : (last : ℕ) → marked (75 ∷ 74 ∷ 66 ∷ last ∷ []) block ≡ true → block ≡ (75 ∷ 74 ∷ 66 ∷ last ∷ []) ++ drop 4 block
  unfolding all
  begins_only last e =
      let k : get_or block 0 0 ≡ 75 = search says depth 9 in
      let j : get_or block 1 0 ≡ 74 = search says depth 9 in
      let b : get_or block 2 0 ≡ 66 = search says depth 9 in
      let o : get_or block 3 0 ≡ last = search says depth 9 in
      drop-cons block 0 0 (omega arith)
      ∙ rw (drop-cons block 1 0 (omega arith), drop-cons block 2 0 (omega arith), drop-cons block 3 0 (omega arith), k, j, b, o)

abbrev mark_of : Form → List ℕ
mark_of Log = mark
mark_of Compact = compact_mark

-- a block of a form begins with its mark
pub compact_marked : (block : List ℕ) → form_of block ≡ Compact → marked compact_mark block ≡ true
unfolding form_of when◌then◌else◌
compact_marked block e = go (marked compact_mark block) refl e
  where
    go : (b : Bool) → marked compact_mark block ≡ b → (when b then Compact else Log) ≡ Compact → marked compact_mark block ≡ true
    go true r e = r
    go false r e = let z : ◌≡◌ {A = ℕ} 0 1 = cc in absurd (omega arith)

mark_only : (form : Form) (t : Tail) (block : List ℕ) → Bytes block → length block ≡ block_size → form_of block ≡ form → form_right form t block ≡ true
    → block ≡ mark_of form ++ drop 4 block
unfolding form_right
mark_only Log t block bytes long e r = begins_only block bytes long 49 r
mark_only Compact t block bytes long e r = begins_only block bytes long 50 (compact_marked block e)

-- what `block_right` says of a block's parts
pub record Right (t : Tail) (block : List ℕ) : Type 0 where
  pub long : length block ≡ block_size
  pub marks : form_right (form_of block) t block ≡ true
  pub sum : sum_right block ≡ true
  pub some : 1 ≤ records_in block
  pub follow : follows t (first_at block) ≡ true
  pub records : records_right (form_of block) block records_at (first_at block - 1) (records_in block) ≡ true

pub block_says : (t : Tail) (block : List ℕ) → block_right t block ≡ true → Right t block
unfolding content_right block_right
block_says t block e =
    let a = both_then (length block =? block_size) _ e in
    let b = both_then (form_right (form_of block) t block) _ a in
    let c = both_then (sum_right block) _ b in
    let d = both_then (1 ≤? records_in block) _ c in
    record {
      long = eqb-true (length block) block_size (both_first (length block =? block_size) _ e);
      marks = both_first (form_right (form_of block) t block) _ a;
      sum = both_first (sum_right block) _ b;
      some = leb-true 1 (records_in block) (both_first (1 ≤? records_in block) _ c);
      follow = both_first (follows t (first_at block)) _ d;
      records = both_then (follows t (first_at block)) _ d;
    }

-- the bytes of a block of which the mark, the sum and the bytes behind the head are known
module _ (block : List ℕ) (bytes : Bytes block) (long : length block ≡ block_size) (sum : sum_right block ≡ true) where
  whole_only : (begin body : List ℕ) → length begin ≡ 4 → block ≡ begin ++ drop 4 block → records_at + length body ≤ records_end
      → drop records_at block ≡ body ++ (replicate (records_end - records_at - length body) 0 ++ drop records_end block)
      → let frame = framed_by begin (first_at block) (records_in block) body in
      block ≡ frame ++ bytes_of 4 (sum_from 0 frame)
  unfolding sum_right
  whole_only begin body four marks fits rest =
      let first = first_at block in
      let records = records_in block in
      let frame = framed_by begin first records body in
      let zeros : List ℕ = replicate (records_end - records_at - length body) 0 in
      let f : bytes_of 4 first ++ drop 8 block ≡ drop 4 block = bytes_of_number_then block bytes 4 4 (omega arith) in
      let n : bytes_of 2 records ++ drop 10 block ≡ drop 8 block = bytes_of_number_then block bytes 2 8 (omega arith) in
      let c : bytes_of 4 (sum_at block) ++ drop 512 block ≡ drop 508 block = bytes_of_number_then block bytes 4 508 (omega arith) in
      let last : bytes_of 4 (sum_at block) ≡ drop 508 block =
      sym (append-nil (bytes_of 4 (sum_at block))) ∙ ap (λ (x : List ℕ). bytes_of 4 (sum_at block) ++ x) (sym (drop_of_length-le block {i = 512} (omega arith))) ∙ c in
      let whole : block ≡ frame ++ drop 508 block =
      marks
      ∙ ap (λ (x : List ℕ). begin ++ x)
      (sym f
      ∙ ap (λ (x : List ℕ). bytes_of 4 first ++ x) (sym n ∙ ap (λ (x : List ℕ). bytes_of 2 records ++ x) (rest ∙ sym (append_assoc body zeros (drop 508 block))))
      ∙ ap (λ (x : List ℕ). bytes_of 4 first ++ x) (sym (append_assoc (bytes_of 2 records) (body ++ zeros) (drop 508 block)))
      ∙ sym (append_assoc (bytes_of 4 first) (bytes_of 2 records ++ (body ++ zeros)) (drop 508 block)))
      ∙ sym (append_assoc begin (bytes_of 4 first ++ (bytes_of 2 records ++ (body ++ zeros))) (drop 508 block)) in
      let front : take 508 block ≡ frame =
      ap (take 508) whole ∙ take_at frame (drop 508 block) 508 (frame_length begin four first records body fits) in
      let s : sum_at block ≡ sum_from 0 frame = eqb-true _ _ sum ∙ ap (sum_from 0) front in
      whole ∙ ap (λ (x : List ℕ). frame ++ x) (sym last ∙ ap (bytes_of 4) s)

with_form : (form : Form) (t : Tail) (block : List ℕ) → Bytes block → length block ≡ block_size → sum_right block ≡ true → form_of block ≡ form
    → form_right form t block ≡ true → (body : List ℕ) → records_at + length body ≤ records_end
    → drop records_at block ≡ body ++ (replicate (records_end - records_at - length body) 0 ++ drop records_end block)
    → block ≡ block_with form (first_at block) (records_in block) body
unfolding framed block_of compact_framed compact_of
with_form Log t block bytes long sum e r body fits rest =
    whole_only block bytes long sum mark body refl (mark_only Log t block bytes long e r) fits rest
with_form Compact t block bytes long sum e r body fits rest =
    whole_only block bytes long sum compact_mark body refl (mark_only Compact t block bytes long e r) fits rest

pub block_only : BlockOnly
unfolding messages_of
block_only t block bytes e =
    let r = block_says t block e in
    let form = form_of block in
    let (numbered, fits, rest) = records_only block bytes r.long form records_at (first_at block - 1) (records_in block) (omega arith) r.records in
    (numbered, with_form form t block bytes r.long r.sum refl r.marks _ fits rest)
