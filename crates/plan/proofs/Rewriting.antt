-- What is rewritten is read back, block by block; the claims on bytes follow from those on messages. Assumes nothing.
use mathlib.Core.Path.{◌≡◌, refl, sym, ap, ◌∙◌}
use mathlib.Core.Bool.{Bool, true, false}
use mathlib.Core.List.Memᴰ
use mathlib.Core.List.{List, [], ◌∷◌, ◌++◌, flatten}
use Prim.Native.Nat.{ℕ, ◌+◌, ◌%◌, ◌≤◌}
use native.Mathlib.Omega.{arith}
use borrow.Author.Tests.{eq-eqb}
use lib.ListN.{length, length-append}
use Rattle.group.specs.Choice.{when◌then◌else◌, ask◌or◌then◌, ◌≤?◌, ◌=?◌}
use Rattle.group.specs.Question.{first_no, judged}
use Rattle.group.specs.declared.Refusal.{Refusal}
use Rattle.group.specs.declared.Refusal.TheVariants.{WrongJournal, ManyUnits, NoRoom}
use Rattle.group.proofs.Lists.{when_elim}
use Rattle.message.specs.Order.{Ordered}
use Rattle.big_endian.specs.Laws.{Bytes}
use Rattle.big_endian.specs.Number.{bytes_of}
use Rattle.big_endian.proofs.Number.{bytes_of-length}
use Rattle.journal.specs.Limits.{block_size, records_at, records_end, number_size}
use Rattle.journal.specs.Block.{record_of, compact_records, compact_of, block_right, messages_of, tail_with, tail_of}
use Rattle.journal.specs.Read.{Reads, fresh_tail, found_from}
use Rattle.journal.specs.Laws.{Allowed, NumberedIn, last_number, Whole}
use Rattle.journal.specs.declared.Form.TheVariants.{Compact}
use Rattle.journal.specs.declared.Tail.{Tail}
use Rattle.journal.proofs.Records.{may, record_length}
use Rattle.journal.proofs.Blocks.{compact_length, compact_back}
use Rattle.journal.proofs.Whole.{whole_cons, whole_to}
use Rattle.journal.proofs.Rising.{rising_from, rising_parts, found_rising}
use Rattle.plan.specs.Units.{latest, plan_bytes}
use Rattle.plan.specs.Kept.{last_ones, total, packed, record_size, records_room, compact_block, blocks_of, rewritten}
use Rattle.plan.specs.Laws.{◌among◌, Short, Filled}
use Rattle.plan.specs.Calls.{Outcome, refused, recorded_in, laid_in, asked_of, plan_of, rewrite_of}
use Rattle.plan.specs.Table.{units_most}
use Rattle.std.specs.Prelude.{Ok}
use Rattle.plan.specs.Claims.{RewrittenWhole, SamePlanBytes, SamePlanAnswered, FewestInJournals, GoesOnBytes, RewriteTwiceBytes, PlanFirstNo, RewriteFirstNo}
use Rattle.plan.proofs.Keeping.{kept_elim, same_plan, goes_on, rewrite_twice}
use Rattle.plan.proofs.Packing.{packed_whole, packed_fits}
use Rattle.plan.proofs.Bytes.{fewest_records}

-- what is kept of rising messages rises
kept_rises : (before : ℕ) (ms : List Ordered) → NumberedIn Compact before ms → NumberedIn Compact before (last_ones ms)
unfolding NumberedIn last_ones
kept_rises before [] n = tt
kept_rises before (m ∷ ms) n =
    let above = n.1 in
    let rest = kept_rises m.number ms n.2 in
    let lower : NumberedIn Compact before (last_ones ms) = rising_from Compact before m.number (last_ones ms) (omega arith) rest in
    kept_elim m ms (NumberedIn Compact before) (λ s k. (n.0, n.1, rest)) (λ s k. lower) (λ s. lower)

-- rising messages may stand in records
allowed_in : (before : ℕ) (ms : List Ordered) → NumberedIn Compact before ms → (m : Ordered) → m among ms → Allowed m
unfolding NumberedIn
allowed_in before [] n m i = absurd (Memᴰ.not-nil i)
allowed_in before (x ∷ ms) n m i = go (allowed_in x.number ms n.2 m) i
  where
    go : (m among ms → Allowed m) → m among (x ∷ ms) → Allowed m
    go f (Memᴰ.head e) = rw e n.0
    go f (Memᴰ.tail i) = f i

record_fits : (m : Ordered) → Allowed m → record_size m ≤ records_room
record_fits m a = let l = record_length m in let s = (may m a.may).size in omega arith

-- the bytes of the records of a block
pub records_total : (ms : List Ordered) → length (compact_records ms) ≡ total record_size ms
unfolding compact_records total
records_total [] = refl
records_total (m ∷ ms) =
    let r = records_total ms in
    let a = length-append (bytes_of number_size m.number) (record_of m ++ compact_records ms) in
    let b = length-append (record_of m) (compact_records ms) in
    let k = bytes_of-length number_size m.number in
    omega arith

-- a compacted block before whole ones
cons_whole : (t v : Tail) (m : Ordered) (ms : List Ordered) (blocks : List (List Ordered))
    → let block = compact_of m.number (length (m ∷ ms)) (compact_records (m ∷ ms)) in
    block_right t block ≡ true → messages_of block ≡ m ∷ ms → tail_of block ≡ v → records_at + length (compact_records (m ∷ ms)) ≤ records_end
    → (u : Tail) × Whole v (blocks_of blocks) (length blocks) (flatten blocks) u
    → (u : Tail) × Whole t (blocks_of ((m ∷ ms) ∷ blocks)) (length ((m ∷ ms) ∷ blocks)) (flatten ((m ∷ ms) ∷ blocks)) u
unfolding blocks_of compact_block flatten
cons_whole t v m ms blocks right messages tail fits (u, w) =
    let block = compact_of m.number (length (m ∷ ms)) (compact_records (m ∷ ms)) in
    let long = compact_length m.number (length (m ∷ ms)) (compact_records (m ∷ ms)) fits in
    (u, rw messages at (whole_cons t u block (blocks_of blocks) (length blocks) (flatten blocks) long right (rw tail w)))

-- compacted blocks one behind the other are whole behind a tail that any number may follow
blocks_whole : (t : Tail) (blocks : List (List Ordered)) → ((block : List Ordered) → block among blocks → Filled record_size records_room block)
    → NumberedIn Compact t.last.0 (flatten blocks) → t.free ≡ true → (u : Tail) × Whole t (blocks_of blocks) (length blocks) (flatten blocks) u
unfolding blocks_of flatten found_from last_number
blocks_whole t [] filled n free = (t, record { size = refl; reads = refl })
blocks_whole t ([] ∷ blocks) filled n free = let s = (filled [] (Memᴰ.head refl)).some in absurd (omega arith)
blocks_whole t ((m ∷ ms) ∷ blocks) filled n free =
    let (here, later) = rising_parts t.last.0 (m ∷ ms) (flatten blocks) n in
    let f = (filled (m ∷ ms) (Memᴰ.head refl)).fits in
    let size = records_total (m ∷ ms) in
    let fits : records_at + length (compact_records (m ∷ ms)) ≤ records_end = omega arith in
    let (right, messages, tail) = compact_back t m ms here free fits in
    cons_whole t (tail_with Compact (last_number m.number ms)) m ms blocks right messages tail fits
    (blocks_whole (tail_with Compact (last_number m.number ms)) blocks (λ block i. filled block (Memᴰ.tail i)) later refl)

pub rewritten_whole : RewrittenWhole
rewritten_whole journal bytes =
    let ms = last_ones (recorded_in journal) in
    let n = kept_rises 0 (recorded_in journal) (found_rising journal bytes) in
    let blocks = packed record_size records_room [] ms in
    let e : flatten blocks ≡ ms = packed_whole record_size records_room ms in
    let filled = packed_fits record_size records_room ms (λ m i. record_fits m (allowed_in 0 ms n m i)) in
    let (u, w) = blocks_whole fresh_tail blocks filled (rw e n) refl in
    (u, whole_to (rewritten (recorded_in journal)) (length blocks) ms u (rw e at w))

rewritten_read : (journal : List ℕ) → Bytes journal → recorded_in (rewritten (recorded_in journal)) ≡ last_ones (recorded_in journal)
rewritten_read journal bytes = let (_, w) = rewritten_whole journal bytes in ap (λ (r : Reads). r.messages) w.reads

pub same_plan_bytes : SamePlanBytes
same_plan_bytes journal bytes =
    ap (λ (ms : List Ordered). plan_bytes (latest ms)) (rewritten_read journal bytes) ∙ ap plan_bytes (same_plan (recorded_in journal))

-- a call that lays bytes found a whole number of blocks, and laid those
asked_was : (journal bytes : List ℕ) (room size : ℕ) → (asked_of journal bytes room).answer ≡ Ok size
    → ((length journal % block_size =? 0) ≡ true) × ((asked_of journal bytes room).bytes ≡ bytes)
unfolding asked_of laid_in
asked_was journal bytes room size e =
    (when_elim (λ (o : Outcome). o.answer ≡ Ok size → ((length journal % block_size =? 0) ≡ true) × (o.bytes ≡ bytes)) (length journal % block_size =? 0)
    (λ t. when_elim (λ (o : Outcome). o.answer ≡ Ok size → ((length journal % block_size =? 0) ≡ true) × (o.bytes ≡ bytes)) (length (latest (recorded_in journal)) ≤? units_most)
    (λ u. when_elim (λ (o : Outcome). o.answer ≡ Ok size → ((length journal % block_size =? 0) ≡ true) × (o.bytes ≡ bytes)) (length bytes ≤? room)
    (λ v e. (t, refl)) (λ v e. absurd (let z : ◌≡◌ {A = ℕ} 0 1 = cc in omega arith)))
    (λ u e. absurd (let z : ◌≡◌ {A = ℕ} 0 1 = cc in omega arith)))
    (λ t e. absurd (let z : ◌≡◌ {A = ℕ} 0 1 = cc in omega arith))) e

same_answer : (journal other : List ℕ) (room : ℕ) → (length journal % block_size =? 0) ≡ (length other % block_size =? 0) → latest (recorded_in journal) ≡ latest (recorded_in other)
    → plan_of journal room ≡ plan_of other room
unfolding plan_of asked_of
same_answer journal other room s l = rw (s, l)

pub same_plan_answered : SamePlanAnswered
unfolding rewrite_of
same_plan_answered journal room size next bytes e =
    let ms = recorded_in journal in
    let (t, same) = asked_was journal (rewritten ms) room size e in
    let (_, w) = rewritten_whole journal bytes in
    ap (λ (j : List ℕ). plan_of j next) same
    ∙ same_answer (rewritten ms) journal next (eq-eqb _ _ w.size ∙ sym t) (ap latest (rewritten_read journal bytes) ∙ same_plan ms)

short_in : (journal : List ℕ) → Bytes journal → Short (recorded_in journal)
short_in journal bytes m i = (may m (allowed_in 0 (recorded_in journal) (found_rising journal bytes) m i).may).size

pub fewest_in_journals : FewestInJournals
fewest_in_journals journal other bytes bytes' e =
    rw (rewritten_read journal bytes) (fewest_records (recorded_in journal) (recorded_in other) (short_in journal bytes) (short_in other bytes') e)

pub goes_on_bytes : GoesOnBytes
goes_on_bytes journal a b more t u w v =
    ap (λ (r : Reads). plan_bytes (latest r.messages)) v.reads ∙ ap plan_bytes (goes_on (recorded_in journal) more)
    ∙ sym (ap (λ (r : Reads). plan_bytes (latest r.messages)) w.reads)

pub rewrite_twice_bytes : RewriteTwiceBytes
rewrite_twice_bytes journal bytes =
    ap rewritten (rewritten_read journal bytes) ∙ ap (λ (ms : List Ordered). blocks_of (packed record_size records_room [] ms)) (rewrite_twice (recorded_in journal))

-- three questions one after the other
judged_three : {A : Type 0} (a b c : Bool) (f : Refusal → A) (x : A) (p q r : Refusal)
    → (ask a or f p then (ask b or f q then (ask c or f r then x)))
    ≡ judged (first_no (record { yes = a; refusal = p } ∷ record { yes = b; refusal = q } ∷ record { yes = c; refusal = r } ∷ [])) f x
unfolding first_no judged when◌then◌else◌
judged_three false b c f x p q r = refl
judged_three true false c f x p q r = refl
judged_three true true false f x p q r = refl
judged_three true true true f x p q r = refl

pub plan_first_no : PlanFirstNo
unfolding plan_of asked_of laid_in
plan_first_no journal room =
    judged_three (length journal % block_size =? 0) (length (latest (recorded_in journal)) ≤? units_most) (length (plan_bytes (latest (recorded_in journal))) ≤? room) refused _ WrongJournal ManyUnits NoRoom

pub rewrite_first_no : RewriteFirstNo
unfolding rewrite_of asked_of laid_in
rewrite_first_no journal room =
    judged_three (length journal % block_size =? 0) (length (latest (recorded_in journal)) ≤? units_most) (length (rewritten (recorded_in journal)) ≤? room) refused _ WrongJournal ManyUnits NoRoom
