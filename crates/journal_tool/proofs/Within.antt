-- What the plan's calls lay has room in the output: an answer of so many bytes was given behind the question about the room.
-- Assumes nothing.
use Rattle.std.proofs.Common.{◌≡◌, ℕ, ◌%◌, ◌≤◌, Bool, true, false, List, length, Ok, Err, refl, arith, leb-true}
use Rattle.group.specs.Choice.{when◌then◌else◌, ask◌or◌then◌, ◌≤?◌, ◌=?◌}
use Rattle.group.specs.declared.Refusal.{Refusal}
use Rattle.group.specs.declared.Refusal.TheVariants.{WrongJournal, ManyUnits, NoRoom}
use Rattle.journal.specs.Limits.{block_size}
use Rattle.plan.specs.Table.{units_most}
use Rattle.plan.specs.Units.{latest, plan_bytes}
use Rattle.plan.specs.Kept.{rewritten}
use Rattle.plan.specs.Calls.{Outcome, refused, written, recorded_in, laid_in, asked_of, plan_of, rewrite_of}

-- bytes were laid, so the question before was answered yes
passed : (t : Bool) (q : Refusal) (o : Outcome) (n : ℕ) → (ask t or refused q then o).answer ≡ Ok n → (t ≡ true) × (o.answer ≡ Ok n)
unfolding when◌then◌else◌
passed true q o n e = (refl, e)
passed false q o n e = absurd (let f : Err q ≡ Ok n = e in let y : ◌≡◌ {A = ℕ} 0 1 = cc in omega arith)

laid_within : (bytes : List ℕ) (room n : ℕ) → (laid_in bytes room).answer ≡ Ok n → n ≤ room
unfolding laid_in
laid_within bytes room n e =
    let (fits, same) = passed (length bytes ≤? room) NoRoom (written bytes) n e in
    let k : length bytes ≡ n = cc in
    let h = leb-true (length bytes) room fits in
    omega arith

asked_within : (journal bytes : List ℕ) (room n : ℕ) → (asked_of journal bytes room).answer ≡ Ok n → n ≤ room
unfolding asked_of
asked_within journal bytes room n e =
    let (_, sized) = passed (length journal % block_size =? 0) WrongJournal _ n e in
    let (_, few) = passed (length (latest (recorded_in journal)) ≤? units_most) ManyUnits _ n sized in
    laid_within bytes room n few

pub plan_within : (journal : List ℕ) (room n : ℕ) → (plan_of journal room).answer ≡ Ok n → n ≤ room
unfolding plan_of
plan_within journal room n e = asked_within journal (plan_bytes (latest (recorded_in journal))) room n e

pub rewrite_within : (journal : List ℕ) (room n : ℕ) → (rewrite_of journal room).answer ≡ Ok n → n ≤ room
unfolding rewrite_of
rewrite_within journal room n e = asked_within journal (rewritten (recorded_in journal)) room n e
