-- What is proved of a journal's bytes. `proofs/Rewriting.antt` has a proof of each statement.
use Rattle.std.specs.Prelude.{◌≡◌, List, [], ◌∷◌, ◌++◌, ℕ, ◌%◌, ◌≤◌, length, Ok}
use Rattle.group.specs.Choice.{◌≤?◌, ◌=?◌}
use Rattle.group.specs.Question.{Question, first_no, judged}
use Rattle.group.specs.declared.Refusal.TheVariants.{WrongJournal, ManyUnits, NoRoom}
use Rattle.message.specs.Order.{Ordered}
use Rattle.big_endian.specs.Laws.{Bytes}
use Rattle.journal.specs.Limits.{block_size}
use Rattle.journal.specs.Laws.{WholeTo}
use Rattle.journal.specs.declared.Tail.{Tail}
use Rattle.plan.specs.Units.{latest, plan_bytes}
use Rattle.plan.specs.Kept.{last_ones, rewritten}
use Rattle.plan.specs.Table.{units_most}
use Rattle.plan.specs.Calls.{refused, written, recorded_in, plan_of, rewrite_of}

-- the rewritten journal is whole, and has the latest record of each unit
abbrev pub RewrittenWhole : Type 0
RewrittenWhole = (journal : List ℕ) → Bytes journal → (t : Tail) × WholeTo (rewritten (recorded_in journal)) (last_ones (recorded_in journal)) t

-- both journals give the same plan
abbrev pub SamePlanBytes : Type 0
SamePlanBytes =
    (journal : List ℕ) → Bytes journal
    → plan_bytes (latest (recorded_in (rewritten (recorded_in journal)))) ≡ plan_bytes (latest (recorded_in journal))

-- in the calls: of what a rewriting laid the plan is answered and laid as of the journal, whatever output is lent for it
abbrev pub SamePlanAnswered : Type 0
SamePlanAnswered =
    (journal : List ℕ) (room size next : ℕ) → Bytes journal → (rewrite_of journal room).answer ≡ Ok size
    → plan_of (rewrite_of journal room).bytes next ≡ plan_of journal next

-- no other journal that gives it, of either mark, has fewer records
abbrev pub FewestInJournals : Type 0
FewestInJournals =
    (journal other : List ℕ) → Bytes journal → Bytes other → plan_bytes (latest (recorded_in journal)) ≡ plan_bytes (latest (recorded_in other))
    → length (recorded_in (rewritten (recorded_in journal))) ≤ length (recorded_in other)

-- both journals, continued by the same messages, give the same plan
abbrev pub GoesOnBytes : Type 0
GoesOnBytes =
    (journal a b : List ℕ) (more : List Ordered) (t u : Tail) → WholeTo (journal ++ a) (recorded_in journal ++ more) t
    → WholeTo (rewritten (recorded_in journal) ++ b) (last_ones (recorded_in journal) ++ more) u
    → plan_bytes (latest (recorded_in (rewritten (recorded_in journal) ++ b))) ≡ plan_bytes (latest (recorded_in (journal ++ a)))

-- rewriting what was rewritten changes no byte
abbrev pub RewriteTwiceBytes : Type 0
RewriteTwiceBytes = (journal : List ℕ) → Bytes journal → rewritten (recorded_in (rewritten (recorded_in journal))) ≡ rewritten (recorded_in journal)

-- the questions of both calls, where `bytes` are those to be laid
abbrev pub questions : List ℕ → List ℕ → ℕ → List Question
questions journal bytes room =
    record { yes = length journal % block_size =? 0; refusal = WrongJournal }
    ∷ record { yes = length (latest (recorded_in journal)) ≤? units_most; refusal = ManyUnits }
    ∷ record { yes = length bytes ≤? room; refusal = NoRoom }
    ∷ []

-- each call refuses with the first no of its questions, and lays its bytes for everything else
abbrev pub PlanFirstNo : Type 0
PlanFirstNo =
    (journal : List ℕ) (room : ℕ)
    → plan_of journal room ≡ judged (first_no (questions journal (plan_bytes (latest (recorded_in journal))) room)) refused (written (plan_bytes (latest (recorded_in journal))))

abbrev pub RewriteFirstNo : Type 0
RewriteFirstNo =
    (journal : List ℕ) (room : ℕ)
    → rewrite_of journal room ≡ judged (first_no (questions journal (rewritten (recorded_in journal)) room)) refused (written (rewritten (recorded_in journal)))
