-- A terminal's list is what feeding all that it took comes to: so the same taken messages give the same list, and what holds of every
-- feed holds of a whole list of events. Assumes nothing.
use mathlib.Core.Path.{◌≡◌, refl, sym, ap, ◌∙◌}
use mathlib.Core.Bool.{true}
use mathlib.Core.List.{List, [], ◌∷◌, ◌++◌}
use Prim.Native.Nat.{ℕ, ◌+◌}
use native.Mathlib.Omega.{arith}
use Rattle.jobs.specs.Count.{waiting_in, given_in}
use Rattle.jobs.specs.Job.{waiting_state, given_state, no_jobs}
use Rattle.jobs.specs.Sound.{sound_of}
use Rattle.jobs.specs.declared.Job.{Job}
use Rattle.jobs.proofs.Counting.{feed_balances, count_none}
use Rattle.jobs.proofs.Keeping.{feed_keeps, none_sound}
use Rattle.message.specs.Order.{Ordered}
use Rattle.model.specs.Log.{gather, took_at, taken}
use Rattle.model.specs.World.{Entry, World, run, fresh}
use Rattle.model.specs.Closing.{closing}
use Rattle.model.proofs.Theorem.{demand3}
use Rattle.terminal.specs.Laws.{SameList, Balance, ListSound, ClosedAlike}
use Rattle.terminal.specs.Log.{list_from, Tally, fresh_tally, counted, tally_from}
use Rattle.terminal.specs.Take.{fed_of, fed_by}

fed_append : (jobs : List Job) (first rest : List Ordered) → fed_by jobs (first ++ rest) ≡ fed_by (fed_by jobs first) rest
unfolding fed_by
fed_append jobs [] rest = refl
fed_append jobs (m ∷ first) rest = fed_append (fed_of jobs m).jobs first rest

-- the list is a fold over what was taken
pub list_folds : (i : ℕ) (jobs : List Job) (log : List Entry) → list_from i jobs log ≡ fed_by jobs (taken i log)
unfolding list_from gather fed_by
list_folds i jobs [] = refl
list_folds i jobs (entry ∷ rest) =
    list_folds i (fed_by jobs (took_at i entry.event entry.answer)) rest
    ∙ sym (fed_append jobs (took_at i entry.event entry.answer) (taken i rest))

pub same_list : SameList
same_list i j log log' e = list_folds i no_jobs log ∙ ap (fed_by no_jobs) e ∙ sym (list_folds j no_jobs log')

-- a sound list stays sound
fed_sound : (jobs : List Job) (messages : List Ordered) → sound_of jobs ≡ true → sound_of (fed_by jobs messages) ≡ true
unfolding fed_by
fed_sound jobs [] s = s
fed_sound jobs (m ∷ rest) s = fed_sound (fed_of jobs m).jobs rest ((feed_keeps jobs (record { 0 = m.originator }) m.payload).sound s)

pub list_sound : ListSound
list_sound i log = ap sound_of (list_folds i no_jobs log) ∙ fed_sound no_jobs (taken i log) none_sound

-- what is counted on the way
tally_list : (t : Tally) (messages : List Ordered) → (tally_from t messages).jobs ≡ fed_by t.jobs messages
unfolding tally_from fed_by
tally_list t [] = refl
tally_list t (m ∷ rest) = tally_list (counted t m) rest

tally_added : (t : Tally) (messages : List Ordered) → t.added ≡ waiting_in t.jobs + given_in t.jobs + t.finished
    → (tally_from t messages).added ≡ waiting_in (tally_from t messages).jobs + given_in (tally_from t messages).jobs + (tally_from t messages).finished
unfolding tally_from
tally_added t [] e = e
tally_added t (m ∷ rest) e =
    let b = (feed_balances t.jobs (record { 0 = m.originator }) m.payload).balance in
    tally_added (counted t m) rest (omega (arith, e, b))

pub balance : Balance
balance i log =
    record {
      list = tally_list fresh_tally (taken i log) ∙ sym (list_folds i no_jobs log);
      added = tally_added fresh_tally (taken i log) (let w = count_none waiting_state (λ z. omega arith) in let g = count_none given_state (λ z. omega arith) in omega (arith, w, g));
    }

pub closed_alike : ClosedAlike
closed_alike n number resilience o events i j hi hj =
    let w : World = run (fresh n number resilience) events in
    let claim = demand3 n number resilience o events in
    same_list i j (run w (closing w)).log (run w (closing w)).log (claim.closing_gives i hi ∙ sym (claim.closing_gives j hj))
