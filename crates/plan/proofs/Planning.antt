-- The plan of the gathered rows is the plan of the journal's messages: a plan goes by payloads alone. Assumes nothing.
use mathlib.Core.Path.{◌≡◌, refl, sym, ap, ◌∙◌}
use mathlib.Core.Bool.{false}
use mathlib.Core.List.Memᴰ
use mathlib.Core.List.{List, [], ◌∷◌, ◌++◌, map, append_assoc}
use Prim.Native.Nat.{ℕ, zero, suc, ◌+◌, ◌*◌, ◌-◌, ◌/◌, ◌%◌, ◌≤◌, ◌<◌}
use native.Mathlib.Omega.{arith}
use borrow.Author.Tests.{le-leb, lt-leb, eq-eqb, eqb-true}
use lib.ListN.{length, get_or, take, drop, length-map, length-take, length-drop}
use lib.Seq.{length-take-le, get_or-take, get_or-drop, drop-drop}
use Rattle.std.specs.Prelude.{Result, Ok, Err}
use Rattle.group.specs.Choice.{◌≤?◌, ◌=?◌}
use Rattle.group.specs.Lent.{front}
use Rattle.group.specs.declared.Refusal.{Refusal}
use Rattle.group.specs.declared.Refusal.TheVariants.{WrongJournal, NoRoom}
use Rattle.group.proofs.Choice.{when_true, when_false, when_was}
use Rattle.group.proofs.Lists.{when_elim}
use Rattle.message.specs.Order.{Ordered}
use Rattle.big_endian.specs.Number.{number_at, bytes_of}
use Rattle.journal.specs.Limits.{block_size}
use Rattle.journal.specs.Block.{block_right, tail_of}
use Rattle.journal.specs.Read.{Reads, fresh_tail, found_from, found_in, counted, read_of}
use Rattle.journal.specs.Walk.{cursor_of, given_by, message_on}
use Rattle.journal.specs.declared.Found.{Found}
use Rattle.journal.specs.declared.Spot.{Spot}
use Rattle.journal.specs.declared.Tail.{Tail}
use Rattle.journal.proofs.Lists.{drop_take}
use Rattle.journal.proofs.Given.{gives_all}
use Rattle.plan.specs.Units.{sets, unit_of, description_of, placed, latest_from, latest, plan_bytes}
use Rattle.plan.specs.Laws.{◌among◌}
use Rattle.plan.specs.declared.Row.{Row}
use Rattle.plan.specs.Table.{units_most, row_for, starts_of, length_before, AllStand, row_at, plan_at, spotted, rows_in, Stood, Gathered}
use Rattle.plan.specs.Calls.{Outcome, refused, written, recorded_in, laid_in, asked_of, plan_of, Lays, FoundIn}
use Rattle.plan.specs.Wording.{wording_of}
use Rattle.plan.proofs.Placing.{bool_or, order_or, placed_below, placed_same, placed_above}
use Rattle.plan.proofs.Keeping.{latest_set, latest_not}
use Rattle.plan.proofs.Gathering.{each_at}

-- a message by its payload alone
abbrev bare : Ordered → Ordered
bare m = record { number = 0; originator = 0; count = 0; payload = m.payload }

bare_unit : (m : Ordered) → unit_of (bare m) ≡ unit_of m
unfolding unit_of
bare_unit m = refl

bare_sets : (m : Ordered) → sets (bare m) ≡ sets m
unfolding sets
bare_sets m = refl

bare_placed : (m : Ordered) (rows : List Ordered) → map bare (placed m rows) ≡ placed (bare m) (map bare rows)
unfolding placed
bare_placed m [] = refl
bare_placed m (row ∷ rest) =
    let u = bare_unit m in
    let v = bare_unit row in
    order_or (unit_of row) (unit_of m)
    (λ q. ap (map bare) (placed_below m row rest q) ∙ ap (λ (l : List Ordered). bare row ∷ l) (bare_placed m rest) ∙ sym (placed_below (bare m) (bare row) (map bare rest) (omega arith)))
    (λ q. ap (map bare) (placed_same m row rest q) ∙ sym (placed_same (bare m) (bare row) (map bare rest) (omega arith)))
    (λ q. ap (map bare) (placed_above m row rest q) ∙ sym (placed_above (bare m) (bare row) (map bare rest) (omega arith)))

bare_latest : (rows ms : List Ordered) → map bare (latest_from rows ms) ≡ latest_from (map bare rows) (map bare ms)
unfolding latest_from
bare_latest rows [] = refl
bare_latest rows (m ∷ ms) =
    bool_or (sets m)
    (λ s.
    ap (map bare) (latest_set m ms rows s) ∙ bare_latest (placed m rows) ms ∙ ap (λ (l : List Ordered). latest_from l (map bare ms)) (bare_placed m rows)
    ∙ sym (latest_set (bare m) (map bare ms) (map bare rows) (bare_sets m ∙ s)))
    (λ s. ap (map bare) (latest_not m ms rows s) ∙ bare_latest rows ms ∙ sym (latest_not (bare m) (map bare ms) (map bare rows) (bare_sets m ∙ s)))

bare_plan : (rows : List Ordered) → plan_bytes (map bare rows) ≡ plan_bytes rows
unfolding plan_bytes unit_of description_of
bare_plan [] = refl
bare_plan (m ∷ rows) = rw (bare_plan rows)

-- messages with the same payloads have the same plan, and as many rows
pub same_plan_by : (ms ns : List Ordered) → map bare ms ≡ map bare ns
    → (plan_bytes (latest ms) ≡ plan_bytes (latest ns)) × (length (latest ms) ≡ length (latest ns))
same_plan_by ms ns e =
    let rows : map bare (latest ms) ≡ map bare (latest ns) = bare_latest [] ms ∙ ap latest e ∙ sym (bare_latest [] ns) in (
      sym (bare_plan (latest ms)) ∙ ap plan_bytes rows ∙ bare_plan (latest ns),
      sym (length-map (latest ms) bare) ∙ ap length rows ∙ length-map (latest ns) bare,
    )

spotted_bare : (journal : List ℕ) (spots : List Spot) → map bare (map (spotted journal) spots) ≡ map bare (map (message_on journal) spots)
spotted_bare journal [] = refl
spotted_bare journal (s ∷ spots) = ap (λ (l : List Ordered). bare (message_on journal s) ∷ l) (spotted_bare journal spots)

pub rows_plan : (journal : List ℕ) (blocks messages : ℕ) → FoundIn journal blocks messages
    → (plan_bytes (rows_in journal blocks messages) ≡ plan_bytes (latest (recorded_in journal))) × (length (rows_in journal blocks messages) ≡ length (latest (recorded_in journal)))
rows_plan journal blocks messages f =
    let spots = given_by messages (cursor_of journal blocks) journal in
    let all : map (message_on journal) spots ≡ recorded_in journal = rw (f.blocks_are, f.messages_are) (gives_all journal) in
    same_plan_by (map (spotted journal) spots) (recorded_in journal) (spotted_bare journal spots ∙ ap (map bare) all)

-- a row that stands in the journal is laid from there
number_part : (journal : List ℕ) (start n k i : ℕ) → i + k ≤ n → number_at k (take n (drop start journal)) i ≡ number_at k journal (start + i)
unfolding number_at
number_part journal start n zero i h = refl
number_part journal start n (suc k) i h =
    let e : start + (i + k) ≡ start + i + k = omega arith in
    let b : get_or (take n (drop start journal)) (i + k) 0 ≡ get_or journal (start + (i + k)) 0 =
    get_or-take n (drop start journal) (i + k) 0 (omega arith) ∙ get_or-drop start journal (i + k) 0 in
    rw (number_part journal start n k i (omega arith), b, e)

stood_row : (journal : List ℕ) (m : Ordered) → Stood journal m
    → bytes_of 2 (unit_of m) ++ (bytes_of 2 (length (description_of m)) ++ description_of m) ≡ row_at journal m.number
unfolding row_at unit_of description_of
stood_row journal m s =
    let start = m.number in
    let n = length_before journal start in
    let long = s.stands.long in
    let ends = s.stands.ends in
    let p = s.payload_is in
    let d : drop 3 m.payload ≡ take (n - 3) (drop (start + 3) journal) =
    ap (drop 3) p ∙ drop_take 3 n (drop start journal) ∙ ap (take (n - 3)) (drop-drop 3 start journal) in
    let k = length-drop (start + 3) journal in
    let l : length (drop 3 m.payload) ≡ n - 3 = ap length d ∙ length-take-le (n - 3) (drop (start + 3) journal) (omega arith) in
    let u : number_at 2 m.payload 1 ≡ number_at 2 journal (start + 1) = ap (λ (x : List ℕ). number_at 2 x 1) p ∙ number_part journal start n 2 1 (omega arith) in
    rw (u, l, d)

stood_plan : (journal : List ℕ) (rows : List Ordered) → ((m : Ordered) → m among rows → Stood journal m)
    → plan_at journal (map (λ (m : Ordered). m.number) rows) ≡ plan_bytes rows
unfolding plan_at plan_bytes
stood_plan journal [] all = refl
stood_plan journal (m ∷ rows) all =
    ap (λ (x : List ℕ). x ++ plan_at journal (map (λ (m : Ordered). m.number) rows)) (sym (stood_row journal m (all m (Memᴰ.head refl))))
    ∙ ap (λ (x : List ℕ). (bytes_of 2 (unit_of m) ++ (bytes_of 2 (length (description_of m)) ++ description_of m)) ++ x) (stood_plan journal rows (λ y i. all y (Memᴰ.tail i)))
    ∙ append_assoc (bytes_of 2 (unit_of m)) (bytes_of 2 (length (description_of m)) ++ description_of m) (plan_bytes rows)
    ∙ ap (λ (x : List ℕ). bytes_of 2 (unit_of m) ++ x) (append_assoc (bytes_of 2 (length (description_of m))) (description_of m) (plan_bytes rows))

-- the right blocks lie within the journal
found_most : (t : Tail) (journal : List ℕ) (k : ℕ) → (found_from t journal k).blocks ≤ k
unfolding found_from
found_most t journal zero = omega arith
found_most t journal (suc k) =
    when_elim (λ (r : Reads). r.blocks ≤ suc k) (block_right t (take block_size journal))
    (λ e. let h = found_most (tail_of (take block_size journal)) (drop block_size journal) k in omega arith) (λ e. omega arith)

pub found_within : (journal : List ℕ) (blocks messages : ℕ) → FoundIn journal blocks messages → blocks * block_size ≤ length journal
unfolding found_in
found_within journal blocks messages f =
    let e = f.blocks_are in
    let h = found_most fresh_tail journal (length journal / block_size) in
    omega arith

-- the clauses of a promise
pub lays_says : {o : Outcome} {r : Result ℕ Refusal} {lent after : List ℕ} → Lays o r lent after
    → (r ≡ o.answer) × ((after ≡ front o.bytes lent) × (wording_of r ≡ wording_of o.answer))
lays_says l = (l.answers, (l.lent, ap wording_of l.answers))

-- the last question
module _ (bytes : List ℕ) (room : ℕ) where
  pub lays_short : (lent : List ℕ) → room < length bytes → Lays (laid_in bytes room) (Err NoRoom) lent lent
  unfolding laid_in
  lays_short lent h =
      let e : refused NoRoom ≡ laid_in bytes room = when_false (length bytes ≤? room) _ _ _ (lt-leb (length bytes) room h) refl in
      rw (← e) (record { answers = refl; lent = refl })

  pub lays_all : (lent after : List ℕ) (size : ℕ) → length bytes ≤ room → size ≡ length bytes → after ≡ front bytes lent → Lays (laid_in bytes room) (Ok size) lent after
  unfolding laid_in
  lays_all lent after size h n l =
      let e : written bytes ≡ laid_in bytes room = when_true (length bytes ≤? room) _ _ _ (le-leb (length bytes) room h) refl in
      rw (← e) (record { answers = ap Ok n; lent = l })

-- the rows that a table uses are not too many
pub few_used : (t : List Row) (k : ℕ) → k ≤ units_most → length (take k t) ≤ units_most
few_used t k h = let n = length-take k t in omega arith

-- where the payloads of messages' rows stand
pub starts_for : (rows : List Ordered) → starts_of (map row_for rows) ≡ map (λ (m : Ordered). m.number) rows
starts_for [] = refl
starts_for (m ∷ rows) = ap (λ (l : List ℕ). m.number ∷ l) (starts_for rows)

-- the questions before it
module _ (journal : List ℕ) (blocks messages : ℕ) (f : FoundIn journal blocks messages) (table : List Row) where
  pub asked_many : (refusal : Refusal) → Gathered journal (rows_in journal blocks messages) (Err refusal) table → (bytes : List ℕ) (room : ℕ) (lent : List ℕ)
      → Lays (asked_of journal bytes room) (Err refusal) lent lent
  unfolding asked_of
  asked_many refusal g bytes room lent =
      let (_, n) = rows_plan journal blocks messages f in
      let (q, m) = g.held in
      let e : refused refusal ≡ asked_of journal bytes room =
      when_true (length journal % block_size =? 0) _ _ _ (eq-eqb _ _ f.sized)
      (when_false (length (latest (recorded_in journal)) ≤? units_most) _ _ _ (lt-leb (length (latest (recorded_in journal))) units_most (omega arith)) (ap refused q)) in
      rw (← e) (record { answers = refl; lent = refl })

  pub plan_many : (refusal : Refusal) → Gathered journal (rows_in journal blocks messages) (Err refusal) table → (room : ℕ) (lent : List ℕ)
      → Lays (plan_of journal room) (Err refusal) lent lent
  unfolding plan_of
  plan_many refusal g room lent = asked_many refusal g _ room lent

  module _ (u : Unit {0}) (g : Gathered journal (rows_in journal blocks messages) (Ok u) table) (few : length table ≤ units_most) where
    pub asked_laid : (bytes : List ℕ) (room : ℕ) (r : Result ℕ Refusal) (lent after : List ℕ) → Lays (laid_in bytes room) r lent after → Lays (asked_of journal bytes room) r lent after
    unfolding asked_of
    asked_laid bytes room r lent after l =
        let (_, n) = rows_plan journal blocks messages f in
        let m = ap length g.held.0 ∙ length-map (rows_in journal blocks messages) row_for in
        let e : laid_in bytes room ≡ asked_of journal bytes room =
        when_true (length journal % block_size =? 0) _ _ _ (eq-eqb _ _ f.sized)
        (when_true (length (latest (recorded_in journal)) ≤? units_most) _ _ _ (le-leb (length (latest (recorded_in journal))) units_most (omega arith)) refl) in
        rw (← e) l

    pub starts_are : starts_of table ≡ map (λ (m : Ordered). m.number) (rows_in journal blocks messages)
    starts_are = ap starts_of g.held.0 ∙ starts_for (rows_in journal blocks messages)

    pub plan_stands : AllStand journal (starts_of table)
    plan_stands = rw starts_are (each_at journal (rows_in journal blocks messages) g.held.1)

    pub plan_laid : (room : ℕ) (r : Result ℕ Refusal) (lent after : List ℕ) → Lays (laid_in (plan_at journal (starts_of table)) room) r lent after → Lays (plan_of journal room) r lent after
    unfolding plan_of
    plan_laid room r lent after l =
        let (same, _) = rows_plan journal blocks messages f in
        let p : plan_at journal (starts_of table) ≡ plan_bytes (latest (recorded_in journal)) =
        ap (plan_at journal) starts_are ∙ stood_plan journal (rows_in journal blocks messages) g.held.1 ∙ same in
        asked_laid _ room r lent after (rw p at l)

-- what reading the journal says of it
pub read_found : (journal : List ℕ) (found : Found) → read_of journal ≡ Ok found → FoundIn journal found.blocks found.messages
unfolding read_of
read_found journal found e =
    let (t, same) = when_was (length journal % block_size =? 0) (Ok (counted (found_in journal))) (Err WrongJournal) (Ok found) e
    (λ z. let y : ◌≡◌ {A = ℕ} 0 1 = cc in omega arith) in
    let f : counted (found_in journal) ≡ found = cc in
    record {
      sized = eqb-true _ _ t;
      blocks_are = ap (λ (x : Found). x.blocks) (sym f);
      messages_are = ap (λ (x : Found). x.messages) (sym f);
    }

read_wrong : (journal : List ℕ) (r : Refusal) → read_of journal ≡ Err r → ((length journal % block_size =? 0) ≡ false) × (r ≡ WrongJournal)
unfolding read_of
read_wrong journal r e =
    (when_elim (λ (x : Result Found Refusal). x ≡ Err r → ((length journal % block_size =? 0) ≡ false) × (r ≡ WrongJournal)) (length journal % block_size =? 0)
    (λ t e. absurd (let y : ◌≡◌ {A = ℕ} 0 1 = cc in omega arith)) (λ t e. (t, (cc)))) e

pub asked_refused : (journal bytes : List ℕ) (r : Refusal) (room : ℕ) (lent : List ℕ) → read_of journal ≡ Err r
    → Lays (asked_of journal bytes room) (Err r) lent lent
unfolding asked_of
asked_refused journal bytes r room lent e =
    let (t, same) = read_wrong journal r e in
    let f : refused r ≡ asked_of journal bytes room = when_false (length journal % block_size =? 0) _ _ _ t (ap refused same) in
    rw (← f) (record { answers = refl; lent = refl })
