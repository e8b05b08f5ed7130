-- The places of the latest records, put in order, are those of the messages that are kept. Assumes nothing.
use mathlib.Core.Path.{◌≡◌, refl, sym, ap, subst, ◌∙◌}
use mathlib.Core.Logic.{◌⊎◌, inl, inr, ◌≢◌}
use mathlib.Core.Bool.{true, false}
use mathlib.Core.List.Memᴰ
use mathlib.Core.List.{List, [], ◌∷◌, map}
use Prim.Native.Nat.{ℕ, zero, suc, ◌+◌, ◌-◌, ◌≤◌, ◌<◌}
use native.Mathlib.Omega.{arith}
use borrow.Author.Tests.{eq-eqb, ne_eqb, eqb-true}
use lib.ListN.{length}
use Rattle.std.specs.Prelude.{Result, Ok, Option, Some, None}
use Rattle.group.specs.declared.Refusal.{Refusal}
use Rattle.group.specs.Choice.{when◌then◌else◌, ◌and◌, ◌=?◌}
use Rattle.group.proofs.Choice.{when_true, when_false}
use Rattle.group.proofs.Lists.{eq_or, when_elim}
use Rattle.message.specs.Order.{Ordered}
use Rattle.journal.specs.Limits.{records_end, record_head}
use Rattle.journal.specs.Laws.{StandsIn}
use Rattle.journal.specs.Walk.{entered_in, cursor_of, walk_of, given_by, spot_at, message_on}
use Rattle.journal.specs.declared.Cursor.{Cursor}
use Rattle.journal.specs.declared.Spot.{Spot}
use Rattle.journal.proofs.Given.{gives_all, gives_forward}
use Rattle.journal.proofs.Again.{gives_again}
use Rattle.plan.specs.Units.{sets, unit_of, latest}
use Rattle.plan.specs.Kept.{not_in, last_ones}
use Rattle.plan.specs.Laws.{◌among◌, Rises}
use Rattle.plan.specs.Table.{units_most, starts_of, spotted, rows_in, Gathered}
use Rattle.plan.specs.Calls.{recorded_in, laid_in, rewrite_of, Lays, FoundIn}
use Rattle.plan.specs.Pack.{Apart, sorted, Spotted, AllSpotted, messages_at, blocks_for}
use Rattle.plan.specs.declared.Row.{Row}
use Rattle.plan.proofs.Placing.{bool_or, one_by}
use Rattle.plan.proofs.Keeping.{in_first, in_other, in_not, keep_last, kept_elim}
use Rattle.plan.proofs.Counting.{still_rises}
use Rattle.plan.proofs.Rows.{units_rise, row_of, highest_wins, every_unit}
use Rattle.plan.proofs.Gathering.{given_next, given_end}
use Rattle.plan.proofs.Planning.{found_within, asked_laid, starts_are}
use Rattle.plan.proofs.Sorting.{same, sorted_is}

abbrev number : Ordered → ℕ
number m = m.number

-- whether some message sets a unit
in_there : (u : ℕ) (ms : List Ordered) (y : Ordered) → y among ms → sets y ≡ true → unit_of y ≡ u → not_in u ms ≡ false
in_there u [] y i s e = absurd (Memᴰ.not-nil i)
in_there u (m ∷ ms) y i s e = go (in_there u ms y) i
  where
    go : (y among ms → sets y ≡ true → unit_of y ≡ u → not_in u ms ≡ false) → y among (m ∷ ms) → not_in u (m ∷ ms) ≡ false
    go f (Memᴰ.head q) = in_first m ms u (ap sets (sym q) ∙ s) (ap unit_of (sym q) ∙ e)
    go f (Memᴰ.tail i) =
        bool_or (sets m)
        (λ t. eq_or (unit_of m) u (λ v. in_first m ms u t v) (λ v. in_other m ms u v ∙ f i s e))
        (λ t. in_not m ms u t ∙ f i s e)

in_some : (u : ℕ) (ms : List Ordered) → not_in u ms ≡ false → (y : Ordered) × (y among ms) × (sets y ≡ true) × (unit_of y ≡ u)
unfolding not_in
in_some u [] h = let z : true ≡ false = h in absurd (let y : ◌≡◌ {A = ℕ} 0 1 = cc in omega arith)
in_some u (m ∷ ms) h =
    bool_or (sets m)
    (λ t. eq_or (unit_of m) u (λ v. (m, Memᴰ.head refl, t, v)) (λ v. later (in_some u ms (sym (in_other m ms u v) ∙ h))))
    (λ t. later (in_some u ms (sym (in_not m ms u t) ∙ h)))
  where
    later : (y : Ordered) × (y among ms) × (sets y ≡ true) × (unit_of y ≡ u) → (y : Ordered) × (y among (m ∷ ms)) × (sets y ≡ true) × (unit_of y ≡ u)
    later (y, i, s, e) = (y, Memᴰ.tail i, s, e)

-- the row of a message's unit is the message's own exactly if no later one sets that unit
module _ (all : List Ordered) (rises : Rises number all) (m : Ordered) (rest : List Ordered) (one : m among all) (setting : sets m ≡ true)
    (inside : (y : Ordered) → y among rest → y among all) (above : (y : Ordered) → y among rest → m.number < y.number)
    (before : (y : Ordered) → y among all → (y among rest) ⊎ (y.number ≤ m.number)) where
  row_last : (row : Ordered) → row among latest all → unit_of row ≡ unit_of m → (row.number =? m.number) ≡ not_in (unit_of m) rest
  row_last row i e =
      let w = highest_wins all rises row i in
      bool_or (not_in (unit_of m) rest)
      (λ n. none n w.setting (w.highest m one setting (sym e)) (before row w.one) ∙ sym n)
      (λ n.
      let (y, j, s, u) = in_some (unit_of m) rest n in
      let a = above y j in
      let b = w.highest y (inside y j) s (u ∙ sym e) in
      ne_eqb row.number m.number (λ q. omega arith) ∙ sym n)
    where
      none : not_in (unit_of m) rest ≡ true → sets row ≡ true → m.number ≤ row.number → (row among rest) ⊎ (row.number ≤ m.number) → (row.number =? m.number) ≡ true
      none n s a (inl j) = let f = in_there (unit_of m) rest row j s e in absurd (let z : ◌≡◌ {A = ℕ} 0 1 = cc in omega arith)
      none n s a (inr b) = eq-eqb row.number m.number (omega arith)

-- what is kept from any message on are the rows among them
module _ (all : List Ordered) (rises : Rises number all) where
  abbrev Behind : List Ordered → Type 0
  Behind ms = (y : Ordered) → y among all → (y among ms) ⊎ ((x : Ordered) → x among ms → y.number < x.number)

  -- the facts of the messages behind the first
  module _ (m : Ordered) (rest : List Ordered) (above : (y : Ordered) → y among rest → m.number < y.number) where
    behind_rest : Behind (m ∷ rest) → Behind rest
    behind_rest b y i = go (b y i)
      where
        go : (y among (m ∷ rest)) ⊎ ((x : Ordered) → x among (m ∷ rest) → y.number < x.number) → (y among rest) ⊎ ((x : Ordered) → x among rest → y.number < x.number)
        go (inl (Memᴰ.head q)) = inr (λ x i. let h = above x i in let z = ap number q in omega arith)
        go (inl (Memᴰ.tail i)) = inl i
        go (inr f) = inr (λ x i. f x (Memᴰ.tail i))

    before_first : Behind (m ∷ rest) → (y : Ordered) → y among all → (y among rest) ⊎ (y.number ≤ m.number)
    before_first b y i = go (b y i)
      where
        go : (y among (m ∷ rest)) ⊎ ((x : Ordered) → x among (m ∷ rest) → y.number < x.number) → (y among rest) ⊎ (y.number ≤ m.number)
        go (inl (Memᴰ.head q)) = inr (let z = ap number q in omega arith)
        go (inl (Memᴰ.tail i)) = inl i
        go (inr f) = inr (let z = f m (Memᴰ.head refl) in omega arith)

  kept_row : (ms : List Ordered) → ((y : Ordered) → y among ms → y among all) → Rises number ms → Behind ms → (y : Ordered) → y among last_ones ms → y among latest all
  unfolding last_ones Rises
  kept_row [] inside r b y i = absurd (Memᴰ.not-nil i)
  kept_row (m ∷ ms) inside r b y i =
      let later = kept_row ms (λ z k. inside z (Memᴰ.tail k)) r.1 (behind_rest m ms r.0 b) y in
      (kept_elim m ms (λ l. y among l → y among latest all) (λ s n. first s n later) (λ s n. later) (λ s. later)) i
    where
      first : sets m ≡ true → not_in (unit_of m) ms ≡ true → (y among last_ones ms → y among latest all) → y among (m ∷ last_ones ms) → y among latest all
      first s n f (Memᴰ.head q) =
          let one = inside m (Memᴰ.head refl) in
          let (row, i, e) = every_unit all m one s in
          let t = row_last all rises m ms one s (λ z k. inside z (Memᴰ.tail k)) r.0 (before_first m ms r.0 b) row i e in
          let k = eqb-true row.number m.number (t ∙ n) in
          let w : row ≡ m = one_by number all rises row m (row_of all row i).0 one k in
          subst (λ (z : Ordered). z among latest all) (w ∙ sym q) i
      first s n f (Memᴰ.tail i) = f i

  row_kept : (ms : List Ordered) → ((y : Ordered) → y among ms → y among all) → Rises number ms → Behind ms → (y : Ordered) → y among ms → y among latest all → y among last_ones ms
  unfolding last_ones Rises
  row_kept [] inside r b y i j = absurd (Memᴰ.not-nil i)
  row_kept (m ∷ ms) inside r b y i j =
      go (row_kept ms (λ z k. inside z (Memᴰ.tail k)) r.1 (behind_rest m ms r.0 b) y) i
    where
      go : (y among ms → y among latest all → y among last_ones ms) → y among (m ∷ ms) → y among last_ones (m ∷ ms)
      go f (Memᴰ.head q) =
          let s : sets m ≡ true = ap sets (sym q) ∙ (row_of all y j).1 in
          let one = inside m (Memᴰ.head refl) in
          let t = row_last all rises m ms one s (λ z k. inside z (Memᴰ.tail k)) r.0 (before_first m ms r.0 b) y j (ap unit_of q) in
          let n : not_in (unit_of m) ms ≡ true = sym t ∙ eq-eqb y.number m.number (ap number q) in
          subst (λ (l : List Ordered). y among l) (sym (keep_last m ms s n)) (Memᴰ.head q)
      go f (Memᴰ.tail i) =
          kept_elim m ms (λ l. y among l) (λ s n. Memᴰ.tail (f i j)) (λ s n. f i j) (λ s. f i j)

-- members by their numbers
map_among : (l : List Ordered) (m : Ordered) → m among l → m.number among map number l
map_among [] m i = absurd (Memᴰ.not-nil i)
map_among (x ∷ l) m i = go (map_among l m) i
  where
    go : (m among l → m.number among map number l) → m among (x ∷ l) → m.number among map number (x ∷ l)
    go f (Memᴰ.head q) = Memᴰ.head (ap number q)
    go f (Memᴰ.tail i) = Memᴰ.tail (f i)

among_map : (l : List Ordered) (z : ℕ) → z among map number l → (m : Ordered) × (m among l) × (z ≡ m.number)
among_map [] z i = absurd (Memᴰ.not-nil i)
among_map (x ∷ l) z i = go (among_map l z) i
  where
    go : (z among map number l → (m : Ordered) × (m among l) × (z ≡ m.number)) → z among map number (x ∷ l) → (m : Ordered) × (m among (x ∷ l)) × (z ≡ m.number)
    go f (Memᴰ.head q) = (x, Memᴰ.head refl, q)
    go f (Memᴰ.tail i) = let (m, j, e) = f i in (m, Memᴰ.tail j, e)

rises_map : (l : List Ordered) → Rises number l → Rises same (map number l)
unfolding Rises
rises_map [] r = tt
rises_map (m ∷ l) r = (λ z i. let (y, j, e) = among_map l z i in let h = r.0 y j in omega arith, rises_map l r.1)

-- rows have numbers of their own
apart_rows : (all rows : List Ordered) → Rises number all → ((y : Ordered) → y among rows → y among all) → Rises unit_of rows → Apart (map number rows)
unfolding Apart Rises
apart_rows all [] n inside r = tt
apart_rows all (m ∷ rows) n inside r = (λ z i q. clash z i q, apart_rows all rows n (λ y i. inside y (Memᴰ.tail i)) r.1)
  where
    clash : (z : ℕ) → z among map number rows → m.number ≢ z
    clash z i q =
        let (y, j, e) = among_map rows z i in
        let w : m ≡ y = one_by number all n m y (inside m (Memᴰ.head refl)) (inside y (Memᴰ.tail j)) (q ∙ e) in
        let h = r.0 y j in
        let u = ap unit_of w in
        omega arith

module _ (all : List Ordered) (rises : Rises number all) where
  latest_apart : Apart (map number (latest all))
  latest_apart = apart_rows all (latest all) rises (λ y i. (row_of all y i).0) (units_rise all)

  latest_sorted : sorted [] (map number (latest all)) ≡ map number (last_ones all)
  latest_sorted =
      sorted_is (map number (latest all)) (map number (last_ones all)) latest_apart (rises_map (last_ones all) (still_rises all rises))
      (λ z i. let (y, j, e) = among_map (latest all) z i in
      subst (λ (n : ℕ). n among map number (last_ones all)) (sym e) (map_among (last_ones all) y (row_kept all rises all (λ x k. k) rises (λ x k. inl k) y (row_of all y j).0 j)))
      (λ z i. let (y, j, e) = among_map (last_ones all) z i in
      subst (λ (n : ℕ). n among map number (latest all)) (sym e) (map_among (latest all) y (kept_row all rises all (λ x k. k) rises (λ x k. inl k) y j)))

-- records and their messages set the same units, so the same ones are kept
module _ (journal : List ℕ) where
  same_sets : (s : Spot) → sets (spotted journal s) ≡ sets (message_on journal s)
  unfolding sets
  same_sets s = refl

  same_unit : (s : Spot) → unit_of (spotted journal s) ≡ unit_of (message_on journal s)
  unfolding unit_of
  same_unit s = refl

  same_not_in : (u : ℕ) (spots : List Spot) → not_in u (map (spotted journal) spots) ≡ not_in u (map (message_on journal) spots)
  unfolding not_in
  same_not_in u [] = refl
  same_not_in u (s ∷ spots) = rw (same_sets s, same_unit s, same_not_in u spots)

  -- the records that are kept
  unfoldable last_spots : List Spot → List Spot
  last_spots [] = []
  last_spots (s ∷ rest) =
      when sets (message_on journal s) and not_in (unit_of (message_on journal s)) (map (message_on journal) rest) then s ∷ last_spots rest else last_spots rest

  last_spotted : (spots : List Spot) → map (spotted journal) (last_spots spots) ≡ last_ones (map (spotted journal) spots)
  unfolding last_spots last_ones
  last_spotted [] = refl
  last_spotted (s ∷ spots) =
      rw (same_sets s, same_unit s, same_not_in (unit_of (message_on journal s)) spots, ← last_spotted spots)
      (when_elim (λ (l : List Spot). map (spotted journal) l ≡ when sets (message_on journal s) and not_in (unit_of (message_on journal s)) (map (message_on journal) spots) then spotted journal s ∷ map (spotted journal) (last_spots spots) else map (spotted journal) (last_spots spots))
      (sets (message_on journal s) and not_in (unit_of (message_on journal s)) (map (message_on journal) spots)) (λ t. when_true _ _ _ _ t refl) (λ t. when_false _ _ _ _ t refl))

  last_messages : (spots : List Spot) → map (message_on journal) (last_spots spots) ≡ last_ones (map (message_on journal) spots)
  unfolding last_spots last_ones
  last_messages [] = refl
  last_messages (s ∷ spots) =
      rw (← last_messages spots)
      (when_elim (λ (l : List Spot). map (message_on journal) l ≡ when sets (message_on journal s) and not_in (unit_of (message_on journal s)) (map (message_on journal) spots) then message_on journal s ∷ map (message_on journal) (last_spots spots) else map (message_on journal) (last_spots spots))
      (sets (message_on journal s) and not_in (unit_of (message_on journal s)) (map (message_on journal) spots)) (λ t. when_true _ _ _ _ t refl) (λ t. when_false _ _ _ _ t refl))

  last_from_lem : (spots : List Spot) (s : Spot) → s among last_spots spots → s among spots
  unfolding last_spots
  last_from_lem [] s i = i
  last_from_lem (x ∷ spots) s i =
      (when_elim (λ (l : List Spot). s among l → s among (x ∷ spots)) (sets (message_on journal x) and not_in (unit_of (message_on journal x)) (map (message_on journal) spots))
      (λ t. here (last_from_lem spots s)) (λ t i. Memᴰ.tail (last_from_lem spots s i))) i
    where
      here : (s among last_spots spots → s among spots) → s among (x ∷ last_spots spots) → s among (x ∷ spots)
      here f (Memᴰ.head q) = Memᴰ.head q
      here f (Memᴰ.tail i) = Memᴰ.tail (f i)

  -- records that are found again by the places of their payloads
  abbrev places_of : List Spot → List ℕ
  places_of spots = map number (map (spotted journal) spots)

  again_messages : (spots : List Spot) → ((s : Spot) → s among spots → spot_at journal (s.start + record_head) ≡ s) → messages_at journal (places_of spots) ≡ map (message_on journal) spots
  again_messages [] f = refl
  again_messages (s ∷ spots) f =
      ap (λ (t : Spot). message_on journal t ∷ messages_at journal (places_of spots)) (f s (Memᴰ.head refl))
      ∙ ap (λ (l : List Ordered). message_on journal s ∷ l) (again_messages spots (λ t i. f t (Memᴰ.tail i)))

  again_spotted : (spots : List Spot) → ((s : Spot) → s among spots → Spotted journal (s.start + record_head)) → AllSpotted journal (places_of spots)
  again_spotted [] f i h = absurd (omega arith)
  again_spotted (s ∷ spots) f zero h = f s (Memᴰ.head refl)
  again_spotted (s ∷ spots) f (suc i) h = again_spotted spots (λ t k. f t (Memᴰ.tail k)) i (omega arith)

-- the payloads of the records that a cursor gives stand one behind the other
abbrev Rising-from : List ℕ → ℕ → List Spot → Type 0
Rising-from journal low spots = Rises number (map (spotted journal) spots) × ((y : Ordered) → y among map (spotted journal) spots → low ≤ y.number)

given_rises : (journal : List ℕ) (left : ℕ) (c : Cursor) → c.at ≤ records_end → Rising-from journal (c.base + c.at + record_head) (given_by left c journal)
unfolding Rises given_by
given_rises journal zero c low = (tt, λ y i. absurd (Memᴰ.not-nil i))
given_rises journal (suc left) c low = go (given_rises journal left) (walk_of c journal) refl
  where
    go : ((next : Cursor) → next.at ≤ records_end → Rising-from journal (next.base + next.at + record_head) (given_by left next journal))
        → (w : Option (Spot × Cursor)) → walk_of c journal ≡ w → Rising-from journal (c.base + c.at + record_head) (given_by (suc left) c journal)
    go later None e = subst (Rising-from journal (c.base + c.at + record_head)) (sym (given_end journal c (suc left) e)) (tt, λ y i. absurd (Memᴰ.not-nil i))
    go later (Some (s, next)) e =
        let (a, b, d) = gives_forward journal c next s low e in
        let (r, far) = later next d in
        let l : suc left - 1 ≡ left = omega arith in
        let same : given_by (suc left) c journal ≡ s ∷ given_by left next journal = given_next journal c next s (suc left) (omega arith) e ∙ ap (λ (k : ℕ). s ∷ given_by k next journal) l in
        subst (Rising-from journal (c.base + c.at + record_head)) (sym same) ((λ y i. let h = far y i in omega arith, r), λ y i. here a b far y i)
      where
        here : c.base + c.at ≤ s.start → s.start + record_head ≤ next.base + next.at
            → ((y : Ordered) → y among map (spotted journal) (given_by left next journal) → next.base + next.at + record_head ≤ y.number)
            → (y : Ordered) → y among map (spotted journal) (s ∷ given_by left next journal) → c.base + c.at + record_head ≤ y.number
        here a b far y (Memᴰ.head q) = let z = ap number q in omega arith
        here a b far y (Memᴰ.tail i) = let h = far y i in omega arith

cursor_low : (journal : List ℕ) (blocks : ℕ) → (cursor_of journal blocks).at ≤ records_end
unfolding cursor_of entered_in
cursor_low journal blocks = when_elim (λ (c : Cursor). c.at ≤ records_end) (blocks =? 0) (λ t. omega arith) (λ t. omega arith)

-- the whole journal
module _ (journal : List ℕ) (blocks messages : ℕ) (f : FoundIn journal blocks messages) (table : List Row) (u : Unit {0})
    (g : Gathered journal (rows_in journal blocks messages) (Ok u) table) (few : length table ≤ units_most) where
  abbrev spots : List Spot
  spots = given_by messages (cursor_of journal blocks) journal

  spots_rise : Rises number (map (spotted journal) spots)
  spots_rise = (given_rises journal messages (cursor_of journal blocks) (cursor_low journal blocks)).0

  again : (s : Spot) → s among last_spots journal spots
      → StandsIn journal s × (spot_at journal (s.start + record_head) ≡ s) × Spotted journal (s.start + record_head)
  again s i =
      let (stands, found, within) = gives_again journal blocks messages s (found_within journal blocks messages f) (last_from_lem journal spots s i) in
      (stands, found, record { within = within; stands = rw found stands })

  starts : starts_of table ≡ map number (latest (map (spotted journal) spots))
  starts = starts_are journal blocks messages f table u g few

  pub rewrite_apart : Apart (starts_of table)
  rewrite_apart = rw starts (latest_apart (map (spotted journal) spots) spots_rise)

  module _ (order : List Row) (e : starts_of order ≡ sorted [] (starts_of table)) where
    order_is : starts_of order ≡ places_of journal (last_spots journal spots)
    order_is =
        e ∙ ap (sorted []) starts ∙ latest_sorted (map (spotted journal) spots) spots_rise
        ∙ ap (map number) (sym (last_spotted journal spots))

    pub rewrite_spotted : AllSpotted journal (starts_of order)
    rewrite_spotted = rw order_is (again_spotted journal (last_spots journal spots) (λ s i. (again s i).2))

    order_messages : messages_at journal (starts_of order) ≡ last_ones (recorded_in journal)
    order_messages =
        let given : map (message_on journal) spots ≡ recorded_in journal = rw (f.blocks_are, f.messages_are) (gives_all journal) in
        ap (messages_at journal) order_is ∙ again_messages journal (last_spots journal spots) (λ s i. (again s i).1) ∙ last_messages journal spots ∙ ap last_ones given

    pub rewrite_laid : (room : ℕ) (r : Result ℕ Refusal) (lent after : List ℕ) → Lays (laid_in (blocks_for (messages_at journal (starts_of order))) room) r lent after
        → Lays (rewrite_of journal room) r lent after
    unfolding rewrite_of
    rewrite_laid room r lent after l = asked_laid journal blocks messages f table u g few _ room r lent after (rw order_messages at l)
