-- A row's line from its numbers, and the rows of a group from those of the code's members: each member that is read is the
-- group's. Assumes nothing.
use mathlib.Core.Path.{◌≡◌, refl, sym, ap, ◌∙◌}
use mathlib.Core.List.{List, [], ◌∷◌, ◌++◌, map}
use mathlib.Core.Logic.{◌⊎◌, inl, inr}
use Prim.Native.Nat.{ℕ, zero, suc, ◌+◌, ◌≤◌, ◌<◌}
use native.Mathlib.Numerals.{add-one}
use native.Mathlib.Omega.{arith}
use lib.ListN.{length, get_or, drop}
use Rattle.group.specs.Lent.{front}
use Rattle.group.specs.declared.Group as group
use Rattle.history.proofs.View.{entry_in_lem}
use Rattle.history.specs.State.{Acknowledgement, no_acknowledgement}
use Rattle.history.specs.View.{table_in}
use Rattle.member.specs.State.{Member, reach_of}
use Rattle.member.specs.View as member
use Rattle.member.specs.declared.Head as memberHead
use Rattle.model.specs.World.{Group, no_member}
use Rattle.player.proofs.Telling.{phase_was, running≢, ended≢}
use Rattle.player.specs.Player.{phase_of}
use Rattle.player.specs.Steps.{Fits}
use Rattle.player.specs.declared.Phase.{Phase}
use Rattle.player.specs.declared.Phase.TheVariants.{Running, Ended}
use Rattle.sequencer.specs.View as sequencer
use Rattle.simulator.proofs.Lists.{length_list, lists_get}
use Rattle.simulator.specs.declared.Head.{Head}
use Rattle.simulator.specs.Whole.{Rows, stored_at, Terminals, terminals_of, head_in, member_at, Packets, group_of}
use Rattle.text.proofs.Pieces.{laid_then}
use Rattle.text.specs.LaidAt.{LaidAt}
use Rattle.text.specs.Text.{line_feed}
use Rattle.text.specs.Written.{decimal_of, spaced, line}
use Rattle.inspection.specs.Table.{row_of, row_in, repeats_at, row_at, row_lines, Tabled}

-- the first number, the others, and the line feed
pub laid_row : {at x y z : ℕ} {lent between behind after : List ℕ} (first : List ℕ) (rest : List (List ℕ)) → LaidAt at first lent between x
    → LaidAt x (spaced rest) between behind y → LaidAt y (line_feed ∷ []) behind after z → LaidAt at (line (first ∷ rest)) lent after z
laid_row first rest f g h = laid_then first (spaced rest ++ (line_feed ∷ [])) f (laid_then (spaced rest) (line_feed ∷ []) g h)

-- one row more
pub rows_on : (row : ℕ → List ℕ) (k : ℕ) → row_lines row (k + 1) ≡ row_lines row k ++ line (decimal_of k ∷ map decimal_of (row k))
unfolding row_lines
rows_on row k = rw (add-one k) refl

rows_same : (row other : ℕ → List ℕ) (k : ℕ) → ((i : ℕ) → i < k → row i ≡ other i) → row_lines row k ≡ row_lines other k
unfolding row_lines
rows_same row other zero e = refl
rows_same row other (suc k) e =
    ap (λ (l : List ℕ). l ++ line (decimal_of k ∷ map decimal_of (row k))) (rows_same row other k (λ i b. e i (omega arith)))
    ∙ ap (λ (l : List ℕ). row_lines other k ++ line (decimal_of k ∷ map decimal_of l)) (e k (omega arith))

-- the numbers of a row that were read
pub row_is : (g : group.Group) (numbers : List (List ℕ)) (rows : Rows) (taken repeats : List ℕ) (i : ℕ) (head : memberHead.Head) (end again : ℕ) → head ≡ head_in g i (get_or numbers i [])
    → end ≡ reach_of (member.view_of (stored_at rows i head)) → again ≡ repeats_at taken repeats i
    → (head.taken.0 ∷ end ∷ head.submitted ∷ head.waiting ∷ again ∷ []) ≡ row_at (terminals_of g numbers rows) taken repeats i
unfolding row_of member_at member.view_of
row_is g numbers rows taken repeats i head end again h e a =
    let f = e ∙ ap (λ (x : memberHead.Head). reach_of (member.view_of (stored_at rows i x))) h in
    λ t. (h t).taken.0 ∷ f t ∷ (h t).submitted ∷ (h t).waiting ∷ a t ∷ []

-- a repeat count does not depend on the counts; past the end of the table there is none
pub repeats_any : (taken counts repeats : List ℕ) (i : ℕ) → (get_or (table_in taken counts repeats) i no_acknowledgement).repeats ≡ repeats_at taken repeats i
unfolding table_in
repeats_any taken counts repeats i = any taken counts [] repeats i
  where
    any : (taken counts others repeats : List ℕ) (i : ℕ) → (get_or (table_in taken counts repeats) i no_acknowledgement).repeats ≡ (get_or (table_in taken others repeats) i no_acknowledgement).repeats
    any [] counts others repeats i = refl
    any (t ∷ taken) counts others repeats zero = refl
    any (t ∷ taken) counts others repeats (suc i) = any taken (drop 1 counts) (drop 1 others) (drop 1 repeats) i

pub repeats_there : (taken repeats : List ℕ) (i : ℕ) → i < length taken → get_or repeats i 0 ≡ repeats_at taken repeats i
repeats_there taken repeats i h = ap (λ (a : Acknowledgement). a.repeats) (sym (entry_in_lem taken [] repeats i h))

pub repeats_none : (taken repeats : List ℕ) (i : ℕ) → length taken ≤ i → 0 ≡ repeats_at taken repeats i
unfolding table_in
repeats_none [] repeats i h = refl
repeats_none (t ∷ taken) repeats zero h = absurd (omega arith)
repeats_none (t ∷ taken) repeats (suc i) h = repeats_none taken (drop 1 repeats) i (omega arith)

-- the rows of a group that has these members and repeat counts
pub rows_of_lem : (t : Terminals) (taken repeats : List ℕ) (g : Group) → Tabled t taken repeats g
    → row_lines (row_at t taken repeats) t.group.n ≡ row_lines (row_in g.members g.sequencer.acknowledgements) (length g.members)
rows_of_lem t taken repeats g s =
    let n = t.group.n in
    let e : length g.members ≡ n = ap length s.members ∙ length_list (member_at t) 0 n in
    rows_same (row_at t taken repeats) (row_in g.members g.sequencer.acknowledgements) n
    (λ i b.
    let m : member_at t i ≡ get_or g.members i no_member = sym (ap (λ (l : List Member). get_or l i no_member) s.members ∙ lists_get (member_at t) no_member n i b) in
    λ j. row_of (m j) (sym (s.repeated i) j))
    ∙ ap (row_lines (row_in g.members g.sequencer.acknowledgements)) (sym e)

-- the group that is run has its members and repeat counts
pub tabled_of : (g : group.Group) (s : sequencer.Stored) (numbers : List (List ℕ)) (rows : Rows) (p : Packets)
    → Tabled (terminals_of g numbers rows) s.taken s.repeats (group_of (record { sequencer = s; terminals = terminals_of g numbers rows; packets = p }))
unfolding sequencer.view_of
tabled_of g s numbers rows p = record { members = refl; repeated = repeats_any s.taken s.counts s.repeats }

-- what was laid from the front on
pub laid_whole : (bytes lent after : List ℕ) (size : ℕ) → LaidAt 0 bytes lent after size → (size ≡ length bytes) × (after ≡ front bytes lent)
laid_whole bytes lent after size f =
    let z : 0 + length bytes ≡ length bytes = omega arith in
    (f.ends ∙ z, f.lays ∙ rw z)

-- a group that runs, or that has ended, fits
pub fits_open : (head : Head) (phase r : Phase) → phase_of head phase ≡ r → (r ≡ Running) ⊎ (r ≡ Ended) → Fits head
fits_open head phase r e (inl i) = (phase_was head phase Running (e ∙ i) running≢).0
fits_open head phase r e (inr i) = (phase_was head phase Ended (e ∙ i) ended≢).0
