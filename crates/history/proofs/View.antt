-- The table that three arrays of numbers hold: an entry is read off them, laid into them, and all of them together say every number.
-- What asks only some numbers of a table or a history gets the same answer of any other with those numbers. Assumes nothing.
use mathlib.Core.Path.{◌≡◌, refl, sym, ap, ◌∙◌}
use mathlib.Core.Bool.{Bool}
use mathlib.Core.List.{List, [], ◌∷◌, map}
use Prim.Native.Nat.{ℕ, zero, suc, ◌+◌, ◌<◌, ◌≤◌}
use native.Mathlib.Nat.{not-suc-le-zero, le_of_suc-le-suc}
use native.Mathlib.Omega.{arith}
use lib.ListN.{length, drop, get_or, set, replicate}
use lib.Seq.{get_or-drop}
use Rattle.group.proofs.Fold.{least_of-step, least_of-end}
use Rattle.group.specs.Choice.{when◌then◌else◌, ◌<?◌, ◌≤?◌, ◌=?◌, ◌and◌}
use Rattle.group.specs.Fold.{least_of}
use Rattle.group.specs.Members.{is_in}
use Rattle.group.specs.Limits.{payload_most, largest_number}
use Rattle.group.specs.declared.Group.{Group}
use Rattle.group.specs.declared.MemberNumber.{MemberNumber}
use Rattle.message.specs.Message.{Message, blank, is_empty}
use Rattle.packet.specs.declared.Packet.{Packet}
use Rattle.packet.specs.declared.Packet.TheVariants.{Request, Broadcast, Gap, Status, Poll, Offer, Confirm, Accept, Invitation, Reply, Result}
use Rattle.store.specs.Places.{message_in, messages_in, part_of}
use Rattle.store.proofs.Places.{message_in_lem}
use Rattle.history.specs.Ask.{request_verdict, content_verdict, packet_verdict}
use Rattle.history.specs.Repeat.{is_of, find_of, repeats_sum, repeats_of}
use Rattle.history.specs.Sound.{kept_sound, place_sound, frame_sound}
use Rattle.history.specs.State.{Acknowledgement, no_acknowledgement, acknowledgement_of, place_of, message_at, floor_of}
use Rattle.history.specs.View.{entry_in, table_in, taken_only, counts_only, repeats_only, listed}

-- an entry of a list behind its first
next : (l : List ℕ) (i : ℕ) → get_or (drop 1 l) i 0 ≡ get_or l (suc i) 0
next l i = get_or-drop 1 l i 0 ∙ ap (λ (k : ℕ). get_or l k 0) (one i)
  where
    one : (k : ℕ) → 1 + k ≡ suc k
    one k = omega arith

-- as many entries as numbers taken
pub length_table : (taken counts repeats : List ℕ) → length (table_in taken counts repeats) ≡ length taken
unfolding table_in
length_table [] counts repeats = refl
length_table (t ∷ taken) counts repeats = ap suc (length_table taken (drop 1 counts) (drop 1 repeats))

-- an entry is its numbers
pub entry_in_lem : (taken counts repeats : List ℕ) (i : ℕ) → i < length taken
    → get_or (table_in taken counts repeats) i no_acknowledgement ≡ entry_in (get_or taken i 0) (get_or counts i 0) (get_or repeats i 0)
unfolding table_in
entry_in_lem [] counts repeats i h = absurd (not-suc-le-zero h)
entry_in_lem (t ∷ taken) counts repeats zero h = refl
entry_in_lem (t ∷ taken) counts repeats (suc i) h =
    entry_in_lem taken (drop 1 counts) (drop 1 repeats) i (le_of_suc-le-suc h) ∙ (λ k. entry_in (get_or taken i 0) (next counts i k) (next repeats i k))

-- numbers that are laid into an entry
pub table_laid : (taken counts repeats : List ℕ) (i t c r : ℕ) → i < length taken → i < length counts → i < length repeats
    → table_in (set taken i t) (set counts i c) (set repeats i r) ≡ set (table_in taken counts repeats) i (entry_in t c r)
unfolding table_in
table_laid [] counts repeats i t c r h k l = absurd (not-suc-le-zero h)
table_laid (x ∷ taken) [] repeats i t c r h k l = absurd (not-suc-le-zero k)
table_laid (x ∷ taken) (y ∷ counts) [] i t c r h k l = absurd (not-suc-le-zero l)
table_laid (x ∷ taken) (y ∷ counts) (z ∷ repeats) zero t c r h k l = refl
table_laid (x ∷ taken) (y ∷ counts) (z ∷ repeats) (suc i) t c r h k l =
    ap (λ (m : List Acknowledgement). entry_in x y z ∷ m) (table_laid taken counts repeats i t c r (le_of_suc-le-suc h) (le_of_suc-le-suc k) (le_of_suc-le-suc l))

-- an entry that is set to what it is
pub set_own : {A : Type 0} (l : List A) (i : ℕ) (d : A) → set l i (get_or l i d) ≡ l
set_own [] i d = refl
set_own (x ∷ l) zero d = refl
set_own (x ∷ l) (suc i) d = ap (λ r. x ∷ r) (set_own l i d)

-- a number taken that is laid into an entry
pub taken_laid : (taken counts repeats : List ℕ) (i t : ℕ)
    → table_in (set taken i t) counts repeats ≡ set (table_in taken counts repeats) i (entry_in t (get_or counts i 0) (get_or repeats i 0))
unfolding table_in
taken_laid [] counts repeats i t = refl
taken_laid (x ∷ taken) counts repeats zero t = refl
taken_laid (x ∷ taken) counts repeats (suc i) t =
    ap (λ (m : List Acknowledgement). entry_in x (get_or counts 0 0) (get_or repeats 0 0) ∷ m)
    (taken_laid taken (drop 1 counts) (drop 1 repeats) i t
    ∙ (λ j. set (table_in taken (drop 1 counts) (drop 1 repeats)) i (entry_in t (next counts i j) (next repeats i j))))

-- of no member anything is known
pub table_none : (k : ℕ) → table_in (replicate k 0) (replicate k 0) (replicate k 0) ≡ replicate k no_acknowledgement
unfolding table_in
table_none zero = refl
table_none (suc k) = ap (λ (m : List Acknowledgement). no_acknowledgement ∷ m) (table_none k)

nothing_left : (l : List ℕ) → length l ≡ 0 → [] ≡ l
nothing_left [] h = refl
nothing_left (x ∷ l) h = absurd (let z : suc (length l) ≡ 0 = h in omega arith)

-- the numbers come back from the table
taken_of : (taken counts repeats : List ℕ) → map (λ (a : Acknowledgement). a.taken.0) (table_in taken counts repeats) ≡ taken
unfolding table_in
taken_of [] counts repeats = refl
taken_of (t ∷ taken) counts repeats = ap (λ (l : List ℕ). t ∷ l) (taken_of taken (drop 1 counts) (drop 1 repeats))

counts_of : (taken counts repeats : List ℕ) → length counts ≡ length taken → map (λ (a : Acknowledgement). a.count) (table_in taken counts repeats) ≡ counts
unfolding table_in
counts_of [] counts repeats h = nothing_left counts h
counts_of (t ∷ taken) [] repeats h = absurd (let z : 0 ≡ suc (length taken) = h in omega arith)
counts_of (t ∷ taken) (c ∷ counts) repeats h =
    ap (λ (l : List ℕ). c ∷ l) (counts_of taken counts (drop 1 repeats) (let z : suc (length counts) ≡ suc (length taken) = h in omega arith))

repeats_of_lem : (taken counts repeats : List ℕ) → length repeats ≡ length taken → map (λ (a : Acknowledgement). a.repeats) (table_in taken counts repeats) ≡ repeats
unfolding table_in
repeats_of_lem [] counts repeats h = nothing_left repeats h
repeats_of_lem (t ∷ taken) counts [] h = absurd (let z : 0 ≡ suc (length taken) = h in omega arith)
repeats_of_lem (t ∷ taken) counts (r ∷ repeats) h =
    ap (λ (l : List ℕ). r ∷ l) (repeats_of_lem taken (drop 1 counts) repeats (let z : suc (length repeats) ≡ suc (length taken) = h in omega arith))

-- the table says every number of the arrays
pub table_whole : (taken counts repeats taken' counts' repeats' : List ℕ) → length counts ≡ length taken → length repeats ≡ length taken
    → length counts' ≡ length taken' → length repeats' ≡ length taken' → table_in taken counts repeats ≡ table_in taken' counts' repeats'
    → (taken ≡ taken') × (counts ≡ counts') × (repeats ≡ repeats')
table_whole taken counts repeats taken' counts' repeats' c r c' r' e = (
  sym (taken_of taken counts repeats) ∙ ap (map (λ (a : Acknowledgement). a.taken.0)) e ∙ taken_of taken' counts' repeats',
  sym (counts_of taken counts repeats c) ∙ ap (map (λ (a : Acknowledgement). a.count)) e ∙ counts_of taken' counts' repeats' c',
  sym (repeats_of_lem taken counts repeats r) ∙ ap (map (λ (a : Acknowledgement). a.repeats)) e ∙ repeats_of_lem taken' counts' repeats' r',
)

-- the smallest number that a survivor took
least_taken : (survivors i low : ℕ) (taken counts repeats counts' repeats' : List ℕ)
    → least_of (is_in survivors) (λ (a : Acknowledgement). a.taken.0) i low (table_in taken counts repeats)
    ≡ least_of (is_in survivors) (λ (a : Acknowledgement). a.taken.0) i low (table_in taken counts' repeats')
unfolding table_in least_of
least_taken survivors i low [] counts repeats counts' repeats' = refl
least_taken survivors i low (t ∷ taken) counts repeats counts' repeats' =
    least_taken survivors (i + 1) (when is_in survivors i and t <? low then t else low) taken (drop 1 counts) (drop 1 repeats) (drop 1 counts') (drop 1 repeats')

pub floor_taken : (survivors : ℕ) (taken counts repeats : List ℕ) → floor_of survivors (taken_only taken) ≡ floor_of survivors (table_in taken counts repeats)
unfolding floor_of
floor_taken survivors taken counts repeats = least_taken survivors 0 largest_number taken [] [] counts repeats

pub frame_taken : (group : Group) (taken counts repeats : List ℕ) (floor accepted top : ℕ)
    → frame_sound group (taken_only taken) floor accepted top ≡ frame_sound group (table_in taken counts repeats) floor accepted top
unfolding frame_sound
frame_taken group taken counts repeats floor accepted top = rw (floor_taken group.survivors taken counts repeats)

-- the counts
count_in_lem : (taken counts repeats : List ℕ) (i : ℕ) → length counts ≡ length taken → (get_or (table_in taken counts repeats) i no_acknowledgement).count ≡ get_or counts i 0
unfolding table_in
count_in_lem [] counts repeats i h = ap (λ (l : List ℕ). get_or l i 0) (nothing_left counts h)
count_in_lem (t ∷ taken) [] repeats i h = absurd (let z : 0 ≡ suc (length taken) = h in omega arith)
count_in_lem (t ∷ taken) (c ∷ counts) repeats zero h = refl
count_in_lem (t ∷ taken) (c ∷ counts) repeats (suc i) h = count_in_lem taken counts (drop 1 repeats) i (let z : suc (length counts) ≡ suc (length taken) = h in omega arith)

pub count_own : (counts : List ℕ) (i : ℕ) → (get_or (counts_only counts) i no_acknowledgement).count ≡ get_or counts i 0
count_own counts i = count_in_lem counts counts [] i refl

module _ (taken counts repeats : List ℕ) (sizes : length counts ≡ length taken) where
  pub count_only : (m : MemberNumber) → (acknowledgement_of (counts_only counts) m).count ≡ (acknowledgement_of (table_in taken counts repeats) m).count
  count_only m = count_own counts m.0 ∙ sym (count_in_lem taken counts repeats m.0 sizes)

  kept_only : (n : ℕ) (m : Message) → kept_sound n (counts_only counts) m ≡ kept_sound n (table_in taken counts repeats) m
  unfolding kept_sound
  kept_only n m = rw (count_only m.originator)

  pub places_only : (n : ℕ) (history : List Message) (top : ℕ) → place_sound n (counts_only counts) history top ≡ place_sound n (table_in taken counts repeats) history top
  unfolding place_sound
  places_only n history top = λ i number. when number ≤? top then kept_only n (message_at history number) i else is_empty (message_at history number)

  pub content_only : (group : Group) (accepted top : ℕ) (packet : Packet)
      → content_verdict group (counts_only counts) accepted top packet ≡ content_verdict group (table_in taken counts repeats) accepted top packet
  unfolding content_verdict request_verdict
  content_only group accepted top (Request sender taken' count) = rw (count_only sender)
  content_only group accepted top (Broadcast originator number count floor) = refl
  content_only group accepted top (Gap sender taken' first last) = refl
  content_only group accepted top (Status sender taken') = refl
  content_only group accepted top (Poll elected p floor) = refl
  content_only group accepted top (Offer originator number count floor) = refl
  content_only group accepted top (Confirm sender number) = refl
  content_only group accepted top (Accept elected number) = refl
  content_only group accepted top (Invitation sender attempt) = refl
  content_only group accepted top (Reply sender attempt number) = refl
  content_only group accepted top (Result sender attempt elected number) = refl

  pub packet_only : (group : Group) (accepted top number : ℕ) (packet : Packet)
      → packet_verdict group (counts_only counts) accepted top number packet ≡ packet_verdict group (table_in taken counts repeats) accepted top number packet
  unfolding packet_verdict
  packet_only group accepted top number packet = rw (content_only group accepted top packet)

-- the repeat counts
sum_in : (taken counts repeats : List ℕ) (taken' counts' : List ℕ) → length repeats ≡ length taken → length repeats ≡ length taken'
    → repeats_sum (table_in taken counts repeats) ≡ repeats_sum (table_in taken' counts' repeats)
unfolding table_in repeats_sum
sum_in [] counts repeats [] counts' h k = refl
sum_in [] counts repeats (t' ∷ taken') counts' h k = absurd (let z : 0 ≡ suc (length taken') = sym h ∙ k in omega arith)
sum_in (t ∷ taken) counts repeats [] counts' h k = absurd (let z : 0 ≡ suc (length taken) = sym k ∙ h in omega arith)
sum_in (t ∷ taken) counts [] (t' ∷ taken') counts' h k = absurd (let z : 0 ≡ suc (length taken) = h in omega arith)
sum_in (t ∷ taken) counts (r ∷ repeats) (t' ∷ taken') counts' h k =
    ap (λ (s : ℕ). r + s)
    (sum_in taken (drop 1 counts) repeats taken' (drop 1 counts') (let z : suc (length repeats) ≡ suc (length taken) = h in omega arith) (let z : suc (length repeats) ≡ suc (length taken') = k in omega arith))

pub repeats_only_lem : (taken counts repeats : List ℕ) → length repeats ≡ length taken → repeats_of (repeats_only repeats) ≡ repeats_of (table_in taken counts repeats)
unfolding repeats_of
repeats_only_lem taken counts repeats h = rw (sum_in repeats [] repeats taken counts refl h)

-- counts and originators of a history
named : (kept originators lengths bytes lengths' bytes' : List ℕ) (i : ℕ)
    → ((get_or (messages_in kept originators lengths bytes) i blank).originator ≡ (get_or (messages_in kept originators lengths' bytes') i blank).originator)
    × ((get_or (messages_in kept originators lengths bytes) i blank).count ≡ (get_or (messages_in kept originators lengths' bytes') i blank).count)
unfolding messages_in
named [] originators lengths bytes lengths' bytes' i = (refl, refl)
named (c ∷ kept) originators lengths bytes lengths' bytes' zero = (refl, refl)
named (c ∷ kept) originators lengths bytes lengths' bytes' (suc i) =
    named kept (drop 1 originators) (drop 1 lengths) (drop payload_most bytes) (drop 1 lengths') (drop payload_most bytes') i

module _ (kept originators lengths bytes : List ℕ) where
  of_listed : (m : MemberNumber) (count number : ℕ) → is_of m count (message_at (listed kept originators) number) ≡ is_of m count (message_at (messages_in kept originators lengths bytes) number)
  unfolding is_of
  of_listed m count number = let e = named kept originators [] [] lengths bytes (place_of number) in rw (e.0, e.1)

  pub find_listed : (m : MemberNumber) (count floor k : ℕ) → find_of (listed kept originators) m count floor k ≡ find_of (messages_in kept originators lengths bytes) m count floor k
  unfolding find_of
  find_listed m count floor zero = refl
  find_listed m count floor (suc k) =
      λ i. when of_listed m count (floor + suc k) i then floor + suc k else find_listed m count floor k i

-- What a turn of each loop over the arrays needs: an entry that was asked as its numbers, a place as its numbers and bytes.
pub entry_asked : (test : ℕ → Acknowledgement → Bool) (taken counts repeats : List ℕ) (i : ℕ) (r : Bool) → i < length taken
    → r ≡ test i (entry_in (get_or taken i 0) (get_or counts i 0) (get_or repeats i 0)) → r ≡ test i (get_or (table_in taken counts repeats) i no_acknowledgement)
entry_asked test taken counts repeats i r h e = e ∙ ap (test i) (sym (entry_in_lem taken counts repeats i h))

pub place_asked : (n : ℕ) (table : List Acknowledgement) (kept originators lengths bytes : List ℕ) (top number at : ℕ) (r : Bool) → at ≡ place_of number → at < length kept
    → r
    ≡ (when number ≤? top then kept_sound n table (message_in (get_or kept at 0) (get_or originators at 0) (get_or lengths at 0) (part_of bytes at))
    else is_empty (message_in (get_or kept at 0) (get_or originators at 0) (get_or lengths at 0) (part_of bytes at)))
    → r ≡ place_sound n table (messages_in kept originators lengths bytes) top number
unfolding place_sound
place_asked n table kept originators lengths bytes top number at r p h e =
    e
    ∙ ap (λ (m : Message). when number ≤? top then kept_sound n table m else is_empty m)
    (sym (message_in_lem kept originators lengths bytes at h) ∙ ap (λ (k : ℕ). get_or (messages_in kept originators lengths bytes) k blank) p)

pub of_asked : (kept originators : List ℕ) (m : MemberNumber) (count number at : ℕ) (r : Bool) → at ≡ place_of number → at < length kept
    → r ≡ is_of m count (message_in (get_or kept at 0) (get_or originators at 0) 0 []) → r ≡ is_of m count (message_at (listed kept originators) number)
unfolding is_of
of_asked kept originators m count number at r p h e =
    e
    ∙ ap (λ (x : Message). x.originator.0 =? m.0 and x.count =? count)
    (sym (message_in_lem kept originators [] [] at h) ∙ ap (λ (k : ℕ). get_or (listed kept originators) k blank) p)

pub smallest_on : (survivors low i r : ℕ) (taken : List ℕ) → i < length taken → r ≡ (when is_in survivors i and get_or taken i 0 <? low then get_or taken i 0 else low)
    → least_of (is_in survivors) (λ (a : Acknowledgement). a.taken.0) i low (drop i (taken_only taken))
    ≡ least_of (is_in survivors) (λ (a : Acknowledgement). a.taken.0) (i + 1) r (drop (i + 1) (taken_only taken))
smallest_on survivors low i r taken h e =
    let l = length_table taken [] [] in
    let g : (get_or (taken_only taken) i no_acknowledgement).taken.0 ≡ get_or taken i 0 = ap (λ (a : Acknowledgement). a.taken.0) (entry_in_lem taken [] [] i h) in
    least_of-step (is_in survivors) (λ (a : Acknowledgement). a.taken.0) low (taken_only taken) i no_acknowledgement (omega arith) ∙ rw (g, e)

pub smallest_end : (survivors low i : ℕ) (taken : List ℕ) → length taken ≤ i → least_of (is_in survivors) (λ (a : Acknowledgement). a.taken.0) i low (drop i (taken_only taken)) ≡ low
smallest_end survivors low i taken h =
    let l = length_table taken [] [] in
    least_of-end (is_in survivors) (λ (a : Acknowledgement). a.taken.0) low (taken_only taken) i (omega arith)

pub repeat_in : (repeats : List ℕ) (i : ℕ) → i < length repeats → (get_or (repeats_only repeats) i no_acknowledgement).repeats ≡ get_or repeats i 0
repeat_in repeats i h = ap (λ (a : Acknowledgement). a.repeats) (entry_in_lem repeats [] repeats i h)
