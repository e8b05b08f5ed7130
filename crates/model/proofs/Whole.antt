-- What every list of events leaves: taken, the row and the history above it make the order, the sum, and each terminal's own messages. Assumes nothing.
use mathlib.Core.Path.{◌≡◌, refl, sym, ap, ap₂, ◌∙◌, subst}
use mathlib.Core.Option.{some}
use mathlib.Core.List.{List, [], ◌∷◌, ◌++◌, append_assoc}
use Prim.Native.Nat.{ℕ, zero, suc, ◌+◌, ◌-◌, ◌*◌, ◌≤◌, ◌<◌}
use native.Mathlib.Nat.{le_refl, le_trans, suc-mul, zero-mul}
use native.Mathlib.Omega.{arith}
use borrow.Author.Tests.{ltb-true, ltb-false}
use lib.ListN.{length, get_or, take, drop, take-append-drop, length-append, length-drop}
use lib.Seq.{length-take-le, drop-drop, take_all, take-add, take-take}
use Rattle.group.proofs.Lists.{when_elim, none≢some, at, at_nil, at_some, at_append, at_take, drop_at_suc}
use Rattle.group.specs.Choice.{when◌then◌else◌, ◌<?◌}
use Rattle.group.specs.Limits.{waiting_most}
use Rattle.group.specs.declared.Group as description
use Rattle.member.proofs.Acknowledged.{acknowledged_least, acknowledged_near, acknowledged_holds, acknowledged_most}
use Rattle.member.proofs.Invariant.{Content, Terminal, numbered_near}
use Rattle.member.proofs.Soundness as member
use Rattle.sequencer.proofs.Soundness.{sound_of_lem}
use Rattle.member.specs.State.{Member, acknowledged_of}
use Rattle.message.proofs.Kept.{kept_payload}
use Rattle.message.proofs.Owning.{counted_length, own_most}
use Rattle.message.specs.Message.{Message, message_of, payload_of}
use Rattle.message.specs.Order.{Ordered, Submission, own_of, counted_from}
use Rattle.model.proofs.Invariant.{WorldInv, acknowledged_in}
use Rattle.model.specs.Claim.{sum, without_last}
use Rattle.model.specs.Log.{order, taken, submitted, accepted, ordered_at, messages_above, history_of, accepted_history, accepted_order, last_number, above, row_of, owed_after, owed}
use Rattle.model.specs.World.{World, no_member}
use Rattle.history.specs.State.{message_at}
use Rattle.sequencer.proofs.Ordering.{floor_below}
use Rattle.sequencer.proofs.Invariant.{SequencerInv}
use Rattle.sequencer.specs.State.{Sequencer}
use Rattle.window.specs.Places as window

-- the messages of l are numbered b + 1, b + 2, ..
abbrev Runs : ℕ → List Ordered → Type 0
Runs b l = (s : ℕ) (m : Ordered) → at l s ≡ some m → m.number ≡ b + s

runs_tail : (b : ℕ) (x : Ordered) (l : List Ordered) → Runs b (x ∷ l) → Runs (suc b) l
runs_tail b x l h zero m e = absurd (none≢some e)
runs_tail b x l h (suc s) m e = let z = h (suc (suc s)) m e in omega arith

last_from_lem : (b : ℕ) (x : Ordered) (l : List Ordered) → Runs b (x ∷ l) → last_number (x ∷ l) ≡ b + length (x ∷ l)
unfolding last_number
last_from_lem b x [] h = h 1 x refl
last_from_lem b x (y ∷ l) h = let z = last_from_lem (suc b) y l (runs_tail b x (y ∷ l) h) in omega arith

last_is : (l : List Ordered) → Runs 0 l → last_number l ≡ length l
unfolding last_number
last_is [] h = refl
last_is (x ∷ l) h = let z = last_from_lem 0 x l h in omega arith

runs_take : (b t : ℕ) (l : List Ordered) → Runs b l → Runs b (take t l)
runs_take b t l h s m e = h s m (subst (λ (r : List Ordered). at r s ≡ some m) (take-append-drop t l) (at_append (take t l) (drop t l) s e))

-- all of l is numbered above b: nothing falls out
above_all : (b c : ℕ) (l : List Ordered) → c ≤ b → Runs b l → above c l ≡ l
unfolding above
above_all b c [] hc h = refl
above_all b c (x ∷ l) hc h =
    when_elim (λ (r : List Ordered). r ≡ x ∷ l) (c <? x.number)
    (λ t. ap (λ (r : List Ordered). x ∷ r) (above_all (suc b) c l (omega arith) (runs_tail b x l h)))
    (λ t. let z = h 1 x refl in let y = ltb-false c x.number t in absurd (omega arith))

-- the first k of l fall out
above_drop : (b k : ℕ) (l : List Ordered) → Runs b l → above (b + k) l ≡ drop k l
unfolding above
above_drop b zero l h = above_all b (b + 0) l (omega arith) h
above_drop b (suc k) [] h = refl
above_drop b (suc k) (x ∷ l) h =
    let e : b + suc k ≡ suc b + k = omega arith in
    when_elim (λ (r : List Ordered). r ≡ drop k l) (b + suc k <? x.number)
    (λ t. let z = h 1 x refl in let y = ltb-true (b + suc k) x.number t in absurd (omega arith))
    (λ t. ap (λ (n : ℕ). above n l) e ∙ above_drop (suc b) k l (runs_tail b x l h))

runs_drop : (b f : ℕ) (l : List Ordered) → Runs b l → Runs (b + f) (drop f l)
runs_drop b zero l h s m e = let z = h s m e in omega arith
runs_drop b (suc f) [] h s m e = absurd (at_nil s e)
runs_drop b (suc f) (x ∷ l) h s m e = let z = runs_drop (suc b) f l (runs_tail b x l h) s m e in omega arith

-- a message that lies as the order has it
pub ordered_of : (lies : ℕ → Message) (k : ℕ) (m : Ordered) → lies k ≡ message_of (record { 0 = m.originator }) m.count m.payload → m.number ≡ k → ordered_at lies k ≡ m
unfolding message_of
ordered_of lies k m h e =
    let p : payload_of (lies k) ≡ m.payload = ap payload_of h ∙ kept_payload (record { 0 = m.originator }) m.count m.payload in
    λ i. record { number = sym e i; originator = (h i).originator.0; count = (h i).count; payload = p i }

-- k numbers above f that lie as the order has them are its next k
messages_are : (lies : ℕ → Message) (ord : List Ordered) (k f : ℕ)
    → ((s : ℕ) → f < s → s ≤ f + k → (m : Ordered) × (at ord s ≡ some m) × (ordered_at lies s ≡ m)) → messages_above lies f k ≡ take k (drop f ord)
unfolding messages_above
messages_are lies ord zero f h = refl
messages_are lies ord (suc k) f h =
    let y = h (suc f) (omega arith) (omega arith) in
    let one : f + 1 ≡ suc f = omega arith in
    let here : ordered_at lies (f + 1) ≡ y.0 = rw one y.2 in
    let rest : messages_above lies (f + 1) k ≡ take k (drop (suc f) ord) = messages_are lies ord k (f + 1) (λ s lo hi. h s (omega arith) (omega arith)) ∙ rw one in
    ap₂ (λ (m : Ordered) (l : List Ordered). m ∷ l) here rest ∙ ap (take (suc k)) (sym (drop_at_suc ord f y.1))

-- the history is the order without its first floor
pub history_is : (group : description.Group) (s : Sequencer) (ord : List Ordered) → SequencerInv group s ord → history_of s ≡ drop s.floor.0 ord
history_is group s ord v =
    let top = v.top_is in
    let f : ℕ = s.floor.0 in
    messages_are (message_at s.history) ord (s.top.0 - f) f
    (λ k lo hi. let y = at_some ord k (omega arith) (omega arith) in
    (y.0, y.1, ordered_of (message_at s.history) k y.0 (v.history_is k y.0 y.1 lo) (v.number_is k y.0 y.1)))
    ∙ take_all (s.top.0 - f) (drop f ord) (simp length-drop (omega arith))

-- the accepted messages of an order
abbrev first_of : Sequencer → List Ordered → List Ordered
first_of s ord = take s.accepted.0 ord

-- the history's accepted messages are these without the first floor
accepted_is : (group : description.Group) (s : Sequencer) (ord : List Ordered) → SequencerInv group s ord → accepted_history s ≡ drop s.floor.0 (first_of s ord)
accepted_is group s ord v =
    let top = v.top_is in
    let f : ℕ = s.floor.0 in
    let a : ℕ = s.accepted.0 in
    let sound = sound_of_lem s v.sound in
    let low = sound.floor_le in
    let high = sound.accepted_le in
    let size = length-take-le a ord (omega arith) in
    messages_are (message_at s.history) (first_of s ord) (a - f) f
    (λ k lo hi. let y = at_some ord k (omega arith) (omega arith) in
    (y.0, at_take a ord k (omega arith) y.1, ordered_of (message_at s.history) k y.0 (v.history_is k y.0 y.1 lo) (v.number_is k y.0 y.1)))
    ∙ take_all (a - f) (drop f (first_of s ord)) (simp length-drop (omega arith))

-- a terminal's row is the order's messages above what it took, up to what it acknowledges
row_is : (i : ℕ) (m : Member) (ord took : List Ordered) (sb : List (List ℕ)) → Content i m ord took sb
    → ((k : ℕ) (x : Ordered) → at ord k ≡ some x → x.number ≡ k) → row_of m ≡ take ((acknowledged_of m).0 - m.taken.0) (drop m.taken.0 ord)
row_is i m ord took sb h numbered =
    let least = acknowledged_least m (member.sound_of_lem m h.sound) in
    let near = acknowledged_near m in
    messages_are (window.message_at m.held) ord ((acknowledged_of m).0 - m.taken.0) m.taken.0
    (λ k lo hi. let x = h.held_is k lo (omega arith) (acknowledged_holds m k lo (omega arith)) in
    (x.0, x.1, ordered_of (window.message_at m.held) k x.0 x.2 (numbered k x.0 x.1)))

-- floor is at most what each terminal acknowledges
pub floor_le : (group : description.Group) (w : World) (i : ℕ) → WorldInv group w → i < group.n → w.group.sequencer.floor.0 ≤ acknowledged_in w.group.members i
floor_le group w i v b = le_trans (floor_below group _ w.group.sequencer v.sequencer i (v.everybody i b)) (v.terminal i b).seat.acknowledged_le

-- what a terminal took, and is owed by a sequencer whose floor is at most what it acknowledges
pub whole_of : (group : description.Group) (q : Sequencer) (ord : List Ordered) → SequencerInv group q ord → (i acknowledged : ℕ) (m : Member) (took : List Ordered) (sb : List (List ℕ))
    → Terminal group i acknowledged q.accepted.0 m ord took sb → q.floor.0 ≤ (acknowledged_of m).0 → took ++ owed_after took (row_of m) (accepted_history q) ≡ take q.accepted.0 ord
whole_of group q ord s i acknowledged m took sb h fle =
    let f : ℕ = q.floor.0 in
    let t : ℕ = m.taken.0 in
    let a : ℕ = (acknowledged_of m).0 in
    let first : List Ordered = first_of q ord in
    let sound = sound_of_lem q s.sound in
    let high = sound.accepted_le in
    let top = s.top_is in
    let most = acknowledged_most h in
    let size = length-take-le q.accepted.0 ord (omega arith) in
    let least = acknowledged_least m (member.sound_of_lem m h.content.sound) in
    let row : List Ordered = row_of m in
    let up : t + (a - t) ≡ a = omega arith in
    let cut : f + (a - f) ≡ a = omega arith in
    let has : took ++ row ≡ take a first =
    ap₂ (λ (x y : List Ordered). x ++ y) h.content.took_is (row_is i m ord _ _ h.content s.number_is)
    ∙ sym (take-add t (a - t) ord) ∙ ap (λ (k : ℕ). take k ord) up ∙ sym (take-take a q.accepted.0 ord most) in
    let runs-first : Runs 0 first = runs_take 0 q.accepted.0 ord runs in
    let last : last_number (took ++ row) ≡ a =
    ap last_number has ∙ last_is (take a first) (runs_take 0 a first runs-first) ∙ length-take-le a first (omega arith) in
    let rest : above (last_number (took ++ row)) (accepted_history q) ≡ drop a first =
    ap₂ above last (accepted_is group q ord s)
    ∙ ap (λ (k : ℕ). above k (drop f first)) (sym cut)
    ∙ above_drop f (a - f) (drop f first) (λ r x e. let z = runs_drop 0 f first runs-first r x e in omega arith)
    ∙ drop-drop (a - f) f first
    ∙ ap (λ (k : ℕ). drop k first) cut in
    sym (append_assoc took row _) ∙ ap₂ (λ (x y : List Ordered). x ++ y) has rest ∙ take-append-drop a first
  where
    runs : Runs 0 ord
    runs r x e = let z = s.number_is r x e in omega arith

pub whole : (group : description.Group) (w : World) (i : ℕ) → WorldInv group w → i < group.n → taken i w.log ++ owed w i ≡ accepted_order w
whole group w i v b =
    whole_of group w.group.sequencer (order w.log) v.sequencer i _ (get_or w.group.members i no_member) (taken i w.log) _ (v.terminal i b) (floor_le group w i v b)

-- the sum over all terminals
sum_is : (n x : ℕ) (f : ℕ → ℕ) → ((i : ℕ) → i < n → f i ≡ x) → sum n f ≡ n * x
unfolding sum
sum_is zero x f h = sym (zero-mul x)
sum_is (suc n) x f h =
    let z = sum_is n x f (λ i b. h i (omega arith)) in
    let y = h n (le_refl _) in
    rw (z, y) (sym (suc-mul n x))

pub total : (group : description.Group) (w : World) → WorldInv group w → sum group.n (λ i. length (taken i w.log) + length (owed w i)) ≡ group.n * w.group.sequencer.accepted.0
total group w v =
    let s = v.sequencer in
    let q : Sequencer = w.group.sequencer in
    let high = (sound_of_lem q s.sound).accepted_le in
    let top = s.top_is in
    let size = length-take-le q.accepted.0 (order w.log) (omega arith) in
    sum_is group.n q.accepted.0 _ (λ i b. sym (length-append (taken i w.log) (owed w i)) ∙ ap length (whole group w i v b) ∙ size)

-- a terminal's own messages
counted_take : (a k : ℕ) (l : List (List ℕ)) → counted_from a (take k l) ≡ take k (counted_from a l)
unfolding counted_from
counted_take a zero l = refl
counted_take a (suc k) [] = refl
counted_take a (suc k) (x ∷ l) = ap (λ (r : List Submission). record { count = a; payload = x } ∷ r) (counted_take (a + 1) k l)

pub owns_of : (i : ℕ) (m : Member) (ord took : List Ordered) (sb : List (List ℕ)) → Content i m ord took sb → (k : ℕ) × (k ≤ waiting_most) × (own_of i ord ≡ without_last k (counted_from 1 sb))
owns_of i m ord took sb h =
    let p : ℕ = length (own_of i ord) in
    let len = counted_length 1 sb in
    let this : own_of i ord ≡ take p (counted_from 1 sb) = h.own_is ∙ counted_take 1 p sb in
    let near = (numbered_near h).0 in
    let le = own_most i ord sb h.own_is in
    let size = h.submitted_is in
    let waits = (member.sound_of_lem m h.sound).waiting in
    let most = waits.most in
    let enough = waits.enough in
    let y : p ≡ length (counted_from 1 sb) - (m.submitted - p) = omega arith in
    (m.submitted - p, omega arith, this ∙ ap (λ (k : ℕ). take k (counted_from 1 sb)) y)

pub owns : (group : description.Group) (w : World) (i : ℕ) → WorldInv group w → i < group.n
    → (k : ℕ) × (k ≤ waiting_most) × (own_of i (order w.log) ≡ without_last k (accepted i w.log))
owns group w i v b = owns_of i (get_or w.group.members i no_member) (order w.log) (taken i w.log) (submitted i w.log) (v.terminal i b).content
