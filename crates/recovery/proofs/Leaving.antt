-- What is seen of the parts says every number and byte of them. Assumes nothing.
use mathlib.Core.Path.{◌≡◌, refl, sym, ap, ◌∙◌}
use mathlib.Core.Bool.{Bool, true, false, false≢true}
use Prim.Native.Nat.{ℕ, ◌≤◌}
use native.Mathlib.Omega.{arith}
use borrow.Author.Tests.{leb-true, eqb-true, eq-eqb}
use Rattle.group.specs.Choice.{when◌then◌else◌, ◌≤?◌, ◌=?◌}
use Rattle.group.specs.Limits.{held_most, waiting_most, places_most}
use Rattle.group.proofs.Choice.{both_first, both_then}
use Rattle.group.proofs.Lists.{eq_or}
use Rattle.store.proofs.Places.{messages_whole}
use Rattle.history.proofs.View.{table_whole}
use Rattle.member.specs.View as memberView
use Rattle.sequencer.specs.View as sequencerView
use Rattle.recovery.specs.State.{Terminal}
use Rattle.recovery.specs.View.{Stored, View, seen, odd, Sized, terminal_of, flags_sound, view_of, ViewWhole}
use Rattle.recovery.specs.declared.Head.{Head}

-- two flags that are set or not alike are the same number
flag_same : (a b : ℕ) → a ≤ 1 → b ≤ 1 → (a =? 1) ≡ (b =? 1) → a ≡ b
flag_same a b h k e =
    eq_or a 1
    (λ p. let q = eqb-true b 1 (sym e ∙ eq-eqb a 1 p) in p ∙ sym q)
    (λ n. eq_or b 1 (λ q. absurd (n (eqb-true a 1 (e ∙ eq-eqb b 1 q)))) (λ m. omega arith))

-- the flags of a head
pub record Flags (head : Head) : Type 0 where
  pub replied : head.replied ≤ 1
  pub inviting : head.inviting ≤ 1
  pub sequencing : head.sequencing ≤ 1
  pub frozen : head.frozen ≤ 1

pub flags_of : (head : Head) → flags_sound head ≡ true → Flags head
unfolding flags_sound
flags_of head e =
    let a = both_then (head.replied ≤? 1) _ e in
    let b = both_then (head.inviting ≤? 1) _ a in
    record {
      replied = leb-true head.replied 1 (both_first (head.replied ≤? 1) _ e);
      inviting = leb-true head.inviting 1 (both_first (head.inviting ≤? 1) _ a);
      sequencing = leb-true head.sequencing 1 (both_first (head.sequencing ≤? 1) _ b);
      frozen = leb-true head.frozen 1 (both_then (head.sequencing ≤? 1) _ b);
    }

whole_seen : (s t : Stored) → Sized s → Sized t → Flags s.head → Flags t.head → terminal_of s ≡ terminal_of t → s ≡ t
unfolding terminal_of memberView.view_of sequencerView.view_of
whole_seen s t a b f g e =
    let m = a.member in
    let n = b.member in
    let x = a.sequencer.entries in
    let y = b.sequencer.entries in
    let k = a.sequencer.places in
    let l = b.sequencer.places in
    let queue = messages_whole waiting_most s.queued s.queued_originators s.queued_lengths s.queued_payloads t.queued t.queued_originators t.queued_lengths t.queued_payloads
    (record { counts_size = m.queued_size; originators_size = m.queued_originators_size; lengths_size = m.queued_lengths_size; bytes_size = m.queued_payloads_size })
    (record { counts_size = n.queued_size; originators_size = n.queued_originators_size; lengths_size = n.queued_lengths_size; bytes_size = n.queued_payloads_size })
    (ap (λ (v : Terminal). v.member.queue) e) in
    let held = messages_whole held_most s.held s.held_originators s.held_lengths s.held_payloads t.held t.held_originators t.held_lengths t.held_payloads
    (record { counts_size = m.held_size; originators_size = m.held_originators_size; lengths_size = m.held_lengths_size; bytes_size = m.held_payloads_size })
    (record { counts_size = n.held_size; originators_size = n.held_originators_size; lengths_size = n.held_lengths_size; bytes_size = n.held_payloads_size })
    (ap (λ (v : Terminal). v.member.held) e) in
    let past = messages_whole places_most s.past s.past_originators s.past_lengths s.past_payloads t.past t.past_originators t.past_lengths t.past_payloads
    (record { counts_size = a.past.kept_size; originators_size = a.past.originators_size; lengths_size = a.past.lengths_size; bytes_size = a.past.payloads_size })
    (record { counts_size = b.past.kept_size; originators_size = b.past.originators_size; lengths_size = b.past.lengths_size; bytes_size = b.past.payloads_size })
    (ap (λ (v : Terminal). v.kept.past) e) in
    let history = messages_whole places_most s.kept s.originators s.lengths s.payloads t.kept t.originators t.lengths t.payloads
    (record { counts_size = k.kept_size; originators_size = k.originators_size; lengths_size = k.lengths_size; bytes_size = k.payloads_size })
    (record { counts_size = l.kept_size; originators_size = l.originators_size; lengths_size = l.lengths_size; bytes_size = l.payloads_size })
    (ap (λ (v : Terminal). v.sequencer.history) e) in
    let table = table_whole s.taken s.counts s.repeats t.taken t.counts t.repeats
    (x.counts_size ∙ sym x.taken_size) (x.repeats_size ∙ sym x.taken_size) (y.counts_size ∙ sym y.taken_size) (y.repeats_size ∙ sym y.taken_size)
    (ap (λ (v : Terminal). v.sequencer.acknowledgements) e) in
    let replied = flag_same s.head.replied t.head.replied f.replied g.replied (ap (λ (v : Terminal). v.reset.replied) e) in
    let inviting = flag_same s.head.inviting t.head.inviting f.inviting g.inviting (ap (λ (v : Terminal). v.reset.inviting) e) in
    let sequencing = flag_same s.head.sequencing t.head.sequencing f.sequencing g.sequencing (ap (λ (v : Terminal). v.sequencing) e) in
    let frozen = flag_same s.head.frozen t.head.frozen f.frozen g.frozen (ap (λ (v : Terminal). v.frozen) e) in
    λ i. record {
      head = record {
        member = record { group = (e i).member.group; number = (e i).member.number; taken = (e i).member.taken; accepted = (e i).member.accepted; submitted = (e i).member.submitted; waiting = (e i).member.waiting };
        sequencer = record { group = (e i).sequencer.group; top = (e i).sequencer.top; accepted = (e i).sequencer.accepted; floor = (e i).sequencer.floor };
        read = (e i).kept.read;
        attempt = (e i).reset.attempt;
        number = (e i).reset.number;
        invited = (e i).reset.invited;
        repliers = (e i).reset.repliers;
        replied = replied i;
        inviting = inviting i;
        sequencing = sequencing i;
        frozen = frozen i;
      };
      queued = queue.0 i;
      held = held.0 i;
      queued_originators = queue.1 i;
      queued_lengths = queue.2 i;
      held_originators = held.1 i;
      held_lengths = held.2 i;
      queued_payloads = queue.3 i;
      held_payloads = held.3 i;
      past = past.0 i;
      past_originators = past.1 i;
      past_lengths = past.2 i;
      past_payloads = past.3 i;
      highest = (e i).kept.counts;
      replies = (e i).reset.replies;
      taken = table.0 i;
      counts = table.1 i;
      repeats = table.2 i;
      kept = history.0 i;
      marks = (e i).sequencer.marks;
      originators = history.1 i;
      lengths = history.2 i;
      payloads = history.3 i;
    }

-- which of the two is seen, and what of it
unfoldable is_seen : View → Bool
is_seen (seen t) = true
is_seen (odd s) = false

unfoldable terminal_in : Terminal → View → Terminal
terminal_in d (seen t) = t
terminal_in d (odd s) = d

unfoldable parts_in : Stored → View → Stored
parts_in d (seen t) = d
parts_in d (odd s) = s

pub view_whole : ViewWhole
unfolding view_of when◌then◌else◌ is_seen terminal_in parts_in
view_whole s t a b e = go (flags_sound s.head) (flags_sound t.head) refl refl e
  where
    go : (x y : Bool) → flags_sound s.head ≡ x → flags_sound t.head ≡ y → (when x then seen (terminal_of s) else odd s) ≡ (when y then seen (terminal_of t) else odd t) → s ≡ t
    go true true f g h = whole_seen s t a b (flags_of s.head f) (flags_of t.head g) (ap (terminal_in (terminal_of s)) h)
    go true false f g h = absurd (false≢true (sym (ap is_seen h)))
    go false true f g h = absurd (false≢true (ap is_seen h))
    go false false f g h = ap (parts_in s) h
