-- A change of one place keeps all sound: of the eight, a message held in it, or cleared when its number is taken; of the five, a
-- message that waits in it, or cleared when the first that waits is taken. Assumes nothing.
use mathlib.Core.Path.{◌≡◌, ap, ◌∙◌}
use mathlib.Core.Logic.{◌≢◌}
use mathlib.Core.Bool.{true}
use mathlib.Core.List.{List}
use Prim.Native.Nat.{ℕ, ◌+◌, ◌-◌, ◌≤◌, ◌<◌}
use native.Mathlib.Omega.{arith}
use lib.ListN.{length, set, length-set}
use Rattle.group.specs.Limits.{held_most, waiting_most}
use Rattle.group.proofs.Lists.{eq_or, set_each}
use Rattle.message.specs.Message.{Message, blank, empty_message, is_empty}
use Rattle.message.proofs.Kept.{empty_zero}
use Rattle.window.specs.Places.{place_of, queue_place, queued_at}
use Rattle.window.proofs.Missing.{place_one, place_near, held_each}
use Rattle.window.proofs.Soundness.{HeldSound, PlacesSound, QueuedSound, WaitingSound}

-- the empty message is not held
pub empty_none : 1 ≤ empty_message.count → ⊥
unfolding empty_message
empty_none c = omega arith

module _ (n t : ℕ) (held : List Message) (long : length held ≡ held_most) (p : PlacesSound n t held) where
  -- a message is held under number k
  pub held_places : (k : ℕ) (x : Message) → t < k → k ≤ t + held_most → 1 ≤ x.count → HeldSound n k x → PlacesSound n t (set held (place_of k) x)
  held_places k x lo hi some h =
      record {
        holds = λ j a b.
            held_each held long k x (λ (y : Message). 1 ≤ y.count → HeldSound n j y) j
            (λ e c. rw (place_one t k j lo hi a b e) h)
            (λ e. p.holds j a b);
        free = λ j a b.
            held_each held long k x (λ (y : Message). y.count ≡ 0 → is_empty y ≡ true) j
            (λ e c. absurd (omega arith))
            (λ e. p.free j a b);
      }

  -- number t + 1 is taken
  pub taken_places : PlacesSound n (t + 1) (set held (place_of (t + 1)) empty_message)
  taken_places =
      record {
        holds = λ j a b.
            held_each held long (t + 1) empty_message (λ (y : Message). 1 ≤ y.count → HeldSound n j y) j
            (λ e c. absurd (empty_none c))
            (λ e. p.holds j (omega arith) (place_near t j a b e));
        free = λ j a b.
            held_each held long (t + 1) empty_message (λ (y : Message). y.count ≡ 0 → is_empty y ≡ true) j
            (λ e c. empty_zero)
            (λ e. p.free j (omega arith) (place_near t j a b e));
      }

-- two of five neighbouring counts that have the same place are equal
pub queue_one : (f k c : ℕ) → f < k → k ≤ f + waiting_most → f < c → c ≤ f + waiting_most → queue_place c ≡ queue_place k → c ≡ k
queue_one f k c a b d e h = omega arith

module _ (queue : List Message) (long : length queue ≡ waiting_most) (k : ℕ) (x : Message) where
  pub queue_length : length (set queue (queue_place k) x) ≡ waiting_most
  queue_length = length-set queue (queue_place k) x ∙ long

  -- what holds of the message laid in place of k, and of every other, holds of count c
  pub queued_each : (P : Message → Type 0) (c : ℕ) → (queue_place c ≡ queue_place k → P x) → (queue_place c ≢ queue_place k → P (queued_at queue c))
      → P (queued_at (set queue (queue_place k) x) c)
  queued_each P c same other = set_each (λ (_ : ℕ) (y : Message). P y) queue (queue_place k) x blank (queue_place c) same other (omega arith)

module _ (number u w : ℕ) (queue : List Message) (long : length queue ≡ waiting_most) (s : WaitingSound number u w queue) where
  -- one more waits
  pub waiting_more : (x : Message) → w < waiting_most → QueuedSound number (u + 1) x → WaitingSound number (u + 1) (w + 1) (set queue (queue_place (u + 1)) x)
  waiting_more x less q =
      let enough = s.enough in
      record {
        most = omega arith;
        enough = omega arith;
        waits = λ c lo hi.
            queued_each queue long (u + 1) x (QueuedSound number c) c
            (λ e. rw (queue_one (u - w) (u + 1) c (omega arith) (omega arith) (omega arith) (omega arith) e) q)
            (λ e. s.waits c (omega arith) (eq_or c (u + 1) (λ z. absurd (e (ap queue_place z))) (λ z. omega arith)));
        idle = λ c lo hi.
            queued_each queue long (u + 1) x (λ (y : Message). is_empty y ≡ true) c
            (λ e. absurd (let z = queue_one (u - w) (u + 1) c (omega arith) (omega arith) (omega arith) (omega arith) e in omega arith))
            (λ e. s.idle c (omega arith) (omega arith));
      }

  -- the first that waits is taken
  pub waiting_less : 1 ≤ w → WaitingSound number u (w - 1) (set queue (queue_place (u - w + 1)) empty_message)
  waiting_less some =
      let enough = s.enough in
      let most = s.most in
      record {
        most = omega arith;
        enough = omega arith;
        waits = λ c lo hi.
            queued_each queue long (u - w + 1) empty_message (QueuedSound number c) c
            (λ e. absurd (let z = queue_one (u - w) (u - w + 1) c (omega arith) (omega arith) (omega arith) (omega arith) e in omega arith))
            (λ e. s.waits c (omega arith) hi);
        idle = λ c lo hi.
            queued_each queue long (u - w + 1) empty_message (λ (y : Message). is_empty y ≡ true) c
            (λ e. empty_zero)
            (λ e. s.idle c lo (eq_or c (u - w + 1 + waiting_most) (λ z. absurd (e (omega arith))) (λ z. omega arith)));
      }
