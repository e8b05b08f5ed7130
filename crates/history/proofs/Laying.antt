-- What is done to the places of the arrays, said of the history that they hold: a place is cleared, and a message is laid into one.
-- Assumes nothing.
use mathlib.Core.Path.{◌≡◌, refl, sym, ap, ◌∙◌}
use mathlib.Core.List.{List}
use Prim.Native.Nat.{ℕ, suc, ◌+◌, ◌-◌, ◌≤◌, ◌<◌}
use native.Mathlib.Omega.{arith}
use borrow.Author.Tests.{le-leb, lt-leb}
use lib.ListN.{length, set, replicate, length-set, length-replicate, length-append}
use Rattle.group.proofs.Choice.{when_true, when_false}
use Rattle.group.specs.Choice.{when◌then◌else◌, ◌≤?◌}
use Rattle.group.specs.Limits.{places_most, payload_most}
use Rattle.group.specs.declared.MemberNumber.{MemberNumber}
use Rattle.message.specs.Message.{Message, padded, message_of, empty_message, blank}
use Rattle.store.proofs.Places.{messages_laid, laid_length}
use Rattle.store.specs.Places.{laid_at, messages_in}
use Rattle.history.specs.Note.{cleared_of}
use Rattle.history.specs.State.{place_of, message_at}
use Rattle.history.specs.View.{Places}
use Rattle.history.proofs.View.{set_own}

module _ (kept originators lengths payloads : List ℕ) (sizes : Places kept originators lengths payloads) (at : ℕ) (inside : at < places_most) where
  -- numbers and bytes laid into a place leave the lengths
  pub laid_sizes : (count originator size : ℕ) (part : List ℕ) → length part ≡ payload_most
      → Places (set kept at count) (set originators at originator) (set lengths at size) (laid_at payloads at part)
  laid_sizes count originator size part e =
      let b = sizes.payloads_size in
      record {
        kept_size = length-set kept at count ∙ sizes.kept_size;
        originators_size = length-set originators at originator ∙ sizes.originators_size;
        lengths_size = length-set lengths at size ∙ sizes.lengths_size;
        payloads_size = laid_length payloads part at (omega arith) e ∙ b;
      }

  laid_message : (count originator size : ℕ) (part : List ℕ) → length part ≡ payload_most
      → messages_in (set kept at count) (set originators at originator) (set lengths at size) (laid_at payloads at part)
      ≡ set (messages_in kept originators lengths payloads) at (record { originator = record { 0 = originator }; count = count; length = size; payload = part })
  laid_message count originator size part e =
      let a = sizes.kept_size in
      let b = sizes.originators_size in
      let d = sizes.lengths_size in
      let f = sizes.payloads_size in
      messages_laid kept originators lengths payloads at count originator size part (omega arith) (omega arith) (omega arith) (omega arith) e

  -- a turn of the loop that clears what the floor passes
  pub clear_on : (history : List Message) (was passed : ℕ) → was ≤ passed → at ≡ place_of (passed + 1)
      → messages_in kept originators lengths payloads ≡ cleared_of history was (passed - was)
      → messages_in (set kept at 0) (set originators at 0) (set lengths at 0) (laid_at payloads at (replicate payload_most 0)) ≡ cleared_of history was (passed + 1 - was)
  unfolding cleared_of empty_message
  clear_on history was passed low p e =
      let a : passed + 1 - was ≡ suc (passed - was) = omega arith in
      let b : was + suc (passed - was) ≡ passed + 1 = omega arith in
      laid_message 0 0 0 (replicate payload_most 0) (length-replicate {A = ℕ} payload_most 0)
      ∙ ap (λ (h : List Message). set h at empty_message) e
      ∙ ap (λ (k : ℕ). set (cleared_of history was (passed - was)) k empty_message) (p ∙ ap place_of (sym b))
      ∙ ap (cleared_of history was) (sym a)

  -- a message that gets a number above top
  pub lay_new : (number top : ℕ) (sender : MemberNumber) (count : ℕ) (payload : List ℕ) → at ≡ place_of number → top < number → length payload ≤ payload_most
      → messages_in (set kept at count) (set originators at sender.0) (set lengths at (length payload)) (laid_at payloads at (padded payload))
      ≡ set (messages_in kept originators lengths payloads) (place_of number)
      (when number ≤? top then message_at (messages_in kept originators lengths payloads) number else message_of sender count payload)
  unfolding message_of
  lay_new number top sender count payload p h short =
      laid_message count sender.0 (length payload) (padded payload) (simp (length-append, length-replicate) (omega arith))
      ∙ (λ i. set (messages_in kept originators lengths payloads) (p i) (when_false (number ≤? top) (message_of sender count payload) (message_at (messages_in kept originators lengths payloads) number) (message_of sender count payload) (lt-leb number top h) refl i))

-- a number up to top has its own message
pub lay_own : (history : List Message) (number top : ℕ) (message : Message) → number ≤ top
    → history ≡ set history (place_of number) (when number ≤? top then message_at history number else message)
lay_own history number top message h =
    sym (set_own history (place_of number) blank)
    ∙ ap (set history (place_of number)) (when_true (number ≤? top) (message_at history number) (message_at history number) message (le-leb number top h) refl)
