-- The fresh terminals, one after the other; and the fresh world out of them. Assumes nothing.
use Rattle.group.specs.Opening.{Opened}
use mathlib.Core.Path.{◌≡◌, refl, sym, ap, ◌∙◌}
use mathlib.Core.Bool.{Bool, true, false}
use mathlib.Core.List.{List, [], ◌∷◌}
use Prim.Native.Nat.{ℕ, zero, suc, ◌+◌, ◌*◌, ◌≤◌, ◌<◌}
use native.Mathlib.Omega.{arith}
use borrow.Author.Tests.{leb-true}
use lib.ListN.{replicate}
use Rattle.group.proofs.Choice.{both_then}
use Rattle.group.proofs.Lists.{when_elim, eq_or}
use Rattle.group.specs.Choice.{when◌then◌else◌, ◌and◌, ◌<?◌, ◌≤?◌, ◌=?◌}
use Rattle.group.specs.Limits.{members_most, places_most, payload_most}
use Rattle.group.specs.Opening.{open_of}
use Rattle.group.specs.Question.{Verdict}
use Rattle.member.specs.Calls as member
use Rattle.member.specs.View as memberView
use Rattle.member.specs.declared.Head as memberHead
use Rattle.recovery.specs.Calls.{fresh_terminal}
use Rattle.recovery.specs.State.{no_reset, no_sequencer}
use Rattle.recovery.specs.View.{whole, terminal_of}
use Rattle.reset.specs.World.{fresh_terminals, fresh}
use Rattle.sequencer.specs.Calls as sequencer
use Rattle.sequencer.specs.View as sequencerView
use Rattle.sequencer.specs.declared.Head as sequencerHead
use Rattle.simulator.specs.Whole.{list_of, packets_of}
use Rattle.store.proofs.Places.{messages_none}
use Rattle.terminal_opening.specs.Steps.{fresh_head}
use Rattle.terminal_rows.specs.Steps.{admits_of, opened_with}
use Rattle.terminal_rows.specs.declared.Call.TheVariants as call
use Rattle.reset_simulator.specs.Steps.{came_of, came_at, CallsAt, Begun}
use Rattle.reset_simulator.specs.Whole.{Terminals, terminal_at, group_of, Opens}
use Rattle.reset_simulator.specs.declared.Called.{Called}

module _ (n number resilience : ℕ) where
  pub begun_none : (t : Terminals) → Begun n number resilience t 0
  begun_none t j h = absurd (omega arith)

  -- one terminal more
  pub begun_on : (t t' : Terminals) (i : ℕ) (bytes : List ℕ) (r : Called) (before after : List ℕ) → Begun n number resilience t i
      → CallsAt (call.Open n number resilience i) i bytes t r t' before after → Begun n number resilience t' (i + 1)
  unfolding came_at came_of admits_of when◌then◌else◌
  begun_on t t' i bytes r before after b c j h =
      eq_or j i (λ e. ap (terminal_at t') e ∙ c.state ∙ ap (fresh_terminal n number resilience) (sym e)) (λ d. c.others j d ∙ b j (omega arith))

  -- an opening writes nothing
  pub begun_lent : (i : ℕ) (t t' : Terminals) (bytes : List ℕ) (r : Called) (before after : List ℕ)
      → CallsAt (call.Open n number resilience i) i bytes t r t' before after → after ≡ before
  unfolding came_at came_of admits_of when◌then◌else◌
  begun_lent i t t' bytes r before after c = c.lent

  -- all of them
  terminals_are : (t : Terminals) (i k : ℕ) → ((j : ℕ) → i ≤ j → j < i + k → terminal_at t j ≡ fresh_terminal n number resilience j)
      → list_of (terminal_at t) i k ≡ fresh_terminals n number resilience i k
  unfolding list_of fresh_terminals
  terminals_are t i zero h = refl
  terminals_are t i (suc k) h =
      let a : terminal_at t i ≡ fresh_terminal n number resilience i = h i (omega arith) (omega arith) in
      let b = terminals_are t (i + 1) k (λ j p q. h j (omega arith) (omega arith)) in λ x. a x ∷ b x

  -- where questions 18 and 24 are answered yes, there are at most 16
  few : opened_with (sequencer.fresh_of n number resilience).verdict n ≤ members_most
  unfolding opened_with sequencer.fresh_of sequencer.opened_of open_of
  few =
      when_elim (λ (o : Opened). opened_with (sequencer.opened_of o).verdict n ≤ members_most) (1 ≤? n and n ≤? members_most)
      (λ t. when_elim (λ (o : Opened). opened_with (sequencer.opened_of o).verdict n ≤ members_most) (resilience <? n)
      (λ _. leb-true n members_most (both_then (1 ≤? n) (n ≤? members_most) t))
      (λ _. omega arith))
      (λ _. omega arith)

  pub opens : (verdict : Verdict) (most : ℕ) (t : Terminals) (sizes : List ℕ) (packets : List (List ℕ)) → verdict ≡ (sequencer.fresh_of n number resilience).verdict
      → most ≡ opened_with verdict n → Begun n number resilience t members_most
      → Opens n number resilience verdict (record { n = most; count = 0 }) (record { n = most; terminals = t; packets = packets_of sizes packets 0 })
  unfolding fresh list_of opened_with
  opens verdict most t sizes packets v m b =
      let small : opened_with verdict n ≤ members_most = rw v few in
      let is : list_of (terminal_at t) 0 (opened_with verdict n) ≡ fresh_terminals n number resilience 0 (opened_with verdict n) =
      terminals_are t 0 (opened_with verdict n) (λ j _ q. b j (omega arith))
      in
      let shown : group_of (record { n = most; terminals = t; packets = packets_of sizes packets 0 }) ≡ record { terminals = fresh_terminals n number resilience 0 (opened_with verdict n); packets = [] } =
      λ x. record { terminals = (ap (list_of (terminal_at t) 0) m ∙ is) x; packets = [] }
      in
      record {
        verdict_is = v;
        n_is = m;
        count = refl;
        shown = shown;
        terminals = b;
        group = λ yes. shown ∙ ap (λ (v : Verdict). record { terminals = fresh_terminals n number resilience 0 (opened_with v n); packets = [] }) yes;
        room = record { packets = omega arith; terminals = omega arith };
      }

module _ (n number resilience i : ℕ) where
  -- a terminal without a sequencer has one that was refused
  served_is : (b : Bool) → (sequencer.fresh_of (when b then n else 0) number resilience).sequencer ≡ (when b then (sequencer.fresh_of n number resilience).sequencer else no_sequencer)
  unfolding when◌then◌else◌ sequencer.fresh_of sequencer.opened_of open_of
  served_is true = refl
  served_is false = refl

  flag_is : ((when i =? 0 then 1 else 0) =? 1) ≡ (i =? 0)
  flag_is = when_elim (λ (x : ℕ). (x =? 1) ≡ (i =? 0)) (i =? 0) (λ yes. sym yes) (λ no. sym no)

  -- a terminal whose ends were opened, with all else zero
  pub opened_on : (m : memberHead.Head) (s : sequencerHead.Head) (most sequencing : ℕ) (queued held queued_originators queued_lengths held_originators held_lengths queued_payloads held_payloads taken counts repeats kept marks originators lengths payloads : List ℕ)
      → memberView.view_of (memberView.whole m queued held queued_originators queued_lengths held_originators held_lengths queued_payloads held_payloads) ≡ (member.fresh_of n (record { 0 = i }) number resilience).member
      → most ≡ (when i =? 0 then n else 0)
      → sequencerView.view_of (sequencerView.whole s taken counts repeats kept marks originators lengths payloads) ≡ (sequencer.fresh_of most number resilience).sequencer
      → sequencing ≡ (when i =? 0 then 1 else 0)
      → terminal_of (whole (fresh_head m s sequencing) queued held queued_originators queued_lengths held_originators held_lengths queued_payloads held_payloads (replicate places_most 0) (replicate places_most 0) (replicate places_most 0) (replicate (places_most * payload_most) 0) (replicate members_most 0) (replicate members_most 0) taken counts repeats kept marks originators lengths payloads)
      ≡ fresh_terminal n number resilience i
  unfolding terminal_of
  opened_on m s most sequencing queued held queued_originators queued_lengths held_originators held_lengths queued_payloads held_payloads taken counts repeats kept marks originators lengths payloads begun e start f =
      λ x.
      record {
        member = begun x;
        kept = record { read = record { 0 = 0 }; past = messages_none places_most x; counts = replicate members_most 0 };
        reset = no_reset;
        sequencing = (ap (λ (k : ℕ). k =? 1) f ∙ flag_is) x;
        frozen = false;
        sequencer = (start ∙ ap (λ (k : ℕ). (sequencer.fresh_of k number resilience).sequencer) e ∙ served_is (i =? 0)) x;
      }
