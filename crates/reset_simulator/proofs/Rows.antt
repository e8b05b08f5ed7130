-- A head in its rows and back, and arrays that changed at one index alone. Assumes nothing.
use mathlib.Core.Path.{◌≡◌, sym, subst}
use mathlib.Core.List.{List, []}
use Prim.Native.Nat.{ℕ, ◌<◌}
use native.Mathlib.Omega.{arith}
use lib.ListN.{length, set}
use lib.Seq.{get_or-set_same, get_or-set_other}
use Rattle.group.specs.Limits.{members_most}
use Rattle.member.specs.View as member
use Rattle.recovery.specs.View.{Stored, whole, member_in, sequencer_in, kept_in, terminal_of}
use Rattle.recovery.specs.declared.Head.{Head}
use Rattle.sequencer.specs.View as sequencer
use Rattle.terminal_rows.proofs.Flags.{flag_same}
use Rattle.terminal_rows.specs.Heads.{head_in, small_of, masks_of, numbers_of}
use Rattle.terminal_rows.specs.declared.Call.{Call}
use Rattle.reset_simulator.specs.Steps.{came_of, FullRows, CallsOn, CallsRow}
use Rattle.reset_simulator.specs.Whole.{Rows, rows_of, stored_at}
use Rattle.reset_simulator.specs.declared.Called.{Called}

-- the head whose rows are those of a head is seen as that
pub head_back : (rows : Rows) (i : ℕ) (h : Head) → terminal_of (stored_at rows i (head_in (small_of h) (masks_of h) (numbers_of h))) ≡ terminal_of (stored_at rows i h)
unfolding terminal_of
head_back rows i h =
    let s = stored_at rows i h in
    λ x.
    record {
      member = member.view_of (member_in s);
      kept = kept_in h s.past s.past_originators s.past_lengths s.past_payloads s.highest;
      reset =
          record {
            replied = flag_same h.replied x;
            attempt = h.attempt;
            number = h.number;
            inviting = flag_same h.inviting x;
            invited = h.invited;
            repliers = h.repliers;
            replies = s.replies;
          };
      sequencing = flag_same h.sequencing x;
      frozen = flag_same h.frozen x;
      sequencer = sequencer.view_of (sequencer_in s);
    }

-- arrays that changed at i alone
module _ (i : ℕ) (rows : Rows) (queued held queued_originators queued_lengths held_originators held_lengths queued_payloads held_payloads past past_originators past_lengths past_payloads highest replies taken counts repeats kept marks originators lengths payloads : List ℕ) where
  abbrev pub set_at : Rows
  set_at =
      rows_of (set rows.queued i queued) (set rows.held i held) (set rows.queued_originators i queued_originators) (set rows.queued_lengths i queued_lengths) (set rows.held_originators i held_originators) (set rows.held_lengths i held_lengths) (set rows.queued_payloads i queued_payloads) (set rows.held_payloads i held_payloads) (set rows.past i past) (set rows.past_originators i past_originators) (set rows.past_lengths i past_lengths) (set rows.past_payloads i past_payloads) (set rows.highest i highest) (set rows.replies i replies) (set rows.taken i taken) (set rows.counts i counts) (set rows.repeats i repeats) (set rows.kept i kept) (set rows.marks i marks) (set rows.originators i originators) (set rows.lengths i lengths) (set rows.payloads i payloads)

  pub set_own : i < members_most → FullRows rows → (head : Head) → stored_at set_at i head ≡ whole head queued held queued_originators queued_lengths held_originators held_lengths queued_payloads held_payloads past past_originators past_lengths past_payloads highest replies taken counts repeats kept marks originators lengths payloads
  set_own l n head =
      let inside : (x : List (List ℕ)) → length x ≡ members_most → i < length x = λ x e. omega arith in
      λ x. whole head (get_or-set_same rows.queued i queued [] (inside rows.queued n.queued) x) (get_or-set_same rows.held i held [] (inside rows.held n.held) x) (get_or-set_same rows.queued_originators i queued_originators [] (inside rows.queued_originators n.queued_originators) x) (get_or-set_same rows.queued_lengths i queued_lengths [] (inside rows.queued_lengths n.queued_lengths) x) (get_or-set_same rows.held_originators i held_originators [] (inside rows.held_originators n.held_originators) x) (get_or-set_same rows.held_lengths i held_lengths [] (inside rows.held_lengths n.held_lengths) x) (get_or-set_same rows.queued_payloads i queued_payloads [] (inside rows.queued_payloads n.queued_payloads) x) (get_or-set_same rows.held_payloads i held_payloads [] (inside rows.held_payloads n.held_payloads) x) (get_or-set_same rows.past i past [] (inside rows.past n.past) x) (get_or-set_same rows.past_originators i past_originators [] (inside rows.past_originators n.past_originators) x) (get_or-set_same rows.past_lengths i past_lengths [] (inside rows.past_lengths n.past_lengths) x) (get_or-set_same rows.past_payloads i past_payloads [] (inside rows.past_payloads n.past_payloads) x) (get_or-set_same rows.highest i highest [] (inside rows.highest n.highest) x) (get_or-set_same rows.replies i replies [] (inside rows.replies n.replies) x) (get_or-set_same rows.taken i taken [] (inside rows.taken n.taken) x) (get_or-set_same rows.counts i counts [] (inside rows.counts n.counts) x) (get_or-set_same rows.repeats i repeats [] (inside rows.repeats n.repeats) x) (get_or-set_same rows.kept i kept [] (inside rows.kept n.kept) x) (get_or-set_same rows.marks i marks [] (inside rows.marks n.marks) x) (get_or-set_same rows.originators i originators [] (inside rows.originators n.originators) x) (get_or-set_same rows.lengths i lengths [] (inside rows.lengths n.lengths) x) (get_or-set_same rows.payloads i payloads [] (inside rows.payloads n.payloads) x)

  pub set_others : (j : ℕ) (head : Head) → (j ≡ i → ⊥) → stored_at set_at j head ≡ stored_at rows j head
  set_others j head n =
      λ x. whole head (get_or-set_other rows.queued i j queued [] n x) (get_or-set_other rows.held i j held [] n x) (get_or-set_other rows.queued_originators i j queued_originators [] n x) (get_or-set_other rows.queued_lengths i j queued_lengths [] n x) (get_or-set_other rows.held_originators i j held_originators [] n x) (get_or-set_other rows.held_lengths i j held_lengths [] n x) (get_or-set_other rows.queued_payloads i j queued_payloads [] n x) (get_or-set_other rows.held_payloads i j held_payloads [] n x) (get_or-set_other rows.past i j past [] n x) (get_or-set_other rows.past_originators i j past_originators [] n x) (get_or-set_other rows.past_lengths i j past_lengths [] n x) (get_or-set_other rows.past_payloads i j past_payloads [] n x) (get_or-set_other rows.highest i j highest [] n x) (get_or-set_other rows.replies i j replies [] n x) (get_or-set_other rows.taken i j taken [] n x) (get_or-set_other rows.counts i j counts [] n x) (get_or-set_other rows.repeats i j repeats [] n x) (get_or-set_other rows.kept i j kept [] n x) (get_or-set_other rows.marks i j marks [] n x) (get_or-set_other rows.originators i j originators [] n x) (get_or-set_other rows.lengths i j lengths [] n x) (get_or-set_other rows.payloads i j payloads [] n x)

  -- a call of the terminal whose arrays stand at i
  pub calls_row : (call : Call) (bytes : List ℕ) (head : Head) (r : Called) (before after : List ℕ) → i < members_most → FullRows rows
      → CallsOn (came_of call bytes (length before) (terminal_of (stored_at rows i head))) r (whole r.head queued held queued_originators queued_lengths held_originators held_lengths queued_payloads held_payloads past past_originators past_lengths past_payloads highest replies taken counts repeats kept marks originators lengths payloads) before after
      → CallsRow call i bytes head rows r set_at before after
  calls_row call bytes head r before after l n k =
      record {
        own =
            subst (λ (s : Stored). CallsOn (came_of call bytes (length before) (terminal_of (stored_at rows i head))) r s before after)
            (sym (set_own l n r.head)) k;
        others = set_others;
      }
