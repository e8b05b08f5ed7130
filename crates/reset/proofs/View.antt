-- The group made last as each survivor is in it: with the result, as it is; without, as the result will leave it. So a result, and all else of a
-- reset but a making, changes nothing of the view. Assumes nothing.
use mathlib.Core.Path.{◌≡◌, refl, sym, ap, ◌∙◌}
use mathlib.Core.Logic.{◌≢◌}
use mathlib.Core.Bool.{Bool}
use mathlib.Core.List.{List}
use Prim.Native.Nat.{ℕ, zero, suc, ◌+◌, ◌-◌}
use borrow.Author.Tests.{eq-eqb, ne_eqb}
use lib.ListN.{set}
use Rattle.group.proofs.Choice.{when_true, when_false}
use Rattle.group.specs.Choice.{when◌then◌else◌, ◌=?◌}
use Rattle.group.specs.declared.Group.{Group}
use Rattle.group.specs.declared.MemberNumber.{MemberNumber}
use Rattle.group.specs.declared.SequenceNumber.{SequenceNumber}
use Rattle.history.specs.State as history
use Rattle.message.specs.Message.{Message}
use Rattle.member.specs.State.{Member, reach_of}
use Rattle.sequencer.specs.State.{Sequencer}
use Rattle.recovery.specs.Begin.{made_group, counts_in, history_from, begun, member_in, elected_sequencer, result_of}
use Rattle.recovery.specs.Calls as terminal
use Rattle.recovery.specs.State.{Reset, Terminal, serves, kept_floor, message_of_number, counts_of}

-- a terminal has the result of the group made last
abbrev pub has_result : Group → Terminal → Bool
has_result group t = t.member.group.number =? group.number

-- its member in that group, which began with the first `cut` of the order; and, at the elected terminal, its sequencer
unfoldable pub member_of : Group → ℕ → Terminal → Member
member_of group cut t = when has_result group t then t.member else member_in t.member group cut

unfoldable pub sequencer_of : Group → ℕ → Terminal → Sequencer
sequencer_of group cut t = when has_result group t then t.sequencer else elected_sequencer t group cut

module _ (group : Group) (cut : ℕ) (t : Terminal) where
  -- with the result, and without it
  module _ (e : t.member.group.number ≡ group.number) where
    pub member_here : member_of group cut t ≡ t.member
    unfolding member_of
    member_here = sym (when_true (has_result group t) _ _ _ (eq-eqb _ _ e) refl)

    pub sequencer_here : sequencer_of group cut t ≡ t.sequencer
    unfolding sequencer_of
    sequencer_here = sym (when_true (has_result group t) _ _ _ (eq-eqb _ _ e) refl)

  module _ (e : t.member.group.number ≢ group.number) where
    pub member_there : member_of group cut t ≡ member_in t.member group cut
    unfolding member_of
    member_there = sym (when_false (has_result group t) _ _ _ (ne_eqb _ _ e) refl)

    pub sequencer_there : sequencer_of group cut t ≡ elected_sequencer t group cut
    unfolding sequencer_of
    sequencer_there = sym (when_false (has_result group t) _ _ _ (ne_eqb _ _ e) refl)

-- inviting, replying and noting a reply: the part in a reset, and whether the sequencer is frozen
module _ (group : Group) (cut : ℕ) (t : Terminal) (reset : Reset) (frozen : Bool) where
  pub member_reset : member_of group cut (terminal.with_reset t reset frozen) ≡ member_of group cut t
  unfolding member_of
  member_reset = refl

  history_reset : (floor k : ℕ) → history_from (terminal.with_reset t reset frozen) floor k ≡ history_from t floor k
  unfolding history_from message_of_number
  history_reset floor zero = refl
  history_reset floor (suc k) = ap (λ (l : List Message). set l (history.place_of (floor + suc k)) (message_of_number t (floor + suc k))) (history_reset floor k)

  pub sequencer_reset : sequencer_of group cut (terminal.with_reset t reset frozen) ≡ sequencer_of group cut t
  unfolding sequencer_of elected_sequencer kept_floor counts_of
  sequencer_reset =
      ap (λ (l : List Message).
      when has_result group t then t.sequencer else
      (when serves t
      then begun group cut t.sequencer.floor.0 (counts_in t.sequencer.acknowledgements) t.sequencer.history
      else begun group cut (kept_floor t) (counts_of t) l))
      (history_reset (kept_floor t) (reach_of t.member - kept_floor t))

-- a result
module _ (t : Terminal) (attempt : ℕ) (elected : MemberNumber) (number : SequenceNumber) (survivors : ℕ) (old : t.member.group.number ≢ attempt) where
  abbrev made : Group
  made = made_group t.member.group attempt elected survivors

  pub member_result : member_of made number.0 (result_of t attempt elected number survivors) ≡ member_of made number.0 t
  unfolding result_of
  member_result = member_here made number.0 (result_of t attempt elected number survivors) refl ∙ sym (member_there made number.0 t old)

  -- at the elected terminal
  pub sequencer_result : elected.0 ≡ t.member.number.0 → sequencer_of made number.0 (result_of t attempt elected number survivors) ≡ sequencer_of made number.0 t
  unfolding result_of
  sequencer_result e =
      sequencer_here made number.0 (result_of t attempt elected number survivors) refl
      ∙ sym (when_true (elected.0 =? t.member.number.0) _ _ _ (eq-eqb _ _ e) refl)
      ∙ sym (sequencer_there made number.0 t old)
