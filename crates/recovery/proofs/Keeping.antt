-- Each call leaves a sound terminal sound: the member's end by the member's own laws and what it keeps, a reset by what each step leaves.
-- Assumes nothing.
use mathlib.Core.Path.{◌≡◌, refl, sym, ◌∙◌}
use mathlib.Core.Bool.{Bool, true, false, false≢true}
use Prim.Native.Nat.{ℕ, ◌^◌, ◌≤◌, ◌<◌}
use native.Mathlib.Omega.{arith}
use borrow.Author.Tests.{eqb-true, eq-eqb}
use lib.Bits.{bit_and}
use lib.ListN.{length, get_or, replicate, length-replicate, get_or-replicate, get_or-eq_default}
use lib.Seq.{get_or-set_same, get_or-set_other}
use Rattle.group.proofs.Choice.{when_true, when_false, both_hold, both_first, both_then, says}
use Rattle.group.proofs.Fold.{all_at, at_all}
use Rattle.group.proofs.Lists.{when_elim, eq_or, le_or}
use Rattle.group.proofs.Members.{Standing, in_all, only_within, more_within}
use Rattle.group.specs.Choice.{when◌then◌else◌, ◌and◌, ◌=?◌}
use Rattle.group.specs.Limits.{members_most, largest_number}
use Rattle.group.specs.Members.{is_in, is_within, all_of}
use Rattle.group.specs.declared.Group.{Group}
use Rattle.group.specs.declared.MemberNumber.{MemberNumber}
use Rattle.group.specs.declared.SequenceNumber.{SequenceNumber}
use Rattle.member.proofs.Soundness as member
use Rattle.member.specs.Sound as memberCalls
use Rattle.member.specs.State.{Member}
use Rattle.sequencer.proofs.Soundness as sequencer
use Rattle.sequencer.specs.Sound as sequencerCalls
use Rattle.sequencer.specs.State.{Sequencer}
use Rattle.recovery.specs.Begin.{made_group, elected_sequencer, member_in, result_of}
use Rattle.recovery.proofs.Beginning.{floor_reach, reach_fits}
use Rattle.recovery.specs.Calls.{with_reset, replied, uninvited, invitation, freezes, with_reply}
use Rattle.recovery.specs.Laws.{Typed}
use Rattle.recovery.specs.Sound.{kept_sound, reset_sound, member_sound, sequencer_sound, reply_sound, terminal_sound}
use Rattle.recovery.specs.State.{Reset, Terminal, no_reset, serves, reply_number, kept_floor}
use Rattle.recovery.proofs.Masks.{only_in, or_in, in_or_right, not_or}
use Rattle.recovery.proofs.Kept.{KeptSound, kept_of, of_kept}
use Rattle.recovery.proofs.Result.{member_in_lem, elected_sound}

zeros : (i : ℕ) → ◌≡◌ {A = ℕ} (get_or (replicate members_most 0) i 0) 0
zeros i = le_or members_most i (λ l. get_or-eq_default (replicate members_most 0) 0 {n = i} l) (λ l. get_or-replicate members_most i 0 0 l)

-- the facts of a part in a reset
pub record ResetSound (m : Member) (r : Reset) : Type 0 where
  pub idle : r.replied ≡ false → (r.attempt ≡ 0) × (r.number.0 ≡ 0)
  pub open_reply : r.inviting ≡ true → r.replied ≡ true
  pub itself : r.inviting ≡ true → is_in r.repliers m.number.0 ≡ true
  pub own_number : r.inviting ≡ true → get_or r.replies m.number.0 0 ≡ r.number.0
  pub members : r.inviting ≡ true → bit_and r.repliers (all_of m.group.n) ≡ r.repliers
  pub closed : r.inviting ≡ false → (r.invited ≡ 0) × (r.repliers ≡ 0)
  pub silent : (i : ℕ) → is_in r.repliers i ≡ false → get_or r.replies i 0 ≡ 0

module _ (m : Member) (r : Reset) where
  abbrev answered : ℕ → ℕ → Bool
  answered i number = when is_in r.repliers i then true else number =? 0

  abbrev invites : Bool
  invites = r.replied and is_in r.repliers m.number.0 and get_or r.replies m.number.0 0 =? r.number.0 and is_within r.repliers (all_of m.group.n)

  pub reset_of : reset_sound m r ≡ true → ResetSound m r
  unfolding reset_sound
  reset_of e =
      let first : (when r.replied then true else (r.attempt =? 0 and r.number.0 =? 0)) ≡ true = both_first _ _ e in
      let rest = both_then (when r.replied then true else (r.attempt =? 0 and r.number.0 =? 0)) _ e in
      let own : (when r.inviting then invites else (r.invited =? 0 and r.repliers =? 0)) ≡ true = both_first _ _ rest in
      let each = all_at answered 0 r.replies (both_then (when r.inviting then invites else (r.invited =? 0 and r.repliers =? 0)) _ rest) in
      let in-it : r.inviting ≡ true → invites ≡ true = λ t. when_true r.inviting _ _ _ t refl ∙ own in
      record {
        idle = λ f. let z : r.attempt =? 0 and r.number.0 =? 0 ≡ true = when_false r.replied _ _ _ f refl ∙ first in (search says, search says);
        open_reply = λ t. both_first r.replied _ (in-it t);
        itself = λ t. both_first (is_in r.repliers m.number.0) _ (both_then r.replied _ (in-it t));
        own_number = λ t.
            eqb-true _ _ (both_first (get_or r.replies m.number.0 0 =? r.number.0) _ (both_then (is_in r.repliers m.number.0) _ (both_then r.replied _ (in-it t))));
        members = λ t.
            eqb-true _ _ (both_then (get_or r.replies m.number.0 0 =? r.number.0) _ (both_then (is_in r.repliers m.number.0) _ (both_then r.replied _ (in-it t))));
        closed = λ f. let z : r.invited =? 0 and r.repliers =? 0 ≡ true = when_false r.inviting _ _ _ f refl ∙ own in (search says, search says);
        silent = λ i f.
            le_or (length r.replies) i (λ l. get_or-eq_default r.replies 0 {n = i} l)
            (λ l. eqb-true _ 0 (when_false (is_in r.repliers i) _ _ _ f refl ∙ each i l));
      }

  pub of_reset_lem : ResetSound m r → reset_sound m r ≡ true
  unfolding reset_sound
  of_reset_lem f =
      both_hold _ _
      (when_elim (λ (b : Bool). b ≡ true) r.replied (λ _. refl) (λ t. let z = f.idle t in both_hold _ _ (eq-eqb _ 0 z.0) (eq-eqb _ 0 z.1)))
      (both_hold _ _
      (when_elim (λ (b : Bool). b ≡ true) r.inviting
      (λ t. both_hold _ _ (f.open_reply t) (both_hold _ _ (f.itself t) (both_hold _ _ (eq-eqb _ _ (f.own_number t)) (eq-eqb _ _ (f.members t)))))
      (λ t. let z = f.closed t in both_hold _ _ (eq-eqb _ 0 z.0) (eq-eqb _ 0 z.1)))
      (at_all answered 0 r.replies (λ i l. when_elim (λ (b : Bool). b ≡ true) (is_in r.repliers i) (λ _. refl) (λ t. eq-eqb _ 0 (f.silent i t)))))

-- the facts of a sound terminal
pub record Sound (t : Terminal) : Type 0 where
  pub member : member.Sound t.member
  pub kept : KeptSound t.member.group.n t.member.taken.0 t.kept
  pub reset : ResetSound t.member t.reset
  pub sequencer : sequencer_sound t ≡ true
  pub number_is : t.reset.replied ≡ true → t.reset.number.0 ≡ reply_number t
  pub freezes : t.reset.replied ≡ true → serves t ≡ true → t.frozen ≡ true

module _ (t : Terminal) where
  pub member_of : member_sound t ≡ true → member.Sound t.member × KeptSound t.member.group.n t.member.taken.0 t.kept × ResetSound t.member t.reset
  unfolding member_sound
  member_of e =
      let rest = both_then (memberCalls.sound_of t.member) _ e in (
        member.sound_of_lem t.member (both_first (memberCalls.sound_of t.member) _ e),
        kept_of t.member.group.n t.member.taken.0 t.kept (both_first (kept_sound t.member.group.n t.member.taken.0 t.kept) _ rest),
        reset_of t.member t.reset (both_then (kept_sound t.member.group.n t.member.taken.0 t.kept) _ rest),
      )

  pub of_member_lem : member.Sound t.member → KeptSound t.member.group.n t.member.taken.0 t.kept → ResetSound t.member t.reset → member_sound t ≡ true
  unfolding member_sound
  of_member_lem a b c =
      both_hold _ _ (member.of_sound t.member a)
      (both_hold _ _ (of_kept t.member.group.n t.member.taken.0 t.kept b) (of_reset_lem t.member t.reset c))

  pub sound_of_lem : terminal_sound t ≡ true → Sound t
  unfolding terminal_sound reply_sound
  sound_of_lem e =
      let m = member_of (both_first (member_sound t) _ e) in
      let rest = both_then (member_sound t) _ e in
      let q = both_first (sequencer_sound t) _ rest in
      let reply : (when t.reset.replied then (t.reset.number.0 =? reply_number t and (when serves t then t.frozen else true)) else true) ≡ true = both_then (sequencer_sound t) _ rest in
      let opened : t.reset.replied ≡ true → (t.reset.number.0 =? reply_number t and (when serves t then t.frozen else true)) ≡ true = λ r. when_true t.reset.replied _ _ _ r refl ∙ reply in
      record {
        member = m.0;
        kept = m.1;
        reset = m.2;
        sequencer = q;
        number_is = λ r. eqb-true _ _ (both_first (t.reset.number.0 =? reply_number t) _ (opened r));
        freezes = λ r s. when_true (serves t) _ _ _ s refl ∙ both_then (t.reset.number.0 =? reply_number t) _ (opened r);
      }

  pub of_sound : Sound t → terminal_sound t ≡ true
  unfolding terminal_sound reply_sound
  of_sound f =
      both_hold _ _ (of_member_lem f.member f.kept f.reset)
      (both_hold _ _ f.sequencer
      (when_elim (λ (b : Bool). b ≡ true) t.reset.replied
      (λ r. both_hold _ _ (eq-eqb _ _ (f.number_is r)) (when_elim (λ (b : Bool). b ≡ true) (serves t) (λ s. f.freezes r s) (λ _. refl)))
      (λ _. refl)))

-- a reply is open from then on, and its group's sequencer is frozen
module _ (t : Terminal) (sound : Sound t) where
  -- what a terminal would reply does not depend on its part in a reset
  frozen_now : (reset : Reset) → serves (with_reset t reset (freezes t)) ≡ true → freezes t ≡ true
  frozen_now reset s = sym (when_true (serves t) _ _ _ s refl)

  replying_sound : (reset : Reset) → reset.replied ≡ true → reset.number.0 ≡ reply_number t → ResetSound t.member reset → Sound (with_reset t reset (freezes t))
  unfolding reply_number sequencer_sound when◌then◌else◌
  replying_sound reset open_reply number r =
      record {
        member = sound.member;
        kept = sound.kept;
        reset = r;
        sequencer = stays sound.sequencer;
        number_is = λ _. number;
        freezes = λ _ s. frozen_now reset s;
      }
    where
      stays : sequencer_sound t ≡ true → sequencer_sound (with_reset t reset (freezes t)) ≡ true
      stays e = go t.sequencing refl e
        where
          go : (b : Bool) → t.sequencing ≡ b → sequencer_sound t ≡ true → sequencer_sound (with_reset t reset (freezes t)) ≡ true
          go true s e = rw s (rw s at e)
          go false s e = rw s (rw s at e)

  pub invited_sound : (attempt : ℕ) → Sound (with_reset t (invitation t attempt) (freezes t))
  invited_sound attempt =
      let n = sound.member.number_lt in
      let m = sound.member.n_most in
      let number = t.member.number.0 in
      replying_sound (invitation t attempt) refl refl
      (record {
        idle = λ f. absurd (false≢true (sym f));
        open_reply = λ _. refl;
        itself = λ _. only_in number;
        own_number = λ _. get_or-set_same (replicate members_most 0) number (reply_number t) 0 (simp length-replicate (omega arith));
        members = λ _. only_within number (all_of t.member.group.n) (in_all t.member.group.n number n);
        closed = λ f. absurd (false≢true (sym f));
        silent = λ i f.
            eq_or i number (λ q. absurd (false≢true (sym f ∙ rw q (only_in number))))
            (λ q. get_or-set_other (replicate members_most 0) number i (reply_number t) 0 q ∙ zeros i);
      })

  -- an invitation of another closes one's own; one's own leaves it
  pub replied_sound : (attempt : ℕ) → Sound (with_reset t (replied t attempt) (freezes t))
  replied_sound attempt =
      let r = sound.reset in
      replying_sound (replied t attempt) refl refl
      (record {
        idle = λ f. absurd (false≢true (sym f));
        open_reply = λ _. refl;
        itself = r.itself;
        own_number = λ i. r.own_number i ∙ sound.number_is (r.open_reply i);
        members = r.members;
        closed = r.closed;
        silent = r.silent;
      })

  pub closed_sound : (attempt : ℕ) → Sound (with_reset t (uninvited (replied t attempt)) (freezes t))
  closed_sound attempt =
      replying_sound (uninvited (replied t attempt)) refl refl
      (record {
        idle = λ f. absurd (false≢true (sym f));
        open_reply = λ f. absurd (false≢true f);
        itself = λ f. absurd (false≢true f);
        own_number = λ f. absurd (false≢true f);
        members = λ f. absurd (false≢true f);
        closed = λ _. (refl, refl);
        silent = λ i f. zeros i;
      })

  -- one reply more, of a member
  pub reply_sound_lem : (sender : MemberNumber) (number : ℕ) → sender.0 < t.member.group.n → t.reset.inviting ≡ true → length t.reset.replies ≡ members_most
      → Sound (with_reset t (with_reply t.reset sender number) t.frozen)
  unfolding with_reply reply_number sequencer_sound
  reply_sound_lem sender number less inviting long =
      when_elim (λ (r : Reset). Sound (with_reset t r t.frozen)) (is_in t.reset.repliers sender.0) (λ _. sound)
      (λ new.
      let r = sound.reset in
      let most = sound.member.n_most in
      record {
        member = sound.member;
        kept = sound.kept;
        reset =
            record {
              idle = r.idle;
              open_reply = r.open_reply;
              itself = λ i. or_in t.reset.repliers (2 ^ sender.0) t.member.number.0 (r.itself i);
              own_number = λ i.
                  get_or-set_other t.reset.replies sender.0 t.member.number.0 number 0 (λ q. false≢true (sym new ∙ rw q at (r.itself i))) ∙ r.own_number i;
              members = λ i. more_within t.reset.repliers sender.0 (all_of t.member.group.n) (r.members i) (in_all t.member.group.n sender.0 less);
              closed = λ f. absurd (false≢true (sym f ∙ inviting));
              silent = λ i f.
                  eq_or i sender.0 (λ q. absurd (false≢true (sym f ∙ rw q (in_or_right t.reset.repliers sender.0))))
                  (λ q. get_or-set_other t.reset.replies sender.0 i number 0 q ∙ r.silent i (not_or t.reset.repliers (2 ^ sender.0) i f));
            };
        sequencer = sound.sequencer;
        number_is = sound.number_is;
        freezes = sound.freezes;
      })

-- the sequencer's end with a result: the elected one's, and another's, which stays
elected_group : (t : Terminal) (group : Group) (number : ℕ) → (elected_sequencer t group number).group.n ≡ group.n
unfolding elected_sequencer
elected_group t group number = when_elim (λ (s : Sequencer). s.group.n ≡ group.n) (serves t) (λ _. refl) (λ _. refl)

seat_elected : (t : Terminal) (group : Group) (number : ℕ) → sequencer.Sound (elected_sequencer t group number)
    → sequencer_sound
    (record {
      member = member_in t.member group number;
      kept = t.kept;
      reset = no_reset;
      sequencing = when true then true else t.sequencing;
      frozen = when true then false else t.frozen;
      sequencer = when true then elected_sequencer t group number else t.sequencer;
    })
    ≡ true
unfolding sequencer_sound when◌then◌else◌
seat_elected t group number f =
    both_hold (sequencerCalls.sound_of (elected_sequencer t group number)) _ (sequencer.of_sound (elected_sequencer t group number) f) (eq-eqb _ _ (elected_group t group number))

seat_other : (t : Terminal) (group : Group) (number : ℕ) → group.n ≡ t.member.group.n → sequencer_sound t ≡ true
    → sequencer_sound
    (record {
      member = member_in t.member group number;
      kept = t.kept;
      reset = no_reset;
      sequencing = when false then true else t.sequencing;
      frozen = when false then false else t.frozen;
      sequencer = when false then elected_sequencer t group number else t.sequencer;
    })
    ≡ true
unfolding sequencer_sound when◌then◌else◌
seat_other t group number same e = rw same e

-- a group that a result describes, of members among whom are the elected one and the receiver
module _ (t : Terminal) (typed : Typed t) (sound : Sound t) (attempt : ℕ) (elected : MemberNumber) (number : SequenceNumber) (survivors : ℕ)
    (within : bit_and survivors (all_of t.member.group.n) ≡ survivors) (elected_in : is_in survivors elected.0 ≡ true)
    (inside : is_in survivors t.member.number.0 ≡ true) (is : elected.0 ≡ t.member.number.0 → number.0 ≡ reply_number t) where
  abbrev group : Group
  group = made_group t.member.group attempt elected survivors

  stands : Standing group
  stands =
      record {
        n_least = sound.member.n_pos;
        n_most = sound.member.n_most;
        resilient = sound.member.resilient;
        within = within;
        elected_in = elected_in;
      }

  ordered : serves t ≡ true → sequencerCalls.sound_of t.sequencer and t.sequencer.group.n =? t.member.group.n ≡ true
  unfolding sequencer_sound
  ordered e = when_true t.sequencing _ _ _ (both_first t.sequencing _ e) refl ∙ sound.sequencer

  fits : kept_floor t ≤ largest_number
  fits = let z = floor_reach t sound.member sound.kept typed.counts in let y = reach_fits t.member typed.member.taken in omega arith

  begins : elected.0 ≡ t.member.number.0 → sequencer.Sound (elected_sequencer t group number.0)
  begins q =
      elected_sound t typed sound.member sound.kept
      (λ e. sequencer.sound_of_lem t.sequencer (both_first (sequencerCalls.sound_of t.sequencer) _ (ordered e)))
      (λ e. eqb-true _ _ (both_then (sequencerCalls.sound_of t.sequencer) _ (ordered e)))
      group stands refl number.0 (is q) fits

  pub result_sound : Sound (result_of t attempt elected number survivors)
  unfolding result_of
  result_sound =
      record {
        member = member_in_lem t.member typed.member sound.member group stands refl inside number.0;
        kept = sound.kept;
        reset =
            record {
              idle = λ _. (refl, refl);
              open_reply = λ f. absurd (false≢true f);
              itself = λ f. absurd (false≢true f);
              own_number = λ f. absurd (false≢true f);
              members = λ f. absurd (false≢true f);
              closed = λ _. (refl, refl);
              silent = λ i f. zeros i;
            };
        sequencer = seated (elected.0 =? t.member.number.0) refl;
        number_is = λ f. absurd (false≢true f);
        freezes = λ f. absurd (false≢true f);
      }
    where
      seated : (b : Bool) → (elected.0 =? t.member.number.0) ≡ b
          → sequencer_sound
          (record {
            member = member_in t.member group number.0;
            kept = t.kept;
            reset = no_reset;
            sequencing = when b then true else t.sequencing;
            frozen = when b then false else t.frozen;
            sequencer = when b then elected_sequencer t group number.0 else t.sequencer;
          })
          ≡ true
      seated true e = seat_elected t group number.0 (begins (eqb-true _ _ e))
      seated false e = seat_other t group number.0 refl sound.sequencer
