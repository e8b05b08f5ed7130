-- What the steps of inviting, replying and noting a reply come to is what the meaning says. Assumes nothing.
use mathlib.Core.Path.{◌≡◌, refl}
use mathlib.Core.Bool.{Bool, true, false}
use mathlib.Core.List.{List, []}
use Prim.Native.Nat.{ℕ, ◌≤◌}
use lib.Bits.{bit_or}
use lib.ListN.{set, replicate}
use Rattle.group.specs.Choice.{when◌then◌else◌, ◌and◌, ◌<?◌, ◌≤?◌, ◌=?◌}
use Rattle.group.specs.Limits.{members_most, longest_packet, largest_number}
use Rattle.group.specs.Members.{only_of, is_in}
use Rattle.group.specs.declared.MemberNumber.{MemberNumber}
use Rattle.group.specs.declared.Refusal.{Refusal}
use Rattle.group.specs.declared.SequenceNumber.{SequenceNumber}
use Rattle.group.proofs.Choice.{both_hold, both_first, both_then}
use Rattle.packet.specs.Packet.{fields_of, packet_of}
use Rattle.packet.specs.declared.Packet.{Packet}
use Rattle.history.proofs.Asking.{judged_yes}
use Rattle.member.specs.View as memberView
use Rattle.member.specs.declared.Answer.{Answer}
use Rattle.sequencer.specs.View as sequencerView
use Rattle.recovery.specs.Calls.{Outcome, refused, with_reset, replied, uninvited, invitation, freezes, with_reply, noted, invited_of, reset_step, invite_of, whole_verdict}
use Rattle.recovery.specs.Sound.{terminal_sound}
use Rattle.recovery.specs.State.{Terminal, reply_number}
use Rattle.recovery.specs.Steps.{serves_in, reply_in}
use Rattle.recovery.specs.View.{Stored, terminal_of, flags_sound}
use Rattle.recovery.specs.declared.Head.{Head}
use Rattle.recovery.proofs.Begun.{reply_as}
use Rattle.attempt.specs.Steps.{replied_head, invitation_head, invite_step, reply_packet, reply_step, awaits_in, note_step}
use Rattle.attempt.proofs.Changing.{Matches, match_if, match_as, match_no, with_parts, whole_sound}

-- flags stay flags
flag_or : (b : Bool) (n : ℕ) → (n ≤? 1) ≡ true → ((when b then 1 else n) ≤? 1) ≡ true
unfolding when◌then◌else◌
flag_or true n h = refl
flag_or false n h = h

replied_flags : (head : Head) (attempt : ℕ) (number : SequenceNumber) → flags_sound head ≡ true → flags_sound (replied_head head attempt number) ≡ true
unfolding flags_sound
replied_flags head attempt number f =
    let i = both_then (head.replied ≤? 1) _ f in
    let s = both_then (head.inviting ≤? 1) _ i in
    both_hold (1 ≤? 1) _ refl (both_hold _ _ (both_first (head.inviting ≤? 1) _ i) (both_hold _ _ (both_first (head.sequencing ≤? 1) _ s) (flag_or (serves_in head) head.frozen (both_then (head.sequencing ≤? 1) _ s))))

invitation_flags : (head : Head) (inviting invited repliers : ℕ) → (inviting ≤? 1) ≡ true → flags_sound head ≡ true → flags_sound (invitation_head head inviting invited repliers) ≡ true
unfolding flags_sound
invitation_flags head inviting invited repliers h f =
    both_hold _ _ (both_first (head.replied ≤? 1) _ f) (both_hold _ _ h (both_then (head.inviting ≤? 1) _ (both_then (head.replied ≤? 1) _ f)))

inviting_flag : (head : Head) → flags_sound head ≡ true → (head.inviting ≤? 1) ≡ true
unfolding flags_sound
inviting_flag head f = both_first (head.inviting ≤? 1) _ (both_then (head.replied ≤? 1) _ f)

frozen_or : (b : Bool) (n : ℕ) → ((when b then 1 else n) =? 1) ≡ (when b then true else n =? 1)
unfolding when◌then◌else◌
frozen_or true n = refl
frozen_or false n = refl

module _ (s : Stored) (most : s.head.member.taken.0 ≤ largest_number) (f : flags_sound s.head ≡ true) where
  abbrev t : Terminal
  t = terminal_of s

  abbrev opened : ℕ → Head
  opened attempt = replied_head s.head attempt (record { 0 = reply_in s.head s.held })

  frozen_as : ((when serves_in s.head then 1 else s.head.frozen) =? 1) ≡ freezes t
  unfolding terminal_of memberView.view_of sequencerView.view_of
  frozen_as = frozen_or (serves_in s.head) s.head.frozen

  -- inviting
  invited_terminal : (attempt : ℕ)
      → terminal_of (with_parts s (invitation_head (opened attempt) 1 attempt (only_of s.head.member.number)) (set (replicate members_most 0) s.head.member.number.0 (reply_in s.head s.held)))
      ≡ with_reset t (invitation t attempt) (freezes t)
  unfolding terminal_of memberView.view_of sequencerView.view_of
  invited_terminal attempt =
      λ i. record {
        member = t.member;
        kept = t.kept;
        reset = record {
          replied = true;
          attempt = attempt;
          number = record { 0 = reply_as s most i };
          inviting = true;
          invited = attempt;
          repliers = only_of s.head.member.number;
          replies = set (replicate members_most 0) s.head.member.number.0 (reply_as s most i);
        };
        sequencing = t.sequencing;
        frozen = frozen_as i;
        sequencer = t.sequencer;
      }

  abbrev invited_as : ℕ → Outcome
  invited_as attempt =
      record {
        terminal = with_reset t (invitation t attempt) (freezes t);
        answer = Answer.Sent;
        bytes = packet_of (fields_of t.member.group.number (Packet.Invitation t.member.number attempt)) [];
      }

  pub invite_matches : (attempt room : ℕ) → terminal_sound t ≡ true → longest_packet ≤ room → Matches s (invite_step s.head s.held attempt) (invite_of t attempt room)
  unfolding invite_of invite_step terminal_of memberView.view_of
  invite_matches attempt room e h =
      match_as s (judged_yes (whole_verdict t room) (refused t) (invited_as attempt) (whole_sound t room e h))
      (record {
        flags_stay = invitation_flags (opened attempt) 1 attempt (only_of s.head.member.number) refl (replied_flags s.head attempt (record { 0 = reply_in s.head s.held }) f);
        terminal_is = invited_terminal attempt;
        answer_is = refl;
        bytes_are = refl;
      })

  -- replying
  replied_terminal : (attempt : ℕ) → terminal_of (with_parts s (opened attempt) s.replies) ≡ with_reset t (replied t attempt) (freezes t)
  unfolding terminal_of memberView.view_of sequencerView.view_of
  replied_terminal attempt =
      λ i. record {
        member = t.member;
        kept = t.kept;
        reset = record {
          replied = true;
          attempt = attempt;
          number = record { 0 = reply_as s most i };
          inviting = t.reset.inviting;
          invited = t.reset.invited;
          repliers = t.reset.repliers;
          replies = t.reset.replies;
        };
        sequencing = t.sequencing;
        frozen = frozen_as i;
        sequencer = t.sequencer;
      }

  closed_terminal_lem : (attempt : ℕ)
      → terminal_of (with_parts s (invitation_head (opened attempt) 0 0 0) (replicate members_most 0)) ≡ with_reset t (uninvited (replied t attempt)) (freezes t)
  unfolding terminal_of memberView.view_of sequencerView.view_of
  closed_terminal_lem attempt =
      λ i. record {
        member = t.member;
        kept = t.kept;
        reset = record {
          replied = true;
          attempt = attempt;
          number = record { 0 = reply_as s most i };
          inviting = false;
          invited = 0;
          repliers = 0;
          replies = replicate members_most 0;
        };
        sequencing = t.sequencing;
        frozen = frozen_as i;
        sequencer = t.sequencer;
      }

  packet_as : (attempt : ℕ) → reply_packet s.head s.held attempt
      ≡ packet_of (fields_of t.member.group.number (Packet.Reply t.member.number attempt (record { 0 = reply_number t }))) []
  unfolding terminal_of memberView.view_of
  packet_as attempt = λ i. packet_of (fields_of s.head.member.group.number (Packet.Reply s.head.member.number attempt (record { 0 = reply_as s most i }))) []

  answered : (own : Bool) (attempt : ℕ)
      → Matches s
      (when own then record { head = opened attempt; replies = s.replies; answer = Answer.Noted; bytes = reply_packet s.head s.held attempt }
      else record { head = invitation_head (opened attempt) 0 0 0; replies = replicate members_most 0; answer = Answer.Noted; bytes = reply_packet s.head s.held attempt })
      (noted (with_reset t (when own then replied t attempt else uninvited (replied t attempt)) (freezes t))
      (packet_of (fields_of t.member.group.number (Packet.Reply t.member.number attempt (record { 0 = reply_number t }))) []))
  unfolding when◌then◌else◌
  answered true attempt =
      record {
        flags_stay = replied_flags s.head attempt (record { 0 = reply_in s.head s.held }) f;
        terminal_is = replied_terminal attempt;
        answer_is = refl;
        bytes_are = packet_as attempt;
      }
  answered false attempt =
      record {
        flags_stay = invitation_flags (opened attempt) 0 0 0 refl (replied_flags s.head attempt (record { 0 = reply_in s.head s.held }) f);
        terminal_is = closed_terminal_lem attempt;
        answer_is = refl;
        bytes_are = packet_as attempt;
      }

  pub reply_matches : (sender : MemberNumber) (attempt : ℕ) (payload : List ℕ)
      → Matches s (reply_step s.head s.held s.replies sender attempt) (reset_step t (Packet.Invitation sender attempt) payload)
  unfolding reply_step reset_step invited_of terminal_of memberView.view_of
  reply_matches sender attempt payload =
      match_if s (sender.0 <? s.head.member.group.n) (answered (sender.0 =? s.head.member.number.0) attempt) (match_no s Refusal.UnknownMember f)

  -- noting
  counted : (already : Bool) (sender : MemberNumber) (number : ℕ)
      → Matches s
      (when already then record { head = s.head; replies = s.replies; answer = Answer.Noted; bytes = [] }
      else record {
        head = invitation_head s.head s.head.inviting s.head.invited (bit_or s.head.repliers (only_of sender));
        replies = set s.replies sender.0 number;
        answer = Answer.Noted;
        bytes = [];
      })
      (noted
      (with_reset t
      (when already then t.reset else
      record {
        replied = t.reset.replied;
        attempt = t.reset.attempt;
        number = t.reset.number;
        inviting = t.reset.inviting;
        invited = t.reset.invited;
        repliers = bit_or t.reset.repliers (only_of sender);
        replies = set t.reset.replies sender.0 number;
      })
      t.frozen) [])
  unfolding when◌then◌else◌ terminal_of memberView.view_of sequencerView.view_of
  counted true sender number = record { flags_stay = f; terminal_is = refl; answer_is = refl; bytes_are = refl }
  counted false sender number =
      record {
        flags_stay = invitation_flags s.head s.head.inviting s.head.invited (bit_or s.head.repliers (only_of sender)) (inviting_flag s.head f) f;
        terminal_is = refl;
        answer_is = refl;
        bytes_are = refl;
      }

  pub note_matches : (sender : MemberNumber) (attempt : ℕ) (number : SequenceNumber) (payload : List ℕ)
      → Matches s (note_step s.head s.replies sender attempt number.0) (reset_step t (Packet.Reply sender attempt number) payload)
  unfolding note_step reset_step with_reply awaits_in terminal_of memberView.view_of
  note_matches sender attempt number payload =
      match_if s (sender.0 <? s.head.member.group.n)
      (match_if s (s.head.inviting =? 1 and s.head.invited =? attempt) (counted (is_in s.head.repliers sender.0) sender number.0) (match_no s Refusal.NotOfAttempt f))
      (match_no s Refusal.UnknownMember f)
