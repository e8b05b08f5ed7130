-- A packet that is of no reset, at a terminal's member: with a reply open it is refused, else it is the member's, and its floor is read.
-- Assumes nothing.
use Rattle.std.specs.Prelude.{Ok, Err}
use mathlib.Core.Path.{◌≡◌, refl, sym, ap, ◌∙◌}
use mathlib.Core.Bool.{Bool, true, false, false≢true}
use mathlib.Core.List.{List}
use Prim.Native.Nat.{ℕ}
use Rattle.group.specs.Choice.{when◌then◌else◌, ask◌or◌then◌, ◌and◌, ◌=?◌}
use Rattle.group.specs.Question.{judged}
use Rattle.group.specs.declared.Refusal.{Refusal}
use Rattle.group.specs.Question.{Verdict}
use Rattle.packet.specs.Packet.{content_of, from_elected, payload_at, read_of}
use Rattle.packet.specs.Answers.{Reading}
use Rattle.window.specs.Places.{larger_of}
use Rattle.member.specs.Calls as member
use Rattle.member.specs.State.{Member}
use Rattle.member.specs.declared.Answer.{Answer}
use Rattle.recovery.specs.Calls.{Outcome, refused, carried, call_verdict, kept_read, is_refusal, floor_in, of_reset, heard_of, read_step, receive_of}
use Rattle.recovery.specs.State.{Kept, Terminal}
use Rattle.terminals.specs.Steps.{resets, closed_refusal, refusal_after, floor_said, read_after}

-- what is kept where the highest floor read is the one after the answer
pub read_kept : (kept : Kept) (answer : Answer) (r : Reading) → record { read = read_after kept.read answer r; past = kept.past; counts = kept.counts } ≡ kept_read kept answer (floor_said r)
unfolding read_after kept_read when◌then◌else◌
read_kept kept answer r = go (is_refusal answer)
  where
    go : (b : Bool) → record { read = when b then kept.read else record { 0 = larger_of kept.read.0 (floor_said r) }; past = kept.past; counts = kept.counts }
        ≡ (when b then kept else record { read = record { 0 = larger_of kept.read.0 (floor_said r) }; past = kept.past; counts = kept.counts })
    go true = refl
    go false = refl

module _ (t : Terminal) where
  abbrev m : Member
  m = t.member

  -- question by question: without a reply open
  heard_asked : (from ours reset pending : Bool) (a : Outcome) (o : member.Outcome) (floor : ℕ) → reset ≡ false → pending ≡ false
      → (ask from or refused t Refusal.ForbiddenFields then (when reset then a else (ask (ours and (when pending then false else true)) or refused t Refusal.OtherGroup then carried t (kept_read t.kept o.answer floor) o)))
      ≡ carried t (kept_read t.kept (ask from or member.refused m Refusal.ForbiddenFields then ask ours or member.refused m Refusal.OtherGroup then o).answer floor)
      (ask from or member.refused m Refusal.ForbiddenFields then ask ours or member.refused m Refusal.OtherGroup then o)
  unfolding when◌then◌else◌ refused member.answered kept_read is_refusal
  heard_asked true true false false a o floor r p = refl
  heard_asked true false false false a o floor r p = refl
  heard_asked false ours false false a o floor r p = refl
  heard_asked from ours true pending a o floor r p = absurd (false≢true (sym r))
  heard_asked from ours false true a o floor r p = absurd (false≢true (sym p))

  heard_step : t.reset.replied ≡ false → (r : Reading) (payload : List ℕ) → resets r ≡ false
      → read_step t r payload ≡ carried t (kept_read t.kept (member.read_step m r payload).answer (floor_said r)) (member.read_step m r payload)
  unfolding read_step member.read_step resets floor_said heard_of kept_read is_refusal refused member.answered when◌then◌else◌
  heard_step p (Err refusal) payload e = refl
  heard_step p (Ok h) payload e =
      heard_asked (from_elected m.group (content_of h)) (h.group =? m.group.number) (of_reset (content_of h)) t.reset.replied _ (member.content_step m (content_of h) payload) (floor_in (content_of h)) e p

  -- with one
  closed_asked : (from ours reset pending : Bool) (a b : Outcome) → reset ≡ false → pending ≡ true
      → (ask from or refused t Refusal.ForbiddenFields then (when reset then a else (ask (ours and (when pending then false else true)) or refused t Refusal.OtherGroup then b)))
      ≡ refused t (ask from or Refusal.ForbiddenFields then Refusal.OtherGroup)
  unfolding when◌then◌else◌
  closed_asked true true false true a b r p = refl
  closed_asked true false false true a b r p = refl
  closed_asked false ours false true a b r p = refl
  closed_asked from ours true pending a b r p = absurd (false≢true (sym r))
  closed_asked from ours false false a b r p = absurd (false≢true p)

  closed_step : t.reset.replied ≡ true → (r : Reading) (payload : List ℕ) → resets r ≡ false → read_step t r payload ≡ refused t (closed_refusal m.group r)
  unfolding read_step resets closed_refusal
  closed_step p (Err refusal) payload e = refl
  closed_step p (Ok h) payload e = closed_asked (from_elected m.group (content_of h)) (h.group =? m.group.number) (of_reset (content_of h)) t.reset.replied _ _ e p

  module _ (packet : List ℕ) (room : ℕ) (none : resets (read_of packet) ≡ false) (same : call_verdict t room ≡ member.call_verdict m room) where
    -- the whole call
    pub heard_own : t.reset.replied ≡ false
        → receive_of t packet room ≡ carried t (kept_read t.kept (member.receive_of m packet room).answer (floor_said (read_of packet))) (member.receive_of m packet room)
    unfolding receive_of member.receive_of judged refused member.answered kept_read is_refusal when◌then◌else◌
    heard_own p = ap (λ (v : Verdict). judged v (refused t) (read_step t (read_of packet) (payload_at packet))) same ∙ go (member.call_verdict m room)
      where
        inner : member.Outcome
        inner = member.read_step m (read_of packet) (payload_at packet)

        go : (v : Verdict) → judged v (refused t) (read_step t (read_of packet) (payload_at packet))
            ≡ carried t (kept_read t.kept (judged v (member.refused m) inner).answer (floor_said (read_of packet))) (judged v (member.refused m) inner)
        go (Ok _) = heard_step p (read_of packet) (payload_at packet) none
        go (Err r) = refl

    pub closed_own : t.reset.replied ≡ true → receive_of t packet room ≡ refused t (refusal_after (member.call_verdict m room) (closed_refusal m.group (read_of packet)))
    unfolding receive_of judged refusal_after
    closed_own p = ap (λ (v : Verdict). judged v (refused t) (read_step t (read_of packet) (payload_at packet))) same ∙ go (member.call_verdict m room)
      where
        go : (v : Verdict) → judged v (refused t) (read_step t (read_of packet) (payload_at packet)) ≡ refused t (refusal_after v (closed_refusal m.group (read_of packet)))
        go (Ok _) = closed_step p (read_of packet) (payload_at packet) none
        go (Err r) = refl

-- an answer that is no refusal
pub not_refused : (answer : Answer) → ((refusal : Refusal) → answer ≡ Answer.Refused refusal → ⊥) → is_refusal answer ≡ false
unfolding is_refusal
not_refused (Answer.Refused refusal) n = absurd (n refusal refl)
not_refused Answer.Sent n = refl
not_refused (Answer.Queued count) n = refl
not_refused Answer.Old n = refl
not_refused Answer.Kept n = refl
not_refused Answer.KeptGap n = refl
not_refused Answer.Beyond n = refl
not_refused Answer.BeyondGap n = refl
not_refused Answer.Gap n = refl
not_refused Answer.Status n = refl
not_refused Answer.None n = refl
not_refused Answer.Noted n = refl
not_refused (Answer.Took number originator count more) n = refl
