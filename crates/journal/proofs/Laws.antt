-- The laws of the writer that `specs/Laws.antt` states, by what holds after every call. Assumes nothing.
use Rattle.group.specs.Question.{all_yes}
use Rattle.std.specs.Prelude.{Ok, Err}
use mathlib.Core.Path.{◌≡◌, refl, sym, ap, ◌∙◌, subst}
use mathlib.Core.Bool.{true}
use mathlib.Core.List.{List, [], ◌∷◌, ◌++◌, append_assoc, append-nil}
use Prim.Native.Nat.{ℕ, ◌+◌, ◌%◌, ◌<◌}
use native.Mathlib.Omega.{arith}
use borrow.Author.Tests.{leb-true, leb-false}
use lib.ListN.{length}
use Rattle.group.specs.Choice.{when◌then◌else◌, ◌≤?◌, ◌=?◌}
use Rattle.group.specs.declared.Refusal.TheVariants.{UnsoundState, WrongJournal}
use Rattle.group.specs.Question.{Verdict}
use Rattle.group.proofs.Choice.{when_true}
use Rattle.group.specs.Question.{first_no, judged}
use Rattle.group.proofs.Lists.{when_elim}
use Rattle.group.proofs.Question.{judged_ask}
use Rattle.message.specs.Order.{Ordered}
use Rattle.text.specs.LaidAt.{written_at}
use Rattle.journal.specs.Limits.{block_size, records_at, records_end}
use Rattle.journal.specs.Block.{record_of, records_of, follows}
use Rattle.journal.specs.Read.{found_in, counted, read_of}
use Rattle.journal.specs.Write.{Outcome, writer_after, writer_sound, begun, in_hand, refused, kept_of, write_verdict, closed_of, write_of, finish_of}
use Rattle.journal.specs.Laws.{Fits, Allowed, handed, joint, messages_in, Writes, starts, keeps, closes, RoundTrip, InOrder, ReadFirstNo, WriteFirstNo, FinishFirstNo, WriterSound}
use Rattle.journal.specs.declared.Tail.{Tail}
use Rattle.journal.specs.declared.Writer.{Writer}
use Rattle.journal.specs.declared.Answer.TheVariants.{Kept}
use Rattle.journal.proofs.Records.{may, record_length}
use Rattle.journal.proofs.Whole.{whole_append, whole_to, to_whole}
use Rattle.journal.proofs.Rights.{Rights, rights_whole, rights_append, messages_append}
use Rattle.journal.proofs.Sound.{accepted_says}
use Rattle.journal.proofs.Pending.{Pending, pending_none, pending_sound, pending_more, block_out, closed_out}

-- what holds after every call: the blocks handed out are right one behind the other, and the messages that do not stand in
-- them are in hand
pub record Holds (start : Tail) (ms : List Ordered) (blocks : List (List ℕ)) (w : Writer) (hand : List ℕ) : Type 0 where
  pub tail : Tail
  pub pending : List Ordered
  pub rights : Rights start blocks tail
  pub order : messages_in blocks ++ pending ≡ ms
  pub held : Pending tail pending w hand

-- a message that was kept was accepted
kept_by : (v : Verdict) (x : Outcome) (w : Writer) (hand : List ℕ) → (judged v (refused w hand) x).answer ≡ Ok Kept
    → (v ≡ all_yes) × (judged v (refused w hand) x ≡ x)
unfolding judged
kept_by (Ok _) x w hand e = (refl, refl)
kept_by (Err r) x w hand e = absurd (let z : ◌≡◌ {A = ℕ} 0 1 = cc in omega arith)

-- a shutdown is never refused
finished : (u : Tail) (ms : List Ordered) (w : Writer) (hand : List ℕ) → Pending u ms w hand → finish_of w hand ≡ closed_of w hand
unfolding finish_of
finished u ms w hand p = sym (when_true (writer_sound w) _ _ _ (pending_sound u ms w hand p) refl)

-- a record that does not fit: the block in hand is handed out, and the record begins the next
begun_out : (u : Tail) (ms : List Ordered) (w : Writer) (hand : List ℕ) (m : Ordered) → Pending u ms w hand → Allowed m
    → follows w.tail m.number ≡ true → records_end < w.used + length (record_of m)
    → Rights u (handed (in_hand w hand)) w.tail × (messages_in (handed (in_hand w hand)) ≡ ms)
    × Pending w.tail (m ∷ []) (begun m) (written_at records_at (record_of m) hand)
unfolding records_of when◌then◌else◌
begun_out u [] w hand m p a follow full =
    let e = p.used in
    let l = record_length m in
    let y = (may m a.may).size in
    absurd (omega arith)
begun_out u (x ∷ ms) w hand m p a follow full =
    let l = record_length m in
    let y = (may m a.may).size in
    let (rights, messages) = block_out u x ms w hand p in (
      rights,
      messages,
      pending_more w.tail [] (writer_after w.tail) hand m (pending_none w.tail hand p.room) a follow (omega arith),
    )

-- what holds after a call, from what it left
abbrev Next : Tail → List Ordered → List (List ℕ) → Outcome → Type 0
Next start ms blocks o = Holds start ms (blocks ++ handed o.bytes) o.writer o.hand

module _ (start : Tail) (ms : List Ordered) (blocks : List (List ℕ)) (w : Writer) (hand : List ℕ) (h : Holds start ms blocks w hand) where
  -- every message stands in a block once the block in hand is handed out
  out_order : (more : List (List ℕ)) → messages_in more ≡ h.pending → messages_in (blocks ++ more) ≡ ms
  out_order more e = messages_append blocks more ∙ rw e h.order

  after_keep : (m : Ordered) → Fits m → (write_of w m hand).answer ≡ Ok Kept → Next start (ms ++ (m ∷ [])) blocks (write_of w m hand)
  unfolding write_of kept_of handed
  after_keep m fits e =
      let (accepted, same) = kept_by (write_verdict w m) (kept_of w m hand) w hand e in
      let (_, may, f) = accepted_says w m accepted in
      let a : Allowed m = record { fits = fits; may = may } in
      subst (Next start (ms ++ (m ∷ [])) blocks) (sym same)
      (when_elim (Next start (ms ++ (m ∷ [])) blocks) (w.used + length (record_of m) ≤? records_end)
      (λ t.
      rw append-nil
      (record {
        tail = h.tail;
        pending = h.pending ++ (m ∷ []);
        rights = h.rights;
        order = sym (append_assoc (messages_in blocks) h.pending (m ∷ [])) ∙ ap (λ (x : List Ordered). x ++ (m ∷ [])) h.order;
        held = pending_more h.tail h.pending w hand m h.held a f (leb-true _ _ t);
      }))
      (λ t.
      let (rights, messages, held) = begun_out h.tail h.pending w hand m h.held a f (leb-false _ _ t) in
      record {
        tail = w.tail;
        pending = m ∷ [];
        rights = rights_append start h.tail w.tail blocks (handed (in_hand w hand)) h.rights rights;
        order = ap (λ (x : List Ordered). x ++ (m ∷ [])) (out_order (handed (in_hand w hand)) messages);
        held = held;
      }))

  -- what shutdown hands out is right behind the blocks, and with it every message stands in a block
  after_close : Rights start (blocks ++ handed (finish_of w hand).bytes) w.tail × (messages_in (blocks ++ handed (finish_of w hand).bytes) ≡ ms)
  after_close =
      let (rights, messages) = closed_out h.tail h.pending w hand h.held in
      rw (finished h.tail h.pending w hand h.held)
      (rights_append start h.tail w.tail blocks _ h.rights rights, out_order _ messages)

  after_closed : Next start ms blocks (finish_of w hand)
  after_closed =
      let (rights, messages) = after_close in
      let same = finished h.tail h.pending w hand h.held in
      record {
        tail = w.tail;
        pending = [];
        rights = rights;
        order = append-nil _ ∙ messages;
        held = rw same (pending_none w.tail hand h.held.room);
      }

pub holds : (start : Tail) (ms : List Ordered) (blocks : List (List ℕ)) (w : Writer) (hand : List ℕ) → Writes start ms blocks w hand
    → Holds start ms blocks w hand
unfolding messages_in
holds start ms blocks w hand (starts n) = record { tail = start; pending = []; rights = refl; order = refl; held = pending_none start _ n }
holds start ms blocks w hand (keeps r m fits e) = after_keep start _ _ _ _ (holds start _ _ _ _ r) m fits e
holds start ms blocks w hand (closes r e) = after_closed start _ _ _ _ (holds start _ _ _ _ r)

pub in_order : InOrder
in_order ms start blocks w hand r = (after_close start ms blocks w hand (holds start ms blocks w hand r)).1

pub round_trip : RoundTrip
round_trip journal old ms start blocks w hand whole r =
    let h = holds start ms blocks w hand r in
    let (rights, messages) = after_close start ms blocks w hand h in
    let all = blocks ++ handed (finish_of w hand).bytes in
    let front = to_whole journal old start whole in
    let back = rw messages at (rights_whole start w.tail all rights) in (
      ap (λ (o : Outcome). o.answer) (finished h.tail h.pending w hand h.held),
      whole_to _ _ _ _ (whole_append _ _ _ journal (joint all) _ _ old ms front back),
    )

pub writer_sound_lem : WriterSound
writer_sound_lem ms start blocks w hand r = let h = holds start ms blocks w hand r in pending_sound h.tail h.pending w hand h.held

pub read_first_no : ReadFirstNo
unfolding read_of first_no judged
read_first_no journal = judged_ask Err (Ok (counted (found_in journal))) (length journal % block_size =? 0) WrongJournal []

pub write_first_no : WriteFirstNo
unfolding write_of write_verdict first_no
write_first_no w m hand = refl

pub finish_first_no : FinishFirstNo
unfolding finish_of first_no judged
finish_first_no w hand = judged_ask (refused w hand) (closed_of w hand) (writer_sound w) UnsoundState []
