-- From what a call of a terminal did, and the packet that was stored, to what its event gives. Assumes nothing.
use mathlib.Core.Path.{◌≡◌, refl, sym, ap, ◌∙◌, subst}
use mathlib.Core.Bool.{Bool, true, false}
use mathlib.Core.List.{List, [], ◌++◌}
use Prim.Native.Nat.{ℕ, ◌≤◌, ◌<◌}
use native.Mathlib.Omega.{arith}
use borrow.Author.Tests.{lt-ltb, le-ltb}
use lib.ListN.{length, take, set}
use lib.Seq.{take-append_seam, take_all, get_or-set_same, get_or-set_other}
use Rattle.group.proofs.Choice.{when_true, when_false}
use Rattle.group.specs.Choice.{◌=?◌}
use Rattle.group.specs.Lent.{front}
use Rattle.group.specs.Limits.{longest_packet}
use Rattle.model.specs.World.{answer_of}
use Rattle.model.specs.declared.Reply.{Reply}
use Rattle.packet.specs.Packet.{written}
use Rattle.recovery.specs.View.{terminal_of}
use Rattle.recovery.specs.declared.Head.{Head}
use Rattle.reset.specs.World as reset
use Rattle.reset.specs.World.{Group, Happened, missing, no_terminal}
use Rattle.simulator.proofs.Acting.{wrote, behind, fits}
use Rattle.simulator.proofs.Lists.{length_list, lists_set, lists_get}
use Rattle.simulator.specs.Steps.{Stores}
use Rattle.simulator.specs.Whole.{list_of, Packets, packets_in}
use Rattle.terminal_rows.specs.Heads.{head_in, small_of, masks_of, numbers_of}
use Rattle.terminal_rows.specs.Steps.{kept_size, admits_of}
use Rattle.terminal_rows.specs.declared.Call.{Call}
use Rattle.terminal_rows.specs.declared.Call.TheVariants as call
use Rattle.reset_simulator.specs.Steps.{Came, came_of, absent_at, came_at, CallsRow, CallsAt, leads, happened_at}
use Rattle.reset_simulator.specs.Whole.{Rows, stored_at, Terminals, terminals_of, head_at, terminal_at, Whole, group_of, Room, nothing, Plays}
use Rattle.reset_simulator.specs.declared.Called.{Called}
use Rattle.reset_simulator.specs.declared.Happening.{Happening}
use Rattle.reset_simulator.specs.declared.World.{World}
use Rattle.reset_simulator.proofs.Rows.{head_back}

-- rows that are set to those of a head, and arrays that changed at the same index alone
module _ (i : ℕ) (small masks numbers : List (List ℕ)) (rows rows' : Rows) (head : Head) where
  abbrev pub stored : Terminals
  stored = terminals_of (set small i (small_of head)) (set masks i (masks_of head)) (set numbers i (numbers_of head)) rows'

  pub stored_own : i < length small → i < length masks → i < length numbers → terminal_at stored i ≡ terminal_of (stored_at rows' i head)
  unfolding terminal_at
  stored_own a b c =
      (λ x. terminal_of (stored_at rows' i (head_in (get_or-set_same small i (small_of head) [] a x) (get_or-set_same masks i (masks_of head) [] b x) (get_or-set_same numbers i (numbers_of head) [] c x))))
      ∙ head_back rows' i head

  pub stored_others : ((j : ℕ) (h : Head) → (j ≡ i → ⊥) → stored_at rows' j h ≡ stored_at rows j h) → (j : ℕ) → (j ≡ i → ⊥)
      → terminal_at stored j ≡ terminal_at (terminals_of small masks numbers rows) j
  unfolding terminal_at
  stored_others o j n =
      (λ x. terminal_of (stored_at rows' j (head_in (get_or-set_other small i j (small_of head) [] n x) (get_or-set_other masks i j (masks_of head) [] n x) (get_or-set_other numbers i j (numbers_of head) [] n x))))
      ∙ ap terminal_of (o j (head_at (terminals_of small masks numbers rows) j) n)

-- a call of terminal i: the head that was read, what was asked of its flag, and the rows that were left
module _ (call : Call) (bytes : List ℕ) (i : ℕ) (small masks numbers : List (List ℕ)) (rows rows' : Rows) (r : Called) (before after : List ℕ) where
  abbrev t : Terminals
  t = terminals_of small masks numbers rows

  can_call : i < length small → i < length masks → i < length numbers → admits_of call (terminal_at t i).sequencing ≡ true
      → CallsRow call i bytes (head_at t i) rows r rows' before after
      → CallsAt call i bytes t r (stored i small masks numbers rows rows' r.head) before after
  unfolding terminal_at came_at
  can_call a b c can k =
      let is : came_of call bytes (length before) (terminal_at t i) ≡ came_at call bytes (length before) (terminal_at t i) = when_true _ _ _ _ can refl in
      record {
        answer = k.own.answer ∙ ap (λ (o : Came). o.reply) is;
        size = k.own.size ∙ ap (λ (o : Came). length o.bytes) is;
        state = stored_own i small masks numbers rows rows' r.head a b c ∙ k.own.state ∙ ap (λ (o : Came). o.terminal) is;
        lent = k.own.lent ∙ ap (λ (o : Came). front o.bytes before) is;
        others = stored_others i small masks numbers rows rows' r.head k.others;
      }

  pub calls_at : (head : Head) (b : Bool) (small' masks' numbers' : List (List ℕ)) → i < length small → i < length masks → i < length numbers
      → head ≡ head_at t i → b ≡ admits_of call (head.sequencing =? 1) → b ≡ true
      → CallsRow call i bytes head rows r rows' before after
      → (small' ≡ set small i (small_of r.head)) × (masks' ≡ set masks i (masks_of r.head)) × (numbers' ≡ set numbers i (numbers_of r.head))
      → CallsAt call i bytes t r (terminals_of small' masks' numbers' rows') before after
  unfolding terminal_at terminal_of
  calls_at head b small' masks' numbers' x y z h is can k e =
      subst (λ (u : Terminals). CallsAt call i bytes t r u before after) (λ q. terminals_of (sym e.0 q) (sym e.1 q) (sym e.2 q) rows')
      (can_call x y z (ap (λ (h : Head). admits_of call (h.sequencing =? 1)) (sym h) ∙ sym is ∙ can)
      (subst (λ (h : Head). CallsRow call i bytes h rows r rows' before after) h k))

-- one that cannot be made
pub calls_not : (call : Call) (bytes : List ℕ) (i : ℕ) (t : Terminals) (head : Head) (lent : List ℕ) (b : Bool) → head ≡ head_at t i
    → b ≡ admits_of call (head.sequencing =? 1) → b ≡ false
    → CallsAt call i bytes t (record { head = head; reply = Reply.Absent; written = 0 }) t lent lent
unfolding came_at terminal_at terminal_of
calls_not call bytes i t head lent b h e cannot =
    let refused : admits_of call (terminal_at t i).sequencing ≡ false = ap (λ (h : Head). admits_of call (h.sequencing =? 1)) (sym h) ∙ sym e ∙ cannot in
    let is : absent_at (terminal_at t i) ≡ came_at call bytes (length lent) (terminal_at t i) = when_false _ _ _ _ refused refl in
    record {
      answer = ap (λ (o : Came). o.reply) is;
      size = ap (λ (o : Came). length o.bytes) is;
      state = ap (λ (o : Came). o.terminal) is;
      lent = ap (λ (o : Came). front o.bytes lent) is;
      others = λ j n. refl;
    }

-- what is stored of a call's bytes
kept_bytes : (c : Call) (bytes lent : List ℕ) → take (kept_size c (length bytes)) (front bytes lent) ≡ take (kept_size c (length bytes)) bytes
unfolding kept_size
kept_bytes call.Submit bytes lent = take-append_seam bytes _ ∙ sym (take_all (length bytes) bytes (omega arith))
kept_bytes call.Repeat bytes lent = take-append_seam bytes _ ∙ sym (take_all (length bytes) bytes (omega arith))
kept_bytes call.Take bytes lent = refl
kept_bytes call.Status bytes lent = take-append_seam bytes _ ∙ sym (take_all (length bytes) bytes (omega arith))
kept_bytes call.Receive bytes lent = take-append_seam bytes _ ∙ sym (take_all (length bytes) bytes (omega arith))
kept_bytes (call.Invite number) bytes lent = take-append_seam bytes _ ∙ sym (take_all (length bytes) bytes (omega arith))
kept_bytes (call.Make demand) bytes lent = take-append_seam bytes _ ∙ sym (take_all (length bytes) bytes (omega arith))
kept_bytes call.Order bytes lent = take-append_seam bytes _ ∙ sym (take_all (length bytes) bytes (omega arith))
kept_bytes call.Poll bytes lent = take-append_seam bytes _ ∙ sym (take_all (length bytes) bytes (omega arith))
kept_bytes (call.Copy number) bytes lent = take-append_seam bytes _ ∙ sym (take_all (length bytes) bytes (omega arith))
kept_bytes (call.Open n number resilience i) bytes lent = take-append_seam bytes _ ∙ sym (take_all (length bytes) bytes (omega arith))

-- an event of terminal i
module _ (c : Call) (i : ℕ) (bytes : List ℕ) (world : World) (t t' : Terminals) (p p' : Packets) (called : Called) (before after : List ℕ) where
  abbrev o : Came
  o = came_at c bytes (length before) (terminal_at t i)

  abbrev g : Group
  g = group_of (record { n = world.n; terminals = t; packets = p })

  abbrev gives : Happening
  gives = record { world = record { n = world.n; count = p'.count }; reply = called.reply; written = called.written }

  pub plays : Room world → i < world.n → length before ≡ longest_packet → CallsAt c i bytes t called t' before after
      → Stores p (kept_size c called.written) after p' → p.count ≡ world.count
      → Plays (happened_at c i bytes) world (record { n = world.n; terminals = t; packets = p }) gives (record { n = world.n; terminals = t'; packets = p' }) before after
  unfolding happened_at
  plays has h room k s count =
      let b = wrote o.bytes before after called.written k.size k.lent in
      let z : take (kept_size c called.written) after ≡ take (kept_size c (length o.bytes)) o.bytes =
      (λ x. take (kept_size c (k.size x)) (k.lent x)) ∙ kept_bytes c o.bytes before
      in
      let m : terminal_at t i ≡ reset.terminal_at g i = sym (lists_get (terminal_at t) no_terminal world.n i h) in
      let happens : leads g i c o ≡ happened_at c i bytes g =
      (λ x. leads g i c (came_at c bytes (room x) (m x)))
      ∙ when_true _ _ _ _ (lt-ltb i (length g.terminals) (rw (length_list (terminal_at t) 0 world.n) h)) refl
      in
      let ts : list_of (terminal_at t') 0 world.n ≡ set (list_of (terminal_at t) 0 world.n) i o.terminal =
      lists_set (terminal_at t) (terminal_at t') o.terminal world.n i h k.state k.others
      in
      record {
        group = λ _.
            (λ x. record { terminals = ts x; packets = (s.packets ∙ ap (λ (l : List ℕ). packets_in p ++ written l) z) x })
            ∙ ap (λ (h : Happened). h.group) happens;
        answer = λ _. (λ x. answer_of (k.answer x) (b x)) ∙ ap (λ (h : Happened). h.answer) happens;
        stays = λ no. absurd (no has);
        lent = behind o.bytes before after called.written k.size k.lent;
        size = fits o.bytes before after called.written k.size k.lent s.full;
        same = refl;
        most = let q = s.most in omega arith;
        terminals = λ j n. k.others j (λ e. omega arith);
        packets = λ j n. s.others j (λ e. n (e ∙ count));
      }

-- an event that names a packet or terminal that is not there
pub plays_not : (happens : Group → Happened) (world : World) (w : Whole) (lent : List ℕ)
    → (Room world → missing (group_of w) ≡ happens (group_of w)) → Plays happens world w (nothing world) w lent lent
unfolding answer_of
plays_not happens world w lent e =
    record {
      group = λ room. ap (λ (h : Happened). h.group) (e room);
      answer = λ room. ap (λ (h : Happened). h.answer) (e room);
      stays = λ _. (refl, refl);
      lent = refl;
      size = omega arith;
      same = refl;
      most = omega arith;
      terminals = λ j n. refl;
      packets = λ k n. refl;
    }

-- there is no terminal i
pub no_terminal_lem : (c : Call) (i : ℕ) (bytes : List ℕ) (w : Whole) → w.n ≤ i → missing (group_of w) ≡ happened_at c i bytes (group_of w)
unfolding happened_at
no_terminal_lem c i bytes w h = when_false _ _ _ _ (le-ltb i (length (group_of w).terminals) (rw (length_list (terminal_at w.terminals) 0 w.n) h)) refl

-- what happens by another name
pub plays_as : (happens happens' : Group → Happened) (world : World) (w w' : Whole) (r : Happening) (before after : List ℕ)
    → (Room world → happens (group_of w) ≡ happens' (group_of w))
    → Plays happens world w r w' before after → Plays happens' world w r w' before after
plays_as happens happens' world w w' r before after e a =
    record {
      group = λ room. a.group room ∙ ap (λ (h : Happened). h.group) (e room);
      answer = λ room. a.answer room ∙ ap (λ (h : Happened). h.answer) (e room);
      stays = a.stays;
      lent = a.lent;
      size = a.size;
      same = a.same;
      most = a.most;
      terminals = a.terminals;
      packets = a.packets;
    }
