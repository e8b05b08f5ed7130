-- From what an event does to the parts that it is lent to what it does to the whole group. Assumes nothing.
use mathlib.Core.Path.{◌≡◌, refl, ap, ◌∙◌}
use mathlib.Core.List.{List}
use Prim.Native.Nat.{ℕ}
use native.Mathlib.Omega.{arith}
use lib.ListN.{length, take, get_or}
use lib.Seq.{take_all}
use Rattle.group.specs.Choice.{when◌then◌else◌, ◌<?◌}
use Rattle.group.specs.Limits.{longest_packet}
use Rattle.group.specs.declared.Group as group
use Rattle.member.specs.Calls as member
use Rattle.member.specs.State.{Member}
use Rattle.model.specs.World as world
use Rattle.model.specs.World.{Event, Group, Happened, missing, with_member, no_member, at_member, happen}
use Rattle.packet.specs.Packet.{written}
use Rattle.sequencer.specs.View as sequencerView
use Rattle.sequencer.specs.State.{Sequencer}
use Rattle.sequencer.specs.declared.Head as sequencerHead
use Rattle.simulator.specs.Steps.{kept_size, outcome_of, happened_at, Acts, Sequences}
use Rattle.simulator.specs.Whole.{Room, Rows, terminals_of, Terminals, member_at, members_in, Packets, packets_in, group_of, Whole, Plays}
use Rattle.simulator.specs.declared.Happening.{Happening}
use Rattle.simulator.specs.declared.Head.{Head}
use Rattle.simulator.specs.declared.MemberCall.TheVariants as call

-- a call of a member that writes packets; all of its bytes are the packet
module _ (i : ℕ) (g : Group) where
  written_all : (o : member.Outcome)
      → (when i <? length g.members then with_member g i o (written (take (length o.bytes) o.bytes)) else missing g)
      ≡ (when i <? length g.members then with_member g i o (written o.bytes) else missing g)
  written_all o =
      ap (λ (b : List ℕ). when i <? length g.members then with_member g i o (written b) else missing g) (take_all (length o.bytes) o.bytes (omega arith))

  pub submit_is : (payload : List ℕ) → happened_at call.Submit i payload g ≡ happen g (world.submit i payload)
  unfolding happened_at outcome_of kept_size happen
  submit_is payload = written_all (member.submit_of (get_or g.members i no_member) payload longest_packet)

  pub repeat_is : (bytes : List ℕ) → happened_at call.Repeat i bytes g ≡ happen g (world.repeat i)
  unfolding happened_at outcome_of kept_size happen
  repeat_is bytes = written_all (member.repeat_of (get_or g.members i no_member) longest_packet)

  pub take_is : (bytes : List ℕ) → happened_at call.Take i bytes g ≡ happen g (world.take i)
  unfolding happened_at outcome_of kept_size happen written
  take_is bytes = refl

  pub status_is : (bytes : List ℕ) → happened_at call.Status i bytes g ≡ happen g (world.status i)
  unfolding happened_at outcome_of kept_size happen
  status_is bytes = written_all (member.status_of (get_or g.members i no_member) longest_packet)

  pub receive_is : (bytes : List ℕ) → happened_at call.Receive i bytes g ≡ at_member g i (λ m. member.receive_of m bytes longest_packet)
  unfolding happened_at outcome_of kept_size
  receive_is bytes = written_all (member.receive_of (get_or g.members i no_member) bytes longest_packet)

-- an event of a member, whatever its name
pub acts_as : (happened happened' : Group → Happened) (head : Head) (t t' : Terminals) (p p' : Packets) (r : Happening) (before after : List ℕ)
    → (Room head → (s : Sequencer) → happened (record { sequencer = s; members = members_in t; packets = packets_in p }) ≡ happened' (record { sequencer = s; members = members_in t; packets = packets_in p }))
    → Acts happened head t p r t' p' before after → Acts happened' head t p r t' p' before after
acts_as happened happened' head t t' p p' r before after e a =
    record {
      group = λ room s. a.group room s ∙ ap (λ (h : Happened). h.group) (e room s);
      answer = λ room s. a.answer room s ∙ ap (λ (h : Happened). h.answer) (e room s);
      stays = a.stays;
      lent = a.lent;
      size = a.size;
      same = a.same;
      most = a.most;
      members = a.members;
      packets = a.packets;
    }

-- and of the sequencer
pub sequences_as : (happened happened' : Group → Happened) (head : Head) (s s' : sequencerView.Stored) (p p' : Packets) (r : Happening) (before after : List ℕ)
    → (Room head → (members : List Member) → happened (record { sequencer = sequencerView.view_of s; members = members; packets = packets_in p }) ≡ happened' (record { sequencer = sequencerView.view_of s; members = members; packets = packets_in p }))
    → Sequences happened head s p r s' p' before after → Sequences happened' head s p r s' p' before after
sequences_as happened happened' head s s' p p' r before after e a =
    record {
      group = λ room m. a.group room m ∙ ap (λ (h : Happened). h.group) (e room m);
      answer = λ room m. a.answer room m ∙ ap (λ (h : Happened). h.answer) (e room m);
      stays = a.stays;
      lent = a.lent;
      size = a.size;
      same = a.same;
      most = a.most;
      packets = a.packets;
    }

module _ (event : Event) (happened : Group → Happened) (is : (g : Group) → happened g ≡ happen g event) (head : Head) (r : Happening) (p p' : Packets) (before after : List ℕ) where
  -- the sequencer stays, so its head does
  pub plays_member : (sequencer : sequencerHead.Head → sequencerView.Stored) (numbers numbers' : List (List ℕ)) (rows rows' : Rows) → p.count ≡ head.count
      → Acts happened head (terminals_of head.sequencer.group numbers rows) p r (terminals_of head.sequencer.group numbers' rows') p' before after
      → Plays event head (record { sequencer = sequencer head.sequencer; terminals = terminals_of head.sequencer.group numbers rows; packets = p }) r.head r.reply r.written
      (record { sequencer = sequencer r.head.sequencer; terminals = terminals_of r.head.sequencer.group numbers' rows'; packets = p' }) before after
  plays_member sequencer numbers numbers' rows rows' count a =
      let s = sequencerView.view_of (sequencer head.sequencer) in
      let w : Whole = record { sequencer = sequencer head.sequencer; terminals = terminals_of head.sequencer.group numbers rows; packets = p } in
      record {
        group = λ room.
            ap (λ (h : sequencerHead.Head). group_of (record { sequencer = sequencer h; terminals = terminals_of h.group numbers' rows'; packets = p' })) a.same
            ∙ a.group room s
            ∙ ap (λ (h : Happened). h.group) (is (group_of w));
        answer = λ room. a.answer room s ∙ ap (λ (h : Happened). h.answer) (is (group_of w));
        stays = λ no.
            let z = a.stays no in
            record {
              head_is = ap (λ (x : Happening). x.head) z.0;
              reply_is = ap (λ (x : Happening). x.reply) z.0;
              written_is = ap (λ (x : Happening). x.written) z.0;
              whole_is =
                  ap (λ (x : Happening). record { sequencer = sequencer x.head.sequencer; terminals = terminals_of x.head.sequencer.group numbers' rows'; packets = p' }) z.0
                  ∙ (λ x. record { sequencer = sequencer head.sequencer; terminals = z.1 x; packets = z.2 x });
            };
        lent = a.lent;
        size = a.size;
        same = ap (λ (h : sequencerHead.Head). h.group.n) a.same;
        most = a.most;
        members = λ j n. ap (λ (h : sequencerHead.Head). member_at (terminals_of h.group numbers' rows') j) a.same ∙ a.members j n;
        packets = λ k n. a.packets k (λ e. n (e ∙ count));
      }

  -- the members stay, and the description of their group does
  pub plays_sequencer : (s s' : sequencerView.Stored) (numbers : List (List ℕ)) (rows : Rows) → p.count ≡ head.count
      → Sequences happened head s p r s' p' before after
      → Plays event head (record { sequencer = s; terminals = terminals_of head.sequencer.group numbers rows; packets = p }) r.head r.reply r.written
      (record { sequencer = s'; terminals = terminals_of r.head.sequencer.group numbers rows; packets = p' }) before after
  plays_sequencer s s' numbers rows count a =
      let w : Whole = record { sequencer = s; terminals = terminals_of head.sequencer.group numbers rows; packets = p } in
      record {
        group = λ room.
            ap (λ (g : group.Group). group_of (record { sequencer = s'; terminals = terminals_of g numbers rows; packets = p' })) a.same
            ∙ a.group room (members_in w.terminals)
            ∙ ap (λ (h : Happened). h.group) (is (group_of w));
        stays = λ no.
            let z = a.stays no in
            record {
              head_is = ap (λ (x : Happening). x.head) z.0;
              reply_is = ap (λ (x : Happening). x.reply) z.0;
              written_is = ap (λ (x : Happening). x.written) z.0;
              whole_is = λ x. record { sequencer = z.1 x; terminals = terminals_of (z.0 x).head.sequencer.group numbers rows; packets = z.2 x };
            };
        answer = λ room. a.answer room (members_in w.terminals) ∙ ap (λ (h : Happened). h.answer) (is (group_of w));
        lent = a.lent;
        size = a.size;
        same = ap (λ (g : group.Group). g.n) a.same;
        most = a.most;
        members = λ j n. ap (λ (g : group.Group). member_at (terminals_of g numbers rows) j) a.same;
        packets = λ k n. a.packets k (λ e. n (e ∙ count));
      }
