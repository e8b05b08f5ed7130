-- Before a group is made the world is a group of `model` in which some events are refused: a terminal that replied refuses the group's
-- packets, and what it replied stays what it would reply. Assumes nothing.
use mathlib.Core.Path.{◌≡◌, refl, sym, ap, ◌∙◌, subst}
use mathlib.Core.Logic.{◌≢◌, ◌⊎◌, inl, inr}
use mathlib.Core.Bool.{true}
use mathlib.Core.Option.{some}
use mathlib.Core.List.{List, [], ◌++◌}
use Prim.Native.Nat.{ℕ, ◌≤◌, ◌<◌}
use native.Mathlib.Omega.{arith}
use lib.ListN.{length, get_or, set, get_elem?, length-set}
use lib.Seq.{get_or-set_same, get_or-set_other}
use Rattle.group.proofs.Lists.{eq_or, All, all_append, all_map, get_append}
use Rattle.group.specs.Choice.{◌=?◌}
use Rattle.group.specs.Limits.{members_most, places_most, largest_number}
use Rattle.group.specs.Members.{is_in}
use Rattle.member.specs.State.{Member}
use Rattle.model.specs.World as model
use Rattle.model.specs.World.{Answer, absent, by_sequencer, by_member}
use Rattle.packet.specs.Laws.{Allowed}
use Rattle.packet.specs.Packet.{fields_of, packet_of}
use Rattle.packet.specs.declared.Packet.{Packet}
use Rattle.sequencer.specs.Laws as sequencerLaws
use Rattle.sequencer.specs.State.{Sequencer}
use Rattle.recovery.proofs.Keeping.{sound_of_lem}
use Rattle.recovery.specs.Sound.{terminal_sound}
use Rattle.recovery.specs.State.{Reset, Terminal, reply_number}
use Rattle.reset.specs.World.{Group, no_terminal, terminal_at}

-- a terminal replied, with a number
abbrev pub Replied : Terminal → ℕ → Type 0
Replied t number = (t.reset.replied ≡ true) × (reply_number t ≡ number)

-- a terminal that replied still does, with the same number
pub record Steady (t t' : Terminal) : Type 0 where
  pub replied : t.reset.replied ≡ true → t'.reset.replied ≡ true
  pub number : t.reset.replied ≡ true → reply_number t' ≡ reply_number t

pub steady_replied : {t t' : Terminal} → Steady t t' → (number : ℕ) → Replied t number → Replied t' number
steady_replied s number r = (s.replied r.0, s.number r.0 ∙ r.1)

-- a sound terminal whose part in a reset stays replies the same
pub same_steady : (t t' : Terminal) → terminal_sound t ≡ true → terminal_sound t' ≡ true → t'.reset ≡ t.reset → Steady t t'
same_steady t t' a b e =
    record {
      replied = λ r. ap (λ (x : Reset). x.replied) e ∙ r;
      number = λ r.
          let old = (sound_of_lem t a).number_is r in
          let new = (sound_of_lem t' b).number_is (ap (λ (x : Reset). x.replied) e ∙ r) in
          sym new ∙ ap (λ (x : Reset). x.number.0) e ∙ old;
    }

-- terminal i before a making: the group's member, and, if it is 0, the group's sequencer
pub record Stands (i : ℕ) (t : Terminal) (m : Member) (s : Sequencer) : Type 0 where
  pub member_is : t.member ≡ m
  pub sound : terminal_sound t ≡ true
  pub past : length t.kept.past ≡ places_most
  pub counts : length t.kept.counts ≡ members_most
  pub replies : length t.reset.replies ≡ members_most
  pub invited : t.reset.invited ≤ largest_number
  pub typed : sequencerLaws.Typed t.sequencer
  pub sequencing_is : t.sequencing ≡ (i =? 0)
  pub sequencer_is : i ≡ 0 → t.sequencer ≡ s

-- what a packet of a reset says: a reply is what its sender would reply
abbrev pub SaysReset : (ℕ → Terminal) → ℕ → Packet → Type 0
SaysReset at n (Packet.Request sender taken count) = ⊥
SaysReset at n (Packet.Broadcast originator number count floor) = ⊥
SaysReset at n (Packet.Gap sender taken first last) = ⊥
SaysReset at n (Packet.Status sender taken) = ⊥
SaysReset at n (Packet.Poll elected top floor) = ⊥
SaysReset at n (Packet.Offer originator number count floor) = ⊥
SaysReset at n (Packet.Confirm sender number) = ⊥
SaysReset at n (Packet.Accept elected number) = ⊥
SaysReset at n (Packet.Invitation sender attempt) = Unit {0}
SaysReset at n (Packet.Reply sender attempt number) = (sender.0 < n) × Replied (at sender.0) number.0
SaysReset at n (Packet.Result sender attempt elected number) = ⊥

pub record Resets (at : ℕ → Terminal) (n number : ℕ) (p : List ℕ) : Type 0 where
  pub content : Packet
  pub bytes_are : p ≡ packet_of (fields_of number content) []
  pub allowed : Allowed (fields_of number content) []
  pub says : SaysReset at n content

-- a packet that was written: one of the group's, or one of a reset
abbrev pub Covered : (ℕ → Terminal) → ℕ → ℕ → List (List ℕ) → List ℕ → Type 0
Covered at n number packets p = ((j : ℕ) × (get_elem? packets j ≡ some p)) ⊎ Resets at n number p

-- the world and the group
pub record Rel (n number : ℕ) (w : Group) (g : model.Group) : Type 0 where
  pub size : length w.terminals ≡ n
  pub members : length g.members ≡ n
  pub each : (i : ℕ) → i < n → Stands i (terminal_at w i) (get_or g.members i model.no_member) g.sequencer
  pub covered : All (Covered (terminal_at w) n number g.packets) w.packets
  pub recorded : (i j : ℕ) → i < n → is_in (terminal_at w i).reset.repliers j ≡ true
      → (j < n) × Replied (terminal_at w j) (get_or (terminal_at w i).reset.replies j 0)

-- what was so of each terminal stays so
says_steady : (at at' : ℕ → Terminal) (n : ℕ) → ((j : ℕ) → j < n → Steady (at j) (at' j)) → (content : Packet) → SaysReset at n content → SaysReset at' n content
says_steady at at' n s (Packet.Request sender taken count) h = h
says_steady at at' n s (Packet.Broadcast originator number count floor) h = h
says_steady at at' n s (Packet.Gap sender taken first last) h = h
says_steady at at' n s (Packet.Status sender taken) h = h
says_steady at at' n s (Packet.Poll elected top floor) h = h
says_steady at at' n s (Packet.Offer originator number count floor) h = h
says_steady at at' n s (Packet.Confirm sender number) h = h
says_steady at at' n s (Packet.Accept elected number) h = h
says_steady at at' n s (Packet.Invitation sender attempt) h = tt
says_steady at at' n s (Packet.Reply sender attempt number) h = (h.0, steady_replied (s sender.0 h.0) number.0 h.1)
says_steady at at' n s (Packet.Result sender attempt elected number) h = h

covered_steady : (at at' : ℕ → Terminal) (n number : ℕ) (packets more : List (List ℕ)) → ((j : ℕ) → j < n → Steady (at j) (at' j)) → (p : List ℕ)
    → Covered at n number packets p → Covered at' n number (packets ++ more) p
covered_steady at at' n number packets more s p (inl x) = inl (x.0, get_append packets more x.0 x.1)
covered_steady at at' n number packets more s p (inr x) =
    inr (record { content = x.content; bytes_are = x.bytes_are; allowed = x.allowed; says = says_steady at at' n s x.content x.says })

-- what a call of terminal i keeps; whose replies it has then, it had, or they are what is replied
pub record Acts (n : ℕ) (w : Group) (i : ℕ) (t' : Terminal) : Type 0 where
  pub sound : terminal_sound t' ≡ true
  pub past : length t'.kept.past ≡ places_most
  pub counts : length t'.kept.counts ≡ members_most
  pub replies : length t'.reset.replies ≡ members_most
  pub invited : t'.reset.invited ≤ largest_number
  pub typed : sequencerLaws.Typed t'.sequencer
  pub sequencing : t'.sequencing ≡ (terminal_at w i).sequencing
  pub steady : Steady (terminal_at w i) t'
  pub records : (j : ℕ) → is_in t'.reset.repliers j ≡ true
      → (j < n) × (j ≢ i → Replied (terminal_at w j) (get_or t'.reset.replies j 0)) × (j ≡ i → Replied t' (get_or t'.reset.replies j 0))

module _ (n number : ℕ) (w : Group) (g : model.Group) (v : Rel n number w g) (i : ℕ) (b : i < n) (t' : Terminal) (a : Acts n w i t') where
  abbrev at' : ℕ → Terminal
  at' j = get_or (set w.terminals i t') j no_terminal

  here : at' i ≡ t'
  here = let l = v.size in get_or-set_same w.terminals i t' no_terminal (omega arith)

  other : (j : ℕ) → j ≢ i → at' j ≡ terminal_at w j
  other j q = get_or-set_other w.terminals i j t' no_terminal q

  steady_at : (j : ℕ) → j < n → Steady (terminal_at w j) (at' j)
  steady_at j c =
      eq_or j i (λ q. subst (λ (k : ℕ). Steady (terminal_at w k) (at' k)) (sym q) (subst (Steady (terminal_at w i)) (sym here) a.steady))
      (λ q. subst (Steady (terminal_at w j)) (sym (other j q)) (record { replied = λ r. r; number = λ r. refl }))

  replied_at : (j k : ℕ) → (j ≢ i → Replied (terminal_at w j) k) → (j ≡ i → Replied t' k) → Replied (at' j) k
  replied_at j k f h =
      eq_or j i (λ q. subst (λ (x : ℕ). Replied (at' x) k) (sym q) (subst (λ (x : Terminal). Replied x k) (sym here) (h q)))
      (λ q. subst (λ (x : Terminal). Replied x k) (sym (other j q)) (f q))

  -- the group's member i may have changed, and packets were written
  pub rel_member : (g' : model.Group) (more packets : List (List ℕ)) → length g'.members ≡ n → g'.packets ≡ g.packets ++ more
      → ((j : ℕ) → j ≢ i → get_or g'.members j model.no_member ≡ get_or g.members j model.no_member) → t'.member ≡ get_or g'.members i model.no_member
      → ((j : ℕ) → j < n → j ≢ i → g'.sequencer ≡ g.sequencer ⊎ (j ≢ 0)) → (i ≡ 0 → t'.sequencer ≡ g'.sequencer)
      → All (Covered at' n number g'.packets) packets
      → Rel n number (record { terminals = set w.terminals i t'; packets = w.packets ++ packets }) g'
  rel_member g' more packets size packets_are others mine same first new =
      record {
        size = length-set w.terminals i t' ∙ v.size;
        members = size;
        each = λ j c.
            eq_or j i
            (λ q. subst (λ (k : ℕ). Stands k (at' k) (get_or g'.members k model.no_member) g'.sequencer) (sym q)
            (subst (λ (x : Terminal). Stands i x (get_or g'.members i model.no_member) g'.sequencer) (sym here)
            (record {
              member_is = mine;
              sound = a.sound;
              past = a.past;
              counts = a.counts;
              replies = a.replies;
              invited = a.invited;
              typed = a.typed;
              sequencing_is = a.sequencing ∙ (v.each i b).sequencing_is;
              sequencer_is = first;
            })))
            (λ q.
            let s = v.each j c in
            subst (λ (x : Terminal). Stands j x (get_or g'.members j model.no_member) g'.sequencer) (sym (other j q))
            (record {
              member_is = s.member_is ∙ sym (others j q);
              sound = s.sound;
              past = s.past;
              counts = s.counts;
              replies = s.replies;
              invited = s.invited;
              typed = s.typed;
              sequencing_is = s.sequencing_is;
              sequencer_is = λ z. at_first (same j c q) z (s.sequencer_is z);
            }));
        covered =
            all_append _ w.packets packets
            (subst (λ (l : List (List ℕ)). All (Covered at' n number l) w.packets) (sym packets_are)
            (all_map _ _ (λ p. covered_steady (terminal_at w) at' n number g.packets more steady_at p) w.packets v.covered))
            new;
        recorded = λ j k c e. recorded' j k c e;
      }
    where
      at_first : {j : ℕ} → (g'.sequencer ≡ g.sequencer) ⊎ (j ≢ 0) → j ≡ 0 → {x : Sequencer} → x ≡ g.sequencer → x ≡ g'.sequencer
      at_first (inl e) z h = h ∙ sym e
      at_first (inr f) z h = absurd (f z)

      recorded' : (j k : ℕ) → j < n → is_in (at' j).reset.repliers k ≡ true → (k < n) × Replied (at' k) (get_or (at' j).reset.replies k 0)
      recorded' j k c e =
          eq_or j i
          (λ q. subst (λ (x : ℕ). is_in (at' x).reset.repliers k ≡ true → (k < n) × Replied (at' k) (get_or (at' x).reset.replies k 0)) (sym q)
          (subst (λ (x : Terminal). is_in x.reset.repliers k ≡ true → (k < n) × Replied (at' k) (get_or x.reset.replies k 0)) (sym here)
          (λ h. let r = a.records k h in (r.0, replied_at k _ r.1 r.2))) e)
          (λ q. subst (λ (x : Terminal). is_in x.reset.repliers k ≡ true → (k < n) × Replied (at' k) (get_or x.reset.replies k 0)) (sym (other j q))
          (λ h. let r = v.recorded j k c h in (r.0, steady_replied (steady_at k r.0) _ r.1)) e)
