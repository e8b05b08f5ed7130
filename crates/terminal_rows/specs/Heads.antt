-- A terminal's head as rows of numbers, by their width.
use Rattle.std.specs.Prelude.{List, [], ◌∷◌, ℕ, get_or}
use Rattle.group.specs.Choice.{when◌then◌else◌, ◌=?◌}
use Rattle.recovery.specs.declared.Head.{Head}

-- a flag is set if it is 1
unfoldable pub flag_of : ℕ → ℕ
flag_of stored = when stored =? 1 then 1 else 0

-- the head whose rows these are
abbrev pub head_in : List ℕ → List ℕ → List ℕ → Head
head_in small masks numbers =
    record {
      member =
          record {
            group =
                record {
                  n = get_or small 0 0;
                  resilience = get_or small 1 0;
                  survivors = get_or masks 0 0;
                  elected = record { 0 = get_or small 2 0 };
                  number = get_or numbers 0 0;
                };
            number = record { 0 = get_or small 3 0 };
            taken = record { 0 = get_or numbers 1 0 };
            accepted = record { 0 = get_or numbers 2 0 };
            submitted = get_or numbers 3 0;
            waiting = get_or numbers 4 0;
          };
      sequencer =
          record {
            group =
                record {
                  n = get_or small 4 0;
                  resilience = get_or small 5 0;
                  survivors = get_or masks 1 0;
                  elected = record { 0 = get_or small 6 0 };
                  number = get_or numbers 5 0;
                };
            top = record { 0 = get_or numbers 6 0 };
            accepted = record { 0 = get_or numbers 7 0 };
            floor = record { 0 = get_or numbers 8 0 };
          };
      read = record { 0 = get_or numbers 9 0 };
      attempt = get_or numbers 10 0;
      number = record { 0 = get_or numbers 11 0 };
      invited = get_or numbers 12 0;
      repliers = get_or masks 2 0;
      replied = flag_of (get_or small 7 0);
      inviting = flag_of (get_or small 8 0);
      sequencing = flag_of (get_or small 9 0);
      frozen = flag_of (get_or small 10 0);
    }

-- the rows of a head
abbrev pub small_of : Head → List ℕ
small_of h =
    h.member.group.n ∷ h.member.group.resilience ∷ h.member.group.elected.0 ∷ h.member.number.0
    ∷ h.sequencer.group.n ∷ h.sequencer.group.resilience ∷ h.sequencer.group.elected.0
    ∷ h.replied ∷ h.inviting ∷ h.sequencing ∷ h.frozen ∷ []

abbrev pub masks_of : Head → List ℕ
masks_of h = h.member.group.survivors ∷ h.sequencer.group.survivors ∷ h.repliers ∷ []

abbrev pub numbers_of : Head → List ℕ
numbers_of h =
    h.member.group.number ∷ h.member.taken.0 ∷ h.member.accepted.0 ∷ h.member.submitted ∷ h.member.waiting
    ∷ h.sequencer.group.number ∷ h.sequencer.top.0 ∷ h.sequencer.accepted.0 ∷ h.sequencer.floor.0
    ∷ h.read.0 ∷ h.attempt ∷ h.number.0 ∷ h.invited ∷ []
