-- A list is read off one packet more, and a place and a terminal more are written; the lists of a group are those of the code's members
-- and packets. Assumes nothing.
use mathlib.Core.Path.{◌≡◌, refl, sym, ap, ◌∙◌, subst}
use mathlib.Core.List.{List, [], ◌∷◌, ◌++◌}
use Prim.Native.Nat.{ℕ, zero, suc, ◌+◌, ◌-◌, ◌≤◌, ◌<◌}
use native.Mathlib.Numerals.{add-one}
use native.Mathlib.Omega.{arith}
use lib.ListN.{length, get_or, length-map, get_or-map}
use Rattle.group.proofs.Choice.{when_eq, when_ne}
use Rattle.group.specs.declared.MemberNumber.{MemberNumber}
use Rattle.jobs.specs.Job.{unused_state, waiting_state, no_job}
use Rattle.jobs.specs.declared.Job.{Job}
use Rattle.member.specs.State.{Member}
use Rattle.model.specs.World.{Group, no_member}
use Rattle.packet.specs.Packet.{read_of, payload_at}
use Rattle.player.specs.Player.{taken_at}
use Rattle.simulator.proofs.Lists.{length_list, lists_get}
use Rattle.simulator.specs.Whole.{list_of, Packets, packet_at}
use Rattle.simulator.specs.declared.Head.{Head}
use Rattle.terminal.specs.Left.{heard_of, heard_all, fresh_left, list_in}
use Rattle.terminal.specs.declared.Left.{Left}
use Rattle.text.specs.LaidAt.{LaidAt}
use Rattle.text.specs.Text.{text_of}
use Rattle.text.specs.Written.{decimal_of, spaced}
use Rattle.inspection.specs.Lists.{holder_text, used_line, job_line, job_lines, list_lines, list_on, Listed}

-- the holder of a job that waits, and of one that does not
pub waiting_text : (state : ℕ) (m : MemberNumber) → state ≡ waiting_state → text_of "waiting" ≡ holder_text state m
unfolding holder_text
waiting_text state m h = when_eq state waiting_state (text_of "waiting") (text_of "waiting") (decimal_of m.0) h refl

pub holder_text_lem : (state : ℕ) (m : MemberNumber) → (state ≡ waiting_state → ⊥) → decimal_of m.0 ≡ holder_text state m
unfolding holder_text
holder_text_lem state m h = when_ne state waiting_state (decimal_of m.0) (text_of "waiting") (decimal_of m.0) h refl

-- the line of an unused record, and of another
pub unused_line : (i place : ℕ) (job : Job) → job.state ≡ unused_state → [] ≡ job_line i place job
unfolding job_line
unused_line i place job h = when_eq job.state unused_state [] [] (used_line i place job) h refl

pub used_line_lem : (i place : ℕ) (job : Job) → (job.state ≡ unused_state → ⊥) → used_line i place job ≡ job_line i place job
unfolding job_line
used_line_lem i place job h = when_ne job.state unused_state (used_line i place job) [] (used_line i place job) h refl

-- a field under another name
pub field_as : {at next : ℕ} {lent after : List ℕ} (a b : List ℕ) → a ≡ b → LaidAt at (spaced (a ∷ [])) lent after next → LaidAt at (spaced (b ∷ [])) lent after next
field_as {at} {next} {lent} {after} a b e f = subst (λ (l : List ℕ). LaidAt at (spaced (l ∷ [])) lent after next) e f

-- a packet more is heard
pub heard_on : (t : ℕ) (left : Left) (p : Packets) (count k : ℕ) → k < count
    → heard_all t left (list_of (packet_at p) k (count - k))
    ≡ heard_all t (heard_of t left (read_of (packet_at p k)) (payload_at (packet_at p k))) (list_of (packet_at p) (k + 1) (count - (k + 1)))
unfolding heard_all list_of
heard_on t left p count k b =
    let e : count - k ≡ suc (count - (k + 1)) = omega arith in ap (λ (n : ℕ). heard_all t left (list_of (packet_at p) k n)) e

-- all are heard
pub heard_end : (t : ℕ) (left : Left) (p : Packets) (count k : ℕ) → count ≤ k → heard_all t left (list_of (packet_at p) k (count - k)) ≡ left
unfolding heard_all list_of
heard_end t left p count k b =
    let e : count - k ≡ 0 = omega arith in ap (λ (n : ℕ). heard_all t left (list_of (packet_at p) k n)) e

-- one place more, and one terminal more
pub jobs_on : (i : ℕ) (jobs : List Job) (k : ℕ) → job_lines i jobs (k + 1) ≡ job_lines i jobs k ++ job_line i k (get_or jobs k no_job)
unfolding job_lines
jobs_on i jobs k = rw (add-one k) refl

pub lists_on : (list : ℕ → List Job) (k : ℕ) → list_lines list (k + 1) ≡ list_lines list k ++ job_lines k (list k) (length (list k))
unfolding list_lines
lists_on list k = rw (add-one k) refl

pub no_jobs_yet : (i : ℕ) (jobs : List Job) → job_lines i jobs 0 ≡ []
unfolding job_lines
no_jobs_yet i jobs = refl

pub no_lists_yet : (list : ℕ → List Job) → list_lines list 0 ≡ []
unfolding list_lines
no_lists_yet list = refl

lists_same : (list other : ℕ → List Job) (k : ℕ) → ((i : ℕ) → i < k → list i ≡ other i) → list_lines list k ≡ list_lines other k
unfolding list_lines
lists_same list other zero e = refl
lists_same list other (suc k) e =
    ap (λ (l : List ℕ). l ++ job_lines k (list k) (length (list k))) (lists_same list other k (λ i b. e i (omega arith)))
    ∙ ap (λ (l : List Job). list_lines other k ++ job_lines k l (length l)) (e k (omega arith))

-- the lists of a group that is shown by its head, rows and packets
pub lists_of : (head : Head) (numbers packets : List (List ℕ)) (g : Group) → Listed head numbers packets g
    → list_lines (list_on numbers packets) head.sequencer.group.n ≡ list_lines (list_in g) (length g.members)
lists_of head numbers packets g s =
    let n = head.sequencer.group.n in
    let taken : Member → ℕ = λ m. m.taken.0 in
    let e : length g.members ≡ n = sym (length-map g.members taken) ∙ ap length s.shown.members ∙ length_list (taken_at numbers) 0 n in
    lists_same (list_on numbers packets) (list_in g) n
    (λ i b.
    let m : taken_at numbers i ≡ taken (get_or g.members i no_member) =
    sym (sym (get_or-map taken g.members i no_member) ∙ ap (λ (l : List ℕ). get_or l i (taken no_member)) s.shown.members ∙ lists_get (taken_at numbers) (taken no_member) n i b) in
    λ j. (heard_all (m j) fresh_left (sym s.written j)).jobs)
    ∙ ap (list_lines (list_in g)) (sym e)
