-- What a verdict makes of a reading and of a writing. Assumes nothing.
use Rattle.group.specs.Question.{all_yes}
use Rattle.std.specs.Prelude.{Ok, Err}
use mathlib.Core.Path.{◌≡◌, refl, sym, ap, ◌∙◌, subst}
use mathlib.Core.Logic.{◌≢◌}
use mathlib.Core.Bool.{true}
use mathlib.Core.List.{List, []}
use Prim.Native.Nat.{ℕ, ◌+◌, ◌-◌, ◌^◌, ◌<◌, ◌≤◌}
use native.Mathlib.Omega.{arith}
use borrow.Author.Rules.{rules}
use borrow.Author.Tests.{leb-true, eqb-true}
use lib.ListN.{length, take, length-drop}
use lib.Seq.{take_all}
use Rattle.group.specs.Choice.{when◌then◌else◌, ◌and◌, ◌≤?◌, ◌=?◌}
use Rattle.group.specs.Limits.{members_most, header_size, payload_most, longest_packet}
use Rattle.group.specs.Members.{is_in}
use Rattle.group.specs.Question.{judged}
use Rattle.group.specs.declared.Refusal.{Refusal}
use Rattle.group.specs.declared.Refusal.TheVariants.{ShortOutput, PacketSize, UnknownKind, PayloadLength, ForbiddenFields, LongPayload}
use Rattle.group.specs.Question.{Verdict}
use Rattle.group.proofs.Choice.{choices, tests, when_was, both_first, both_then}
use Rattle.group.proofs.Members.{in_lt}
use Rattle.group.proofs.Question.{accepted≢, judged_was}
use Rattle.big_endian.specs.Laws.{Bytes}
use Rattle.big_endian.proofs.Number.{number_behind, number_fits}
use Rattle.packet.specs.Packet.{accept_kind, reply_kind, result_kind, header_of, length_at, payload_at, survivors_size, survivors_in, known_kind, payload_fits, obeys, fields_verdict, read_of, packet_of, write_verdict, write_of, Named}
use Rattle.packet.specs.declared.Header.{Header}
use Rattle.packet.specs.Answers.{Reading}
use Rattle.packet.specs.Answers.{Writing}

-- a packet of the right size is read as its verdict says
pub read_by : (p : List ℕ) (h : Header) (l : ℕ) (v : Verdict) → header_size ≤ length p → length p ≤ longest_packet
    → h ≡ header_of p → l ≡ length_at p → v ≡ fields_verdict h l (payload_at p)
    → judged v Err (Ok h) ≡ read_of p
unfolding read_of
read_by p h l v lo hi eh el ev = rw (ev, eh, el) (search (choices, tests, rules) depth 9)

-- what fields that are accepted were asked
pub record Askable (h : Header) (l : ℕ) (payload : List ℕ) : Type 0 where
  pub known : known_kind h.kind ≡ true
  pub fits : payload_fits h.kind l (length payload) ≡ true
  pub obey : obeys h payload ≡ true
  pub size : length payload ≡ l

pub askable : (h : Header) (l : ℕ) (payload : List ℕ) → fields_verdict h l payload ≡ all_yes → Askable h l payload
unfolding fields_verdict payload_fits
askable h l payload e =
    let k = when_was _ _ _ all_yes e (accepted≢ UnknownKind) in
    let f = when_was _ _ _ all_yes k.1 (accepted≢ PayloadLength) in
    let o = when_was _ _ _ all_yes f.1 (accepted≢ ForbiddenFields) in
    let s = both_first (length payload =? l) _ f.0 in
    record { known = k.0; fits = f.0; obey = o.0; size = eqb-true (length payload) l s }

-- a payload that fits L fits its own length; that of a result is two bytes long
pub fits_size : (kind l size : ℕ) → payload_fits kind l size ≡ true → payload_fits kind size size ≡ true
unfolding payload_fits
fits_size kind l size e =
    let s : size ≡ l = eqb-true size l (both_first (size =? l) _ e) in
    subst (λ (n : ℕ). payload_fits kind n size ≡ true) (sym s) e

pub kind_low : (kind : ℕ) → known_kind kind ≡ true → 1 ≤ kind
unfolding known_kind
kind_low kind e = leb-true 1 kind (both_first (1 ≤? kind) _ e)

pub kind_high : (kind : ℕ) → known_kind kind ≡ true → kind ≤ result_kind
unfolding known_kind
kind_high kind e = leb-true kind result_kind (both_then (1 ≤? kind) _ e)

result_fits : (size : ℕ) → payload_fits result_kind size size ≡ true → (size =? survivors_size) ≡ true
unfolding payload_fits when◌then◌else◌
result_fits size e = both_then (size =? size) (size =? survivors_size) e

pub result_size : (kind size : ℕ) → known_kind kind ≡ true → payload_fits kind size size ≡ true → reply_kind < kind → survivors_size ≤ size
result_size kind size k f h =
    let e : kind ≡ result_kind = let z = kind_high kind k in omega arith in
    let z : size ≡ survivors_size = go (subst (λ (n : ℕ). payload_fits n size size ≡ true) e f) in
    omega arith
  where
    go : payload_fits result_kind size size ≡ true → size ≡ survivors_size
    go e = eqb-true size survivors_size (result_fits size e)

-- a kind from 1 that is none of 1 to 8 is above them
next : (k kind : ℕ) → k ≤ kind → kind ≢ k → k + 1 ≤ kind
next k kind low h = omega arith

pub kind_above : (kind : ℕ) → 1 ≤ kind → kind ≢ 1 → kind ≢ 2 → kind ≢ 3 → kind ≢ 4 → kind ≢ 5 → kind ≢ 6 → kind ≢ 7 → kind ≢ 8 → accept_kind < kind
kind_above kind low a b c d e f g h =
    next 8 kind (next 7 kind (next 6 kind (next 5 kind (next 4 kind (next 3 kind (next 2 kind (next 1 kind low a) b) c) d) e) f) g) h

-- what a reading that gives fields was asked
pub record Readable (p : List ℕ) (h : Header) : Type 0 where
  pub long : header_size ≤ length p
  pub short : length p ≤ longest_packet
  pub header : h ≡ header_of p
  pub l : length p - header_size ≡ length_at p
  pub fields : fields_verdict h (length p - header_size) (payload_at p) ≡ all_yes
  pub payload : length (payload_at p) ≤ payload_most

fields≢ : (h : Header) (r : Refusal) → Err r ≡ Ok h → ⊥
fields≢ h r e = let z : ◌≡◌ {A = ℕ} 0 1 = cc in omega arith

pub readable : (p : List ℕ) (h : Header) → read_of p ≡ Ok h → Readable p h
unfolding read_of
readable p h e =
    let v = fields_verdict (header_of p) (length_at p) (payload_at p) in
    let w = when_was (header_size ≤? length p and length p ≤? longest_packet) _ _ (Ok h) e (fields≢ h PacketSize) in
    let j = judged_was v Err (Ok (header_of p)) (Ok h) (fields≢ h) w.1 in
    let lo = leb-true header_size (length p) (both_first (header_size ≤? length p) _ w.0) in
    let hi = leb-true (length p) longest_packet (both_then (header_size ≤? length p) _ w.0) in
    let s : length p - header_size ≡ length_at p = sym (length-drop header_size p) ∙ (askable (header_of p) (length_at p) (payload_at p) j.0).size in
    let e : header_of p ≡ h = cc in
    record {
      long = lo;
      short = hi;
      header = sym e;
      l = s;
      fields = rw (← e) (ap (λ (n : ℕ). fields_verdict (header_of p) n (payload_at p)) s ∙ j.0);
      payload = simp length-drop (omega arith);
    }

-- of a result the survivors have B, which is then below 16: their mask is two bytes
result_named : (h : Header) (payload : List ℕ) → h.kind ≡ result_kind → obeys h payload ≡ true → is_in (survivors_in payload) h.b ≡ true
unfolding obeys when◌then◌else◌
result_named h payload k o = both_then (is_in (survivors_in payload) h.member.0) (is_in (survivors_in payload) h.b) (rw k at o)

-- what was read has a meaning
pub read_named : (p : List ℕ) → Bytes p → (h : Header) → read_of p ≡ Ok h → Named h
read_named p bytes h e =
    let r = readable p h e in
    let a = askable h (length p - header_size) (payload_at p) r.fields in (
      kind_low h.kind a.known,
      λ above.
          let k : h.kind ≡ result_kind = let z = kind_high h.kind a.known in omega arith in
          let s : survivors_size ≤ length (payload_at p) =
          result_size h.kind (length (payload_at p)) a.known (fits_size h.kind (length p - header_size) (length (payload_at p)) a.fits) above in
          let n : header_size + survivors_size ≤ length p = let z = length-drop header_size p in omega arith in
          let mask : survivors_in (payload_at p) < 2 ^ members_most = rw (← (number_behind survivors_size p header_size)) (number_fits p bytes survivors_size header_size n) in
          let q : h.b < members_most = in_lt (survivors_in (payload_at p)) h.b mask (result_named h (payload_at p) k a.obey) in
          omega arith,
    )

-- the part of a packet that was read, from byte 20 to 20 + L, is its payload
pub payload_part : (p : List ℕ) (h : Header) → read_of p ≡ Ok h
    → (header_size + length_at p ≡ length p) × (take (header_size + length_at p - header_size) (payload_at p) ≡ payload_at p)
payload_part p h e =
    let r = readable p h e in
    (omega arith, take_all (header_size + length_at p - header_size) (payload_at p) (simp length-drop (omega arith)))

-- what a writing that is accepted was asked
pub record Writable (h : Header) (payload : List ℕ) (room : ℕ) : Type 0 where
  pub enough : longest_packet ≤ room
  pub fields : fields_verdict h (length payload) payload ≡ all_yes
  pub short : length payload ≤ payload_most

pub writable : (h : Header) (payload : List ℕ) (room : ℕ) → write_verdict h payload room ≡ all_yes → Writable h payload room
unfolding write_verdict
writable h payload room e =
    let size = length payload in
    let long = when size ≤? payload_most then all_yes else Err LongPayload in
    let w = when_was (longest_packet ≤? room) (judged (fields_verdict h size payload) Err long) (Err ShortOutput) all_yes e (accepted≢ ShortOutput) in
    let j = judged_was (fields_verdict h size payload) Err long all_yes accepted≢ w.1 in
    let s = when_was (size ≤? payload_most) all_yes (Err LongPayload) all_yes j.1 (accepted≢ LongPayload) in
    record { enough = leb-true longest_packet room w.0; fields = j.0; short = leb-true size payload_most s.0 }

-- a writing that the output is long enough for goes by the verdict on the fields, and then by the payload's length
pub write_by : (h : Header) (payload : List ℕ) (room : ℕ) (v : Verdict) → longest_packet ≤ room → v ≡ fields_verdict h (length payload) payload
    → judged v Err (when length payload ≤? payload_most then all_yes else Err LongPayload) ≡ write_verdict h payload room
unfolding write_verdict
write_by h payload room v e ev = rw ev (search (choices, rules) depth 9)

-- a writing of which all that holds is accepted
pub accepted : (h : Header) (payload : List ℕ) (room : ℕ) → Writable h payload room → write_verdict h payload room ≡ all_yes
unfolding judged
accepted h payload room w =
    let s = w.short in
    sym (write_by h payload room all_yes w.enough (sym w.fields)) ∙ sym (search (choices, rules) depth 9)

module _ (h : Header) (payload : List ℕ) (room : ℕ) where
  -- what is answered and written, where the verdict is known
  pub written_not : (r : Refusal) → write_verdict h payload room ≡ Err r
      → (Err r ≡ (write_of h payload room).answer) × ([] ≡ (write_of h payload room).bytes)
  unfolding write_of judged
  written_not r e = rw e (refl, refl)

  pub written : write_verdict h payload room ≡ all_yes
      → (Ok (header_size + length payload) ≡ (write_of h payload room).answer) × (packet_of h payload ≡ (write_of h payload room).bytes)
  unfolding write_of judged
  written e = rw e (refl, refl)
