-- The fields and the payload of a packet that was made of them, and the packet made of the fields and payload that stand in
-- one: each number by the law of its bytes. Assumes nothing.
use mathlib.Core.Path.{◌≡◌, refl, sym, ap, ◌∙◌}
use mathlib.Core.List.{List, ◌∷◌, ◌++◌, append_assoc}
use Prim.Native.Nat.{ℕ, ◌+◌, ◌≤◌, ◌<◌}
use native.Mathlib.Omega.{arith}
use lib.ListN.{length, get_or, drop, length-append}
use lib.Seq.{drop_at, drop-cons}
use Rattle.group.specs.Limits.{header_size}
use Rattle.big_endian.specs.Laws.{Bytes}
use Rattle.packet.specs.Laws.{Fits}
use Rattle.big_endian.specs.Number.{number_at, bytes_of}
use Rattle.packet.specs.Packet.{header_of, length_at, payload_at, header_bytes, packet_of}
use Rattle.packet.specs.declared.Header.{Header}
use Rattle.big_endian.proofs.Number.{bytes_cons, bytes_append, bytes_of-bytes, number_of_bytes, number_behind, number_fits, bytes_of_number_then}

pub header_bytes-length : (h : Header) (l : ℕ) → length (header_bytes h l) ≡ header_size
unfolding header_bytes bytes_of
header_bytes-length h l = refl

module _ (h : Header) (payload : List ℕ) where
  pub packet_length : length (packet_of h payload) ≡ header_size + length payload
  unfolding packet_of
  packet_length = length-append (header_bytes h (length payload)) payload ∙ ap (λ (n : ℕ). n + length payload) (header_bytes-length h (length payload))

  pub payload_back : payload_at (packet_of h payload) ≡ payload
  unfolding packet_of
  payload_back = drop_at (header_bytes h (length payload)) payload header_size (header_bytes-length h (length payload))

  pub length_back : length payload < 65536 → length_at (packet_of h payload) ≡ length payload
  unfolding packet_of header_bytes bytes_of
  length_back f = number_behind 2 (packet_of h payload) 2 ∙ number_of_bytes 2 (length payload) _ f

  pub header_back : Fits h → header_of (packet_of h payload) ≡ h
  unfolding header_of packet_of header_bytes bytes_of
  header_back f =
      let p = packet_of h payload in
      let g : number_at 4 p 4 ≡ h.group = number_behind 4 p 4 ∙ number_of_bytes 4 h.group _ (omega arith) in
      let a : number_at 4 p 8 ≡ h.a = number_behind 4 p 8 ∙ number_of_bytes 4 h.a _ (omega arith) in
      let b : number_at 4 p 12 ≡ h.b = number_behind 4 p 12 ∙ number_of_bytes 4 h.b _ (omega arith) in
      let c : number_at 4 p 16 ≡ h.c = number_behind 4 p 16 ∙ number_of_bytes 4 h.c _ (omega arith) in
      λ i. record { kind = h.kind; member = h.member; group = g i; a = a i; b = b i; c = c i }

  pub packet_bytes : Fits h → Bytes payload → Bytes (packet_of h payload)
  unfolding packet_of header_bytes
  packet_bytes f b = search (bytes_append, bytes_cons, bytes_of-bytes) depth 12

module _ (p : List ℕ) (bytes : Bytes p) (long : header_size ≤ length p) where
  pub header_fits : Fits (header_of p)
  unfolding Bytes header_of
  header_fits =
      let g = number_fits p bytes 4 4 (omega arith) in
      let a = number_fits p bytes 4 8 (omega arith) in
      let b = number_fits p bytes 4 12 (omega arith) in
      let c = number_fits p bytes 4 16 (omega arith) in
      record { kind = bytes 0 (omega arith); member = bytes 1 (omega arith); group = omega arith; a = omega arith; b = omega arith; c = omega arith }

  behind_two : (bytes_of 2 (length_at p) ++ (bytes_of 4 (number_at 4 p 4) ++ (bytes_of 4 (number_at 4 p 8) ++ (bytes_of 4 (number_at 4 p 12) ++ bytes_of 4 (number_at 4 p 16))))) ++ payload_at p ≡ drop 2 p
  behind_two =
      simp append_assoc
      (rw (bytes_of_number_then p bytes 4 16 (omega arith), bytes_of_number_then p bytes 4 12 (omega arith), bytes_of_number_then p bytes 4 8 (omega arith), bytes_of_number_then p bytes 4 4 (omega arith))
      (bytes_of_number_then p bytes 2 2 (omega arith)))

  pub packet_back : length (payload_at p) ≡ length_at p → packet_of (header_of p) (payload_at p) ≡ p
  unfolding header_of packet_of header_bytes
  packet_back e =
      rw e
      (ap (λ (l : List ℕ). get_or p 0 0 ∷ get_or p 1 0 ∷ l) behind_two
      ∙ ap (λ (l : List ℕ). get_or p 0 0 ∷ l) (sym (drop-cons p 1 0 (omega arith)))
      ∙ sym (drop-cons p 0 0 (omega arith)))
