-- The places that arrays of numbers and of bytes hold: a place is read off them, laid into them, and all of them together say every
-- number and byte. Assumes nothing.
use mathlib.Core.Path.{◌≡◌, refl, sym, ap, ◌∙◌}
use mathlib.Core.List.{List, [], ◌∷◌, ◌++◌, map, append_assoc}
use Prim.Native.Nat.{ℕ, zero, suc, ◌+◌, ◌*◌, ◌-◌, ◌<◌, ◌≤◌}
use native.Mathlib.Nat.{not-suc-le-zero, le_of_suc-le-suc}
use native.Mathlib.Omega.{arith}
use lib.ListN.{length, take, drop, get_or, set, replicate, length-append, length-take, length-drop, length-replicate, take-append-drop, replicate-append-replicate}
use lib.Seq.{drop-drop, take_at, drop_at, take-add, get_or-drop, length-take-le}
use Rattle.std.proofs.lemmas.List.{nil_from_length}
use Rattle.group.specs.Limits.{payload_most}
use Rattle.message.specs.Message.{Message, blank, empty_message}
use Rattle.store.specs.Places.{Lies, part_of, laid_at, message_in, messages_in}

more : (i : ℕ) → payload_most + i * payload_most ≡ suc i * payload_most
more i = omega arith

-- the size of a part that is lent from the place's start to its end
pub part_size : (at : ℕ) → at * payload_most + payload_most - at * payload_most ≡ payload_most
part_size at = omega arith

-- a place has as many bytes as a payload
pub part_length : (bytes : List ℕ) (at : ℕ) → Lies at bytes → length (part_of bytes at) ≡ payload_most
part_length bytes at h = length-take-le payload_most (drop (at * payload_most) bytes) (simp length-drop (omega arith))

-- as many messages as counts
pub length_messages : (counts originators lengths bytes : List ℕ) → length (messages_in counts originators lengths bytes) ≡ length counts
unfolding messages_in
length_messages [] originators lengths bytes = refl
length_messages (count ∷ counts) originators lengths bytes =
    ap suc (length_messages counts (drop 1 originators) (drop 1 lengths) (drop payload_most bytes))

-- a place's message is its numbers and its bytes
pub message_in_lem : (counts originators lengths bytes : List ℕ) (i : ℕ) → i < length counts
    → get_or (messages_in counts originators lengths bytes) i blank ≡ message_in (get_or counts i 0) (get_or originators i 0) (get_or lengths i 0) (part_of bytes i)
unfolding messages_in
message_in_lem [] originators lengths bytes i h = absurd (not-suc-le-zero h)
message_in_lem (count ∷ counts) originators lengths bytes zero h = refl
message_in_lem (count ∷ counts) originators lengths bytes (suc i) h =
    let o : get_or (drop 1 originators) i 0 ≡ get_or originators (suc i) 0 = get_or-drop 1 originators i 0 ∙ ap (λ (k : ℕ). get_or originators k 0) (one i) in
    let l : get_or (drop 1 lengths) i 0 ≡ get_or lengths (suc i) 0 = get_or-drop 1 lengths i 0 ∙ ap (λ (k : ℕ). get_or lengths k 0) (one i) in
    let b : drop (i * payload_most) (drop payload_most bytes) ≡ drop (suc i * payload_most) bytes = drop-drop (i * payload_most) payload_most bytes ∙ ap (λ (k : ℕ). drop k bytes) (more i) in
    message_in_lem counts (drop 1 originators) (drop 1 lengths) (drop payload_most bytes) i (le_of_suc-le-suc h)
    ∙ (λ k. message_in (get_or counts i 0) (o k) (l k) (take payload_most (b k)))
  where
    one : (k : ℕ) → 1 + k ≡ suc k
    one k = omega arith

-- what is laid into a place leaves the length
pub laid_length : (bytes part : List ℕ) (at : ℕ) → Lies at bytes → length part ≡ payload_most → length (laid_at bytes at part) ≡ length bytes
laid_length bytes part at h e =
    simp (length-append, length-take, length-drop) (omega arith)

-- a place behind the first is a place of the bytes behind the first
laid_on : (bytes part : List ℕ) (i : ℕ) → laid_at bytes (suc i) part ≡ take payload_most bytes ++ laid_at (drop payload_most bytes) i part
laid_on bytes part i =
    ap (λ (k : ℕ). take k bytes ++ (part ++ drop payload_most (drop k bytes))) (sym (more i))
    ∙ ap (λ (l : List ℕ). l ++ (part ++ drop payload_most (drop (payload_most + i * payload_most) bytes))) (take-add payload_most (i * payload_most) bytes)
    ∙ append_assoc (take payload_most bytes) (take (i * payload_most) (drop payload_most bytes)) (part ++ drop payload_most (drop (payload_most + i * payload_most) bytes))
    ∙ ap (λ (l : List ℕ). take payload_most bytes ++ (take (i * payload_most) (drop payload_most bytes) ++ (part ++ drop payload_most l))) (sym (drop-drop (i * payload_most) payload_most bytes))

-- the first place's bytes, then the others'
first_is : (count originator length' : ℕ) (counts originators lengths first bytes : List ℕ) → length first ≡ payload_most
    → messages_in (count ∷ counts) (originator ∷ originators) (length' ∷ lengths) (first ++ bytes)
    ≡ message_in count originator length' first ∷ messages_in counts originators lengths bytes
unfolding messages_in
first_is count originator length' counts originators lengths first bytes h =
    λ k. message_in count originator length' (take_at first bytes payload_most h k) ∷ messages_in counts originators lengths (drop_at first bytes payload_most h k)

-- numbers and bytes that are laid into a place are its message
pub messages_laid : (counts originators lengths bytes : List ℕ) (i count originator length' : ℕ) (part : List ℕ)
    → i < length counts → i < length originators → i < length lengths → Lies i bytes → length part ≡ payload_most
    → messages_in (set counts i count) (set originators i originator) (set lengths i length') (laid_at bytes i part)
    ≡ set (messages_in counts originators lengths bytes) i (message_in count originator length' part)
unfolding messages_in
messages_laid [] originators lengths bytes i count originator length' part h o l r e = absurd (not-suc-le-zero h)
messages_laid (c ∷ counts) [] lengths bytes i count originator length' part h o l r e = absurd (not-suc-le-zero o)
messages_laid (c ∷ counts) (x ∷ originators) [] bytes i count originator length' part h o l r e = absurd (not-suc-le-zero l)
messages_laid (c ∷ counts) (x ∷ originators) (y ∷ lengths) bytes zero count originator length' part h o l r e =
    first_is count originator length' counts originators lengths part (drop payload_most bytes) e
messages_laid (c ∷ counts) (x ∷ originators) (y ∷ lengths) bytes (suc i) count originator length' part h o l r e =
    let room : payload_most ≤ length bytes = omega (arith, r) in
    let rest : Lies i (drop payload_most bytes) = simp length-drop (omega (arith, r)) in
    ap (messages_in (c ∷ set counts i count) (x ∷ set originators i originator) (y ∷ set lengths i length')) (laid_on bytes part i)
    ∙ first_is c x y (set counts i count) (set originators i originator) (set lengths i length') (take payload_most bytes) (laid_at (drop payload_most bytes) i part)
    (length-take-le payload_most bytes room)
    ∙ ap (λ (m : List Message). message_in c x y (take payload_most bytes) ∷ m)
    (messages_laid counts originators lengths (drop payload_most bytes) i count originator length' part (le_of_suc-le-suc h) (le_of_suc-le-suc o) (le_of_suc-le-suc l) rest e)

-- all places without a message
pub messages_none : (k : ℕ) → messages_in (replicate k 0) (replicate k 0) (replicate k 0) (replicate (k * payload_most) 0) ≡ replicate k empty_message
unfolding messages_in empty_message
messages_none zero = refl
messages_none (suc k) =
    ap (messages_in (0 ∷ replicate k 0) (0 ∷ replicate k 0) (0 ∷ replicate k 0)) (ap (λ (j : ℕ). replicate j 0) (sym (more k)) ∙ sym (replicate-append-replicate payload_most (k * payload_most) 0))
    ∙ first_is 0 0 0 (replicate k 0) (replicate k 0) (replicate k 0) (replicate payload_most 0) (replicate (k * payload_most) 0) (length-replicate {A = ℕ} payload_most 0)
    ∙ ap (λ (m : List Message). message_in 0 0 0 (replicate payload_most 0) ∷ m) (messages_none k)

-- arrays for k places
pub record Sized (k : ℕ) (counts originators lengths bytes : List ℕ) : Type 0 where
  pub counts_size : length counts ≡ k
  pub originators_size : length originators ≡ k
  pub lengths_size : length lengths ≡ k
  pub bytes_size : length bytes ≡ k * payload_most

-- the counts come back from the messages, and so do the originators, the lengths and the bytes
counts_of : (counts originators lengths bytes : List ℕ) → map (λ (m : Message). m.count) (messages_in counts originators lengths bytes) ≡ counts
unfolding messages_in
counts_of [] originators lengths bytes = refl
counts_of (c ∷ counts) originators lengths bytes = ap (λ (l : List ℕ). c ∷ l) (counts_of counts (drop 1 originators) (drop 1 lengths) (drop payload_most bytes))

originators_of : (counts originators lengths bytes : List ℕ) → length originators ≡ length counts
    → map (λ (m : Message). m.originator.0) (messages_in counts originators lengths bytes) ≡ originators
unfolding messages_in
originators_of [] originators lengths bytes h = sym (nil_from_length originators h)
originators_of (c ∷ counts) [] lengths bytes h = absurd (let z : 0 ≡ suc (length counts) = h in omega arith)
originators_of (c ∷ counts) (o ∷ originators) lengths bytes h =
    ap (λ (l : List ℕ). o ∷ l) (originators_of counts originators (drop 1 lengths) (drop payload_most bytes) (let z : suc (length originators) ≡ suc (length counts) = h in omega arith))

lengths_of : (counts originators lengths bytes : List ℕ) → length lengths ≡ length counts
    → map (λ (m : Message). m.length) (messages_in counts originators lengths bytes) ≡ lengths
unfolding messages_in
lengths_of [] originators lengths bytes h = sym (nil_from_length lengths h)
lengths_of (c ∷ counts) originators [] bytes h = absurd (let z : 0 ≡ suc (length counts) = h in omega arith)
lengths_of (c ∷ counts) originators (x ∷ lengths) bytes h =
    ap (λ (l : List ℕ). x ∷ l) (lengths_of counts (drop 1 originators) lengths (drop payload_most bytes) (let z : suc (length lengths) ≡ suc (length counts) = h in omega arith))

-- the payloads, one behind the other
bytes_of : List Message → List ℕ
bytes_of [] = []
bytes_of (m ∷ rest) = m.payload ++ bytes_of rest

bytes_of_lem : (counts originators lengths bytes : List ℕ) → length bytes ≡ length counts * payload_most → bytes_of (messages_in counts originators lengths bytes) ≡ bytes
unfolding messages_in bytes_of
bytes_of_lem [] originators lengths bytes h = sym (nil_from_length bytes h)
bytes_of_lem (c ∷ counts) originators lengths bytes h =
    ap (λ (l : List ℕ). take payload_most bytes ++ l) (bytes_of_lem counts (drop 1 originators) (drop 1 lengths) (drop payload_most bytes) (simp length-drop (omega (arith, h))))
    ∙ take-append-drop payload_most bytes

-- the messages of all places say every number and byte of the arrays
module _ (k : ℕ) (counts originators lengths bytes counts' originators' lengths' bytes' : List ℕ)
    (s : Sized k counts originators lengths bytes) (s' : Sized k counts' originators' lengths' bytes')
    (e : messages_in counts originators lengths bytes ≡ messages_in counts' originators' lengths' bytes') where
  pub messages_whole : (counts ≡ counts') × (originators ≡ originators') × (lengths ≡ lengths') × (bytes ≡ bytes')
  messages_whole = (
    sym (counts_of counts originators lengths bytes) ∙ ap (map (λ (m : Message). m.count)) e ∙ counts_of counts' originators' lengths' bytes',
    sym (originators_of counts originators lengths bytes (omega (arith, s)))
        ∙ ap (map (λ (m : Message). m.originator.0)) e ∙ originators_of counts' originators' lengths' bytes' (omega (arith, s')),
    sym (lengths_of counts originators lengths bytes (omega (arith, s)))
        ∙ ap (map (λ (m : Message). m.length)) e ∙ lengths_of counts' originators' lengths' bytes' (omega (arith, s')),
    sym (bytes_of_lem counts originators lengths bytes (omega (arith, s))) ∙ ap bytes_of e ∙ bytes_of_lem counts' originators' lengths' bytes' (omega (arith, s')),
  )
