-- A packet laid in two parts, the payload in the part behind the header, is the packet laid at the front. Assumes nothing.
use mathlib.Core.Path.{◌≡◌}
use mathlib.Core.List.{List, [], ◌++◌, append-nil, append_assoc}
use Prim.Native.Nat.{ℕ, ◌+◌, ◌-◌, ◌≤◌}
use native.Mathlib.Omega.{arith}
use lib.ListN.{length, take, drop, length-append, length-drop, drop_of_length-le}
use lib.Seq.{drop_at, take_at, take_all, drop-drop}
use Rattle.group.specs.Lent.{front}

pub behind : (k : ℕ) (header payload out last part : List ℕ) → length header ≡ k → k + length payload ≤ length out → last ≡ front header out
    → part ≡ front payload (take (length last - k) (drop k last))
    → take k last ++ (part ++ drop (length last - k) (drop k last)) ≡ front (header ++ payload) out
behind k header payload out last part f r l p =
    let d : drop k last ≡ drop k out = rw (l, f) (drop_at header (drop k out) k f) in
    let t : take k last ≡ header = rw (l, f) (take_at header (drop k out) k f) in
    let n : length last ≡ length out = rw (l, f) (simp (length-append, length-drop) (omega arith)) in
    let m : take (length out - k) (drop k out) ≡ drop k out = take_all (length out - k) (drop k out) (simp length-drop (omega arith)) in
    let z : drop (length out - k) (drop k out) ≡ [] = drop_of_length-le (drop k out) {i = length out - k} (simp length-drop (omega arith)) in
    let q : part ≡ payload ++ drop (k + length payload) out = rw (p, n, d, m, drop-drop) in
    rw (t, q, n, d, z) (simp (append-nil, append_assoc, length-append, f))
