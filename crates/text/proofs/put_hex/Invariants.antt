-- The loop's invariant: the digits of the bytes passed are laid.
use mathlib.Core.Path.{◌≡◌}
use Prim.Native.Nat.{◌+◌, ◌*◌}
use lib.ListN.{take}
use Rattle.text.specs.Written.{hex_of}
use Rattle.text.specs.LaidAt.{LaidAt}
use Rattle.text.proofs.put_hex.Given as goal

abbrev pub invariant-loop-byte : goal.invariant-loop-byte
invariant-loop-byte l = (l.next ≡ l.at + 2 * l.byte-index) × LaidAt l.at (hex_of (take l.byte-index l.bytes)) l.initial.out l.out l.next
