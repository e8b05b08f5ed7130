-- The arrays of a `Terminal` are what its methods lend: `Whole.antt`'s `Lendable` at it.
-- Assumes `Logic`.
use mathlib.Core.Path.{◌≡◌}
use mathlib.Core.List.{List, [], ◌∷◌}
use Prim.Native.Nat.{ℕ}
use seplogic.Ra.Ura.{Ura}
use mir.Syntax.{Width, w8, w16, w32, ty_int, ty_array}
use base.Fml.{Share}
use types.Logic.{Logic}
use denote.RattleType.{Denots}
use denote.Copied.{uint_Copied, Array-Copied}
use denote.Lends.{Lent}
use denote.Memory.{part_at, shared_of}
use denote.Plain.{UInt, uint_Lawful}
use denote.Builtin.{u8, u16, u32}
use denote.Array.{Array, Array-Lawful}
use denote.Struct.Struct.{Struct}
use denote.Struct.Declared.{shape}
use denote.Struct.Members.{Member as Part, rows_of}
use denote.Struct.Recorded.{Recorded-part}
use Rattle.lending.proofs.Lending.{Frees}
use Rattle.lending.proofs.Whole.{Lendable}
use Rattle.terminal_state.specs.declared.Terminal.{Terminal}
use Rattle.terminal_state.specs.contracts.Terminal as T
use Rattle.terminal_state.proofs.Terminal.TheLaws as T'
use Rattle.recovery.specs.contracts.Head as B
use Rattle.recovery.proofs.Head.TheLaws as B'

abbrev first : Part
first = record { row = Struct (shape B.the_type); ty = B'.mir }

abbrev pub arrays : List Part
arrays = record { row = Array u32 5; ty = ty_array (ty_int w32) 5 }
    ∷ record { row = Array u32 8; ty = ty_array (ty_int w32) 8 }
    ∷ record { row = Array u8 5; ty = ty_array (ty_int w8) 5 }
    ∷ record { row = Array u8 5; ty = ty_array (ty_int w8) 5 }
    ∷ record { row = Array u8 8; ty = ty_array (ty_int w8) 8 }
    ∷ record { row = Array u8 8; ty = ty_array (ty_int w8) 8 }
    ∷ record { row = Array u8 1200; ty = ty_array (ty_int w8) 1200 }
    ∷ record { row = Array u8 1920; ty = ty_array (ty_int w8) 1920 }
    ∷ record { row = Array u32 32; ty = ty_array (ty_int w32) 32 }
    ∷ record { row = Array u8 32; ty = ty_array (ty_int w8) 32 }
    ∷ record { row = Array u8 32; ty = ty_array (ty_int w8) 32 }
    ∷ record { row = Array u8 7680; ty = ty_array (ty_int w8) 7680 }
    ∷ record { row = Array u32 16; ty = ty_array (ty_int w32) 16 }
    ∷ record { row = Array u32 16; ty = ty_array (ty_int w32) 16 }
    ∷ record { row = Array u32 16; ty = ty_array (ty_int w32) 16 }
    ∷ record { row = Array u32 16; ty = ty_array (ty_int w32) 16 }
    ∷ record { row = Array u32 16; ty = ty_array (ty_int w32) 16 }
    ∷ record { row = Array u32 32; ty = ty_array (ty_int w32) 32 }
    ∷ record { row = Array u16 32; ty = ty_array (ty_int w16) 32 }
    ∷ record { row = Array u8 32; ty = ty_array (ty_int w8) 32 }
    ∷ record { row = Array u8 32; ty = ty_array (ty_int w8) 32 }
    ∷ record { row = Array u8 7680; ty = ty_array (ty_int w8) 7680 }
    ∷ []

abbrev all : Terminal → Denots (rows_of (first ∷ arrays))
all h = ((B.the_type).to h.head, (h.queued, (h.held, (h.queued_originators, (h.queued_lengths, (h.held_originators, (h.held_lengths, (h.queued_payloads, (h.held_payloads, (h.past, (h.past_originators, (h.past_lengths, (h.past_payloads, (h.highest, (h.replies, (h.taken, (h.counts, (h.repeats, (h.kept, (h.marks, (h.originators, (h.lengths, (h.payloads, tt)))))))))))))))))))))))

pub same : (q : Share) (h : Terminal) (b o : ℕ) → part_at T.the_row q h b o ≡ part_at (Struct (shape T.the_type)) q (all h) b o
same q h b o = Recorded-part (Struct (shape T.the_type)) Terminal (T.the_type).to (T.the_type).to_one q h b o

abbrev pub lendable : Lendable
lendable = record {
  row = T.the_row;
  name = (T.struct).name;
  first = first;
  rest = arrays;
  all = all;
  same = same;
  lawful = λ 𝓛. ((T'.the_laws).0.lawful 𝓛, (Array-Lawful 𝓛 u32 (uint_Lawful 𝓛 w32) 5, (Array-Lawful 𝓛 u32 (uint_Lawful 𝓛 w32) 8, (Array-Lawful 𝓛 u8 (uint_Lawful 𝓛 w8) 5, (Array-Lawful 𝓛 u8 (uint_Lawful 𝓛 w8) 5, (Array-Lawful 𝓛 u8 (uint_Lawful 𝓛 w8) 8, (Array-Lawful 𝓛 u8 (uint_Lawful 𝓛 w8) 8, (Array-Lawful 𝓛 u8 (uint_Lawful 𝓛 w8) 1200, (Array-Lawful 𝓛 u8 (uint_Lawful 𝓛 w8) 1920, (Array-Lawful 𝓛 u32 (uint_Lawful 𝓛 w32) 32, (Array-Lawful 𝓛 u8 (uint_Lawful 𝓛 w8) 32, (Array-Lawful 𝓛 u8 (uint_Lawful 𝓛 w8) 32, (Array-Lawful 𝓛 u8 (uint_Lawful 𝓛 w8) 7680, (Array-Lawful 𝓛 u32 (uint_Lawful 𝓛 w32) 16, (Array-Lawful 𝓛 u32 (uint_Lawful 𝓛 w32) 16, (Array-Lawful 𝓛 u32 (uint_Lawful 𝓛 w32) 16, (Array-Lawful 𝓛 u32 (uint_Lawful 𝓛 w32) 16, (Array-Lawful 𝓛 u32 (uint_Lawful 𝓛 w32) 16, (Array-Lawful 𝓛 u32 (uint_Lawful 𝓛 w32) 32, (Array-Lawful 𝓛 u16 (uint_Lawful 𝓛 w16) 32, (Array-Lawful 𝓛 u8 (uint_Lawful 𝓛 w8) 32, (Array-Lawful 𝓛 u8 (uint_Lawful 𝓛 w8) 32, (Array-Lawful 𝓛 u8 (uint_Lawful 𝓛 w8) 7680, tt)))))))))))))))))))))));
}

-- a `&` to each array is made with no token
lent : {M : Type 1} {𝓤 : Ura M} (𝓛 : Logic 𝓤) (w : Width) (n : ℕ) (t : Share) (x : List ℕ) (b o : ℕ) → Lent 𝓛 (part_at (Array (UInt w) n) t x b o) (shared_of (Array (UInt w) n) x b o)
lent 𝓛 w n = (Array-Copied 𝓛 (UInt w) (uint_Copied 𝓛 w) tt n).lends

pub free : {M : Type 1} {𝓤 : Ura M} (𝓛 : Logic 𝓤) → Frees 𝓛 lendable.rest
free 𝓛 = (lent 𝓛 w32 5, (lent 𝓛 w32 8, (lent 𝓛 w8 5, (lent 𝓛 w8 5, (lent 𝓛 w8 8, (lent 𝓛 w8 8, (lent 𝓛 w8 1200, (lent 𝓛 w8 1920, (lent 𝓛 w32 32, (lent 𝓛 w8 32, (lent 𝓛 w8 32, (lent 𝓛 w8 7680, (lent 𝓛 w32 16, (lent 𝓛 w32 16, (lent 𝓛 w32 16, (lent 𝓛 w32 16, (lent 𝓛 w32 16, (lent 𝓛 w32 32, (lent 𝓛 w16 32, (lent 𝓛 w8 32, (lent 𝓛 w8 32, (lent 𝓛 w8 7680, tt))))))))))))))))))))))
