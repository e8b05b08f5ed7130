-- How the paper words what reading and writing a packet answer.
use Rattle.std.specs.Prelude.{Ok, Err}
use Rattle.std.specs.Prelude.{[], ◌∷◌}
use Rattle.group.specs.Wording.{Wording, word, number, packet, refused_wording}
use Rattle.packet.specs.Answers.{Reading}
use Rattle.packet.specs.Answers.{Writing}

-- reading gives the fields: kind, byte 1, group, A, B and C
unfoldable pub reading_wording : Reading → Wording
reading_wording (Ok h) =
    word "fields" (number h.kind ∷ number h.member.0 ∷ number h.group ∷ number h.a ∷ number h.b ∷ number h.c ∷ [])
reading_wording (Err r) = refused_wording r

-- writing gives how many bytes it wrote
unfoldable pub writing_wording : Writing → Wording
writing_wording (Ok size) = word "bytes" (number size ∷ packet ∷ [])
writing_wording (Err r) = refused_wording r
