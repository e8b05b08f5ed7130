-- What a call adds to the order.
use Rattle.std.specs.Prelude.{List, [], ◌∷◌, ℕ}
use Rattle.message.specs.Order.{Ordered}
use Rattle.packet.specs.Packet.{header_of, payload_at}
use Rattle.sequencer.specs.declared.Answer.{Answer}
use Rattle.sequencer.specs.declared.Answer.TheVariants.{Old, Again, Full, Numbered, Noted, Wanted, Sent, Marked}

-- the message that a call answered Numbered: its number, and what its packet says; no other answer adds one
unfoldable pub numbered_by : Answer → List ℕ → List Ordered
numbered_by (Answer.Refused refusal) bytes = []
numbered_by Old bytes = []
numbered_by (Again number) bytes = []
numbered_by Full bytes = []
numbered_by (Numbered number) bytes =
    record { number = number.0; originator = (header_of bytes).member.0; count = (header_of bytes).b; payload = payload_at bytes } ∷ []
numbered_by Noted bytes = []
numbered_by (Wanted first last) bytes = []
numbered_by Sent bytes = []
numbered_by Marked bytes = []
numbered_by Answer.Accepted bytes = []
