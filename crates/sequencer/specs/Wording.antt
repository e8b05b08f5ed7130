-- How the paper words what a call of the sequencer answers: Numbered and Again give their number, Wanted its two, other answers
-- none; then comes the packet that was written. A written packet with no other answer is `sent`.
use Rattle.std.specs.Prelude.{[], ◌∷◌}
use Rattle.group.specs.Wording.{Wording, word, number, packet, refused_wording}
use Rattle.sequencer.specs.declared.Answer.{Answer}
use Rattle.sequencer.specs.declared.Answer.TheVariants.{Refused, Old, Again, Full, Numbered, Noted, Wanted, Sent, Marked}

unfoldable pub wording_of : Answer → Wording
wording_of (Refused r) = refused_wording r
wording_of Old = word "old" []
wording_of (Again s) = word "again" (number s.0 ∷ packet ∷ [])
wording_of Full = word "full" (packet ∷ [])
wording_of (Numbered s) = word "numbered" (number s.0 ∷ packet ∷ [])
wording_of Noted = word "noted" []
wording_of (Wanted first last) = word "wanted" (number first.0 ∷ number last.0 ∷ [])
wording_of Sent = word "sent" (packet ∷ [])
wording_of Marked = word "marked" []
wording_of Answer.Accepted = word "accepted" (packet ∷ [])
