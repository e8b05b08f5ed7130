-- How the paper words what a call of a member answers: a take with a message gives number, originator, count, payload and
-- more; a submission that waits behind another gives its count; other answers give nothing but the packet that was written. A written packet with no other answer is `sent`.
use Rattle.std.specs.Prelude.{[], ◌∷◌}
use Rattle.group.specs.Wording.{Wording, word, number, payload, more, packet, any_packet, refused_wording}
use Rattle.member.specs.declared.Answer.{Answer}
use Rattle.member.specs.declared.Answer.TheVariants.{Refused, Sent, Queued, Old, Kept, KeptGap, Beyond, BeyondGap, Gap, Status, None, Noted, Took}

unfoldable pub wording_of : Answer → Wording
wording_of (Refused r) = refused_wording r
wording_of Sent = word "sent" (packet ∷ [])
wording_of (Queued count) = word "queued" (number count ∷ [])
wording_of Old = word "old" (any_packet ∷ [])
wording_of Kept = word "kept" (any_packet ∷ [])
wording_of KeptGap = word "keptgap" (packet ∷ [])
wording_of Beyond = word "beyond" []
wording_of BeyondGap = word "beyondgap" (packet ∷ [])
wording_of Gap = word "gap" (packet ∷ [])
wording_of Status = word "status" (packet ∷ [])
wording_of None = word "none" []
wording_of Noted = word "noted" (any_packet ∷ [])
wording_of (Took s originator count m) =
    word "took" (number s.0 ∷ number originator.0 ∷ number count ∷ payload ∷ more m ∷ [])
