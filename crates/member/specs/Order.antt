-- What a call of a member adds to what its terminal took and to its accepted submissions.
use Rattle.std.specs.Prelude.{List, [], ◌∷◌, ℕ}
use Rattle.message.specs.Order.{Ordered}
use Rattle.member.specs.declared.Answer.{Answer}
use Rattle.member.specs.declared.Answer.TheVariants.{Refused, Sent, Queued, Old, Kept, KeptGap, Beyond, BeyondGap, Gap, Status, None, Noted, Took}

-- the message that a take handed out: number, originator and count of its answer, and the payload that it wrote
unfoldable pub took_by : Answer → List ℕ → List Ordered
took_by (Refused refusal) bytes = []
took_by Sent bytes = []
took_by (Queued count) bytes = []
took_by Old bytes = []
took_by Kept bytes = []
took_by KeptGap bytes = []
took_by Beyond bytes = []
took_by BeyondGap bytes = []
took_by Gap bytes = []
took_by Status bytes = []
took_by None bytes = []
took_by Noted bytes = []
took_by (Took number originator count more) bytes =
    record { number = number.0; originator = originator.0; count = count; payload = bytes } ∷ []

-- the payload given, of a submit that was not refused
unfoldable pub accepted_by : Answer → List ℕ → List (List ℕ)
accepted_by (Refused refusal) payload = []
accepted_by Sent payload = payload ∷ []
accepted_by (Queued count) payload = payload ∷ []
accepted_by Old payload = payload ∷ []
accepted_by Kept payload = payload ∷ []
accepted_by KeptGap payload = payload ∷ []
accepted_by Beyond payload = payload ∷ []
accepted_by BeyondGap payload = payload ∷ []
accepted_by Gap payload = payload ∷ []
accepted_by Status payload = payload ∷ []
accepted_by None payload = payload ∷ []
accepted_by Noted payload = payload ∷ []
accepted_by (Took number originator count more) payload = payload ∷ []
