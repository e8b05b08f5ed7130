-- As it says.
use Rattle.attempt.proofs.with_reply.Goals as goal

pub returns : goal.returns
returns c = let a = c.args in λ i. record { member = a.head.member; sequencer = a.head.sequencer; read = a.head.read; attempt = a.attempt; number = a.number; invited = a.head.invited; repliers = a.head.repliers; replied = 1; inviting = a.head.inviting; sequencing = a.head.sequencing; frozen = c.frozen_with.ensures i }
