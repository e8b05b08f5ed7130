-- The paper's number of each refusal: that of the question that said no, or the one that document 02 gives.
use Rattle.std.specs.Prelude.{ℕ}
use Rattle.group.specs.declared.Refusal.{Refusal}
use Rattle.group.specs.declared.Refusal.TheVariants.{UnsoundState, ShortOutput, PacketSize, UnknownKind, PayloadLength, ForbiddenFields, OtherGroup, OtherEnd, UnknownMember, AcknowledgedAhead, CountAhead, WantedAhead, LongPayload, AlreadyWaiting, NothingWaiting, NumbersUsedUp, NotInHistory, Opening, NotForList, ListFull, WrongJournal, ManyUnits, NoRoom, Resilience, NotExpected, FewSurvivors, NotOfAttempt}

abbrev pub number_of : Refusal → ℕ
-- Is the state sound?
number_of UnsoundState = 1
-- Is the lent output at least as long as the longest packet?
number_of ShortOutput = 2
-- Is the packet at least a header and at most the longest packet?
number_of PacketSize = 3
-- Is its kind 1 to 11?
number_of UnknownKind = 4
-- Is its length that of its header and L, and L zero but for kinds 1, 2 and 6, and 2 for kind 11?
number_of PayloadLength = 5
-- Do A, B, C obey the kind, are sender and B of kind 11 among its survivors, and, at an end, is byte 1 of kinds 5 and 8 the elected member?
number_of ForbiddenFields = 6
-- Is the group number ours, and no reply to an invitation open (kinds 1 to 8)?
number_of OtherGroup = 7
-- Is the kind for this end?
number_of OtherEnd = 8
-- At a member, is byte 1 below n, and are the survivors of kind 11? At the sequencer, is byte 1 a survivor?
number_of UnknownMember = 9
-- At the sequencer, is A at most the last accepted number, or of kind 7 at most top?
number_of AcknowledgedAhead = 10
-- Is a request's count at most the last count and one?
number_of CountAhead = 11
-- Is a gap's C at most top?
number_of WantedAhead = 12
-- Has a submitted or written payload at most the limit's bytes?
number_of LongPayload = 13
-- On submit, are fewer than five waiting?
number_of AlreadyWaiting = 14
-- On repeat, is something waiting?
number_of NothingWaiting = 15
-- Is a next number left?
number_of NumbersUsedUp = 16
-- Is a copied number in the history?
number_of NotInHistory = 17
-- On opening, is n 1 to 16 and the member number below n?
number_of Opening = 18
-- On a feed, is the member at most 15, and the payload of a form and at most the limit's bytes?
number_of NotForList = 19
-- On an add, is a record unused?
number_of ListFull = 20
-- Is a journal's length a multiple of a block's, and may a record with its number follow?
number_of WrongJournal = 21
-- Has a journal's plan at most 512 units?
number_of ManyUnits = 22
-- Has the lent output room for the plan, or for the rewritten blocks?
number_of NoRoom = 23
-- On opening, is the resilience degree below n?
number_of Resilience = 24
-- Is a confirmation of a number that is not accepted from a member that is expected to answer?
number_of NotExpected = 25
-- On making, are the survivors as many as the call demands?
number_of FewSurvivors = 26
-- On making, is an invitation open? Is a reply to it? Is a result that of the last invitation replied to, with the receiver among its survivors, not
-- below its reply and, if it is elected, not above it?
number_of NotOfAttempt = 27
