-- Refusals of the program as refusals of the definitions.
use Rattle.std.specs.Prelude.{Result, Ok, Err}
use Rattle.mr_model.specs.Refusals as model
use Rattle.mr_base.specs.declared.refusals.Refusal.{Refusal}
use Rattle.mr_base.specs.declared.refusals.Refusal.TheVariants.{BadDay, BadTime, BadLength, BadRoomName, BadTitle, TooManyAlternatives, UnknownRoom, RoomThere, NoSuchRequest}
use Rattle.mr_base.specs.declared.refusals.Refusal.TheVariants.{NotPrimary, PrimaryKeepsAll, BeyondCommitted, ClockExhausted, CountExhausted, BadLine, WrongPrimary, Gap, OutOfOrder}
use Rattle.mr_base.specs.declared.refusals.Refusal.TheVariants.{Forged, OwnWrite, PrimaryOnly, Truncated, BadPosition, OutOfMemory, Store, NotAReplica, NeedsVersion2}

-- the refusal of the definitions that a refusal stands for
abbrev pub refusal_of : Refusal → model.Refusal
refusal_of BadDay = model.BadDay
refusal_of BadTime = model.BadTime
refusal_of BadLength = model.BadLength
refusal_of BadRoomName = model.BadRoomName
refusal_of BadTitle = model.BadTitle
refusal_of TooManyAlternatives = model.TooManyAlternatives
refusal_of UnknownRoom = model.UnknownRoom
refusal_of RoomThere = model.RoomThere
refusal_of NoSuchRequest = model.NoSuchRequest
refusal_of NotPrimary = model.NotPrimary
refusal_of PrimaryKeepsAll = model.PrimaryKeepsAll
refusal_of BeyondCommitted = model.BeyondCommitted
refusal_of ClockExhausted = model.ClockExhausted
refusal_of CountExhausted = model.CountExhausted
refusal_of (BadLine line) = model.BadLine line
refusal_of WrongPrimary = model.WrongPrimary
refusal_of (Gap line) = model.Gap line
refusal_of (OutOfOrder line) = model.OutOfOrder line
refusal_of (Forged line) = model.Forged line
refusal_of (OwnWrite line) = model.OwnWrite line
refusal_of (PrimaryOnly line) = model.PrimaryOnly line
refusal_of Truncated = model.Truncated
refusal_of BadPosition = model.BadPosition
refusal_of OutOfMemory = model.OutOfMemory
refusal_of Store = model.Store
refusal_of NotAReplica = model.NotAReplica
refusal_of NeedsVersion2 = model.NeedsVersion2

-- an answer of the program as one of the definitions
abbrev pub answer_of : {T : Type 0} → Result T Refusal → Result T model.Refusal
answer_of (Ok value) = Ok value
answer_of (Err refusal) = Err (refusal_of refusal)
