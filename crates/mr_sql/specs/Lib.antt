-- A reader of the contracts trusts Found, Refused, Failed, Opened and FailedReads. The others, Numbers, PlaceOfId, Enough, Blank, OurSchema, Calls and Opening,
-- serve private clauses and proofs alone.
pub mod Numbers
pub mod PlaceOfId
pub mod Enough
pub mod Blank
pub mod OurSchema
pub mod Calls
pub mod Found
pub mod Refused
pub mod Failed
pub mod Opened
pub mod Opening
pub mod FailedReads
