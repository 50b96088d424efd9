-- A reader of the contracts trusts RefusalViews, Answers, Ids, Readings, Limits, Actions, Versions, Batches and, of PositionCounts,
-- counts_of_pairs. The rest of PositionCounts serves private clauses and proofs alone.
pub mod RefusalViews
pub mod Answers
pub mod Ids
pub mod Readings
pub mod Limits
pub mod Actions
pub mod Versions
pub mod Batches
pub mod PositionCounts
