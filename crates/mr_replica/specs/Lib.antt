-- A reader of the contracts trusts Answers, Desk, Dues, Ordered, Picked and Taken, and of mr_part Answering, Steps, Parts and ScopeOf. The others serve private
-- clauses and proofs alone.
pub mod Answers
pub mod Calendar
pub mod Desk
pub mod Dues
pub mod Journal
pub mod Keyed
pub mod Needed
pub mod Order
pub mod Ordered
pub mod Picked
pub mod Puts
pub mod RowKeys
pub mod SharedLog
pub mod Taken
pub mod Writes
