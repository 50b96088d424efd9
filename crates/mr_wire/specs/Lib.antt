-- A reader of the contracts trusts Words, Fields and BatchAnswers. The others, LineAnswers, Lines and Writing, serve private
-- clauses and proofs alone.
pub mod Words
pub mod Fields
pub mod LineAnswers
pub mod Lines
pub mod BatchAnswers
pub mod Writing
