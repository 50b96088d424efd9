-- A reader of the contracts trusts Asked, Asking, Headline, LawfulRuns, Replied, Served, Stepping and Worlds. The others, Questions,
-- SubmittedWords, Running and Turns, serve private clauses and proofs alone.
pub mod Asked
pub mod Asking
pub mod Headline
pub mod LawfulRuns
pub mod Questions
pub mod Replied
pub mod SubmittedWords
pub mod Running
pub mod Served
pub mod Stepping
pub mod Turns
pub mod Worlds
