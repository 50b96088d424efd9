-- A reader of the contracts trusts RehearsalScript, ScriptRead, Rehearsed, CommandEffects and Tasks. The other, LineSteps, serves private
-- clauses and proofs alone.
pub mod RehearsalScript
pub mod LineSteps
pub mod ScriptRead
pub mod Rehearsed
pub mod CommandEffects
pub mod Tasks
