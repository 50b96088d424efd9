-- A reader of the contracts trusts CommandNames, CommandTable, CommandSpelling, InvocationRead, Addresses and CommandOutput. The other, Grammar,
-- serves private clauses and proofs alone.
pub mod CommandNames
pub mod CommandTable
pub mod CommandSpelling
pub mod InvocationRead
pub mod Grammar
pub mod Addresses
pub mod CommandOutput
