-- A reader of the contracts trusts Indexed, Fit and Steps. The others, Found and KeyLaws, serve private clauses and proofs alone.
pub mod Indexed
pub mod Fit
pub mod Found
pub mod KeyLaws
pub mod Steps
