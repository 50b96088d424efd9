-- A reader of the contracts trusts Faults, HeaderFields, Heads, Inputs and Reading. The others, Looks and Lengths, serve private clauses and
-- proofs alone.
pub mod Faults
pub mod HeaderFields
pub mod Heads
pub mod Inputs
pub mod Reading
pub mod Looks
pub mod Lengths
