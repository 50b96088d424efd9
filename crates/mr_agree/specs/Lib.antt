-- A reader of the contracts trusts both.
pub mod Agreeing
pub mod Ids
