-- A reader of the contracts trusts it.
pub mod CommandLines
