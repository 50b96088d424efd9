-- A reader of the contracts trusts all of these.
pub mod Sparing
pub mod Copied
pub mod Note
