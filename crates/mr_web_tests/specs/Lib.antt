-- A reader of the contracts trusts all of these.
pub mod OneCommand
pub mod HandedOver
