-- A reader of the contracts trusts all of these but TableTexts, which serves a private clause and proofs alone.
pub mod FirstCells
pub mod Forms
pub mod FirstMadeRows
pub mod FirstDatabase
pub mod FirstTables
pub mod FirstParts
pub mod FirstShown
pub mod MovedUp
pub mod MoveUpSteps
pub mod TableTexts
