-- A reader of the contracts trusts all of these but Choices, which serves private clauses and proofs alone.
pub mod Summary
pub mod Rooms
pub mod Change
pub mod Cells
pub mod ExecutionRows
pub mod Tallied
pub mod Written
pub mod Choices
pub mod Boards
pub mod BoardChanges
pub mod Rise
pub mod TableOrders
pub mod TableLaws
