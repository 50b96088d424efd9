-- A reader of the contracts trusts Trouble, TreeTables, Scanned, Heads and Opened. The other, Tested, serves private clauses alone.
pub mod Trouble
pub mod TreeTables
pub mod Scanned
pub mod Heads
pub mod Opened
pub mod Tested
