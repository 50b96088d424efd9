-- Each of these but Parts serves private clauses and proofs alone; what a reader trusts stands in mr_agree.
pub mod Tallies
pub mod Apart
pub mod KeyOrders
pub mod SideBySide
pub mod Turns
pub mod Parts
pub mod Capped
