-- A reader of the contracts trusts Convergence, and of mr_model Honest and WorldLaws.
pub mod Convergence
