pub mod QuietSteps
pub mod Converging
pub mod Settling
pub mod HandingOn
pub mod Sizes
pub mod Meeting
pub mod Moments
mod ConvergenceRows
