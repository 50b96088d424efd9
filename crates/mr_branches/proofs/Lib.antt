pub mod Served
pub mod Branching
pub mod Heard
pub mod ThreeCalls
pub mod PullRuns
