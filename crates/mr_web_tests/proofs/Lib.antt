pub mod Replying
pub mod Giving
