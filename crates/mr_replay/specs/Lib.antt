-- A reader of the contracts trusts all of these.
pub mod Places
pub mod Rows
pub mod Index
pub mod Hidden
pub mod Overlay
pub mod Holds
pub mod Bookings
pub mod BoardLaws
pub mod Seen
