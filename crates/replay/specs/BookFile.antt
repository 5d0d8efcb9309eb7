-- Book files.
pub mod Replays
pub mod Closing
pub mod Places
pub mod Kept
pub mod Checks
