pub mod Names
pub mod Lists
pub mod Bits
pub mod Completions
pub mod Search
pub mod Configurations
pub mod Timelines
pub mod Steps
pub mod Bounds
pub mod Replies
mod Places
