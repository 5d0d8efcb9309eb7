pub mod Counting
pub mod Soundness
pub mod Growing
pub mod Decided
pub mod Ends
pub mod Drives
pub mod Reports
pub mod Reaching
pub mod Verdicts
mod ReadOff
