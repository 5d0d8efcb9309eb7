-- Book files.
pub mod Replayed
pub mod Passing
pub mod Twins
pub mod Known
pub mod Exclusive
pub mod Placed
pub mod Recalled
