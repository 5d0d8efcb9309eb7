pub mod Values
pub mod Rule
pub mod Seats
