pub mod Appended
pub mod HeldBytes
pub mod Past
pub mod ReadBytes
pub mod Stack
