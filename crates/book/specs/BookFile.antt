-- The text that a book writes.
pub mod Writing
pub mod Written
