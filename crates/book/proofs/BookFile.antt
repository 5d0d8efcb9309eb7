-- The text that a book writes.
pub mod Written
pub mod Writable
