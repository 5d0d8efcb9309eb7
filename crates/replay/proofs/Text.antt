pub mod Counting
pub mod Cuts
pub mod Entries
pub mod Heads
pub mod Numbers
pub mod OneReading
pub mod Orders
pub mod Printing
