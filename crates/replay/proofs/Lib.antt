pub mod Text
pub mod BookFile
mod Either
pub mod Stopping
mod Loans
mod Answered
