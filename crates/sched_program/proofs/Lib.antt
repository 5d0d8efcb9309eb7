mod Distinct
pub mod Histories
mod Members
mod Texts
mod Waiting
mod Values
