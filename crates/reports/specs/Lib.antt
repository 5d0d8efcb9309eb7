pub mod Ledger
pub mod Faults
pub mod Due
pub mod Headline
pub mod Reading
pub mod Driving
pub mod Reporting
