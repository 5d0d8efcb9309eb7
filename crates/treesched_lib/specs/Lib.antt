pub mod Devices
pub mod Lines
pub mod Printing
pub mod Serving
