-- What is proved of the definitions. No contract's meaning rests on these files, and no definition imports one.
pub mod Astray
pub mod Codes
pub mod Exact
pub mod Initial
pub mod PairedAccesses
pub mod PairedAppends
pub mod PairedSteps
pub mod Parts
pub mod Range
pub mod Rules
