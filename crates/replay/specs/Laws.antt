-- What is proved of the definitions. No contract's meaning rests on these files, and no definition imports one.
pub mod Schedules
pub mod Machines
