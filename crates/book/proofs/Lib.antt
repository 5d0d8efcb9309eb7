pub mod EntryLemmas
mod Marks
pub mod Unknown
pub mod Coverage
pub mod EnabledThreads
pub mod Kept
pub mod Next
pub mod LawfulBooks
pub mod Growth
pub mod Counts
pub mod Closed
pub mod Ways
pub mod Agreeing
mod ThreadSteps
mod SlotLemmas
mod Labels
mod Cursors
mod Lists
mod Draining
mod StandingIn
pub mod Machines
mod Lent
pub mod Ranges
mod InBook
pub mod Crossing
mod Putting
pub mod BookFile
mod EntryLabels
mod OwnSteps
mod ShownSent
