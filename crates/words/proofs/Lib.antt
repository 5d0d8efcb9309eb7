mod Accepted
mod Entered
mod Parsed
mod Requests
mod Schedules
