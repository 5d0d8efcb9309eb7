mod Given
mod Ledgers
mod Loaded
mod Servings
