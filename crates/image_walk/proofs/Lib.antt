mod Examples
mod Digit
pub mod Held
pub mod Outcome
mod Walking
mod Turn
pub mod Vetted
pub mod CallEnds
