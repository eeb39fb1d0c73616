mod Tests
mod InOrder
pub mod Limit
pub mod CheckFrom
pub mod Cases
mod Begun
pub mod Accepted
mod Reached
pub mod Table
pub mod Composed
