pub mod Check
pub mod Steps
pub mod Table
pub mod Composed
