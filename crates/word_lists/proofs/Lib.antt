pub mod Loops
pub mod Into
