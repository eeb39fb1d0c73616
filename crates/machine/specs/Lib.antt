pub mod Registers
pub mod Steps
pub mod Step
pub mod Counted
