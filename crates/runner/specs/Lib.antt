pub mod Run
pub mod Turn
pub mod Runs
