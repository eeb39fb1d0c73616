pub mod Verdicts
pub mod Ended
