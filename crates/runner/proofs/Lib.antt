-- how a run begins, and one turn
pub mod Beginning
pub mod Ahead
mod Puts
mod Called
pub mod Turning
-- the whole run
pub mod Running
mod Ran
mod Kept
pub mod Runs
