pub mod Put
mod Unit
mod Taken
mod InverseTaken
mod NegatedLetter
pub mod Counted
pub mod Unsized
