pub mod Steps
pub mod InPlace
