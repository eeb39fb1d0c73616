pub mod Ends
pub mod Words
