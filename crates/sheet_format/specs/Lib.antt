pub mod Format
pub mod Written
