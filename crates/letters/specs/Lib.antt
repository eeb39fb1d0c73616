pub mod Letters
pub mod Sizes
