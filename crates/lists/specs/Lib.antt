pub mod Lists
pub mod Numbers
pub mod Sums
pub mod Blocks
pub mod Overwrite
