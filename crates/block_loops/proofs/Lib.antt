mod Paired
mod Lowered
pub mod Fits
