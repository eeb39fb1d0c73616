-- the bytes of a sheet
mod Codes
mod Numbers
pub mod Offsets
mod Little
mod Rows
mod Standing
pub mod Written
