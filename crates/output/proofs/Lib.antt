-- numbers as text
pub mod Decimal
pub mod ReadBack
pub mod LineLengths
-- what the functions write
mod Overwritten
mod Putting
mod Listing
pub mod TextLengths
mod EqualWords
mod Values
pub mod Front
