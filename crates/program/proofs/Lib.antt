-- a command
mod NextText
-- a piece, and all pieces
mod Filling
mod Printing
-- what is read and written
mod Reading
mod Written
