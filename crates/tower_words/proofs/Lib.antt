mod Total
mod Spell
mod Bitmask
