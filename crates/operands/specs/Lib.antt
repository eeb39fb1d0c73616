pub mod Operands
pub mod Bounds
