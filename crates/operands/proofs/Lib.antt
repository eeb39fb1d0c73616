mod Tests
pub mod InRange
pub mod Parity
pub mod Allowed
