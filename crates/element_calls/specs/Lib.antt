pub mod Coefficients
pub mod Calls
pub mod Steps
pub mod Claims
pub mod Demand3
pub mod SignedCalls
pub mod PairingCalls
pub mod TraceCalls
