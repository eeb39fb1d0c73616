pub mod Trace
pub mod Laws
pub mod Maps
