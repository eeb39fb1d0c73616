mod Layers
mod SumCalls
mod Summands
mod LowFactors
pub mod Fits
