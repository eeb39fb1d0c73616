-- the definitions, computed
pub mod Vectors
pub mod Agreement
-- lists and sums
pub mod Lists
pub mod PairLists
pub mod Functions
pub mod Ranges
-- the order of the coefficients
pub mod Enumeration
pub mod Place
pub mod Places
pub mod Order
pub mod Inverses
-- the algebra on coefficient functions
pub mod Delta
pub mod Generator
pub mod Words
pub mod Reduced
pub mod Convolution
pub mod Linear
pub mod Relations
-- the algebra on coefficient lists
pub mod Coefficients
pub mod OnPairs
pub mod CoefficientActions
pub mod Elements
pub mod AnyWords
pub mod Unit
pub mod WordSlices
pub mod Laws
pub mod Hecke
pub mod Formula
pub mod PairingAtUnit
-- the nested method
pub mod PairBlocks
pub mod CycleBlocks
pub mod Proposition
pub mod Recursion
pub mod Level
pub mod SumAlong
pub mod Orders
pub mod NestedAct
pub mod Nested
pub mod Method
-- its count
pub mod Takes
pub mod Costs
pub mod Counts
pub mod Letters
pub mod Bounds
-- an operator on pairs, by blocks
pub mod ByBlocks
pub mod LowRanks
pub mod NestedLetter
-- maps of operations
pub mod Maps
pub mod NestedMaps
pub mod Onto
pub mod Carry
pub mod CarryMethod
pub mod Closed
pub mod Modular
