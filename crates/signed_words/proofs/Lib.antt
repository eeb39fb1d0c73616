-- the definitions, computed
pub mod Examples
-- inverse letters and signed words in a ring
pub mod Undone
pub mod Inverted
pub mod Lengths
pub mod InverseLetters
pub mod InverseProducts
pub mod Mirrors
pub mod PlainWords
pub mod SignedWords
-- the inverse letter by blocks, and its count
pub mod BackwardLists
pub mod BackValues
pub mod BackCounts
-- along maps of operations
pub mod SignedMaps
pub mod CarrySigned
pub mod ClosedSigned
pub mod SignedModular
