pub mod Permutation
pub mod Tower
pub mod ShortestWord
pub mod Extend
pub mod Laws
