pub mod Ring
pub mod Sum
pub mod Combination
pub mod Rearranged
pub mod OwnInverse
pub mod Hom
pub mod Modular
pub mod Halves
