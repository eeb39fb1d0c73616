pub mod InverseLetter
pub mod Words
pub mod Count
pub mod Laws
pub mod Maps
