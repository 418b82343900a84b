pub mod Json
pub mod Order
