pub mod Reading
pub mod Top
