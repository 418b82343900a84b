pub mod Ending
pub mod ValuesFit
pub mod Laws
