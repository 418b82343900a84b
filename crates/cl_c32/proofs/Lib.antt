pub mod Characters
pub mod Examples
pub mod Numbers
pub mod Padding
pub mod Principals
pub mod RoundTrip
pub mod Texts
