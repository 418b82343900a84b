pub mod Address
pub mod Alphabet
pub mod Cells
pub mod Codec
pub mod ContractName
pub mod Digits
pub mod Principals
