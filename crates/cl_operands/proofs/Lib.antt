mod ActLaws
mod KeyLaws
mod PrincipalLaws
pub mod RowLaws
pub mod SieveLaws
