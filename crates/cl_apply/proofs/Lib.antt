pub mod NumberLaws
pub mod HashLaws
pub mod RowLaws
pub mod DefinedLaws
pub mod EntryLaws
pub mod MergeLaws
pub mod PartLaws
pub mod SequenceLaws
