pub mod EntriesStep
pub mod JsonNumbers
pub mod ReadValues
pub mod ReadParts
pub mod FileParts
pub mod Listing
pub mod StateRows
pub mod StateTexts
