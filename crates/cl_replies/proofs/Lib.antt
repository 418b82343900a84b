pub mod Counted
pub mod Called
pub mod Judged
pub mod Spellings
pub mod Rooted
pub mod Verified
pub mod NumberedRows
pub mod SteppedFiles
