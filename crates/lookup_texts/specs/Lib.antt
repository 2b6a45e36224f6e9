pub mod Numbered
pub mod RowText
pub mod NodeSpan
pub mod Promises
