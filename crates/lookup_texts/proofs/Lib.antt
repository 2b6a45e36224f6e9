pub mod Numbered
pub mod Nodes
pub mod RowText
pub mod NodeSpan
pub mod Samples
