pub mod View
pub mod Node
