pub mod Split
pub mod Done
pub mod Next
