pub mod Put
pub mod RangeSet
pub mod Runs
pub mod TokenRows
