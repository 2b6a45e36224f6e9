pub mod Checking
pub mod Entries
pub mod Sound
pub mod EntryMembers
