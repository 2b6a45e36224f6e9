pub mod Specials
pub mod Lengthened
pub mod Lengthening
