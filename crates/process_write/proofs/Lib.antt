pub mod Encodings
mod Along
