mod Deciding
mod Samples
