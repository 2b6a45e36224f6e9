mod Gathering
mod Samples
