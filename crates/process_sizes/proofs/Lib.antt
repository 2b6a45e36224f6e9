mod Places
mod Alone
mod Profiles
mod Turns
