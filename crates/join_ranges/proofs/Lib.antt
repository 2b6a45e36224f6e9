pub mod Laying
pub mod Nodes
pub mod Setting
