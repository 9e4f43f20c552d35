pub mod Laying
pub mod Cuts
