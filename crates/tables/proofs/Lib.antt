pub mod Laying
pub mod Stores
pub mod Chain
