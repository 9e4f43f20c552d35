pub mod Filled
pub mod Lists
pub mod Runs
pub mod Going
