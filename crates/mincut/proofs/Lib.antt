pub mod Checking
pub mod Unique
pub mod Sets
pub mod Existing
pub mod Working
