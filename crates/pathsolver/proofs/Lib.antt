pub mod Visiting
pub mod Walking
pub mod Seeking
pub mod Sending
