pub mod Format
pub mod Records
pub mod Meaning
pub mod Answers
pub mod Laws
pub mod Worked
