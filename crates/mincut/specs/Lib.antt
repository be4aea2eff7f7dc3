pub mod Flow
pub mod Solver
pub mod Laws
pub mod View
pub mod Worked
