pub mod Carrying
pub mod Finish
pub mod Fitted
pub mod Maps
pub mod More
pub mod Moved
pub mod Replaced
pub mod Rules
pub mod Turning
pub mod Sequents
pub mod Given
pub mod Good
pub mod Hypothetical
pub mod Cased
pub mod Inducted
pub mod Filled
pub mod Rewritten
pub mod Applied
pub mod Works
pub mod Closed
pub mod Playing
mod RowsWorked
mod RowsPlain
mod RowsForward
mod RowsUnfolding
mod RowsLarge
pub mod Instanced
pub mod Reading
pub mod Theorem
pub mod Monotone
pub mod ByRecursion
pub mod Lawful
pub mod Unfolding
pub mod Counted
