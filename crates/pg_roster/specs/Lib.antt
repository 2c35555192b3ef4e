pub mod Records
pub mod Roster
