pub mod Lines
pub mod Standings
