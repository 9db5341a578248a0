pub mod Cases
pub mod Entries
pub mod Headers
pub mod Layouts
pub mod Rules
pub mod Tables
pub mod Words
pub mod Prints
