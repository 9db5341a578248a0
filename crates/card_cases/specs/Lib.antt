pub mod Durable
pub mod SavedBytes
