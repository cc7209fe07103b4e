pub mod Settings
pub mod Faults
