pub mod Fields
pub mod Bytes
