-- The words of private contracts: no public contract names them, and no other crate does.
pub mod Clash
pub mod Nodes
pub mod Grow
pub mod Second
pub mod Tables
