-- The words of private contracts: no public contract names them, and no other crate does.
pub mod Plays
pub mod Held
pub mod Opening
pub mod Closing
