-- The words of private contracts: no public contract names them, and no other crate does.
pub mod Rows
pub mod Top
pub mod Boards
