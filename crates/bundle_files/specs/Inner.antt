-- The words of private contracts: no public contract names them, and no other crate does.
pub mod Formula
pub mod WhileRead
