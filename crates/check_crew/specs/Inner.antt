-- The words of private contracts: no public contract names them, and no other crate does.
pub mod Order
pub mod Crew
pub mod Apart
pub mod One
pub mod Handed
pub mod WhileRead
