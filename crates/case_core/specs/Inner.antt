-- The words of private contracts: no public contract names them, and no other crate does.
pub mod Case
pub mod Finding
pub mod Label
pub mod Bundle
pub mod Sections
pub mod Reading
pub mod Labelled
