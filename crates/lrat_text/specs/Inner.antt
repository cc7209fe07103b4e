-- The words of private contracts and of views of private fields: no public contract names them, and
-- no other crate does.
pub mod Steps
