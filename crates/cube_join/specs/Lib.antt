pub mod Joined
pub mod Inner
