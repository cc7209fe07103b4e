pub mod Posts
pub mod Hall
pub mod Clauses
pub mod Terms
pub mod Halls
pub mod Laws
pub mod Inner
