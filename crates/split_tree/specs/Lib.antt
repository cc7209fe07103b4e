pub mod Clash
pub mod SplitTree
pub mod TreeCode
pub mod Navigation
pub mod Leaves
pub mod Parts
pub mod Laws
pub mod Inner
