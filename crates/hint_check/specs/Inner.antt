-- The words of private contracts: no public contract names them, and no other crate does.
pub mod Alike
pub mod Live
pub mod Propagate
pub mod Apply
pub mod Steps
pub mod Judging
pub mod Stamps
pub mod Assignment
pub mod Blocks
pub mod Index
pub mod Table
pub mod Far
pub mod Grouped
pub mod Needed
pub mod Holders
