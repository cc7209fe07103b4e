pub mod Device
pub mod Inner
pub mod Lines
