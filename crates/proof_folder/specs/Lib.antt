pub mod Added
pub mod Given
pub mod Laws
pub mod TargetProofs
