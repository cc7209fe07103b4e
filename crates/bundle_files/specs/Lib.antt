pub mod Formula
pub mod Laws
pub mod Judging
pub mod WhileRead
pub mod Inner
pub use Rattle.case_core.specs.Sections
pub use Rattle.file_store.specs.Files
