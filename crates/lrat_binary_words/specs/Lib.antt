pub mod Symbols
pub mod Encoding
pub mod Words
pub mod Inner
pub use Rattle.lrat_binary.specs.Binary
