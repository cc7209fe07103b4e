pub use Rattle.command_words.specs.Words
pub mod Sources
pub mod Headline
pub mod Record
pub mod Open
pub mod Laws
pub mod Program
pub mod Inner
