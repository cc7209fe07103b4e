pub mod Headline
pub mod Words
pub mod Program
pub mod Inner
