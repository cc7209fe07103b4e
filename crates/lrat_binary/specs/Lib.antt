pub mod Binary
pub mod Numbers
pub mod Decoder
pub mod Form
