pub mod DecoderBytes
pub mod FormParts
mod NumberBytes
mod PageDigits
