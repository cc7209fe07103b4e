mod SymbolsWords
mod SymbolsNumerals
mod SymbolsText
mod EncodingEncoded
mod EncodingDecoded
mod EncodingRoundTrip
mod Numerals
mod Fronts
pub mod WordsMore
