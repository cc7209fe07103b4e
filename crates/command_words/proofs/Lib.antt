mod WordsAdded
pub mod WordsProof
pub mod WordsPaths
pub mod WordsRequests
