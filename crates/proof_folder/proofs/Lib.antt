pub mod AddedLines
mod AddedLabels
mod AddedCase
mod AddedMarks
mod GivenNames
pub mod GivenLeaves
pub mod GivenCase
pub mod GivenFindings
pub mod GivenFound
pub mod GivenBelow
