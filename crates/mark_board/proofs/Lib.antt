pub mod MarkingLaws
mod RowsWays
mod RowsSeeking
mod RowsPosts
mod BoardNumbers
mod MarkingSound
mod RowsWorths
mod MarksGiven
pub mod TopPlacesNodes
pub mod TopPlacesParts
mod TopPlacesDepths
mod TopPlacesApart
pub mod BoardsMarks
pub mod MarkingWalk
pub mod BoardRows
pub mod BoardsTogether
pub mod BoardsGathered
mod BoardsPosts
mod BoardsWeights
pub mod MarkingWalkKept
mod MarkingOpenBranches
