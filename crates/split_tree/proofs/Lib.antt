pub mod SplitTreeUnique
mod ClashRelations
pub mod ClashTotal
mod GroupStretch
mod GrowWays
mod GrowLoop
pub mod ClashFits
mod SecondWalk
mod SecondAlike
pub mod NodesCoding
mod NodesEnds
pub mod SplitTreeLabels
pub mod SplitTreeDepths
pub mod NavigationSteps
pub mod LeavesPaths
pub mod TablesTotals
pub mod PartsTop
pub mod TablesParents
pub mod LeavesNodes
pub mod NavigationPaths
mod PartsLaws
pub mod SplitTreeExists
pub mod LawsRefuting
