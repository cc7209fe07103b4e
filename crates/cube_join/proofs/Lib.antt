mod Bytes
mod Lines
mod LinesRead
mod OwnReading
mod Telling
mod FieldsNumbers
mod FieldsPaths
mod StatusReading
mod ReadingFronts
mod ReadingMarks
mod ReadingLines
mod ReadingNodes
mod ReadingAll
pub mod JoinedLegible
mod JoinedMarks
mod Sound
mod Bundles
mod JoinedTurns
pub mod JoinedAll
mod JoinedFindings
mod Statuses
mod JoinedReports
