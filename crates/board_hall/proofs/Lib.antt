pub mod PostsLists
mod HallLawful
mod HallMoves
mod PlaysHands
mod HeldPosts
mod PostsHomes
mod ClausesCalls
pub mod PostsOneFinding
mod OpeningHall
mod ClosingBoards
mod LawsOpenLeaves
mod LawsWhole
mod LawsWholeOfLeaves
