pub mod FilesSections
mod FilesOpened
mod FilesPaths
mod FolderGiven
mod FolderNames
mod ProofsTurned
