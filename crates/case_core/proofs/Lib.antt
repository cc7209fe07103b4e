pub mod FindingUnique
mod LabelNames
mod BundleCuts
pub mod CaseTables
mod LabelLimits
mod SectionsReading
mod SectionsOneMeaning
pub mod SectionsUniqueCase
mod SectionsUniqueFault
mod SectionsTotal
mod BundleLetters
pub mod ReadingParts
mod BinaryLines
pub mod BundleMore
pub mod BundleLines
mod TargetHas
mod LabelFirst
mod LabelledBlocks
pub mod LabelledParts
pub mod SectionsMore
mod ReadingProofs
pub use Rattle.cnf_text.proofs.DimacsFormula
pub use Rattle.cnf_text.proofs.DimacsLine
pub use Rattle.cnf_text.proofs.DimacsUnique
pub use Rattle.cnf_text.proofs.IcnfUnique
pub use Rattle.cnf_text.proofs.WordsLeft
pub use Rattle.hint_check.proofs.JudgementShort
pub use Rattle.hint_check.proofs.JudgementSound
pub use Rattle.hint_check.proofs.JudgementSteps
pub use Rattle.hint_check.proofs.LiveEmpty
pub use Rattle.hint_check.proofs.ProofUnique
pub use Rattle.hint_check.proofs.PropagationSteps
pub use Rattle.split_tree.proofs.LeavesPaths
pub use Rattle.split_tree.proofs.NodesCoding
