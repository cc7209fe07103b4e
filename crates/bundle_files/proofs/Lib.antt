pub mod LawsFormula
mod FormulaPlain
mod FormulaLines
pub mod FormulaText
mod FormulaPlace
pub mod FormulaReading
mod LawsApart
mod JudgingFaults
mod JudgingRuns
mod OneProof
mod OneProofCube
mod WhileRead
