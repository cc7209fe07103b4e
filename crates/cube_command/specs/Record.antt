-- The record of a run: the line that names the text of the formula, and the report. (iCNF: HVC
-- 2011; SHA-256: FIPS 180-4.)
use Rattle.std.specs.Prelude.{◌≡◌, ℕ, List, ◌++◌, codes}
use Rattle.hex.specs.Hex.{encode_lower}
use Rattle.sha2.specs.Sha256.{sha256}
use Rattle.cube_report.specs.Bundle.{icnf_text}
use Rattle.cube_report.specs.Correct.{IsReportOn}

-- the line that names a text: its SHA-256 as 64 hexadecimal digits, with lower-case letters
abbrev pub digest_line : List ℕ → List ℕ
digest_line text = codes "i " ++ encode_lower (sha256 text) ++ codes "\n"

-- the line of the iCNF text of the bundle that was read, and then the report
abbrev pub record_text : List ℕ → List ℕ → List ℕ
record_text read report = digest_line (icnf_text read) ++ report

-- the record of a run that read the one bundle, and judged the other: the same with DIR's proofs
abbrev pub IsRecordOn : List ℕ → List ℕ → List ℕ → Type 0
IsRecordOn read whole written =
    (report : List ℕ) × IsReportOn whole report × (written ≡ record_text read report)

-- these texts have each record of such a run
abbrev pub AllowsRecords : (List ℕ → Type 0) → List ℕ → List ℕ → Type 0
AllowsRecords texts read whole =
    (written : List ℕ) → IsRecordOn read whole written → texts written
