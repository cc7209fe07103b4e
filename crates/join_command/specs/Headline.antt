-- What `cubejoin` is for: what its status says of a formula. All else is said in Program.
use Rattle.std.specs.Prelude.{◌≡◌, ℕ, List, Some, None, IfSome}
use Rattle.cube_report.specs.Literal.{Literal}
use Rattle.cube_report.specs.Dimacs.{IsDimacs}
use Rattle.cube_report.specs.Formula.{HasNoModel}
use Rattle.cube_report.specs.Correct.{IsUnsatisfiable}
use Rattle.bundle_files.specs.Files.{Held, IsGivenAt}
use Rattle.bundle_files.specs.Formula.{IsHandedFrom}
use Rattle.join_command.specs.Words.{JoinAsked, join_sources_of}
use Rattle.join_command.specs.Program.{AreRead, AreTextsAt, AreTrusted}

-- Status 0: where the RECORDs that were read are what is taken for granted, no assignment makes all
-- clauses true of the bundle that was read, from files that hold this, as far as that is known.
abbrev pub IsSoundJoin : ℕ → Held → JoinAsked → Type 0
IsSoundJoin status held asked =
    status ≡ 0 →
    (bundle : List ℕ) × (texts : List (List ℕ)) × AreRead held asked bundle texts
    × (AreTrusted asked.unbound bundle texts → IsUnsatisfiable bundle)

-- Status 0 where the formula has a file of its own: its text is the DIMACS text of a formula of
-- which, by the same premise, no assignment makes all clauses true.
abbrev pub IsPublishedJoin : ℕ → Held → JoinAsked → Type 0
IsPublishedJoin status held asked =
    status ≡ 0 → IfSome asked.formula (λ path.
    (bundle : List ℕ) × (texts : List (List ℕ)) × AreRead held asked bundle texts
    × (text : List ℕ) × IsGivenAt held path (Some text)
    × (formula : List (List Literal)) × IsDimacs text formula
    × (AreTrusted asked.unbound bundle texts → HasNoModel formula))

-- Readings handed over the bundle and a text for each RECORD, one of each file; where these texts
-- are what is taken for granted, no assignment makes all clauses of the bundle true, nor, where the
-- formula has a file of its own, of what one reading of that handed over, which is a DIMACS text.
pub record IsJoinedAsHanded (hands : List ℕ → List ℕ → Type 0) (asked : JoinAsked) : Type 0 where
  pub bundle : List ℕ
  pub of_file : IsHandedFrom hands (join_sources_of asked) None bundle
  pub texts : List (List ℕ)
  pub of_records : AreTextsAt hands asked.records texts
  pub none : AreTrusted asked.unbound bundle texts → IsUnsatisfiable bundle
  pub formula : IfSome asked.formula (λ path. (text : List ℕ) × hands path text
      × (formula : List (List Literal)) × IsDimacs text formula
      × (AreTrusted asked.unbound bundle texts → HasNoModel formula))

-- status 0: so it is, also where nothing is known of what the files hold, or where with each
-- reading another text lies at a path
abbrev pub IsSoundJoinAsHanded : ℕ → (List ℕ → List ℕ → Type 0) → JoinAsked → Type 0
IsSoundJoinAsHanded status hands asked = status ≡ 0 → IsJoinedAsHanded hands asked
