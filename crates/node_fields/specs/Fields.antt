-- The fields of which texts about nodes are made, as bytes: each begins with a space.
use Rattle.std.specs.Prelude.{ℕ, Bool, List, ◌++◌, codes, decimal, if◌then◌else◌}
use Rattle.case_core.specs.Literal.{Literal}
use Rattle.case_core.specs.Reason.{Reason}
use Rattle.case_core.specs.Reason.TheVariants.{Unreadable, Id, Hint, Unit as NotUnit}
use Rattle.case_core.specs.Reason.TheVariants.{Empty, Group, Candidate, End}
use Rattle.mark_board.specs.declared.mark.Mark.{Mark}
use Rattle.mark_board.specs.declared.mark.Mark.TheVariants.{Open, Refuted, Rejected}

abbrev pub number_field : ℕ → List ℕ
number_field n = codes " " ++ decimal n

abbrev pub literal_field : Literal → List ℕ
literal_field l = (if l.positive then codes " " else codes " -") ++ decimal l.variable

abbrev pub reason_field : Reason → List ℕ
reason_field Unreadable = codes " unreadable"
reason_field Id = codes " id"
reason_field Hint = codes " hint"
reason_field NotUnit = codes " unit"
reason_field Empty = codes " empty"
reason_field Group = codes " group"
reason_field Candidate = codes " candidate"
reason_field End = codes " end"

abbrev pub status_fields : Mark → List ℕ
status_fields Open = codes " open"
status_fields Refuted = codes " refuted"
status_fields (Rejected step reason) = codes " rejected" ++ number_field step ++ reason_field reason

-- the line of the answer
abbrev pub answer_line : Bool → List ℕ
answer_line refuted = if refuted then codes "s REFUTED\n" else codes "s OPEN\n"
