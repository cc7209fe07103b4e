-- Texts that begin with the fields of a report's lines.
use Rattle.std.specs.Prelude.{ℕ, ◌<◌, ◌^◌, List, [], ◌∷◌, ◌++◌}
use Rattle.case_core.specs.Literal.{Literal, IsVariable}
use Rattle.mark_board.specs.declared.mark.Mark.{Mark}
use Rattle.mark_board.specs.declared.mark.Mark.TheVariants.{Open, Refuted, Rejected}
use Rattle.node_fields.specs.Fields.{literal_field}

-- the text doesn't begin with a digit, but with a blank or a line feed, or has ended
abbrev pub EndsNumber : List ℕ → Type 0
EndsNumber [] = Unit {0}
EndsNumber (b ∷ bs) = b < 48

-- the formats allow each variable of the path
abbrev pub AreVariables : List Literal → Type 0
AreVariables [] = Unit {0}
AreVariables (l ∷ path) = IsVariable l.variable × AreVariables path

-- the fields of a path and its end mark, and what stands behind them
abbrev pub path_text : List Literal → List ℕ → List ℕ
path_text [] rest = 32 ∷ 48 ∷ rest
path_text (l ∷ path) rest = literal_field l ++ path_text path rest

-- the step of a rejection has 64 bits
abbrev pub HasSmallStep : Mark → Type 0
HasSmallStep Open = Unit {0}
HasSmallStep Refuted = Unit {0}
HasSmallStep (Rejected step reason) = step < 2 ^ 64
