-- What a post answers, what it gives back, and the marks after it.
use Rattle.std.specs.Prelude.{ℕ, ◌≡◌, true, false, List, slice_set}
use Rattle.split_tree.specs.SplitTree.{SplitTree}
use Rattle.mark_board.specs.declared.mark.Mark.{Mark}
use Rattle.mark_board.specs.declared.rows.Answer.{Answer}
use Rattle.mark_board.specs.declared.rows.Answer.TheVariants.{Marked, RootMarked, Already}
use Rattle.mark_board.specs.Marking.{marked, refuted_by}
use Rattle.case_core.specs.declared.finding.Finding.{Finding}
use Rattle.mark_board.specs.declared.part.PartVerdict.{PartVerdict}
use Rattle.mark_board.specs.declared.place.Place.TheVariants.{Part, Top}
use Rattle.mark_board.specs.declared.posted.Posted.{Posted}
use Rattle.mark_board.specs.declared.posted.Posted.TheVariants as posted
use Rattle.mark_board.specs.declared.posted.PartPosted.{PartPosted}
use Rattle.mark_board.specs.declared.posted.PartPosted.TheVariants as part_posted
use Rattle.mark_board.specs.Board.{BoardOf}

-- the marks after a post
abbrev pub marks_after : Answer → List Mark → ℕ → Mark → List Mark
marks_after Already marks node mark = marks
marks_after Marked marks node mark = slice_set marks node mark
marks_after RootMarked marks node mark = slice_set marks node mark

-- the tree's root is marked by the new marks, and wasn't by the old ones
pub record MarksRoot (tree : SplitTree) (before after : List Mark) : Type 0 where
  pub was : marked (refuted_by before) 0 tree ≡ false
  pub is : marked (refuted_by after) 0 tree ≡ true

-- the answers without what they give back
abbrev pub posted_answer : Posted → Answer
posted_answer posted.Marked = Marked
posted_answer (posted.RootMarked verdict) = RootMarked
posted_answer posted.TopMarked = RootMarked
posted_answer (posted.Already finding) = Already

abbrev pub part_posted_answer : PartPosted → Answer
part_posted_answer part_posted.Marked = Marked
part_posted_answer part_posted.RootMarked = RootMarked
part_posted_answer (part_posted.Already verdict) = Already

-- the verdict is of this board's part
pub record IsVerdictOn (board : BoardOf) (verdict : PartVerdict) : Type 0 where
  pub case : verdict.case.now ≡ board.case
  pub cut : verdict.cut ≡ board.cut
  pub place : board.place ≡ Part verdict.part

-- a verdict comes from the board of its part alone, and only the top board says that it marked the
-- root of the whole tree
abbrev pub IsPostedOn : BoardOf → Posted → Type 0
IsPostedOn board posted.Marked = Unit {0}
IsPostedOn board (posted.RootMarked verdict) = IsVerdictOn board verdict
IsPostedOn board posted.TopMarked = board.place ≡ Top
IsPostedOn board (posted.Already finding) = Unit {0}

-- what is given back is what was handed in
abbrev pub GivesBack : Posted → Finding → Type 0
GivesBack posted.Marked handed = Unit {0}
GivesBack (posted.RootMarked verdict) handed = Unit {0}
GivesBack posted.TopMarked handed = Unit {0}
GivesBack (posted.Already finding) handed = finding ≡ handed

abbrev pub GivesPartBack : PartPosted → PartVerdict → Type 0
GivesPartBack part_posted.Marked handed = Unit {0}
GivesPartBack part_posted.RootMarked handed = Unit {0}
GivesPartBack (part_posted.Already verdict) handed = verdict ≡ handed
