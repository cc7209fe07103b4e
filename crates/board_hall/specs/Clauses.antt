-- What the clauses of a hall's calls say.
use Rattle.std.specs.Prelude.{◌≡◌, ◌≢◌, ◌<◌, ℕ, List, ◌∷◌, ◌++◌, Some, ◌⊎◌, ◌==◌, if◌then◌else◌}
use Rattle.std.specs.Prelude.{All}
use Rattle.std.specs.Prelude.{true, false, length, [], None}
use Rattle.mark_board.specs.declared.mark.Mark.TheVariants.{Open}
use Rattle.board_hall.specs.declared.view.View.{View}
use Rattle.board_hall.specs.declared.view.CutCase.{CutCase}
use Rattle.board_hall.specs.declared.view.Post.{Post}
use Rattle.board_hall.specs.Posts.{parts_in, mark_in, Among, AreReal, board_count, place_of}
use Rattle.board_hall.specs.Posts.{posts_of, root_by, IsPartPost, node_of, NeedsSection}
use Rattle.case_core.specs.Finding.{HasSection, target_of}
use Rattle.case_core.specs.declared.finding.Finding.{Finding}
use Rattle.board_hall.specs.Hall.{HallState, Reached}
use Rattle.case_core.specs.Judged.{Judged}
use Rattle.split_tree.specs.SplitTree.{size}
use Rattle.split_tree.specs.Leaves.{IsTargetAt}
use Rattle.split_tree.specs.declared.node.Target.{Target}
use Rattle.mark_board.specs.declared.mark.Mark.{Mark}
use Rattle.mark_board.specs.declared.part.PartVerdict.{PartVerdict}
use Rattle.mark_board.specs.declared.place.Place.{Place}
use Rattle.mark_board.specs.declared.place.Place.TheVariants.{Part, Top}
use Rattle.mark_board.specs.declared.posted.Posted.{Posted}
use Rattle.mark_board.specs.declared.posted.Posted.TheVariants as posted
use Rattle.mark_board.specs.declared.posted.PartPosted.{PartPosted}
use Rattle.mark_board.specs.declared.posted.PartPosted.TheVariants as part_posted
use Rattle.mark_board.specs.Board.{IsRow, HasTargets}
use Rattle.mark_board.specs.Boards.{BoardsOf}
use Rattle.mark_board.specs.Findings.{mark_as}
use Rattle.mark_board.specs.Marking.{mark_at}
use Rattle.mark_board.specs.VerdictOf.{verdict_of}
use Rattle.board_hall.specs.declared.pass.Pass.{Pass}
use Rattle.board_hall.specs.Halls.{HallOf, view_of}

-- the posts of the pass on board b are among these
abbrev pub Own : View → ℕ → List Post → Type 0
Own v b posts = (x : Post) → Among x v.posts → x.board ≡ b → Among x posts

-- after a call the pass is one of the same hall, stands for as many, and has seen all that it had
-- seen
pub record Stays (v w : View) : Type 0 where
  pub of_same : w.of ≡ v.of
  pub parts : w.parts ≡ v.parts
  pub more : List Post
  pub seen : w.seen ≡ v.seen ++ more

-- what the pass has seen holds its own posts on board b
abbrev pub SeesOwn : View → ℕ → Type 0
SeesOwn v b = Own v b v.seen

-- a call that posts nothing
pub record PostsNothing (v w : View) : Type 0 where
  pub posts : w.posts ≡ v.posts
  pub owes : w.owes ≡ v.owes

-- the number of the board at a place
abbrev pub board_number : CutCase → Place → ℕ
board_number k (Part part) = part
board_number k Top = parts_in k

-- findings of the node are posted on board b, at this row
pub record IsHome (k : CutCase) (node b row : ℕ) : Type 0 where
  pub inside : b < board_count k
  pub is_row : IsRow k.cut k.case.tree (place_of k b) node row
  pub has_targets : HasTargets k.cut k.case.tree (place_of k b) row

-- what a finding of the node posts
pub record IsPostOf (k : CutCase) (node : ℕ) (judged : Judged) (x : Post) : Type 0 where
  pub home : IsHome k node x.board x.row
  pub judged_is : x.judged ≡ judged

-- the marks with one row open
abbrev pub with_row_open : ℕ → (ℕ → Mark) → ℕ → Mark
with_row_open row marks q = if q == row then Open else marks q

-- by these marks the root of x's board is marked, and without x's own it isn't
pub record MarksRootOf (k : CutCase) (x : Post) (marks : ℕ → Mark) : Type 0 where
  pub was : root_by k x.board (with_row_open x.row marks) ≡ false
  pub is : root_by k x.board marks ≡ true

-- the pass has posted x, and has seen that it stands
pub record HasPosted (x : Post) (v w : View) : Type 0 where
  pub posts : w.posts ≡ v.posts ++ x ∷ []
  pub mark : mark_in w.seen x.board x.row ≡ mark_as x.judged

-- the verdict is of this part of the case and cut
pub record IsVerdictOf (k : CutCase) (part : ℕ) (verdict : PartVerdict) : Type 0 where
  pub case : (verdict_of verdict).case ≡ k.case
  pub cut : (verdict_of verdict).cut ≡ k.cut
  pub part_is : (verdict_of verdict).part ≡ part
  pub within : part < parts_in k

-- where the proof of the finding's target can only be its section, the target has one
abbrev pub IsOfSection : CutCase → Finding → Type 0
IsOfSection k finding =
    NeedsSection k.proofs (target_of finding.leaf finding.node)
    → HasSection finding.case.now (target_of finding.leaf finding.node)

-- the target at the row of x's board has a section
abbrev pub HasSectionAt : CutCase → Post → Type 0
HasSectionAt k x =
    (target : Target) × IsTargetAt k.case.tree (node_of k x.board x.row) target
    × HasSection k.case target

-- What a pass posted and owes after a post, by the answer. Where the target had a finding, the pass
-- posted nothing, and has seen that it has a mark. Where the target has a section, that is the mark
-- of the finding that it handed in: no other can stand there, since a node has one target, a target
-- one path and one section, and so one judgement.
abbrev pub Becomes : CutCase → Post → Posted → View → View → Type 0
Becomes k x posted.Marked v w =
    HasPosted x v w × (w.owes ≡ None) × (MarksRootOf k x (mark_in w.seen x.board) → ⊥)
Becomes k x (posted.RootMarked verdict) v w =
    HasPosted x v w × (w.owes ≡ Some x.board) × MarksRootOf k x (mark_in w.seen x.board)
    × IsVerdictOf k x.board verdict
Becomes k x posted.TopMarked v w =
    HasPosted x v w × (w.owes ≡ None) × MarksRootOf k x (mark_in w.seen x.board)
    × (x.board ≡ parts_in k)
Becomes k x (posted.Already finding) v w =
    PostsNothing v w × (mark_in w.seen x.board x.row ≢ Open)
    × (HasSectionAt k x → mark_in w.seen x.board x.row ≡ mark_as x.judged)

-- the finding of a node was posted on the node's board, or came back
pub record IsPosted (k : CutCase) (node : ℕ) (judged : Judged) (result : Posted) (v w : View)
    : Type 0 where
  pub post : Post
  pub is_post : IsPostOf k node judged post
  pub sees : SeesOwn w post.board
  pub becomes : Becomes k post result v w

-- the verdict that was owed is posted, and nothing is owed
abbrev pub PartBecomes : CutCase → Post → PartPosted → View → View → Type 0
PartBecomes k x part_posted.Marked v w =
    HasPosted x v w × (w.owes ≡ None) × (MarksRootOf k x (mark_in w.seen x.board) → ⊥)
PartBecomes k x part_posted.RootMarked v w =
    HasPosted x v w × (w.owes ≡ None) × MarksRootOf k x (mark_in w.seen x.board)
PartBecomes k x (part_posted.Already verdict) v w = ⊥

pub record IsPartPosted (k : CutCase) (part : ℕ) (result : PartPosted) (v w : View) : Type 0 where
  pub post : Post
  pub is_post : IsPartPost k part post
  pub sees : SeesOwn w post.board
  pub becomes : PartBecomes k post result v w

-- the mark is that of the target by the posts that the pass has seen, its own on the target's board
-- among them
pub record IsMarkSeen (k : CutCase) (target : Target) (mark : Mark) (w : View) : Type 0 where
  pub node : ℕ
  pub board : ℕ
  pub row : ℕ
  pub here : IsTargetAt k.case.tree node target
  pub home : IsHome k node board row
  pub sees : SeesOwn w board
  pub is : mark ≡ mark_in w.seen board row

-- the boards of this case and cut have the marks of these posts
pub record HoldPosts (k : CutCase) (posts : List Post) (boards : BoardsOf) : Type 0 where
  pub case : boards.case ≡ k.case
  pub cut : boards.cut ≡ k.cut
  pub long : length boards.marks ≡ size k.case.tree
  pub marks : (node b row : ℕ) → IsHome k node b row →
      mark_at boards.marks node ≡ mark_in posts b row

-- The hall came by its own steps to a state in which all that these passes posted and have seen is
-- among the posts, and these are the boards of its posts.
pub record Gathers (hall : HallOf) (passes : List Pass) (boards : BoardsOf) : Type 0 where
  pub state : HallState
  pub reached : Reached hall.of hall.passes state
  pub real : AreReal hall.of (posts_of state.views)
  pub includes : All (λ p. (x : Post) → Among x (view_of p).posts ⊎ Among x (view_of p).seen →
      Among x (posts_of state.views)) passes
  pub hold : HoldPosts hall.of (posts_of state.views) boards
