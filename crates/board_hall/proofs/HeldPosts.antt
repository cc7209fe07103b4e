-- A board that a seat holds, after a post.
use Rattle.std.proofs.Common.{◌≡◌, ◌≢◌, ◌⊎◌, ◌↔◌, ◌<◌, ◌≤◌, ◌-◌, ℕ, Bool, true, false, List, ◌∷◌}
use Rattle.std.proofs.Common.{Option, Some, None, ◌==◌, set, length, length-set, get_or-set_same}
use Rattle.std.proofs.Common.{get_or-set_other, refl, sym, ap, ◌∙◌, subst, inl, inr, ⊎_elim, arith}
use Rattle.std.proofs.Common.{eq-eqb, ne_eqb}
use mathlib.Core.Logic.{dite}
use native.Mathlib.Decide.{ℕ_discrete}
use Rattle.case_core.specs.Judged.{Judged}
use Rattle.case_core.specs.Judged.TheVariants.{Refuted as judged_refuted}
use Rattle.split_tree.specs.SplitTree.{SplitTree, size, path_at}
use Rattle.split_tree.specs.Leaves.{IsTargetAt}
use Rattle.split_tree.specs.declared.node.Target.{Target}
use Rattle.case_core.specs.Case.{CaseOf}
use Rattle.case_core.specs.Finding.{IsFinding, HasSection, IsSoundFinding, target_of}
use Rattle.case_core.specs.declared.finding.Finding.{Finding}
use Rattle.mark_board.specs.declared.mark.Mark.{Mark}
use Rattle.mark_board.specs.declared.mark.Mark.TheVariants.{Open, Refuted, Rejected}
use Rattle.mark_board.specs.declared.place.Place.{Place}
use Rattle.mark_board.specs.declared.place.Place.TheVariants.{Part, Top}
use Rattle.mark_board.specs.declared.rows.Answer.{Answer}
use Rattle.mark_board.specs.declared.rows.Answer.TheVariants.{Marked, RootMarked, Already}
use Rattle.mark_board.specs.declared.posted.Posted.{Posted}
use Rattle.mark_board.specs.declared.posted.Posted.TheVariants as posted
use Rattle.mark_board.specs.declared.posted.PartPosted.{PartPosted}
use Rattle.mark_board.specs.declared.posted.PartPosted.TheVariants as part_posted
use Rattle.mark_board.specs.Posting.{marks_after, MarksRoot, posted_answer, part_posted_answer}
use Rattle.mark_board.specs.Posting.{IsPostedOn}
use Rattle.mark_board.specs.Board.{BoardOf, board_tree, board_node, tree_on, worth_on, HasTargets}
use Rattle.mark_board.specs.Board.{IsRow, IsRowOn, IsTargetRow}
use Rattle.mark_board.specs.declared.stored.BoardData.{BoardData}
use Rattle.mark_board.specs.BoardData.{stored_board}
use Rattle.mark_board.specs.Marking.{marked, open_weight, is_refuted, mark_at, refuted_by}
use Rattle.case_core.specs.Formula.{IsRefuted}
use Rattle.mark_board.specs.Findings.{mark_as}
use Rattle.mark_board.specs.TopPlaces.{worth_of, part_place, part_root}
use Rattle.mark_board.proofs.BoardsMarks.{part_is}
use Rattle.board_hall.specs.declared.view.CutCase.{CutCase}
use Rattle.board_hall.specs.declared.view.Post.{Post}
use Rattle.board_hall.specs.Posts.{parts_in, board_count, place_if, place_of, tree_at, node_of}
use Rattle.board_hall.specs.Posts.{is_at, mark_by, mark_in, open_by, root_by, covered, owed_if}
use Rattle.board_hall.specs.Posts.{IsFindingPost, IsPartPost, NeedsSection}
use Rattle.board_hall.specs.Hall.{IsBoard, IsBoardOf, posting, MayPost, in_part, on_top}
use Rattle.board_hall.specs.Inner.Plays.{Hand}
use Rattle.board_hall.specs.Clauses.{IsHome}
use Rattle.board_hall.specs.Inner.Held.{MakesRoot, Recorded, PartRecorded, owed_after}
use Rattle.board_hall.proofs.PostsLists.{of_cases, is_itself}
use Rattle.board_hall.proofs.HallLawful.{lighter}

-- what a board says of a post at a row
pub record BoardPosted (old new : BoardOf) (row : ℕ) (mark : Mark) (answer : Answer) : Type 0 where
  pub same : (new.case ≡ old.case) × (new.cut ≡ old.cut) × (new.place ≡ old.place)
  pub marks : new.marks ≡ marks_after answer old.marks row mark
  pub already : (answer ≡ Already) ↔ (mark_at old.marks row ≢ Open)
  pub root : (answer ≡ RootMarked) ↔ MarksRoot (tree_on old) old.marks new.marks

-- a mark is open, or it isn't
pub open_or : (m : Mark) → (m ≡ Open) ⊎ (m ≢ Open)
open_or Open = inl refl
open_or Refuted = inr (λ e. absurd (cc))
open_or (Rejected number reason) = inr (λ e. absurd (cc))

after_new : (answer : Answer) (marks : List Mark) (row : ℕ) (mark : Mark) → answer ≢ Already →
    marks_after answer marks row mark ≡ set marks row mark
after_new Marked marks row mark new = refl
after_new RootMarked marks row mark new = refl
after_new Already marks row mark new = absurd (new refl)

-- the open weight and the root's mark of a board are those of its posts
module _ (k : CutCase) (b : ℕ) (posts : List Post) (board : BoardOf)
    (is : IsBoardOf k b posts board) where
  pub tree_is : tree_on board ≡ tree_at k b
  tree_is = λ i. board_tree (is.is_at.cut_is i) (is.is_at.case_is i).tree (is.is_at.place_is i)

  -- the open weight of a held board is that of the posts on it
  pub weight_is : open_weight (worth_on board) (refuted_by board.marks) 0 (tree_on board)
      ≡ open_by k b (mark_in posts b)
  weight_is =
      λ i. open_weight
      (λ row. worth_of (is.is_at.case_is i).tree
      (board_node (is.is_at.cut_is i) (is.is_at.case_is i).tree (is.is_at.place_is i) row))
      (λ row. is_refuted (is.marks row i)) 0
      (board_tree (is.is_at.cut_is i) (is.is_at.case_is i).tree (is.is_at.place_is i))

  pub root_is : (tree : SplitTree) → tree ≡ tree_at k b →
      marked (refuted_by board.marks) 0 tree ≡ root_by k b (mark_in posts b)
  root_is tree t = λ i. marked (λ row. is_refuted (is.marks row i)) 0 (t i)

module _ (k : CutCase) (known : List Post) (old new : BoardOf) (x : Post) (answer : Answer)
    (is : IsBoardOf k x.board known old)
    (within : x.row < size (tree_at k x.board))
    (p : BoardPosted old new x.row (mark_as x.judged) answer) where
  -- a post that was new found no mark
  pub fresh : answer ≢ Already → mark_in known x.board x.row ≡ Open
  fresh n =
      ⊎_elim (λ e. sym (is.marks x.row) ∙ e) (λ not. absurd (n (p.already.1 not)))
      (open_or (mark_at old.marks x.row))

  pub stale : answer ≡ Already → mark_in known x.board x.row ≢ Open
  stale a e = p.already.0 a (is.marks x.row ∙ e)

  other : (row : ℕ) → row ≢ x.row → mark_in (x ∷ known) x.board row ≡ mark_in known x.board row
  other row apart = ⊎_elim
      (λ (h : (x.board ≡ x.board) × (x.row ≡ row) × (is_at x x.board row ≡ true)). absurd
      (apart (sym h.1)))
      (λ (h : is_at x x.board row ≡ false). λ i. mark_by (h i) x (mark_in known x.board row))
      (of_cases x x.board row)

  pub first_mark : mark_in (x ∷ known) x.board x.row ≡ mark_as x.judged
  first_mark = λ i. mark_by (is_itself x i) x (mark_in known x.board x.row)

  -- after a post that was new, the board is that of the posts with this one
  pub board_new : answer ≢ Already → IsBoardOf k x.board (x ∷ known) new
  board_new n =
      let same = p.marks ∙ after_new answer old.marks x.row (mark_as x.judged) n in
      let long = is.is_at.long in record {
        is_at = record {
          case_is = p.same.0 ∙ is.is_at.case_is;
          cut_is = p.same.1 ∙ is.is_at.cut_is;
          place_is = p.same.2 ∙ is.is_at.place_is;
          long =
              ap (λ (ms : List Mark). length ms) same
              ∙ (length-set old.marks x.row (mark_as x.judged) ∙ long);
        };
        marks = λ row. ap (λ ms. mark_at ms row) same ∙ dite (ℕ_discrete row x.row)
            (λ here. (λ i. mark_at (set old.marks x.row (mark_as x.judged)) (here i))
            ∙ (get_or-set_same old.marks x.row (mark_as x.judged) Open (omega (arith, within, long))
            ∙ (sym first_mark ∙ (λ i. mark_in (x ∷ known) x.board (sym here i)))))
            (λ apart. get_or-set_other old.marks x.row row (mark_as x.judged) Open apart
            ∙ (is.marks row ∙ sym (other row apart)));
      }

  -- the weight that was lost is that of the leaves newly covered
  pub lost : (before now : ℕ) → answer ≢ Already →
      before ≡ open_weight (worth_on old) (refuted_by old.marks) 0 (tree_on old) →
      now ≡ open_weight (worth_on new) (refuted_by new.marks) 0 (tree_on new)
      → (now ≤ before) × (before - now ≡ covered k x.board (mark_in known x.board) x)
  lost before now n was is_now =
      let a : before ≡ open_by k x.board (mark_in known x.board) =
      was ∙ weight_is k x.board known old is in
      let c : now ≡ open_by k x.board (mark_in (x ∷ known) x.board) =
      is_now ∙ weight_is k x.board (x ∷ known) new (board_new n) in
      let l = lighter k known (x ∷ known) x.board x refl (λ c row. refl) (fresh n) in
      let first = l.0 in let second = l.1 in
      (omega (arith, a, c, first, second), omega (arith, a, c, first, second))

  old_root : marked (refuted_by old.marks) 0 (tree_on old)
      ≡ root_by k x.board (mark_in known x.board)
  old_root = root_is k x.board known old is (tree_on old) (tree_is k x.board known old is)

  new_root : answer ≢ Already →
      marked (refuted_by new.marks) 0 (tree_on old)
      ≡ root_by k x.board (mark_in (x ∷ known) x.board)
  new_root n =
      root_is k x.board (x ∷ known) new (board_new n) (tree_on old) (tree_is k x.board known old is)

  pub makes : answer ≢ Already → answer ≡ RootMarked → MakesRoot k x known
  makes n a =
      let m = p.root.0 a in record { was = sym old_root ∙ m.was; is = sym (new_root n) ∙ m.is }

  pub makes_none : answer ≢ Already → answer ≢ RootMarked → MakesRoot k x known → ⊥
  makes_none n a m = a (p.root.1 record { was = old_root ∙ m.was; is = new_root n ∙ m.is })

-- what a board answered of a post, by the row and the judgement that were read before
pub posted_of : (old new : BoardOf) (node found row : ℕ) (judged said : Judged) (answer : Answer) →
    found ≡ node → said ≡ judged → IsRowOn old found row
    → (new.case ≡ old.case) × (new.cut ≡ old.cut) × (new.place ≡ old.place)
    → ((i : ℕ) → IsRowOn old node i → new.marks ≡ marks_after answer old.marks i (mark_as judged)) →
    ((i : ℕ) → IsRowOn old node i → (answer ≡ Already) ↔ (mark_at old.marks i ≢ Open))
    → (answer ≡ RootMarked) ↔ MarksRoot (tree_on old) old.marks new.marks →
    BoardPosted old new row (mark_as said) answer
posted_of old new node found row judged said answer here is at same marks already root =
    let there : IsRowOn old node row = subst (λ n. IsRowOn old n row) here at in record {
      same = same;
      marks = marks row there ∙ (λ i. marks_after answer old.marks row (mark_as (sym is i)));
      already = already row there;
      root = root;
    }

-- findings of a node are posted at this row
pub home_of : (k : CutCase) (b : ℕ) (posts : List Post) (board : BoardOf) →
    IsBoardOf k b posts board → b < board_count k → (node found row : ℕ) → found ≡ node →
    IsTargetRow board found row → IsHome k node b row
home_of k b posts board is inside node found row here t = record {
  inside = inside;
  is_row =
      subst (λ (p : (CaseOf × ℕ) × (ℕ × Place)). IsRow p.1.0 p.0.0.tree p.1.1 p.0.1 row)
      (λ i. ((is.is_at.case_is i, here i), (is.is_at.cut_is i, is.is_at.place_is i))) t.is_row;
  has_targets =
      subst (λ (p : CaseOf × (ℕ × Place)). HasTargets p.1.0 p.0.tree p.1.1 row)
      (λ i. (is.is_at.case_is i, (is.is_at.cut_is i, is.is_at.place_is i))) t.has_targets;
}

-- Places by their numbers.
abbrev part_or : Place → ℕ → ℕ
part_or (Part part) d = part
part_or Top d = d

part_place_is : (c : Bool) (b part : ℕ) → place_if c b ≡ Part part → (c ≡ false) × (part ≡ b)
part_place_is true b part e = absurd (cc)
part_place_is false b part e = (refl, sym (ap (λ z. part_or z 0) e))

pub in_part_only : (k : CutCase) (b part : ℕ) → place_of k b ≡ Part part →
    (b ≢ parts_in k) × (part ≡ b)
in_part_only k b part e =
    let h = part_place_is (b == parts_in k) b part e in (
      (λ is. let t = eq-eqb b (parts_in k) is in let no : true ≡ false = sym t ∙ h.0 in
          absurd (cc)),
      h.1,
    )

pub on_top_only : (k : CutCase) (b : ℕ) → place_of k b ≡ Top → b ≡ parts_in k
on_top_only k b e =
    dite (ℕ_discrete b (parts_in k)) (λ is. is)
    (λ apart. let no : Part b ≡ Top = sym (ap (λ c. place_if c b) (ne_eqb b (parts_in k) apart))
    ∙ e in absurd (cc))

-- Findings as posts.
pub finding_post : (k : CutCase) (b row node : ℕ) (target : Target) (judged : Judged)
    (case : CaseOf) → case ≡ k.case → IsHome k node b row → IsTargetAt case.tree node target →
    (NeedsSection k.proofs target → HasSection case target) → IsFinding case target judged
    → IsSoundFinding case target judged →
    IsFindingPost k record { board = b; row = row; judged = judged }
finding_post k b row node target judged case e home here section is sound =
    let there : IsTargetAt k.case.tree (node_of k b row) target =
    subst (λ (p : CaseOf × ℕ). IsTargetAt p.0.tree p.1 target) (λ i. (e i, sym home.is_row.here i))
    here in record {
      inside = home.inside;
      within = home.is_row.within;
      has_targets = home.has_targets;
      target = target;
      here = there;
      may = λ needs. subst (λ c. HasSection c target) e (section needs);
      is = subst (λ c. IsFinding c target judged) e is;
      sound =
          λ refuted. subst (λ c. IsSoundFinding c target judged) e sound refuted
          (path_at k.case.tree (node_of k b row)) (node_of k b row, there, refl);
    }

owed_none : (before after : Bool) (b : ℕ) → (before ≡ false → after ≡ true → ⊥) →
    None ≡ owed_if before after b
owed_none false true b never = absurd (never refl refl)
owed_none false false b never = refl
owed_none true after b never = refl

-- a held board after a finding was posted on it, new or not
pub record FindingHeld (k : CutCase) (old new : BoardOf) (found : Finding) (post : Post)
    (answer : Answer) : Type 0 where
  pub home : IsHome k found.node post.board post.row
  pub real : IsFindingPost k post
  pub answers : BoardPosted old new post.row (mark_as post.judged) answer

-- by what the board answers
pub finding_held : (k : CutCase) (known : List Post) (old new : BoardOf) (found : Finding)
    (post : Post) (node : ℕ) (answer : Answer) → IsBoardOf k post.board known old →
    post.board < board_count k → found.case.now ≡ k.case →
    (NeedsSection k.proofs (target_of found.leaf found.node) →
    HasSection found.case.now (target_of found.leaf found.node)) →
    node ≡ found.node → post.judged ≡ found.judged →
    IsFinding found.case.now (target_of found.leaf found.node) post.judged →
    IsTargetRow old node post.row →
    (new.case ≡ old.case) × (new.cut ≡ old.cut) × (new.place ≡ old.place) →
    ((i : ℕ) → IsRowOn old found.node i →
    new.marks ≡ marks_after answer old.marks i (mark_as found.judged)) →
    ((i : ℕ) → IsRowOn old found.node i →
    (answer ≡ Already) ↔ (mark_at old.marks i ≢ Open)) →
    ((answer ≡ RootMarked) ↔ MarksRoot (tree_on old) old.marks new.marks) →
    FindingHeld k old new found post answer
finding_held k known old new found post node answer is inside case section here said finding row
    same
    marks
    already root =
    let target = target_of found.leaf found.node in
    let home = home_of k post.board known old is inside found.node node post.row here row in
    record {
      home = home;
      real =
          finding_post k post.board post.row found.node target post.judged found.case.now case home
          found.here section finding
          (subst (IsSoundFinding found.case.now target) (sym said) found.sound);
      answers =
          posted_of old new found.node node post.row found.judged post.judged answer here said
          row.is_row same marks already root;
    }

abbrev pub IsNew : Posted → Type 0
IsNew posted.Marked = Unit {0}
IsNew (posted.RootMarked verdict) = Unit {0}
IsNew posted.TopMarked = Unit {0}
IsNew (posted.Already finding) = ⊥

-- an answer that gives no finding back is of a post that was new
pub new_of : (r : Posted) → ((f : Finding) → r ≢ posted.Already f) → IsNew r
new_of posted.Marked n = tt
new_of (posted.RootMarked verdict) n = tt
new_of posted.TopMarked n = tt
new_of (posted.Already f) n = absurd (n f refl)

-- a post that was new didn't find a mark
pub not_already : (r : Posted) → IsNew r → posted_answer r ≢ Already
not_already posted.Marked n e = cc
not_already (posted.RootMarked verdict) n e = cc
not_already posted.TopMarked n e = cc
not_already (posted.Already f) n e = absurd n

module _ (k : CutCase) (known : List Post) (old new : BoardOf) (x : Post)
    (is : IsBoardOf k x.board known old) (real : IsFindingPost k x) where
  abbrev Answers : Posted → Type 0
  Answers r = BoardPosted old new x.row (mark_as x.judged) (posted_answer r)

  -- the pass may post it
  pub may : (r : Posted) → IsNew r → Answers r → IsPostedOn old r → (before : Option ℕ) →
      before ≡ None → MayPost k known x before (owed_after r)
  may posted.Marked n p on before free = dite (ℕ_discrete x.board (parts_in k))
      (λ top. on_top record { real = real; on_top = top; free = free; owed = refl })
      (λ apart. let inside = real.inside in in_part record {
        real = real;
        in_part = omega (arith, inside, apart);
        free = free;
        owed =
            owed_none (root_by k x.board (mark_in known x.board))
            (root_by k x.board (mark_in (x ∷ known) x.board)) x.board
            (λ was now. makes_none k known old new x Marked is real.within p (λ e. absurd (cc))
            (λ e. absurd (cc)) record { was = was; is = now });
      })
  may (posted.RootMarked verdict) n p on before free =
      let h = in_part_only k x.board verdict.part (sym is.is_at.place_is ∙ on.place) in
      let apart = h.0 in let inside = real.inside in
      let m = makes k known old new x RootMarked is real.within p (λ e. absurd (cc)) refl in
      in_part record {
        real = real;
        in_part = omega (arith, inside, apart);
        free = free;
        owed = ap Some h.1 ∙ (λ i. owed_if (sym m.was i) (sym m.is i) x.board);
      }
  may posted.TopMarked n p on before free =
      on_top record {
        real = real;
        on_top = on_top_only k x.board (sym is.is_at.place_is ∙ on);
        free = free;
        owed = refl;
      }
  may (posted.Already f) n p on before free = absurd n

  -- what the seat has then
  pub recorded : (r : Posted) → IsNew r → Answers r → IsPostedOn old r → (me after : Hand) →
      me.0.known ≡ known → after ≡ (posting x (owed_after r) me.0, me.1) → Recorded k x r me after
  recorded posted.Marked n p on me after same e = (
    record {
      after_is = e;
      new =
          (λ i. mark_in (same i) x.board x.row)
          ∙ fresh k known old new x Marked is real.within p (λ e. absurd (cc));
    },
    (λ m. makes_none k known old new x Marked is real.within p (λ e. absurd (cc)) (λ e. absurd (cc))
        (subst (MakesRoot k x) same m)),
  )
  recorded (posted.RootMarked verdict) n p on me after same e =
      let h = in_part_only k x.board verdict.part (sym is.is_at.place_is ∙ on.place) in
      let apart = h.0 in let inside = real.inside in (
        record {
          after_is = e ∙ (λ i. (posting x (Some (h.1 i)) me.0, me.1));
          new =
              (λ i. mark_in (same i) x.board x.row)
              ∙ fresh k known old new x RootMarked is real.within p (λ e. absurd (cc));
        },
        subst (MakesRoot k x) (sym same)
            (makes k known old new x RootMarked is real.within p (λ e. absurd (cc)) refl),
        record {
          case = on.case ∙ is.is_at.case_is;
          cut = on.cut ∙ is.is_at.cut_is;
          part_is = h.1;
          within = omega (arith, inside, apart);
        },
      )
  recorded posted.TopMarked n p on me after same e = (
    record {
      after_is = e;
      new =
          (λ i. mark_in (same i) x.board x.row)
          ∙ fresh k known old new x RootMarked is real.within p (λ e. absurd (cc));
    },
    subst (MakesRoot k x) (sym same)
        (makes k known old new x RootMarked is real.within p (λ e. absurd (cc)) refl),
    on_top_only k x.board (sym is.is_at.place_is ∙ on),
  )
  recorded (posted.Already f) n p on me after same e = absurd n

  -- a finding that came back
  pub came_back : (r : Posted) (f : Finding) → r ≡ posted.Already f → Answers r → (me : Hand) →
      me.0.known ≡ known → Recorded k x r me me
  came_back r f e p me same = subst (λ (z : Posted). Recorded k x z me me) (sym e) (
    refl,
    (λ o.
        stale k known old new x Already is real.within (subst Answers e p) refl
        ((λ i. mark_in (sym same i) x.board x.row) ∙ o)),
  )

-- Verdicts of parts.

-- the row of a part is on the top board
pub part_within : (k : CutCase) (b part row : ℕ) → b ≡ parts_in k → part < parts_in k →
    row ≡ part_place k.cut k.case.tree part → row < size (tree_at k b)
part_within k b part row top inside here =
    subst (λ (p : ℕ × Place). p.0 < size (board_tree k.cut k.case.tree p.1))
    (λ i. (sym here i, sym (ap (λ c. place_if c b) (eq-eqb b (parts_in k) top)) i))
    (part_is k.cut k.case.tree part inside).within

-- a verdict of a part of this hall is a post of that part
pub part_post : (k : CutCase) (b row part cut : ℕ) (case : CaseOf) → case ≡ k.case → cut ≡ k.cut →
    b ≡ parts_in k → part < parts_in k → row ≡ part_place k.cut k.case.tree part
    → IsRefuted case.formula (path_at case.tree (part_root cut case.tree part)) →
    IsPartPost k part record { board = b; row = row; judged = judged_refuted }
part_post k b row part cut case e f top inside here sound = record {
  on_top = top;
  within = inside;
  here = here;
  refuted = refl;
  sound =
      subst (λ (p : CaseOf × ℕ).
      IsRefuted p.0.formula (path_at p.0.tree (part_root p.1 p.0.tree part))) (λ i. (e i, f i))
      sound;
}

-- what a part's post did at its place it did at its row
pub part_posted_of : (old new : BoardOf) (place row : ℕ) (answer : Answer) → row ≡ place →
    (new.case ≡ old.case) × (new.cut ≡ old.cut) × (new.place ≡ old.place)
    → new.marks ≡ marks_after answer old.marks place Refuted → (answer ≡ Already) ↔
    (mark_at old.marks place ≢ Open) → (answer ≡ RootMarked) ↔
    MarksRoot (tree_on old) old.marks new.marks
    → BoardPosted old new row (mark_as judged_refuted) answer
part_posted_of old new place row answer here same marks already root = record {
  same = same;
  marks = marks ∙ (λ i. marks_after answer old.marks (sym here i) Refuted);
  already = subst (λ z. (answer ≡ Already) ↔ (mark_at old.marks z ≢ Open)) (sym here) already;
  root = root;
}

abbrev pub IsNewPart : PartPosted → Type 0
IsNewPart part_posted.Marked = Unit {0}
IsNewPart part_posted.RootMarked = Unit {0}
IsNewPart (part_posted.Already verdict) = ⊥

module _ (k : CutCase) (known : List Post) (old new : BoardOf) (x : Post)
    (is : IsBoardOf k x.board known old) (within : x.row < size (tree_at k x.board)) where
  abbrev PartAnswers : PartPosted → Type 0
  PartAnswers r = BoardPosted old new x.row (mark_as x.judged) (part_posted_answer r)

  -- a part without a verdict is posted
  pub part_new : (r : PartPosted) → PartAnswers r → mark_in known x.board x.row ≡ Open → IsNewPart r
  part_new part_posted.Marked p none_ = tt
  part_new part_posted.RootMarked p none_ = tt
  part_new (part_posted.Already verdict) p none_ =
      stale k known old new x Already is within p refl none_

  -- a part's post that was new didn't find a mark
  pub part_not_already : (r : PartPosted) → IsNewPart r → part_posted_answer r ≢ Already
  part_not_already part_posted.Marked n e = cc
  part_not_already part_posted.RootMarked n e = cc
  part_not_already (part_posted.Already verdict) n e = absurd n

  -- a part's post that was noted is recorded
  pub part_recorded : (r : PartPosted) → PartAnswers r → (me after : Hand) → me.0.known ≡ known →
      mark_in known x.board x.row ≡ Open → after ≡ (posting x None me.0, me.1) →
      PartRecorded k x r me after
  part_recorded part_posted.Marked p me after same none_ e = (
    record { after_is = e; new = (λ i. mark_in (same i) x.board x.row) ∙ none_ },
    (λ m. makes_none k known old new x Marked is within p (λ e. absurd (cc)) (λ e. absurd (cc))
        (subst (MakesRoot k x) same m)),
  )
  part_recorded part_posted.RootMarked p me after same none_ e = (
    record { after_is = e; new = (λ i. mark_in (same i) x.board x.row) ∙ none_ },
    subst (MakesRoot k x) (sym same)
        (makes k known old new x RootMarked is within p (λ e. absurd (cc)) refl),
  )
  part_recorded (part_posted.Already verdict) p me after same none_ e =
      stale k known old new x Already is within p refl none_

abbrev pub part_at : (b row : ℕ) → Post
part_at b row = record { board = b; row = row; judged = judged_refuted }

-- the held top board after a part was posted on it
pub record PartHeld (k : CutCase) (known : List Post) (part : ℕ) (old new : BoardOf) (b row : ℕ)
    (r : PartPosted) : Type 0 where
  pub on_top : b ≡ parts_in k
  pub is : IsBoardOf k b known old
  pub here : row ≡ part_place k.cut k.case.tree part
  pub within : row < size (tree_at k b)
  pub answers : BoardPosted old new row (mark_as judged_refuted) (part_posted_answer r)
  pub unmarked : mark_in known b row ≡ Open
  pub is_new : part_posted_answer r ≢ Already

-- by what the board answers, where the part has no mark by the posts that are known
pub part_held : (k : CutCase) (known : List Post) (part : ℕ) (old new : BoardOf) (b row : ℕ)
    (r : PartPosted) → b ≡ parts_in k → IsBoardOf k (parts_in k) known old → part < parts_in k →
    row ≡ part_place old.cut old.case.tree part →
    (new.case ≡ old.case) × (new.cut ≡ old.cut) × (new.place ≡ old.place) →
    new.marks ≡ marks_after (part_posted_answer r) old.marks
    (part_place old.cut old.case.tree part) Refuted →
    ((part_posted_answer r ≡ Already) ↔
    (mark_at old.marks (part_place old.cut old.case.tree part) ≢ Open)) →
    ((part_posted_answer r ≡ RootMarked) ↔ MarksRoot (tree_on old) old.marks new.marks) →
    mark_in known (parts_in k) (part_place k.cut k.case.tree part) ≡ Open →
    PartHeld k known part old new b row r
part_held k known part old new b row r top board inside place same marks already root still =
    let x : Post = part_at b row in
    let is : IsBoardOf k b known old = subst (λ n. IsBoardOf k n known old) (sym top) board in
    let here : row ≡ part_place k.cut k.case.tree part =
    place ∙ (λ i. part_place (is.is_at.cut_is i) (is.is_at.case_is i).tree part) in
    let within = part_within k b part row top inside here in
    let answers =
    part_posted_of old new (part_place old.cut old.case.tree part) row (part_posted_answer r) place
    same marks already root in
    let unmarked : mark_in known b row ≡ Open =
    (λ i. mark_in known (top i) (here i)) ∙ still in
    record {
      on_top = top;
      is = is;
      here = here;
      within = within;
      answers = answers;
      unmarked = unmarked;
      is_new =
          part_not_already k known old new x is within r
          (part_new k known old new x is within r answers unmarked);
    }

-- a node's row on a board
pub row_on : (k : CutCase) (b : ℕ) (posts : List Post) (board : BoardOf) →
    IsBoardOf k b posts board → (node row : ℕ) → IsHome k node b row → IsRowOn board node row
row_on k b posts board is node row home =
    subst (λ (p : CaseOf × (ℕ × Place)). IsRow p.1.0 p.0.tree p.1.1 node row)
    (λ i. (sym is.is_at.case_is i, (sym is.is_at.cut_is i, sym is.is_at.place_is i))) home.is_row

-- and findings of it are posted there
pub targets_on : (k : CutCase) (b : ℕ) (posts : List Post) (board : BoardOf) →
    IsBoardOf k b posts board → (node row : ℕ) → IsHome k node b row → IsTargetRow board node row
targets_on k b posts board is node row home = record {
  is_row = row_on k b posts board is node row home;
  has_targets =
      subst (λ (p : CaseOf × (ℕ × Place)). HasTargets p.1.0 p.0.tree p.1.1 row)
      (λ i. (sym is.is_at.case_is i, (sym is.is_at.cut_is i, sym is.is_at.place_is i)))
      home.has_targets;
}

-- the board that is made of what was taken
pub bound_board : (k : CutCase) (case : CaseOf) (b : ℕ) (posts : List Post) (taken : BoardData)
    (board : BoardOf) → case ≡ k.case → board ≡ stored_board case taken → IsBoard k b posts taken →
    IsBoardOf k b posts board
bound_board k case b posts taken board same bound is =
    subst (IsBoardOf k b posts) (sym (bound ∙ ap (λ z. stored_board z taken) same)) is.is_board
