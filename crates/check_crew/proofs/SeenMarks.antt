-- What posts that are real say of a node's mark.
use Rattle.std.proofs.Common.{◌≡◌, ◌≢◌, ℕ, ◌+◌, ◌<◌, ◌==◌, true, false, List, [], ◌∷◌, Option, None}
use Rattle.std.proofs.Common.{Some, refl, sym, ap, ◌∙◌, subst, arith, inl, inr, ◌⊎◌}
use Rattle.std.specs.Prelude.{MatchOption}
use Rattle.std.proofs.lemmas.Bool.{cases_Bool, eqb-true, eqb-false, eq-eqb, ne_eqb}
use Rattle.case_core.specs.Literal.{Literal}
use Rattle.case_core.specs.Proof.{Proof, IsProofOf}
use Rattle.case_core.specs.Judgement.{judgement}
use Rattle.case_core.specs.Judged.{Judged}
use Rattle.case_core.specs.SplitTree.{size, subtree_at, IsSplit}
use Rattle.case_core.specs.Parts.{top}
use Rattle.case_core.specs.Leaves.{IsTargetAt, IsPathOf}
use Rattle.case_core.specs.Target.{Target}
use Rattle.case_core.specs.Case.{CaseOf, proof_for}
use Rattle.case_core.specs.Finding.{HasSection, IsFinding}
use Rattle.case_core.proofs.CaseTables.{one_target}
use Rattle.mark_board.specs.declared.mark.Mark.{Mark}
use Rattle.mark_board.specs.declared.mark.Mark.TheVariants.{Open, Refuted, Rejected}
use Rattle.mark_board.specs.Findings.{mark_as, IsMarkOf}
use Rattle.mark_board.specs.TopPlaces.{part_root, top_node}
use Rattle.mark_board.specs.Boards.{part_tree, IsPlaceFor}
use Rattle.mark_board.proofs.BoardsMarks.{own_outside, parts_apart}
use Rattle.mark_board.proofs.BoardsTogether.{is_own, is_in, where_is}
use Rattle.board_hall.specs.declared.view.CutCase.{CutCase}
use Rattle.board_hall.specs.declared.view.Post.{Post}
use Rattle.board_hall.specs.Posts.{parts_in, mark_in, is_at, node_of, Among, AreReal}
use Rattle.board_hall.specs.Posts.{NeedsSection, MayBePosted}
use Rattle.board_hall.specs.Clauses.{IsHome, board_number}
use Rattle.board_hall.proofs.PostsLists.{never_open, marked_among}
use Rattle.board_hall.proofs.PostsOneFinding.{no_part_here}
use Rattle.mark_board.specs.declared.place.Place.{Place}
use Rattle.mark_board.specs.declared.place.Place.TheVariants.{Part, Top}

-- a mark is open, or it isn't
pub open_or_not : (mark : Mark) → (mark ≡ Open) ⊎ (mark ≢ Open)
open_or_not Open = inl refl
open_or_not Refuted = inr (λ e. cc)
open_or_not (Rejected step reason) = inr (λ e. cc)

-- a row with a post is marked
pub marked_there : (posts : List Post) (post : Post) → Among post posts →
    mark_in posts post.board post.row ≢ Open
marked_there [] post among = absurd among
marked_there (first ∷ posts) post among = elim (cases_Bool (is_at first post.board post.row)) [
  | inl here ↦ rw here (never_open first.judged)
  | inr other ↦ rw other (elim among [
    | inl is ↦
        let same : is_at post post.board post.row ≡ true =
        rw (eq-eqb post.board post.board refl, eq-eqb post.row post.row refl) refl in
        let clash : is_at post post.board post.row ≡ false = rw (sym is) at other in
        absurd (cc)
    | inr later ↦ marked_there posts post later
  ])
]

-- what is marked by some posts is marked by others that hold them
pub marked_more : (posts more : List Post) → ((post : Post) → Among post posts → Among post more) →
    (board row : ℕ) → mark_in posts board row ≢ Open → mark_in more board row ≢ Open
marked_more posts more hold board row marked =
    let there = marked_among posts board row marked in let post : Post = there.0 in
    subst (λ (r : ℕ). mark_in more board r ≢ Open) there.3
    (subst (λ (b : ℕ). mark_in more b post.row ≢ Open) there.2
    (marked_there more post (hold post there.1)))

-- the mark of a judgement is that of the target's finding
finding_mark : (case : CaseOf) (target : Target) (judged : Judged) → HasSection case target →
    IsFinding case target judged → IsMarkOf case target (mark_as judged)
finding_mark case target judged has is = of_section (proof_for case.sections target) has is
  where
    of_section : (section : Option (List ℕ)) → section ≢ None
        →
        ((path : List Literal) (text : List ℕ) (proof : Proof) → IsPathOf case.tree target path →
        section ≡ Some text → IsProofOf text proof → judged ≡ judgement case.formula path proof)
        → MatchOption section (mark_as judged ≡ Open)
        (λ text. (path : List Literal) (proof : Proof) → IsPathOf case.tree target path →
        IsProofOf text proof → mark_as judged ≡ mark_as (judgement case.formula path proof))
    of_section None has is = absurd (has refl)
    of_section (Some text) has is =
        λ path proof of of_text. ap mark_as (is path text proof of refl of_text)

-- a node's mark by posts that are real is that of its target's finding
pub real_mark : (k : CutCase) (posts : List Post) → AreReal k posts →
    (node board row : ℕ) (target : Target) → IsHome k node board row →
    IsTargetAt k.case.tree node target → HasSection k.case target
    → mark_in posts board row ≢ Open → IsMarkOf k.case target (mark_in posts board row)
real_mark k posts real node board row target home at has marked =
    let there = marked_among posts board row marked in let post : Post = there.0 in
    elim (real post there.1) [
      | inl finding ↦
          let here : node_of k post.board post.row ≡ node =
          ap (λ (b : ℕ). node_of k b post.row) there.2
          ∙ (ap (λ (r : ℕ). node_of k board r) there.3 ∙ home.is_row.here) in
          let same : finding.target ≡ target =
          one_target k.case.tree node finding.target target (rw here at finding.here) at in
          rw there.4 (finding_mark k.case target post.judged has (rw same at finding.is))
      | inr of_part ↦ absurd
          (no_part_here k node board row of_part.0 post home of_part.1 there.2 there.3)
    ]

-- a target whose proof can only be its section has one where it has a mark
pub marked_section : (k : CutCase) (posts : List Post) → AreReal k posts →
    (node board row : ℕ) (target : Target) → NeedsSection k.proofs target →
    IsHome k node board row → IsTargetAt k.case.tree node target
    → mark_in posts board row ≢ Open → HasSection k.case target
marked_section k posts real node board row target needs home at marked =
    let there = marked_among posts board row marked in let post : Post = there.0 in
    elim (real post there.1) [
      | inl finding ↦
          let here : node_of k post.board post.row ≡ node =
          ap (λ (b : ℕ). node_of k b post.row) there.2
          ∙ (ap (λ (r : ℕ). node_of k board r) there.3 ∙ home.is_row.here) in
          let same : finding.target ≡ target =
          one_target k.case.tree node finding.target target (rw here at finding.here) at in
          subst (MayBePosted k) same finding.may needs
      | inr of_part ↦ absurd
          (no_part_here k node board row of_part.0 post home of_part.1 there.2 there.3)
    ]

-- each node has a home
pub home_of : (k : CutCase) (node : ℕ) → node < size k.case.tree →
    (board row : ℕ) × IsHome k node board row
home_of k node within = elim (where_is k.cut k.case.tree node within) [
  | is_own row below inner is ↦
      let top : (parts_in k == parts_in k) ≡ true = eq-eqb (parts_in k) (parts_in k) refl in (
        parts_in k,
        row,
        record {
          inside = omega arith;
          is_row = rw top (record { within = below; here = is });
          has_targets = rw top inner;
        },
      )
  | is_in part row few below is ↦
      let apart : (part == parts_in k) ≡ false = ne_eqb part (parts_in k) (λ e. omega arith) in (
        part,
        row,
        record {
          inside = omega arith;
          is_row = rw apart (record { within = below; here = is });
          has_targets = rw apart tt;
        },
      )
]

-- where a node's findings are posted: above the cut, or in a part
data Lies (k : CutCase) (node board row : ℕ) : Type 0 where
  above : board ≡ parts_in k → row < size (top k.cut k.case.tree) →
      IsSplit (subtree_at (top k.cut k.case.tree) row) → top_node k.cut k.case.tree row ≡ node →
      Lies k node board row
  below : board < parts_in k → row < size (part_tree k.cut k.case.tree board) →
      part_root k.cut k.case.tree board + row ≡ node → Lies k node board row

lies : (k : CutCase) (node board row : ℕ) → IsHome k node board row → Lies k node board row
lies k node board row home = elim (cases_Bool (board == parts_in k)) [
  | inl is_top ↦ let at = rw is_top at home.is_row in
      above (eqb-true board (parts_in k) is_top) at.within (rw is_top at home.has_targets) at.here
  | inr in_part ↦ let at = rw in_part at home.is_row in
      let other = eqb-false board (parts_in k) in_part in
      below (omega (arith, home.inside, other)) at.within at.here
]

-- a node's findings are posted at one row of one board
pub one_board : (k : CutCase) (node board row other there : ℕ) → IsHome k node board row →
    IsHome k node other there → board ≡ other
one_board k node board row other there one two = elim (lies k node board row one) [
  | above top within inner is ↦ elim (lies k node other there two) [
    | above top' within' inner' is' ↦ top ∙ sym top'
    | below few within' is' ↦ absurd
        (own_outside k.cut k.case.tree row other there within inner few within' (is ∙ sym is'))
  ]
  | below few within is ↦ elim (lies k node other there two) [
    | above top within' inner is' ↦ absurd
        (own_outside k.cut k.case.tree there board row within' inner few within (is' ∙ sym is))
    | below few' within' is' ↦ parts_apart k.cut k.case.tree board other row there few few' within
        within' (is ∙ sym is')
  ]
]

-- the board at the place that is a node's
pub place_home : (k : CutCase) (node : ℕ) (place : Place) →
    (here : IsPlaceFor k.cut k.case.tree node place) → IsHome k node (board_number k place) here.row
place_home k node (Part part) here =
    let apart : (part == parts_in k) ≡ false =
    ne_eqb part (parts_in k) (λ e. let few : part < parts_in k = here.is_place in omega arith) in
    record {
      inside = let few : part < parts_in k = here.is_place in omega arith;
      is_row = rw apart here.is_row;
      has_targets = rw apart here.has_targets;
    }
place_home k node Top here =
    let top : (parts_in k == parts_in k) ≡ true = eq-eqb (parts_in k) (parts_in k) refl in
    record {
      inside = omega arith;
      is_row = rw top here.is_row;
      has_targets = rw top here.has_targets;
    }
