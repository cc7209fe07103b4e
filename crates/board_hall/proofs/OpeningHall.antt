-- A hall with no posts.
use Rattle.std.proofs.Common.{◌≡◌, ℕ, ◌+◌, ◌*◌, ◌<◌, List, [], ◌∷◌, ◌++◌, get_or, length, replicate}
use Rattle.std.proofs.Common.{Option, Some, refl, sym, ap, ◌∙◌, subst, arith, length-append}
use mathlib.Core.Logic.{dite}
use native.Mathlib.Decide.{ℕ_discrete}
use mathlib.Core.Option.{some}
use Rattle.std.proofs.Math.ListN.{get_or-append}
use Rattle.std.proofs.lemmas.List.{length-map, length-replicate, get_or_push}
use Rattle.atomic_table.proofs.Lists.{at_longer, at_last, at_map}
use Rattle.atomic_table.specs.Table.{opening}
use Rattle.split_tree.specs.SplitTree.{size}
use Rattle.mark_board.specs.declared.mark.Mark.{Mark}
use Rattle.mark_board.specs.declared.mark.Mark.TheVariants.{Open}
use Rattle.mark_board.specs.declared.place.Place.{Place}
use Rattle.mark_board.specs.declared.stored.BoardData.{BoardData}
use Rattle.mark_board.specs.Board.{BoardOf, board_tree}
use Rattle.mark_board.specs.Marking.{mark_at}
use Rattle.mark_board.specs.BoardData.{stored_board, IsDataOf}
use Rattle.mark_board.proofs.BoardsMarks.{none_marked}
use Rattle.board_hall.specs.declared.view.CutCase.{CutCase}
use Rattle.board_hall.specs.Posts.{board_count, place_of, open_by}
use Rattle.board_hall.specs.Hall.{newcomer, Reached, IsBoardOf, IsBoard}
use Rattle.board_hall.specs.Inner.Opening.{IsOpened}

-- a new board is that of no posts
pub new_board : (k : CutCase) (b : ℕ) (place : Place) (board : BoardOf) → place_of k b ≡ place →
    board.case ≡ k.case → board.cut ≡ k.cut → board.place ≡ place →
    board.marks ≡ replicate (size (board_tree k.cut k.case.tree place)) Open →
    IsBoardOf k b [] board
new_board k b place board at case cut is_at none_ = record {
  is_at = record {
    case_is = case;
    cut_is = cut;
    place_is = is_at ∙ sym at;
    long =
        ap (λ (ms : List Mark). length ms) none_
        ∙ (length-replicate (size (board_tree k.cut k.case.tree place)) Open
        ∙ (λ i. size (board_tree k.cut k.case.tree (sym at i))));
  };
  marks =
      λ row. ap (λ ms. mark_at ms row) none_
      ∙ none_marked (size (board_tree k.cut k.case.tree place)) row;
}

-- a new board without its case is that of no posts
pub new_stored : (k : CutCase) (b : ℕ) (board : BoardOf) (y : BoardData) → IsBoardOf k b [] board →
    IsDataOf board.case y → stored_board board.case y ≡ board → IsBoard k b [] y
new_stored k b board y is held same = let e = is.is_at.case_is in record {
  is_data = subst (λ c. IsDataOf c y) e held;
  is_board = subst (IsBoardOf k b []) (sym same ∙ (λ i. stored_board (e i) y)) is;
}

-- one more board is opened
pub one_more : (k : CutCase) (b total : ℕ) (words more all : List ℕ)
    (slots : List (Option BoardData)) (y : BoardData) → IsOpened k b words slots →
    more ≡ words ++ 0 ∷ [] → all ≡ more ++ total ∷ []
    → total ≡ open_by k b (λ _. Open) → IsBoard k b [] y →
    IsOpened k (b + 1) all (slots ++ Some y ∷ [])
one_more k b total words more all slots y so first second weighs is =
    let w = so.words_are in let long = w.long in let s = so.slots_are in let high = s.long in
    let mid : length more ≡ 2 * b + 1 =
    ap length first ∙ (let l = length-append words (0 ∷ []) in omega (arith, l, long)) in
    let old : (j : ℕ) → j < 2 * b → get_or all j 0 ≡ get_or words j 0 =
    (λ j inside. (λ i. get_or (second i) j 0)
    ∙ (get_or-append more (total ∷ []) 0 j (omega (arith, mid, inside))
    ∙ ((λ i. get_or (first i) j 0)
    ∙ get_or-append words (0 ∷ []) 0 j (omega (arith, long, inside))))) in
    let lock : get_or all (2 * b) 0 ≡ 0 =
    (λ i. get_or (second i) (2 * b) 0)
    ∙ (get_or-append more (total ∷ []) 0 (2 * b) (omega (arith, mid))
    ∙ ((λ i. get_or (first i) (2 * b) 0) ∙ get_or_push words 0 0 (2 * b) long)) in
    let weight : get_or all (2 * b + 1) 0 ≡ total =
    (λ i. get_or (second i) (2 * b + 1) 0) ∙ get_or_push more total 0 (2 * b + 1) mid in record {
      words_are = record {
        long =
            ap length second ∙ (let l = length-append more (total ∷ []) in omega (arith, l, mid));
        free = λ c inside. dite (ℕ_discrete c b)
            (λ here. (λ i. get_or all (2 * here i) 0) ∙ lock)
            (λ apart. old (2 * c) (omega (arith, inside, apart))
            ∙ w.free c (omega (arith, inside, apart)));
        total = λ c inside. dite (ℕ_discrete c b)
            (λ here. (λ i. get_or all (2 * here i + 1) 0)
            ∙ (weight ∙ (weighs ∙ (λ i. open_by k (sym here i) (λ _. Open)))))
            (λ apart. old (2 * c + 1) (omega (arith, inside, apart))
            ∙ w.total c (omega (arith, inside, apart)));
      };
      slots_are = record {
        long = (let l = length-append slots (Some y ∷ []) in omega (arith, l, high));
        new = λ c inside. dite (ℕ_discrete c b)
            (λ here. (
              y,
              at_last slots (Some y) c (high ∙ sym here),
              subst (λ z. IsBoard k z [] y) (sym here) is,
            ))
            (λ apart. let was = s.new c (omega (arith, inside, apart)) in
            (was.0, at_longer slots (Some y ∷ []) c (Some was.0) was.1, was.2));
      };
    }

-- a hall with all its boards opened is at its start, which is reached
pub starts : (k : CutCase) (passes : ℕ) (words : List ℕ) (slots : List (Option BoardData)) →
    IsOpened k (board_count k) words slots →
    Reached k passes (opening words slots (newcomer k passes))
starts k passes words slots so = (
  0,
  record {
    words = so.words_are.long;
    slots = length-map slots some ∙ so.slots_are.long;
    free = so.words_are.free;
    total = so.words_are.total;
    home = λ b inside. let y = so.slots_are.new b inside in
        (y.0, at_map some slots b (Some y.0) y.1, y.2);
    one_pass = refl;
  },
)
