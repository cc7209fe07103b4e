-- What a seat has after a step.
use Rattle.std.proofs.Common.{◌≡◌, ◌*◌, ℕ, List, [], ◌∷◌, ◌++◌, Option, Some, None, unwrap_or}
use Rattle.std.proofs.Common.{⊎_elim, sym, ap, ◌∙◌, subst, arith}
use Rattle.mark_board.specs.declared.stored.BoardData.{BoardData}
use Rattle.board_hall.specs.declared.view.View.{View}
use Rattle.board_hall.specs.declared.view.CutCase.{CutCase}
use Rattle.board_hall.specs.declared.view.Post.{Post}
use Rattle.board_hall.specs.Posts.{parts_in, Among, IsReal, AreReal}
use Rattle.board_hall.specs.Hall.{lock_word, IsBoard, taking}
use Rattle.atomic_table.specs.Table.{Step}
use Rattle.board_hall.specs.Inner.Plays.{Hand, OwedIsOpen, Took, Gave}
use Rattle.board_hall.specs.Clauses.{Own, SeesOwn}
use Rattle.board_hall.specs.Inner.Held.{HasGiven}
use Rattle.board_hall.proofs.PostsLists.{among_either, among_right}

-- the seat holds board b with the value y, and knows what it stands for
pub record Out (me : Hand) (b : ℕ) (y : BoardData) (after : Hand) : Type 0 where
  pub after_is : after ≡ (taking b after.0.known me.0, (b, Some y) ∷ [])
  pub board : IsBoard me.0.of b after.0.known y
  pub real : AreReal me.0.of after.0.known
  pub owed : b ≡ parts_in me.0.of → OwedIsOpen me.0.of me.0.owes after.0.known

-- a lock that was taken is that of its board, and the pass has the board
pub taken : (board word : ℕ) (me after : Hand) → word ≡ 2 * board → me.1 ≡ [] →
    ((b : ℕ) × (posts : List Post) × (y : BoardData) × (word ≡ lock_word b)
    × Took me b posts y after)
    → (y : BoardData) × Out me board y after
taken board word me after here none_ t =
    let b : ℕ = t.0 in let y : BoardData = t.2 in let w = t.3 in let took = t.4 in
    let is : b ≡ board = omega (arith, w, here) in
    let known : t.1 ≡ after.0.known = ap (λ (m : Hand). m.0.known) (sym took.after_is) in (
      y,
      record {
        after_is = took.after_is ∙ (λ i. (taking (is i) (known i) me.0, (is i, Some y) ∷ none_ i));
        board =
            subst (λ (p : ℕ × List Post). IsBoard me.0.of p.0 p.1 y) (λ i. (is i, known i))
            took.board;
        real = subst (AreReal me.0.of) known took.real;
        owed =
            subst (λ (p : ℕ × List Post). p.0 ≡ parts_in me.0.of → OwedIsOpen me.0.of me.0.owes p.1)
            (λ i. (is i, known i)) took.owed;
      },
    )

abbrev first_of : List (ℕ × Option BoardData) → BoardData → BoardData
first_of [] d = d
first_of (x ∷ xs) d = unwrap_or x.1 d

-- the value that was lifted out of the slot
pub lifted : (b : ℕ) (me mid after : Hand) (y r : BoardData) → Out me b y mid →
    mid.1 ≡ (b, Some r) ∷ [] → after ≡ (mid.0, (b, None) ∷ [])
    →
    (after ≡ (taking b after.0.known me.0, (b, None) ∷ [])) × IsBoard me.0.of b after.0.known r
    × AreReal me.0.of after.0.known
    × (b ≡ parts_in me.0.of → OwedIsOpen me.0.of me.0.owes after.0.known)
lifted b me mid after y r out has empty =
    let same : y ≡ r = ap (λ l. first_of l y) (sym (ap (λ (m : Hand). m.1) out.after_is) ∙ has) in
    let known : mid.0.known ≡ after.0.known = ap (λ (m : Hand). m.0.known) (sym empty) in (
      empty
          ∙ ((λ i. ((out.after_is i).0, (b, None) ∷ []))
          ∙ (λ i. (taking b (known i) me.0, (b, None) ∷ []))),
      subst (λ (p : List Post × BoardData). IsBoard me.0.of b p.0 p.1) (λ i. (known i, same i))
          out.board,
      subst (AreReal me.0.of) known out.real,
      subst (λ l. b ≡ parts_in me.0.of → OwedIsOpen me.0.of me.0.owes l) known out.owed,
    )

-- what a pass knows once it has seen more posts
pub seen_more : (k : CutCase) (v mid w : View) (posts : List Post) (b : ℕ) → w.posts ≡ mid.posts →
    w.seen ≡ mid.seen ++ posts → mid.seen ≡ v.seen → mid.of ≡ k
    → AreReal k v.seen → AreReal mid.of posts → Own mid b posts → AreReal k w.seen × SeesOwn w b
seen_more k v mid w posts b kept more same is real real' own = (
  (λ x a. ⊎_elim (real x) (λ r. subst (λ c. IsReal c x) is (real' x r))
      (among_either v.seen posts x (subst (Among x) (more ∙ ap (λ l. l ++ posts) same) a))),
  (λ x a here.
      subst (Among x) (sym more)
      (among_right mid.seen posts x (own x (subst (Among x) kept a) here))),
)

-- the same, by another name of the seat before
pub out_of : (b : ℕ) (me me' after : Hand) (y : BoardData) → me ≡ me' → Out me b y after →
    Out me' b y after
out_of b me me' after y same out = subst (λ m. Out m b y after) same out

-- the seat after the board was given back
pub gave_back : (b : ℕ) (st : Step (Option BoardData)) (me mid after : Hand) (y : BoardData) →
    mid ≡ (me.0, (b, Some y) ∷ []) → me.0.held ≡ Some b → Gave st mid 0 after → HasGiven me b after
gave_back b st me mid after y is holds gave =
    let g : Gave st (me.0, (b, Some y) ∷ []) 0 after =
    subst (λ (m : Hand). Gave st m 0 after) is gave in let back = g.3 b holds in record {
      posts = g.0;
      after_is = g.1;
      real = g.2;
      gave = record { own = back.own; marks = back.marks };
    }
