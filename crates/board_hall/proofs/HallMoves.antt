-- Each atomic step that a pass makes on the table is a step of the hall.
use Rattle.std.proofs.Common.{◌≡◌, ℕ, ◌+◌, ◌-◌, ◌%◌, ◌^◌, ◌<◌, ◌≤◌, List, [], ◌∷◌, ◌++◌, set}
use Rattle.std.proofs.Common.{get_or, Option, Some, None, ◌==◌, refl, sym, ap, ◌∙◌, subst, arith}
use Rattle.std.proofs.Common.{eq-eqb, ne_eqb}
use Rattle.std.proofs.lemmas.List.{set-get_or}
use mathlib.Core.Logic.{dite}
use native.Mathlib.Decide.{ℕ_discrete}
use mathlib.Core.Option.{some, none}
use lib.ListN.{get_elem?}
use prog.Atomic.{either}
use Rattle.atomic_table.proofs.Lists.{set_again, set_else}
use Rattle.atomic_table.specs.Table.{step, keeps, takes, gives, stepped, Allows, Splits, Joins}
use Rattle.mark_board.specs.declared.mark.Mark.{Mark}
use Rattle.mark_board.specs.declared.mark.Mark.TheVariants.{Open}
use Rattle.mark_board.specs.declared.stored.BoardData.{BoardData}
use Rattle.mark_board.specs.TopPlaces.{part_place}
use Rattle.board_hall.specs.declared.view.View.{View}
use Rattle.board_hall.specs.declared.view.CutCase.{CutCase}
use Rattle.board_hall.specs.declared.view.Post.{Post}
use Rattle.board_hall.specs.Posts.{parts_in, board_count, open_by, root_by, covered, mark_by, is_at}
use Rattle.board_hall.specs.Posts.{mark_in, AreReal, on, posts_of, owed_if}
use Rattle.board_hall.specs.Hall.{HallState, lock_word, open_word, IsBoard, Knows, Lawful, newcomer}
use Rattle.board_hall.specs.Hall.{taking, posting, giving, seeing, with_parts, meeting, met}
use Rattle.board_hall.specs.Hall.{MayPost, in_part, on_top, of_part, HallStep, Reached}
use Rattle.board_hall.specs.Hall as hall
use Rattle.board_hall.specs.Inner.Plays.{Hand, OwedIsOpen, Took, Tried, Noted, GaveBack, Gave, Read}
use Rattle.board_hall.proofs.PostsLists.{among_on, on_among, mark_on, among_posts, seen_marks}
use Rattle.board_hall.proofs.HallLawful.{same_some, reached_lawful, then_step, all_real, lighter}
use Rattle.board_hall.proofs.HallLawful.{owed_is_open, board_more}

unchanged : (s : HallState) (i id : ℕ) (c : List (ℕ × Option BoardData)) (v : View) →
    get_elem? s.views id ≡ some v → stepped s i (get_or s.words i 0) id c v keeps ≡ s
unchanged s i id c v at_id =
    λ z. record {
      words = set-get_or s.words i 0 z;
      homes = s.homes;
      views = set_again s.views id v at_id z;
    }

down : (o m : ℕ) → m ≤ o → o < 2 ^ 64 → (o + (2 ^ 64 - m)) % 2 ^ 64 ≡ o - m
down o m le fits = omega arith

module _ (k : CutCase) (passes : ℕ) where
  abbrev n : ℕ
  n = board_count k

  abbrev Rule : HallState → Type 0
  Rule = Reached k passes

  -- the posts on a board are real, by any name of the case
  real_on : (s : HallState) → Lawful k s → (b : ℕ) (c : CutCase) → k ≡ c →
      AreReal c (on b (posts_of s.views))
  real_on s l b c is =
      subst (λ c. AreReal c (on b (posts_of s.views))) is
      (λ x a. all_real k s l x (among_on b (posts_of s.views) x a))

  -- what the taker of board b is told
  takes_board : (s : HallState) (l : Lawful k s) (id b : ℕ) (me : Hand) (y : BoardData) →
      get_elem? s.views id ≡ some me.0 → IsBoard k b (posts_of s.views) y
      →
      Took me b (on b (posts_of s.views)) y
      (taking b (on b (posts_of s.views)) me.0, (b, Some y) ∷ me.1)
  takes_board s l id b me y at_id is =
      let P : List Post = posts_of s.views in let kn = l.each_pass id me.0 at_id in
      let owed : b ≡ parts_in k → OwedIsOpen k me.0.owes (on b P) =
      (λ top part inside owes.
      (λ i. mark_in (on b P) (sym top i) (part_place k.cut k.case.tree part))
      ∙ (mark_on b P (part_place k.cut k.case.tree part)
      ∙ ((λ i. mark_in P (top i) (part_place k.cut k.case.tree part))
      ∙ owed_is_open k s l id me.0 part at_id inside owes))) in record {
        after_is = refl;
        board =
            subst (λ c. IsBoard c b (on b P) y) (sym kn.same)
            (board_more k P (on b P) b y (mark_on b P) is);
        real = real_on s l b me.0.of (sym kn.same);
        owed = subst (λ c. b ≡ parts_in c → OwedIsOpen c me.0.owes (on b P)) (sym kn.same) owed;
      }

  -- a try for a lock
  pub tries : (slots id b : ℕ) (me : Hand) → b < n → me.0.held ≡ None → 0 < me.0.parts →
      Allows Rule slots id me (lock_word b) (λ x. either (x == 0) 1 x)
      (Tried (step slots (lock_word b) 0 1 none) me)
  tries slots id b me inside idle stands s g long at_id small =
      let l = reached_lawful k passes s g in let v : View = me.0 in
      let P : List Post = posts_of s.views in let word : ℕ = get_or s.words (lock_word b) 0 in
      dite (ℕ_discrete word 0)
      (λ free. let h = l.home b inside free in let w : View = taking b (on b P) v in
      let is : either (word == 0) 1 word ≡ 1 = ap (λ c. either c 1 word) (eq-eqb word 0 free) in
      let t : HallState =
      record {
        words = set s.words (lock_word b) 1;
        homes = set s.homes b none;
        views = set s.views id w;
      } in (
        w,
        takes b (Some h.0),
        h.1,
        subst (λ x. Rule (stepped s (lock_word b) x id me.1 w (takes b (Some h.0)))) (sym is)
            (then_step k passes s t g
            (hall.takes id b (v, Some h.0, at_id, idle, stands, inside, free, h.1, refl))),
        (
          (λ not. absurd (not free)),
          (λ _. (b, on b P, h.0, refl, takes_board s l id b me h.0 at_id h.2)),
        ),
      ))
      (λ held. let is : either (word == 0) 1 word
      ≡ word = ap (λ c. either c 1 word) (ne_eqb word 0 held) in (
        v,
        keeps,
        tt,
        subst (λ x. Rule (stepped s (lock_word b) x id me.1 v keeps)) (sym is)
            (subst Rule (sym (unchanged s (lock_word b) id me.1 v at_id)) g),
        ((λ _. refl), (λ free. absurd (held free))),
      ))

  -- what a holder may post, it may post by what all have posted
  may_by_all : (known P : List Post) (x : Post) (before after : Option ℕ) →
      ((row : ℕ) → mark_in known x.board row ≡ mark_in P x.board row) →
      MayPost k known x before after → MayPost k P x before after
  may_by_all known P x before after same (in_part d) = in_part record {
    real = d.real;
    in_part = d.in_part;
    free = d.free;
    owed =
        subst (λ (marks : ℕ → Mark). after
        ≡ owed_if (root_by k x.board marks)
        (root_by k x.board (λ row. mark_by (is_at x x.board row) x (marks row))) x.board)
        (λ i row. same row i) d.owed;
  }
  may_by_all known P x before after same (on_top d) = on_top d
  may_by_all known P x before after same (of_part d) = of_part d

  -- a post of the holder
  pub posts : (slots id m : ℕ) (me : Hand) (x : Post) (owes : Option ℕ) → me.0.held ≡ Some x.board →
      MayPost k me.0.known x me.0.owes owes → mark_in me.0.known x.board x.row ≡ Open →
      m ≡ covered k x.board (mark_in me.0.known x.board) x
      →
      Allows Rule slots id me (open_word x.board) (λ o. (o + (2 ^ 64 - m)) % 2 ^ 64)
      (Noted x owes (step slots (open_word x.board) m 0 none) me)
  posts slots id m me x owes holds may new much s g long at_id small =
      let b : ℕ = x.board in
      let l = reached_lawful k passes s g in let v : View = me.0 in
      let P : List Post = posts_of s.views in let word : ℕ = get_or s.words (open_word b) 0 in
      let kn = l.each_pass id v at_id in
      let h = kn.holder b holds in let w : View = posting x owes v in
      let new' : mark_in P b x.row ≡ Open = sym (h.1 x.row) ∙ new in
      let much' : m ≡ covered k b (mark_in P b) x =
      much ∙ (λ i. covered k b (λ row. h.1 row i) x) in
      let o : word ≡ open_by k b (mark_in P b) = l.opens b h.0 in
      let light = lighter k P (x ∷ P) b x refl (λ c row. refl) new' in let enough = light.1 in
      let is : (word + (2 ^ 64 - m)) % 2 ^ 64 ≡ word - covered k b (mark_in P b) x =
      down word m (omega (arith, o, enough, much')) small ∙ (λ i. word - much' i) in
      let t : HallState =
      record {
        words = set s.words (open_word b) (word - covered k b (mark_in P b) x);
        homes = s.homes;
        views = set s.views id w;
      } in (
        w,
        keeps,
        tt,
        subst (λ y. Rule (stepped s (open_word b) y id me.1 w keeps)) (sym is)
            (then_step k passes s t g
            (hall.posts id b x owes
            (v, at_id, holds, refl, may_by_all v.known P x v.owes owes h.1 may, new', refl))),
        refl,
      )

  -- the lock is given back
  pub gives_back : (slots id b : ℕ) (v : View) (y : BoardData) (xs : List (ℕ × Option BoardData)) →
      v.held ≡ Some b → IsBoard k b v.known y
      →
      Allows Rule slots id (v, (b, Some y) ∷ xs) (lock_word b) (λ _. 0)
      (λ _. Gave (step slots (lock_word b) 0 0 none) (v, (b, Some y) ∷ xs) 0)
  gives_back slots id b v y xs holds is_board s g long at_id small =
      let l = reached_lawful k passes s g in let P : List Post = posts_of s.views in
      let kn = l.each_pass id v at_id in let h = kn.holder b holds in
      let w : View = giving (on b P) v in
      let t : HallState =
      record {
        words = set s.words (lock_word b) 0;
        homes = set s.homes b (some (Some y));
        views = set s.views id w;
      } in (
        w,
        gives,
        tt,
        then_step k passes s t g
            (hall.gives id b
            (v, y, at_id, holds, board_more k v.known P b y (λ row. sym (h.1 row)) is_board, refl)),
        (
          on b P,
          refl,
          real_on s l b v.of (sym kn.same),
          λ c e. subst (λ c. GaveBack (v, (b, Some y) ∷ xs) c (on b P))
              (same_some b c (sym holds ∙ e)) record {
                own = λ x a is. on_among b P x is (among_posts s.views id v x at_id a);
                marks =
                    λ row. seen_marks P (on b P) v.seen b l.once kn.seen (mark_on b P) row
                    ∙ sym (h.1 row);
              },
        ),
      )

  -- a load of an open word
  pub looks : (slots id b : ℕ) (me : Hand) → b < n →
      Allows Rule slots id me (open_word b) (λ x. x) (Read (step slots (open_word b) 0 0 none) me)
  looks slots id b me inside s g long at_id small =
      let l = reached_lawful k passes s g in let v : View = me.0 in
      let P : List Post = posts_of s.views in let kn = l.each_pass id v at_id in
      let w : View = seeing (on b P) v in
      let t : HallState = record { words = s.words; homes = s.homes; views = set s.views id w } in
      let same = seen_marks P (on b P) v.seen b l.once kn.seen (mark_on b P) in (
        w,
        keeps,
        tt,
        subst (λ ws. Rule record { words = ws; homes = s.homes; views = set s.views id w })
            (sym (set-get_or s.words (open_word b) 0))
            (then_step k passes s t g (hall.reads id b (v, at_id, refl))),
        (
          b,
          on b P,
          refl,
          refl,
          real_on s l b v.of (sym kn.same),
          (λ x a is. on_among b P x is (among_posts s.views id v x at_id a)),
          l.opens b inside
              ∙ ((λ i. open_by k b (λ row. sym (same row) i))
              ∙ ap (λ c. open_by c b (mark_in (v.seen ++ on b P) b)) (sym kn.same)),
        ),
      )

  -- a new pass
  pub splits : (id : ℕ) (v : View) → 1 < v.parts →
      Splits Rule id v (with_parts (v.parts - 1) v) (newcomer v.of 1)
  splits id v more s g at_id = let kn = (reached_lawful k passes s g).each_pass id v at_id in
      let t : HallState =
      record {
        words = s.words;
        homes = s.homes;
        views = set s.views id (with_parts (v.parts - 1) v) ++ newcomer k 1 ∷ [];
      } in
      subst (λ c. Rule record {
        words = s.words;
        homes = s.homes;
        views = set s.views id (with_parts (v.parts - 1) v) ++ newcomer c 1 ∷ [];
      }) (sym kn.same) (then_step k passes s t g (hall.comes id (v, at_id, more, refl)))

  -- a pass sees what another posted and has seen
  pub meets_other : (id other : ℕ) (v w : View) → 0 < v.parts → (w.held ≡ None) × (w.owes ≡ None) →
      Joins Rule id v other w (meeting v w) (met w)
  meets_other id other v w stands rests s g at_id apart at_other =
      let there : get_elem? s.views other ≡ some w =
      sym (set_else s.views id other (meeting v w) apart) ∙ at_other in
      let t : HallState =
      record {
        words = s.words;
        homes = s.homes;
        views = set (set s.views id (meeting v w)) other (met w);
      } in
      then_step k passes s t g
      (hall.meets id other (v, w, at_id, there, apart, stands, rests.0, rests.1, refl))
