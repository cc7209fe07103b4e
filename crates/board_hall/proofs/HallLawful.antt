-- Each step leads from a lawful state to a lawful state.
use Rattle.std.proofs.Common.{eq-eqb, true≢false, if◌then◌else◌, ◌≡◌, ◌≢◌, ℕ, zero, suc, ◌+◌, ◌-◌}
use Rattle.std.proofs.Common.{◌*◌, ◌<◌, ◌≤◌, Bool, true, false, List, [], ◌∷◌, ◌++◌, set, get_or}
use Rattle.std.proofs.Common.{length, Option, Some, None, unwrap_or, ◌&&◌, refl, sym, ap, ◌∙◌}
use Rattle.std.proofs.Common.{subst, inl, inr, ⊎_elim, arith, length-set, get_or-set_other}
use Rattle.std.proofs.Common.{get_or-set_same, append-nil}
use mathlib.Core.Logic.{dite}
use native.Mathlib.Decide.{ℕ_discrete}
use mathlib.Core.Option.{some, none, some-ne-none, some-injective}
use lib.ListN.{get_elem?}
use Rattle.atomic_table.proofs.Lists.{at_set, at_snoc, set_here, set_else}
use Rattle.case_core.specs.Judged.{Judged}
use Rattle.case_core.specs.Judged.TheVariants.{Refuted as judged_refuted}
use Rattle.case_core.specs.Judged.TheVariants.{Rejected as judged_rejected}
use Rattle.split_tree.specs.SplitTree.{subtree_at, IsSplit}
use Rattle.split_tree.specs.Parts.{top}
use Rattle.split_tree.proofs.NodesCoding.{some_node}
use Rattle.mark_board.specs.declared.mark.Mark.{Mark}
use Rattle.mark_board.specs.declared.mark.Mark.TheVariants.{Open, Refuted, Rejected}
use Rattle.mark_board.specs.declared.place.Place.TheVariants.{Top}
use Rattle.mark_board.specs.declared.stored.BoardData.{BoardData}
use Rattle.mark_board.specs.Board.{HasTargets}
use Rattle.mark_board.specs.Boards.{part_tree}
use Rattle.mark_board.specs.Findings.{mark_as}
use Rattle.mark_board.specs.TopPlaces.{top_node, part_place}
use Rattle.mark_board.specs.Marking.{is_refuted, marked, open_weight, open_below}
use Rattle.mark_board.proofs.MarkingLaws.{open_after, marked_more}
use Rattle.mark_board.proofs.BoardsMarks.{parts_apart, own_no_part, none_is_marked}
use Rattle.board_hall.specs.declared.view.View.{View}
use Rattle.board_hall.specs.declared.view.CutCase.{CutCase}
use Rattle.board_hall.specs.declared.view.Post.{Post}
use Rattle.board_hall.specs.Posts.{parts_in, board_count, place_if, place_of, tree_at, weight_of}
use Rattle.board_hall.specs.Posts.{refuted_in, open_by, root_by, covered, IsFindingPost, IsReal}
use Rattle.board_hall.specs.Posts.{is_at, mark_by, mark_in, one_if, times_posted, Among, on}
use Rattle.board_hall.specs.Posts.{posts_of, is_some_of, holders, debts, placed, owed_if}
use Rattle.board_hall.specs.Hall.{HallState, lock_word, open_word, IsBoard, Knows, IsOwing, Lawful}
use Rattle.board_hall.specs.Hall.{newcomer, taking, posting, giving, seeing, with_parts, meeting}
use Rattle.board_hall.specs.Hall.{met, PostsInPart, PostsOnTop, PostsPart, MayPost, in_part, on_top}
use Rattle.board_hall.specs.Hall.{of_part, Takes, Posts, Gives, Reads, Meets, Comes, HallStep}
use Rattle.board_hall.specs.Hall.{takes, posts, gives, reads, meets, comes, IsStart, ReachedIn}
use Rattle.board_hall.specs.Hall.{Reached}
use Rattle.board_hall.proofs.PostsLists.{parts_of, of_cases, this_choice, other_choice, no_choice}
use Rattle.board_hall.proofs.PostsLists.{mark_middle, times_middle, among_middle, among_either}
use Rattle.board_hall.proofs.PostsLists.{none_times, among_on, mark_on, posts_same, posts_push}
use Rattle.board_hall.proofs.PostsLists.{posts_join, among_posts, whose, many_set, many_join}
use Rattle.board_hall.proofs.PostsLists.{many_one, many_two, many_none, parts_set, parts_join}
use Rattle.board_hall.proofs.PostsLists.{parts_two}

-- two choices that are equal choose the same number
pub same_some : (b c : ℕ) → Some b ≡ Some c → b ≡ c
same_some b c e = ap (λ o. unwrap_or o 0) e

not_none : (b : ℕ) → None ≡ Some b → ⊥
not_none b e = cc

word_other : (ws : List ℕ) (i j x : ℕ) → j ≢ i → get_or (set ws i x) j 0 ≡ get_or ws j 0
word_other ws i j x apart = get_or-set_other ws i j x 0 apart

word_here : (ws : List ℕ) (i j x : ℕ) → i < length ws → j ≡ i → get_or (set ws i x) j 0 ≡ x
word_here ws i j x inside e = (λ k. get_or (set ws i x) (e k) 0) ∙ get_or-set_same ws i x 0 inside

module _ (k : CutCase) where
  abbrev n : ℕ
  n = board_count k

  pub each_set : (P : List Post) (vs : List View) (id : ℕ) (w : View) → Knows k P w →
      ((j : ℕ) (u : View) → j ≢ id → get_elem? vs j ≡ some u → Knows k P u)
      → (j : ℕ) (u : View) → get_elem? (set vs id w) j ≡ some u → Knows k P u
  each_set P vs id w mine others j u e =
      ⊎_elim (λ (t : (j ≡ id) × (w ≡ u)). subst (Knows k P) t.1 mine)
      (λ (t : (j ≢ id) × (get_elem? vs j ≡ some u)). others j u t.0 t.1) (at_set vs id j w u e)

  -- all posts are findings as they are defined to be
  pub all_real : (s : HallState) → Lawful k s → (x : Post) → Among x (posts_of s.views) → IsReal k x
  all_real s l x a = let o = whose s.views x a in (l.each_pass o.0 o.1 o.2).real x o.3

  -- a step that posts nothing, and leaves the open words
  moved : (s : HallState) (l : Lawful k s) (id : ℕ) (v w : View) (ws : List ℕ)
      (hs : List (mathlib.Core.Option.Option (Option BoardData))) → get_elem? s.views id ≡ some v →
      w.posts ≡ v.posts → w.owes ≡ v.owes
      → length ws ≡ 2 * n → length hs ≡ n
      →
      ((c : ℕ) → c < n →
      (get_or ws (lock_word c) 0 ≡ holders (set s.views id w) c)
      × (holders (set s.views id w) c ≤ 1))
      → Knows k (posts_of s.views) w
      →
      ((c : ℕ) → c < n → get_or ws (lock_word c) 0 ≡ 0 →
      (y : BoardData) × (get_elem? hs c ≡ some (some (Some y))) × IsBoard k c (posts_of s.views) y)
      → ((c : ℕ) → c < n → get_or ws (open_word c) 0 ≡ get_or s.words (open_word c) 0)
      → Lawful k record { words = ws; homes = hs; views = set s.views id w }
  moved s l id v w ws hs at_id kept owes wide high locked mine homes opened =
      let P : List Post = posts_of s.views in
      let same : posts_of (set s.views id w) ≡ P = posts_same s.views id v w at_id kept in record {
        words = wide;
        slots = high;
        locks = λ c inside. (locked c inside).0;
        alone = λ c inside. (locked c inside).1;
        once = λ b row. subst (λ Q. times_posted Q b row ≤ 1) (sym same) (l.once b row);
        each_pass =
            subst (λ Q. (j : ℕ) (u : View) → get_elem? (set s.views id w) j ≡ some u → Knows k Q u)
            (sym same) (each_set P s.views id w mine (λ j u _ e. l.each_pass j u e));
        home =
            subst (λ Q. (c : ℕ) → c < n → get_or ws (lock_word c) 0 ≡ 0 →
            (y : BoardData) × (get_elem? hs c ≡ some (some (Some y))) × IsBoard k c Q y) (sym same)
            homes;
        opens =
            λ c inside. opened c inside
            ∙ (l.opens c inside ∙ (λ i. open_by k c (mark_in (sym same i) c)));
        owing = subst (λ Q. IsOwing k Q (set s.views id w)) (sym same) (λ part inside.
            let h = many_set (λ z. z.owes) s.views id part v w at_id in
            let e : is_some_of w.owes part ≡ is_some_of v.owes part =
            ap (λ o. is_some_of o part) owes in
            let f = l.owing part inside in omega (arith, h, e, f));
      }

  -- who holds what, where a view changes
  count : (s : HallState) (l : Lawful k s) (id c : ℕ) (v w : View) → get_elem? s.views id ≡ some v →
      c < n
      →
      (holders (set s.views id w) c + is_some_of v.held c ≡ holders s.views c + is_some_of w.held c)
      × (holders s.views c ≤ 1) × (get_or s.words (lock_word c) 0 ≡ holders s.views c)
  count s l id c v w at_id inside =
      (many_set (λ z. z.held) s.views id c v w at_id, l.alone c inside, l.locks c inside)

  pub take_keeps : (id b : ℕ) (s t : HallState) → Lawful k s → Takes k id b s t → Lawful k t
  take_keeps id b s t l g = subst (Lawful k) (sym g.8)
      (let v : View = g.0 in let at_id = g.2 in let idle : v.held ≡ None = g.3 in
      let stands : 0 < v.parts = g.4 in let here : b < n = g.5 in let free = g.6 in
      let P : List Post = posts_of s.views in let w : View = taking b (on b P) v in
      let kn = l.each_pass id v at_id in let wide = l.words in let high = l.slots in
      moved s l id v w (set s.words (lock_word b) 1) (set s.homes b none) at_id refl refl
      (length-set s.words (lock_word b) 1 ∙ wide) (length-set s.homes b none ∙ high)
      (λ c inside. let h = count s l id c v w at_id inside in
      let z : is_some_of v.held c ≡ 0 = no_choice v.held c idle in dite (ℕ_discrete c b)
      (λ e. let one : is_some_of w.held c ≡ 1 = this_choice w.held c (ap Some (sym e)) in
      let free' : get_or s.words (lock_word c) 0 ≡ 0 =
      (λ i. get_or s.words (lock_word (e i)) 0) ∙ free in
      let now : get_or (set s.words (lock_word b) 1) (lock_word c) 0 ≡ 1 =
      word_here s.words (lock_word b) (lock_word c) 1 (omega arith) (omega arith) in
      let a = h.0 in let a' = h.1 in let a'' = h.2 in (omega arith, omega arith))
      (λ apart. let none_ : is_some_of w.held c ≡ 0 = other_choice w.held b c refl apart in
      let now : get_or (set s.words (lock_word b) 1) (lock_word c) 0
      ≡ get_or s.words (lock_word c) 0 =
      word_other s.words (lock_word b) (lock_word c) 1 (λ e. apart (omega arith)) in
      let a = h.0 in let a' = h.1 in let a'' = h.2 in (omega arith, omega arith)))
      record {
        same = kn.same;
        real = kn.real;
        seen = kn.seen;
        idle = λ z. absurd (omega arith);
        holder =
            λ c e. subst (λ c. (c < n) × ((row : ℕ) → mark_in (on b P) c row ≡ mark_in P c row))
            (same_some b c e) (here, mark_on b P);
      }
      (λ c inside zero_. dite (ℕ_discrete c b)
      (λ e. let now : get_or (set s.words (lock_word b) 1) (lock_word c) 0
      ≡ 1 = word_here s.words (lock_word b) (lock_word c) 1 (omega arith) (omega arith) in
      absurd (omega arith))
      (λ apart. let now : get_or (set s.words (lock_word b) 1) (lock_word c) 0
      ≡ get_or s.words (lock_word c) 0 =
      word_other s.words (lock_word b) (lock_word c) 1 (λ e. apart (omega arith)) in
      let was = l.home c inside (sym now ∙ zero_) in
      (was.0, set_else s.homes b c none apart ∙ was.1, was.2)))
      (λ c inside. word_other s.words (lock_word b) (open_word c) 1 (λ e. omega arith)))

  pub give_keeps : (id b : ℕ) (s t : HallState) → Lawful k s → Gives k id b s t → Lawful k t
  give_keeps id b s t l g = subst (Lawful k) (sym g.5)
      (let v : View = g.0 in let y : BoardData = g.1 in let at_id = g.2 in
      let holds : v.held ≡ Some b = g.3 in let is_board = g.4 in
      let P : List Post = posts_of s.views in let w : View = giving (on b P) v in
      let kn = l.each_pass id v at_id in let here : b < n = (kn.holder b holds).0 in
      let wide = l.words in let high = l.slots in
      moved s l id v w (set s.words (lock_word b) 0) (set s.homes b (some (Some y))) at_id refl refl
      (length-set s.words (lock_word b) 0 ∙ wide) (length-set s.homes b (some (Some y)) ∙ high)
      (λ c inside. let h = count s l id c v w at_id inside in
      let z : is_some_of w.held c ≡ 0 = refl in dite (ℕ_discrete c b)
      (λ e. let one : is_some_of v.held c ≡ 1 = this_choice v.held c (holds ∙ ap Some (sym e)) in
      let now : get_or (set s.words (lock_word b) 0) (lock_word c) 0 ≡ 0 =
      word_here s.words (lock_word b) (lock_word c) 0 (omega arith) (omega arith) in
      let a = h.0 in let a' = h.1 in let a'' = h.2 in (omega arith, omega arith))
      (λ apart. let none_ : is_some_of v.held c ≡ 0 = other_choice v.held b c holds apart in
      let now : get_or (set s.words (lock_word b) 0) (lock_word c) 0
      ≡ get_or s.words (lock_word c) 0 =
      word_other s.words (lock_word b) (lock_word c) 0 (λ e. apart (omega arith)) in
      let a = h.0 in let a' = h.1 in let a'' = h.2 in (omega arith, omega arith)))
      record {
        same = kn.same;
        real = kn.real;
        seen = λ x a. ⊎_elim (kn.seen x) (λ r. among_on b P x r) (among_either v.seen (on b P) x a);
        idle = λ z. absurd (not_none b (sym (kn.idle z).0 ∙ holds));
        holder = λ c e. absurd (not_none c e);
      }
      (λ c inside zero_. dite (ℕ_discrete c b)
      (λ e. (
        y,
        (λ i. get_elem? (set s.homes b (some (Some y))) (e i))
            ∙ set_here s.homes b (some (Some y)) (omega arith),
        subst (λ c. IsBoard k c P y) (sym e) is_board,
      ))
      (λ apart. let now : get_or (set s.words (lock_word b) 0) (lock_word c) 0
      ≡ get_or s.words (lock_word c) 0 =
      word_other s.words (lock_word b) (lock_word c) 0 (λ e. apart (omega arith)) in
      let was = l.home c inside (sym now ∙ zero_) in
      (was.0, set_else s.homes b c (some (Some y)) apart ∙ was.1, was.2)))
      (λ c inside. word_other s.words (lock_word b) (open_word c) 0 (λ e. omega arith)))

  -- a pass sees more posts
  sees : (s : HallState) (l : Lawful k s) (id : ℕ) (v : View) (Q : List Post) (p : ℕ) →
      get_elem? s.views id ≡ some v → ((x : Post) → Among x Q → Among x (posts_of s.views))
      → (p ≡ 0 → (v.held ≡ None) × (v.owes ≡ None)) →
      Lawful k record
      { words = s.words; homes = s.homes; views = set s.views id (with_parts p (seeing Q v)) }
  sees s l id v Q p at_id within rests =
      let w : View = with_parts p (seeing Q v) in let kn = l.each_pass id v at_id in
      moved s l id v w s.words s.homes at_id refl refl l.words l.slots
      (λ c inside. let h = count s l id c v w at_id inside in
      let same : is_some_of w.held c ≡ is_some_of v.held c = refl in let a = h.0 in let a' = h.1 in
      let a'' = h.2 in (omega arith, omega arith))
      record {
        same = kn.same;
        real = kn.real;
        seen = λ x a. ⊎_elim (kn.seen x) (within x) (among_either v.seen Q x a);
        idle = rests;
        holder = kn.holder;
      }
      l.home
      (λ c inside. refl)

  pub read_keeps : (id b : ℕ) (s t : HallState) → Lawful k s → Reads k id b s t → Lawful k t
  read_keeps id b s t l g =
      subst (Lawful k) (sym g.2)
      (sees s l id g.0 (on b (posts_of s.views)) g.0.parts g.1 (among_on b (posts_of s.views))
      (l.each_pass id g.0 g.1).idle)

  -- a pass stands for others
  stands_for : (s : HallState) (l : Lawful k s) (id : ℕ) (v : View) (p : ℕ) →
      get_elem? s.views id ≡ some v → (p ≡ 0 → (v.held ≡ None) × (v.owes ≡ None)) →
      Lawful k record { words = s.words; homes = s.homes; views = set s.views id (with_parts p v) }
  stands_for s l id v p at_id rests =
      let w : View = with_parts p v in let kn = l.each_pass id v at_id in
      moved s l id v w s.words s.homes at_id refl refl l.words l.slots
      (λ c inside. let h = count s l id c v w at_id inside in
      let same : is_some_of w.held c ≡ is_some_of v.held c = refl in let a = h.0 in let a' = h.1 in
      let a'' = h.2 in (omega arith, omega arith))
      record { same = kn.same; real = kn.real; seen = kn.seen; idle = rests; holder = kn.holder }
      l.home
      (λ c inside. refl)

  pub meet_keeps : (id other : ℕ) (s t : HallState) → Lawful k s → Meets id other s t → Lawful k t
  meet_keeps id other s t l g = subst (Lawful k) (sym g.8)
      (let v : View = g.0 in let w : View = g.1 in
      let r : HallState =
      record { words = s.words; homes = s.homes; views = set s.views id (meeting v w) } in
      let within : (x : Post) → Among x (w.posts ++ w.seen) → Among x (posts_of s.views) =
      (λ x a. ⊎_elim (λ m. among_posts s.views other w x g.3 m) ((l.each_pass other w g.3).seen x)
      (among_either w.posts w.seen x a)) in
      let half : Lawful k r =
      sees s l id v (w.posts ++ w.seen) (v.parts + w.parts) g.2 within
      (λ z. let p : 0 < v.parts = g.5 in absurd (omega arith)) in
      stands_for r half other w 0 (set_else s.views id other (meeting v w) g.4 ∙ g.3)
      (λ _. (g.6, g.7)))

  -- a board is also that of other posts that leave its rows the same marks
  pub board_more : (P P' : List Post) (c : ℕ) (y : BoardData) →
      ((row : ℕ) → mark_in P' c row ≡ mark_in P c row) → IsBoard k c P y → IsBoard k c P' y
  board_more P P' c y same is =
      record {
        is_data = is.is_data;
        is_board =
            record {
              is_at = is.is_board.is_at;
              marks = λ row. is.is_board.marks row ∙ sym (same row);
            };
      }

  -- something new on board b among all posts
  module _ (P P' : List Post) (b : ℕ) (x : Post) (is_b : x.board ≡ b)
      (marks : (c row : ℕ) → mark_in P' c row ≡ mark_in (x ∷ P) c row) where
    pub other_board : (c : ℕ) → c ≢ b → (row : ℕ) → mark_in P' c row ≡ mark_in P c row
    other_board c apart row = marks c row ∙ ⊎_elim
        (λ (h : (x.board ≡ c) × (x.row ≡ row) × (is_at x c row ≡ true)). absurd
        (apart (sym h.0 ∙ is_b)))
        (λ (h : is_at x c row ≡ false). λ i. mark_by (h i) x (mark_in P c row))
        (of_cases x c row)

    pub other_row : (row : ℕ) → row ≢ x.row → mark_in P' b row ≡ mark_in P b row
    other_row row apart = marks b row ∙ ⊎_elim
        (λ (h : (x.board ≡ b) × (x.row ≡ row) × (is_at x b row ≡ true)). absurd (apart (sym h.1)))
        (λ (h : is_at x b row ≡ false). λ i. mark_by (h i) x (mark_in P b row))
        (of_cases x b row)

    pub this_row : mark_in P' b x.row ≡ mark_as x.judged
    this_row = marks b x.row ∙ ⊎_elim
        (λ (h : (x.board ≡ b) × (x.row ≡ x.row) × (is_at x b x.row ≡ true)). λ i.
        mark_by (h.2 i) x (mark_in P b x.row))
        (λ (h : is_at x b x.row ≡ false). absurd
        (true≢false (sym (λ i. eq-eqb x.board b is_b i && eq-eqb x.row x.row refl i) ∙ h)))
        (of_cases x b x.row)

    same_marks : (row : ℕ) → is_refuted (mark_in P' b x.row) ≡ is_refuted (mark_in P b x.row) →
        refuted_in (mark_in P' b) row ≡ refuted_in (mark_in P b) row
    same_marks row here = dite (ℕ_discrete row x.row)
        (λ e. (λ i. is_refuted (mark_in P' b (e i)))
        ∙ (here ∙ (λ i. is_refuted (mark_in P b (sym e i)))))
        (λ apart. ap is_refuted (other_row row apart))

    lighter_by : (judged : Judged) → x.judged ≡ judged → mark_in P b x.row ≡ Open →
        open_by k b (mark_in P' b) + covered k b (mark_in P b) x ≡ open_by k b (mark_in P b)
    lighter_by judged_refuted is none_ =
        let now : refuted_in (mark_in P' b) x.row ≡ true =
        ap is_refuted this_row ∙ ap (λ j. is_refuted (mark_as j)) is in
        let step =
        open_after (weight_of k b) (refuted_in (mark_in P b)) (refuted_in (mark_in P' b)) x.row 0
        (tree_at k b) (λ q apart. ap is_refuted (other_row q apart)) now in
        let much : covered k b (mark_in P b) x
        ≡ open_below (weight_of k b) (refuted_in (mark_in P b)) x.row 0 (tree_at k b) =
        ap (λ j. if is_refuted (mark_as j) then open_below (weight_of k b)
        (refuted_in (mark_in P b)) x.row 0 (tree_at k b) else 0) is in
        omega (arith, step, much)
    lighter_by (judged_rejected number reason) is none_ =
        let here : is_refuted (mark_in P' b x.row) ≡ is_refuted (mark_in P b x.row) =
        ap is_refuted this_row
        ∙ (ap (λ j. is_refuted (mark_as j)) is ∙ sym (ap is_refuted none_)) in
        let same : open_by k b (mark_in P' b) ≡ open_by k b (mark_in P b) =
        (λ i. open_weight (weight_of k b) (λ q. same_marks q here i) 0 (tree_at k b)) in
        let much : covered k b (mark_in P b) x ≡ 0 =
        ap (λ j. if is_refuted (mark_as j) then open_below (weight_of k b)
        (refuted_in (mark_in P b)) x.row 0 (tree_at k b) else 0) is in
        omega (arith, same, much)

    -- the open weight goes down by the weight of what is newly covered
    pub lighter : mark_in P b x.row ≡ Open →
        (open_by k b (mark_in P' b) ≡ open_by k b (mark_in P b) - covered k b (mark_in P b) x)
        × (covered k b (mark_in P b) x ≤ open_by k b (mark_in P b))
    lighter none_ = let h = lighter_by x.judged refl none_ in (omega (arith, h), omega (arith, h))

    -- what is refuted stays so, and a marked root stays marked
    grows : mark_in P b x.row ≡ Open → root_by k b (mark_in P b) ≡ true →
        root_by k b (mark_in P' b) ≡ true
    grows none_ is =
        marked_more (refuted_in (mark_in P b)) (refuted_in (mark_in P' b)) 0 (tree_at k b)
        (λ q r. dite (ℕ_discrete q x.row)
        (λ here. let no : false ≡ true = sym (ap is_refuted ((λ i. mark_in P b (here i)) ∙ none_))
        ∙ r in absurd (cc))
        (λ apart. ap is_refuted (other_row q apart) ∙ r))
        is

    root_same : (c : ℕ) → c ≢ b → root_by k c (mark_in P' c) ≡ root_by k c (mark_in P c)
    root_same c apart = λ i. marked (λ q. is_refuted (other_board c apart q i)) 0 (tree_at k c)

  at_most_one : (c : Bool) → one_if c ≤ 1
  at_most_one true = omega arith
  at_most_one false = omega arith

  -- the debt that a post makes
  new_debt : (before after : Bool) (part : ℕ) → (before ≡ true → after ≡ true) →
      one_if after ≡ one_if before + is_some_of (owed_if before after part) part
  new_debt false true part keep = let t = this_choice (Some part) part refl in omega (arith, t)
  new_debt false false part keep = refl
  new_debt true true part keep = refl
  new_debt true false part keep = let no : false ≡ true = keep refl in absurd (cc)

  other_debt : (before after : Bool) (q part : ℕ) → part ≢ q →
      is_some_of (owed_if before after q) part ≡ 0
  other_debt false true q part apart = other_choice (Some q) q part refl apart
  other_debt false false q part apart = refl
  other_debt true true q part apart = refl
  other_debt true false q part apart = refl

  abbrev part_row : ℕ → ℕ
  part_row part = part_place k.cut k.case.tree part

  -- two parts stand at two rows of the top board
  pub part_rows : (i j : ℕ) → i < parts_in k → j < parts_in k → part_row i ≡ part_row j → i ≡ j
  part_rows i j l m e =
      let first = some_node (part_tree k.cut k.case.tree i) in
      let second = some_node (part_tree k.cut k.case.tree j) in
      parts_apart k.cut k.case.tree i j 0 0 l m (omega (arith, first)) (omega (arith, second))
      (λ z. top_node k.cut k.case.tree (e z) + 0)

  -- a node above the cut stands at no part's row
  pub own_row : (x : Post) → IsFindingPost k x → x.board ≡ parts_in k → (part : ℕ) →
      part < parts_in k → part_row part ≢ x.row
  own_row x real top_is part inside e =
      let is_split : IsSplit (subtree_at (top k.cut k.case.tree) x.row) =
      subst (λ place. HasTargets k.cut k.case.tree place x.row) (place_on_top x.board top_is)
      real.has_targets in
      own_no_part k.cut k.case.tree x.row part is_split inside (sym e)
    where
      place_on_top : (b : ℕ) → b ≡ parts_in k → place_of k b ≡ Top
      place_on_top b e = ap (λ c. place_if c b) (eq-eqb b (parts_in k) e)

  module _ (P P' : List Post) (vs : List View) (id : ℕ) (v : View) (x : Post) (owes : Option ℕ)
      (was : IsOwing k P vs) (at_id : get_elem? vs id ≡ some v)
      (none_ : mark_in P x.board x.row ≡ Open)
      (marks : (c row : ℕ) → mark_in P' c row ≡ mark_in (x ∷ P) c row) where
    abbrev after : View
    after = posting x owes v

    owing_in_part : PostsInPart k P x v.owes owes → IsOwing k P' (set vs id after)
    owing_in_part d part inside =
        let b : ℕ = x.board in let f = was part inside in
        let h = many_set (λ z. z.owes) vs id part v after at_id in
        let free = no_choice v.owes part d.free in let below = d.in_part in
        let top_same =
        ap placed (other_board P P' b x refl marks (parts_in k) (λ e. omega arith)
        (part_row part)) in
        let due : is_some_of owes part
        ≡ is_some_of (owed_if (root_by k b (mark_in P b)) (root_by k b (mark_in (x ∷ P) b)) b)
        part = ap (λ o. is_some_of o part) d.owed in
        dite (ℕ_discrete part b)
        (λ is.
        let now : root_by k b (mark_in P' b) ≡ root_by k b (mark_in (x ∷ P) b) =
        (λ i. marked (λ q. is_refuted (marks b q i)) 0 (tree_at k b)) in
        let debt =
        new_debt (root_by k b (mark_in P b)) (root_by k b (mark_in (x ∷ P) b)) b
        (λ r. sym now ∙ grows P P' b x refl marks none_ r) in
        let mine : is_some_of owes part
        ≡ is_some_of (owed_if (root_by k b (mark_in P b)) (root_by k b (mark_in (x ∷ P) b)) b) b =
        due
        ∙ (λ i. is_some_of (owed_if (root_by k b (mark_in P b)) (root_by k b (mark_in (x ∷ P) b)) b)
        (is i)) in
        let old : one_if (root_by k part (mark_in P part)) ≡ one_if (root_by k b (mark_in P b)) =
        (λ i. one_if (root_by k (is i) (mark_in P (is i)))) in
        let new : one_if (root_by k part (mark_in P' part))
        ≡ one_if (root_by k b (mark_in (x ∷ P) b)) =
        (λ i. one_if (root_by k (is i) (mark_in P' (is i)))) ∙ ap one_if now in
        omega (arith, f, h, free, top_same, debt, mine, old, new))
        (λ apart.
        let same = ap one_if (root_same P P' b x refl marks part apart) in
        let none_due =
        due
        ∙ other_debt (root_by k b (mark_in P b)) (root_by k b (mark_in (x ∷ P) b)) b part apart in
        omega (arith, f, h, free, top_same, same, none_due))

    owing_on_top : PostsOnTop k x v.owes owes → IsOwing k P' (set vs id after)
    owing_on_top d part inside =
        let f = was part inside in let h = many_set (λ z. z.owes) vs id part v after at_id in
        let free = no_choice v.owes part d.free in let none_due = no_choice owes part d.owed in
        let same =
        ap one_if (root_same P P' (parts_in k) x d.on_top marks part (λ e. omega arith)) in
        let top_same =
        ap placed (other_row P P' (parts_in k) x d.on_top marks (part_row part)
        (own_row x d.real d.on_top part inside)) in
        omega (arith, f, h, free, none_due, same, top_same)

    owing_of_part : PostsPart k x v.owes owes → IsOwing k P' (set vs id after)
    owing_of_part d part inside =
        let r = d.real in let n : ℕ = parts_in k in
        let f = was part inside in let h = many_set (λ z. z.owes) vs id part v after at_id in
        let none_due = no_choice owes part d.owed in
        let same = ap one_if (root_same P P' n x r.on_top marks part (λ e. omega arith)) in
        dite (ℕ_discrete part d.part)
        (λ is.
        let row : part_row part ≡ x.row = (λ i. part_row (is i)) ∙ sym r.here in
        let due : is_some_of v.owes part ≡ 1 =
        this_choice v.owes part (d.due ∙ (λ i. Some (sym is i))) in
        let old : placed (mark_in P n (part_row part)) ≡ 0 =
        ap placed ((λ i. mark_in P (sym r.on_top i) (row i)) ∙ none_) in
        let new : placed (mark_in P' n (part_row part)) ≡ 1 =
        ap placed ((λ i. mark_in P' n (row i))
        ∙ (this_row P P' n x r.on_top marks ∙ ap mark_as r.refuted)) in
        omega (arith, f, h, none_due, same, due, old, new))
        (λ apart.
        let due : is_some_of v.owes part ≡ 0 = other_choice v.owes d.part part d.due apart in
        let top_same =
        ap placed (other_row P P' n x r.on_top marks (part_row part)
        (λ e. apart (part_rows part d.part inside r.within (e ∙ r.here)))) in
        omega (arith, f, h, none_due, same, due, top_same))

    owing_after : MayPost k P x v.owes owes → IsOwing k P' (set vs id after)
    owing_after (in_part d) = owing_in_part d
    owing_after (on_top d) = owing_on_top d
    owing_after (of_part d) = owing_of_part d

  pub real_of : (P : List Post) (x : Post) (before after : Option ℕ) → MayPost k P x before after →
      IsReal k x
  real_of P x due left (in_part d) = inl d.real
  real_of P x due left (on_top d) = inl d.real
  real_of P x due left (of_part d) = inr (d.part, d.real)

  pub post_keeps : (id b : ℕ) (s t : HallState) (x : Post) (owes : Option ℕ) → Lawful k s →
      Posts k id b s t x owes → Lawful k t
  post_keeps id b s t x owes l g = subst (Lawful k) (sym g.6)
      (let v : View = g.0 in let at_id = g.1 in let holds : v.held ≡ Some b = g.2 in
      let is_b : x.board ≡ b = g.3 in let may = g.4 in let new = g.5 in
      let real = real_of (posts_of s.views) x g.0.owes owes may in
      let P : List Post = posts_of s.views in let w : View = posting x owes v in
      let kn = l.each_pass id v at_id in let here : b < n = (kn.holder b holds).0 in
      let wide = l.words in
      let ws : List ℕ =
      set s.words (open_word b) (get_or s.words (open_word b) 0 - covered k b (mark_in P b) x) in
      let m = posts_push s.views id v w x at_id refl in
      let P' : List Post = posts_of (set s.views id w) in
      let new' : mark_in (m.0 ++ m.1) x.board x.row ≡ Open =
      (λ i. mark_in (sym m.2 i) (is_b i) x.row) ∙ new in
      let marks : (c row : ℕ) → mark_in P' c row ≡ mark_in (x ∷ P) c row =
      (λ c row. (λ i. mark_in (m.3 i) c row)
      ∙ (mark_middle m.0 m.1 x c row new' ∙ (λ i. mark_in (x ∷ sym m.2 i) c row))) in
      let more : (y : Post) → Among y P → Among y P' =
      (λ y a. subst (Among y) (sym m.3) (among_middle m.0 m.1 x y (subst (Among y) m.2 a))) in
      let other : (c : ℕ) → c ≢ b → (row : ℕ) → mark_in P' c row ≡ mark_in P c row =
      other_board P P' b x is_b marks in
      let light = lighter P P' b x is_b marks new in
      let mine : Knows k P' w = record {
        same = kn.same;
        real =
            λ y a. ⊎_elim (kn.real y)
            (λ r. ⊎_elim (λ e. subst (IsReal k) (sym e) real) (λ no. absurd no) r)
            (among_either v.posts (x ∷ []) y a);
        seen = λ y a. more y (kn.seen y a);
        idle = λ z. absurd (not_none b (sym (kn.idle z).0 ∙ holds));
        holder = λ c e. let is : b ≡ c = same_some b c (sym holds ∙ e) in
            subst (λ c. (c < n) × ((row : ℕ) → mark_in (x ∷ v.known) c row ≡ mark_in P' c row)) is (
              here,
              λ row. (λ i. mark_by (is_at x b row) x ((kn.holder b holds).1 row i))
                  ∙ sym (marks b row),
            );
      } in record {
        words = length-set s.words (open_word b) _ ∙ wide;
        slots = l.slots;
        locks = λ c inside. let h = count s l id c v w at_id inside in
            let same : is_some_of w.held c ≡ is_some_of v.held c = refl in let a = h.0 in
            let a'' = h.2 in
            let now : get_or ws (lock_word c) 0 ≡ get_or s.words (lock_word c) 0 =
            word_other s.words (open_word b) (lock_word c) _ (λ e. omega arith) in omega arith;
        alone = λ c inside. let h = count s l id c v w at_id inside in
            let same : is_some_of w.held c ≡ is_some_of v.held c = refl in let a = h.0 in
            let a' = h.1 in omega arith;
        once =
            λ c row. let t' : times_posted P' c row
            ≡ one_if (is_at x c row) + times_posted P c row =
            (λ i. times_posted (m.3 i) c row)
            ∙ (times_middle m.0 m.1 x c row
            ∙ (λ i. one_if (is_at x c row) + times_posted (sym m.2 i) c row)) in
            let was = l.once c row in ⊎_elim
            (λ (h : (x.board ≡ c) × (x.row ≡ row) × (is_at x c row ≡ true)). let z : times_posted P
            c row ≡ 0 =
            none_times P c row ((λ i. mark_in P (sym (sym is_b ∙ h.0) i) (sym h.1 i)) ∙ new) in
            let one : one_if (is_at x c row) ≡ 1 = ap one_if h.2 in omega arith)
            (λ (h : is_at x c row ≡ false). let zero_ : one_if (is_at x c row) ≡ 0 = ap one_if h in
            omega arith)
            (of_cases x c row);
        each_pass =
            each_set P' s.views id w mine (λ j u apart e. let o = l.each_pass j u e in record {
              same = o.same;
              real = o.real;
              seen = λ y a. more y (o.seen y a);
              idle = o.idle;
              holder = λ c e'. let h = o.holder c e' in dite (ℕ_discrete c b)
                  (λ is. let two = many_two (λ z. z.held) s.views id j b v u apart at_id e in
                  let one = l.alone b here in
                  let p : is_some_of v.held b ≡ 1 = this_choice v.held b holds in
                  let q : is_some_of u.held b ≡ 1 = this_choice u.held b (e' ∙ ap Some is) in
                  absurd (omega arith))
                  (λ apart'. (h.0, λ row. h.1 row ∙ sym (other c apart' row)));
            });
        home =
            λ c inside zero_. let now : get_or ws (lock_word c) 0 ≡ get_or s.words (lock_word c) 0 =
            word_other s.words (open_word b) (lock_word c) _ (λ e. omega arith) in
            dite (ℕ_discrete c b)
            (λ e. let p : is_some_of v.held c
            ≡ 1 = this_choice v.held c (holds ∙ ap Some (sym e)) in
            let q = many_one (λ z. z.held) s.views id c v at_id in let r = l.locks c inside in
            absurd (omega arith))
            (λ apart. let was = l.home c inside (sym now ∙ zero_) in
            (was.0, was.1, board_more P P' c was.0 (other c apart) was.2));
        opens = λ c inside. dite (ℕ_discrete c b)
            (λ e. let o = l.opens b here in
            word_here s.words (open_word b) (open_word c) _ (omega arith) (omega arith)
            ∙ (ap (λ z. z - covered k b (mark_in P b) x) o
            ∙ (sym light.0 ∙ (λ i. open_by k (sym e i) (mark_in P' (sym e i))))))
            (λ apart. word_other s.words (open_word b) (open_word c) _ (λ e. apart (omega arith))
            ∙ (l.opens c inside
            ∙ sym (λ i. open_weight (weight_of k c) (λ q. is_refuted (other c apart q i)) 0
            (tree_at k c))));
        owing =
            owing_after P P' s.views id v x owes l.owing at_id
            ((λ i. mark_in P (is_b i) x.row) ∙ new) marks may;
      })

  none_placed : (m : Mark) → placed m ≡ 0 → m ≡ Open
  none_placed Open e = refl
  none_placed Refuted e = absurd (omega (arith, e))
  none_placed (Rejected number reason) e = absurd (omega (arith, e))

  -- a part that a pass owes has no verdict on the top board
  pub owed_is_open : (s : HallState) → Lawful k s → (id : ℕ) (v : View) (part : ℕ) →
      get_elem? s.views id ≡ some v → part < parts_in k → v.owes ≡ Some part →
      mark_in (posts_of s.views) (parts_in k) (part_row part) ≡ Open
  owed_is_open s l id v part at_id inside owes =
      let f = l.owing part inside in let d = many_one (λ z. z.owes) s.views id part v at_id in
      let t = this_choice v.owes part owes in
      let m = at_most_one (root_by k part (mark_in (posts_of s.views) part)) in
      none_placed (mark_in (posts_of s.views) (parts_in k) (part_row part))
      (omega (arith, f, d, t, m))

  fresh : (P : List Post) (p : ℕ) → Knows k P (newcomer k p)
  fresh P p =
      record {
        same = refl;
        real = λ x a. absurd a;
        seen = λ x a. absurd a;
        idle = λ _. (refl, refl);
        holder = λ c e. absurd (not_none c e);
      }

  arrives : (s : HallState) → Lawful k s →
      Lawful k record { words = s.words; homes = s.homes; views = s.views ++ newcomer k 1 ∷ [] }
  arrives s l = let w : View = newcomer k 1 in let vs : List View = s.views ++ w ∷ [] in
      let same : posts_of vs ≡ posts_of s.views =
      posts_join s.views (w ∷ []) ∙ append-nil (posts_of s.views) in record {
        words = l.words;
        slots = l.slots;
        locks = λ c inside. let h = many_join (λ z. z.held) s.views (w ∷ []) c in
            let a = l.locks c inside in omega arith;
        alone = λ c inside. let h = many_join (λ z. z.held) s.views (w ∷ []) c in
            let a = l.alone c inside in omega arith;
        once = λ b row. subst (λ Q. times_posted Q b row ≤ 1) (sym same) (l.once b row);
        each_pass =
            subst (λ Q. (j : ℕ) (u : View) → get_elem? vs j ≡ some u → Knows k Q u) (sym same)
            (λ j u e. ⊎_elim (l.each_pass j u)
            (λ (is : w ≡ u). subst (Knows k (posts_of s.views)) is (fresh (posts_of s.views) 1))
            (at_snoc s.views w u j e));
        home =
            subst (λ Q. (c : ℕ) → c < n → get_or s.words (lock_word c) 0 ≡ 0 →
            (y : BoardData) × (get_elem? s.homes c ≡ some (some (Some y))) × IsBoard k c Q y)
            (sym same) l.home;
        opens = λ c inside. l.opens c inside ∙ (λ i. open_by k c (mark_in (sym same i) c));
        owing =
            subst (λ Q. IsOwing k Q vs) (sym same)
            (λ part inside. let h = many_join (λ z. z.owes) s.views (w ∷ []) part in
            let f = l.owing part inside in omega (arith, h, f));
      }

  pub come_keeps : (id : ℕ) (s t : HallState) → Lawful k s → Comes k id s t → Lawful k t
  come_keeps id s t l g = subst (Lawful k) (sym g.3)
      (let v : View = g.0 in let more : 1 < v.parts = g.2 in
      arrives record
      { words = s.words; homes = s.homes; views = set s.views id (with_parts (v.parts - 1) v) }
      (stands_for s l id v (v.parts - 1) g.1 (λ z. absurd (omega arith))))

  -- each step keeps a state lawful
  pub step_keeps : (s t : HallState) → Lawful k s → HallStep k s t → Lawful k t
  step_keeps s t l (takes id b g) = take_keeps id b s t l g
  step_keeps s t l (posts id b x owes g) = post_keeps id b s t x owes l g
  step_keeps s t l (gives id b g) = give_keeps id b s t l g
  step_keeps s t l (reads id b g) = read_keeps id b s t l g
  step_keeps s t l (meets id other g) = meet_keeps id other s t l g
  step_keeps s t l (comes id g) = come_keeps id s t l g

  module _ (passes : ℕ) where
    -- the start of a hall is lawful
    pub start_lawful : (s : HallState) → IsStart k passes s → Lawful k s
    start_lawful s g =
        subst (λ vs. Lawful k record { words = s.words; homes = s.homes; views = vs })
        (sym g.one_pass) record {
          words = g.words;
          slots = g.slots;
          locks = λ c inside. g.free c inside;
          alone = λ c inside. omega arith;
          once = λ b row. omega arith;
          each_pass = only;
          home = λ c inside _. g.home c inside;
          opens = λ c inside. g.total c inside;
          owing = λ part inside. let none_ : root_by k part (λ _. Open) ≡ false =
              none_is_marked 0 (tree_at k part) in let z = ap one_if none_ in omega (arith, z);
        }
      where
        only : (id : ℕ) (v : View) → get_elem? (newcomer k passes ∷ []) id ≡ some v → Knows k [] v
        only zero v e = subst (Knows k []) (some-injective _ _ e) (fresh [] passes)
        only (suc id) v e = absurd (some-ne-none v (sym e))

    pub reached_in_lawful : (m : ℕ) (s : HallState) → ReachedIn k passes m s → Lawful k s
    reached_in_lawful zero s g = start_lawful s g
    reached_in_lawful (suc m) s g = step_keeps g.0 s (reached_in_lawful m g.0 g.1) g.2

    -- each state that the hall comes to is lawful
    pub reached_lawful : (s : HallState) → Reached k passes s → Lawful k s
    reached_lawful s g = reached_in_lawful g.0 s g.1

    -- a step of a state that the hall comes to leads to another one
    pub then_step : (s t : HallState) → Reached k passes s → HallStep k s t → Reached k passes t
    then_step s t g h = (suc g.0, (s, g.1, h))

    -- the passes together stand for those that were opened
    step_whole : (s t : HallState) → HallStep k s t → parts_of t.views ≡ parts_of s.views
    step_whole s t (takes id b g) = let v : View = g.0 in
        let w : View = taking b (on b (posts_of s.views)) v in
        let h = parts_set s.views id v w g.2 in
        ap (λ (r : HallState). parts_of r.views) g.8 ∙ omega (arith, h)
    step_whole s t (posts id b x owes g) = let v : View = g.0 in let w : View = posting x owes v in
        let h = parts_set s.views id v w g.1 in
        ap (λ (r : HallState). parts_of r.views) g.6 ∙ omega (arith, h)
    step_whole s t (gives id b g) = let v : View = g.0 in
        let w : View = giving (on b (posts_of s.views)) v in let h = parts_set s.views id v w g.2 in
        ap (λ (r : HallState). parts_of r.views) g.5 ∙ omega (arith, h)
    step_whole s t (reads id b g) = let v : View = g.0 in
        let w : View = seeing (on b (posts_of s.views)) v in let h = parts_set s.views id v w g.1 in
        ap (λ (r : HallState). parts_of r.views) g.2 ∙ omega (arith, h)
    step_whole s t (meets id other g) = let v : View = g.0 in let w : View = g.1 in
        let h = parts_set s.views id v (meeting v w) g.2 in
        let h' =
        parts_set (set s.views id (meeting v w)) other w (met w)
        (set_else s.views id other (meeting v w) g.4 ∙ g.3) in
        ap (λ (r : HallState). parts_of r.views) g.8 ∙ omega (arith, h, h')
    step_whole s t (comes id g) = let v : View = g.0 in let more : 1 < v.parts = g.2 in
        let w : View = with_parts (v.parts - 1) v in let h = parts_set s.views id v w g.1 in
        let h' = parts_join (set s.views id w) (newcomer k 1 ∷ []) in
        ap (λ (r : HallState). parts_of r.views) g.3 ∙ omega (arith, h, h', more)

    reached_in_whole : (m : ℕ) (s : HallState) → ReachedIn k passes m s → parts_of s.views ≡ passes
    reached_in_whole zero s g = ap parts_of g.one_pass ∙ omega arith
    reached_in_whole (suc m) s g = step_whole g.0 s g.2 ∙ reached_in_whole m g.0 g.1

    -- where one pass stands for all, holds no board and owes nothing, no other does either
    module _ (s : HallState) (g : Reached k passes s) (id : ℕ) (v : View)
        (at_id : get_elem? s.views id ≡ some v) (whole : v.parts ≡ passes)
        (rests : (v.held ≡ None) × (v.owes ≡ None)) where
      pub all_rest : (j : ℕ) (u : View) → get_elem? s.views j ≡ some u →
          (u.held ≡ None) × (u.owes ≡ None)
      all_rest j u e = let l = reached_lawful s g in let total = reached_in_whole g.0 s g.1 in
          dite (ℕ_discrete j id)
          (λ is. let same : u
          ≡ v = some-injective u v (sym e ∙ ((λ i. get_elem? s.views (is i)) ∙ at_id)) in
          (ap (λ z. z.held) same ∙ rests.0, ap (λ z. z.owes) same ∙ rests.1))
          (λ apart. let two = parts_two s.views id j v u apart at_id e in
          (l.each_pass j u e).idle (omega (arith, two, total, whole)))

      -- then each board's lock is free
      pub all_free : (b : ℕ) → b < n → get_or s.words (lock_word b) 0 ≡ 0
      all_free b inside =
          (reached_lawful s g).locks b inside
          ∙ many_none (λ z. z.held) s.views b (λ j u e. (all_rest j u e).0)

      -- and no part's verdict is owed
      pub none_owed : (part : ℕ) → debts s.views part ≡ 0
      none_owed part = many_none (λ z. z.owes) s.views part (λ j u e. (all_rest j u e).1)
