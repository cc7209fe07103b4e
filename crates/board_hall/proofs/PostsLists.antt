-- Lists of posts, and of views.
use Rattle.std.proofs.Common.{◌≡◌, ◌≢◌, ◌⊎◌, ℕ, zero, suc, ◌+◌, ◌≤◌, Bool, true, false, List, []}
use Rattle.std.proofs.Common.{◌∷◌, ◌++◌, set, Option, Some, None, ◌==◌, ◌&&◌, refl, sym, ap, ◌∙◌}
use Rattle.std.proofs.Common.{subst, inl, inr, ⊎_elim, arith, append_assoc, eq-eqb, ne_eqb}
use mathlib.Core.Logic.{dite}
use native.Mathlib.Decide.{ℕ_discrete}
use mathlib.Core.Option.{some, some-ne-none, some-injective}
use lib.ListN.{get_elem?}
use Rattle.case_core.specs.Judged.{Judged}
use Rattle.case_core.specs.Judged.TheVariants.{Refuted as judged_refuted}
use Rattle.case_core.specs.Judged.TheVariants.{Rejected as judged_rejected}
use Rattle.mark_board.specs.declared.mark.Mark.TheVariants.{Open}
use Rattle.mark_board.specs.Findings.{mark_as}
use Rattle.board_hall.specs.declared.view.View.{View}
use Rattle.board_hall.specs.declared.view.Post.{Post}
use Rattle.board_hall.specs.Posts.{is_at, mark_by, mark_in, one_if, times_posted, Among, kept_if}
use Rattle.board_hall.specs.Posts.{on, posts_of, is_some_of, how_many}

-- whether a post is of this row
pub of_cases : (x : Post) (b row : ℕ) →
    ((x.board ≡ b) × (x.row ≡ row) × (is_at x b row ≡ true)) ⊎ (is_at x b row ≡ false)
of_cases x b row = dite (ℕ_discrete x.board b)
    (λ e. dite (ℕ_discrete x.row row)
    (λ f. inl (e, f, (λ i. eq-eqb x.board b e i && eq-eqb x.row row f i)))
    (λ f. inr (λ i. eq-eqb x.board b e i && ne_eqb x.row row f i)))
    (λ e. inr (λ i. ne_eqb x.board b e i && (x.row == row)))

-- a post stands at its own board and row
pub is_itself : (x : Post) → is_at x x.board x.row ≡ true
is_itself x = λ i. eq-eqb x.board x.board refl i && eq-eqb x.row x.row refl i

-- a judgement is a mark
pub never_open : (judged : Judged) → mark_as judged ≡ Open → ⊥
never_open judged_refuted e = cc
never_open (judged_rejected step reason) e = cc

-- whether a number is the choice
pub this_choice : (o : Option ℕ) (b : ℕ) → o ≡ Some b → is_some_of o b ≡ 1
this_choice o b e = ap (λ h. is_some_of h b) e ∙ ap one_if (eq-eqb b b refl)

-- who chose one number chose no other
pub other_choice : (o : Option ℕ) (b c : ℕ) → o ≡ Some b → c ≢ b → is_some_of o c ≡ 0
other_choice o b c e apart =
    ap (λ h. is_some_of h c) e ∙ ap one_if (ne_eqb b c (λ s. apart (sym s)))

-- who chose none didn't choose this one
pub no_choice : (o : Option ℕ) (b : ℕ) → o ≡ None → is_some_of o b ≡ 0
no_choice o b e = ap (λ h. is_some_of h b) e

-- Insertion in the middle.
pub mark_middle : (pre post : List Post) (x : Post) (b row : ℕ) →
    mark_in (pre ++ post) x.board x.row ≡ Open →
    mark_in (pre ++ x ∷ post) b row ≡ mark_in (x ∷ pre ++ post) b row
mark_middle [] post x b row none = refl
mark_middle (y ∷ pre) post x b row none = ⊎_elim
    (λ (h : (x.board ≡ b) × (x.row ≡ row) × (is_at x b row ≡ true)). ⊎_elim
    (λ (k : (y.board ≡ x.board) × (y.row ≡ x.row) × (is_at y x.board x.row ≡ true)). absurd
    (not_open y (ap (λ c. mark_by c y (mark_in (pre ++ post) x.board x.row)) (sym k.2) ∙ none)))
    (λ (k : is_at y x.board x.row ≡ false).
    let same : is_at y b row ≡ false = (λ i. is_at y (sym h.0 i) (sym h.1 i)) ∙ k in
    let ih =
    mark_middle pre post x b row
    (ap (λ c. mark_by c y (mark_in (pre ++ post) x.board x.row)) (sym k) ∙ none) in
    ap (λ c. mark_by c y (mark_in (pre ++ x ∷ post) b row)) same
    ∙ (ih
    ∙ ((λ i. mark_by (h.2 i) x (mark_in (pre ++ post) b row))
    ∙ (λ i. mark_by (sym h.2 i) x (mark_in (y ∷ pre ++ post) b row)))))
    (of_cases y x.board x.row))
    (λ (h : is_at x b row ≡ false).
    let ih : mark_in (pre ++ x ∷ post) b row ≡ mark_in (pre ++ post) b row =
    passes pre post x b row h in
    (λ i. mark_by (is_at y b row) y (ih i))
    ∙ (λ i. mark_by (sym h i) x (mark_in (y ∷ pre ++ post) b row)))
    (of_cases x b row)
  where
    not_open : (y : Post) → mark_as y.judged ≡ Open → ⊥
    not_open y e = never_open y.judged e

    passes : (pre post : List Post) (x : Post) (b row : ℕ) → is_at x b row ≡ false →
        mark_in (pre ++ x ∷ post) b row ≡ mark_in (pre ++ post) b row
    passes [] post x b row h = λ i. mark_by (h i) x (mark_in post b row)
    passes (y ∷ pre) post x b row h = λ i. mark_by (is_at y b row) y (passes pre post x b row h i)

-- a post amid others counts once more at its own row, and nowhere else
pub times_middle : (pre post : List Post) (x : Post) (b row : ℕ) →
    times_posted (pre ++ x ∷ post) b row ≡ one_if (is_at x b row) + times_posted (pre ++ post) b row
times_middle [] post x b row = refl
times_middle (y ∷ pre) post x b row = let ih = times_middle pre post x b row in omega (arith, ih)

-- what is among the posts stays so when another one comes amid them
pub among_middle : (pre post : List Post) (x y : Post) → Among y (pre ++ post) →
    Among y (pre ++ x ∷ post)
among_middle [] post x y a = inr a
among_middle (z ∷ pre) post x y a = ⊎_elim (λ e. inl e) (λ r. inr (among_middle pre post x y r)) a

-- what is among the first posts is among the joined ones
pub among_left : (xs ys : List Post) (x : Post) → Among x xs → Among x (xs ++ ys)
among_left [] ys x a = absurd a
among_left (z ∷ xs) ys x a = ⊎_elim (λ e. inl e) (λ r. inr (among_left xs ys x r)) a

-- and so is what is among the second
pub among_right : (xs ys : List Post) (x : Post) → Among x ys → Among x (xs ++ ys)
among_right [] ys x a = a
among_right (z ∷ xs) ys x a = inr (among_right xs ys x a)

-- what is among the joined posts is among the first or among the second
pub among_either : (xs ys : List Post) (x : Post) → Among x (xs ++ ys) → Among x xs ⊎ Among x ys
among_either [] ys x a = inr a
among_either (z ∷ xs) ys x a =
    ⊎_elim (λ e. inl (inl e))
    (λ r. ⊎_elim (λ l. inl (inr l)) (λ r'. inr r') (among_either xs ys x r)) a

-- a row with no mark was not posted
pub none_times : (xs : List Post) (b row : ℕ) → mark_in xs b row ≡ Open → times_posted xs b row ≡ 0
none_times [] b row e = refl
none_times (y ∷ xs) b row e = ⊎_elim
    (λ (k : (y.board ≡ b) × (y.row ≡ row) × (is_at y b row ≡ true)). absurd
    (never_open y.judged (ap (λ c. mark_by c y (mark_in xs b row)) (sym k.2) ∙ e)))
    (λ (k : is_at y b row ≡ false).
    let ih = none_times xs b row (ap (λ c. mark_by c y (mark_in xs b row)) (sym k) ∙ e) in
    let h : one_if (is_at y b row) ≡ 0 = ap one_if k in omega (arith, ih, h))
    (of_cases y b row)

kept_among : (c : Bool) (x y : Post) (ys xs : List Post) → (Among x ys → Among x xs) →
    Among x (kept_if c y ys) → Among x (y ∷ xs)
kept_among true x y ys xs back a = ⊎_elim (λ e. inl e) (λ r. inr (back r)) a
kept_among false x y ys xs back a = inr (back a)

-- the posts on one board
pub among_on : (b : ℕ) (xs : List Post) (x : Post) → Among x (on b xs) → Among x xs
among_on b [] x a = absurd a
among_on b (y ∷ xs) x a = kept_among (y.board == b) x y (on b xs) xs (λ r. among_on b xs x r) a

-- a post of this board is among those on the board
pub on_among : (b : ℕ) (xs : List Post) (x : Post) → x.board ≡ b → Among x xs → Among x (on b xs)
on_among b [] x e a = absurd a
on_among b (y ∷ xs) x e a = ⊎_elim
    (λ (same : x ≡ y).
    subst (λ c. Among x (kept_if c y (on b xs)))
    (sym (eq-eqb y.board b (ap (λ z. z.board) (sym same) ∙ e))) (inl same))
    (λ r. go (y.board == b) (on_among b xs x e r))
    a
  where
    go : (c : Bool) → Among x (on b xs) → Among x (kept_if c y (on b xs))
    go true a = inr a
    go false a = a

-- the posts on a board alone say its rows' marks
pub mark_on : (b : ℕ) (xs : List Post) (row : ℕ) → mark_in (on b xs) b row ≡ mark_in xs b row
mark_on b [] row = refl
mark_on b (y ∷ xs) row = dite (ℕ_discrete y.board b)
    (λ e. ap (λ c. mark_in (kept_if c y (on b xs)) b row) (eq-eqb y.board b e)
    ∙ (λ i. mark_by (is_at y b row) y (mark_on b xs row i)))
    (λ n. ap (λ c. mark_in (kept_if c y (on b xs)) b row) (ne_eqb y.board b n)
    ∙ (mark_on b xs row
    ∙ ap (λ c. mark_by (c && (y.row == row)) y (mark_in xs b row)) (sym (ne_eqb y.board b n))))

-- Posts of all passes.
pub posts_same : (vs : List View) (id : ℕ) (v w : View) → get_elem? vs id ≡ some v →
    w.posts ≡ v.posts → posts_of (set vs id w) ≡ posts_of vs
posts_same [] id v w e same = absurd (some-ne-none v (sym e))
posts_same (u ∷ vs) zero v w e same =
    ap (λ l. l ++ posts_of vs) (same ∙ ap (λ z. z.posts) (sym (some-injective u v e)))
posts_same (u ∷ vs) (suc id) v w e same = ap (λ l. u.posts ++ l) (posts_same vs id v w e same)

-- one more post of one pass stands in the middle
pub posts_push : (vs : List View) (id : ℕ) (v w : View) (x : Post) → get_elem? vs id ≡ some v →
    w.posts ≡ v.posts ++ x ∷ []
    →
    (pre post : List Post) × (posts_of vs ≡ pre ++ post)
    × (posts_of (set vs id w) ≡ pre ++ x ∷ post)
posts_push [] id v w x e more = absurd (some-ne-none v (sym e))
posts_push (u ∷ vs) zero v w x e more = (
  v.posts,
  posts_of vs,
  ap (λ z. z.posts ++ posts_of vs) (some-injective u v e),
  ap (λ l. l ++ posts_of vs) more ∙ append_assoc v.posts (x ∷ []) (posts_of vs),
)
posts_push (u ∷ vs) (suc id) v w x e more = let ih = posts_push vs id v w x e more in (
  u.posts ++ ih.0,
  ih.1,
  ap (λ l. u.posts ++ l) ih.2
      ∙ sym (append_assoc u.posts ih.0 ih.1),
  ap (λ l. u.posts ++ l) ih.3 ∙ sym (append_assoc u.posts ih.0 (x ∷ ih.1)),
)

-- the posts of two groups of passes are those of the first, and then of the second
pub posts_join : (vs ws : List View) → posts_of (vs ++ ws) ≡ posts_of vs ++ posts_of ws
posts_join [] ws = refl
posts_join (u ∷ vs) ws =
    ap (λ l. u.posts ++ l) (posts_join vs ws)
    ∙ sym (append_assoc u.posts (posts_of vs) (posts_of ws))

-- a pass's post is among the posts of all passes
pub among_posts : (vs : List View) (id : ℕ) (v : View) (x : Post) → get_elem? vs id ≡ some v →
    Among x v.posts → Among x (posts_of vs)
among_posts [] id v x e a = absurd (some-ne-none v (sym e))
among_posts (u ∷ vs) zero v x e a =
    among_left u.posts (posts_of vs) x (subst (λ z. Among x z.posts) (sym (some-injective u v e)) a)
among_posts (u ∷ vs) (suc id) v x e a =
    among_right u.posts (posts_of vs) x (among_posts vs id v x e a)

-- each post of all passes is one pass's own
pub whose : (vs : List View) (x : Post) → Among x (posts_of vs) →
    (id : ℕ) × (v : View) × (get_elem? vs id ≡ some v) × Among x v.posts
whose [] x a = absurd a
whose (u ∷ vs) x a =
    ⊎_elim (λ l. (0, u, refl, l)) (λ r. let ih = whose vs x r in (suc ih.0, ih.1, ih.2, ih.3))
    (among_either u.posts (posts_of vs) x a)

-- Of how many views something is the choice.
module _ (f : View → Option ℕ) where
  -- when one pass changes, its choice counts no longer, and its new one does
  pub many_set : (vs : List View) (id b : ℕ) (v w : View) → get_elem? vs id ≡ some v →
      how_many f (set vs id w) b + is_some_of (f v) b ≡ how_many f vs b + is_some_of (f w) b
  many_set [] id b v w e = absurd (some-ne-none v (sym e))
  many_set (u ∷ vs) zero b v w e =
      let h : is_some_of (f u) b ≡ is_some_of (f v) b =
      ap (λ z. is_some_of (f z) b) (some-injective u v e) in omega (arith, h)
  many_set (u ∷ vs) (suc id) b v w e = let ih = many_set vs id b v w e in omega (arith, ih)

  -- a choice counts among two groups of passes as in the first and in the second together
  pub many_join : (vs ws : List View) (b : ℕ) →
      how_many f (vs ++ ws) b ≡ how_many f vs b + how_many f ws b
  many_join [] ws b = omega arith
  many_join (u ∷ vs) ws b = let ih = many_join vs ws b in omega (arith, ih)

  -- the choice of one pass is counted among all
  pub many_one : (vs : List View) (id b : ℕ) (v : View) → get_elem? vs id ≡ some v →
      is_some_of (f v) b ≤ how_many f vs b
  many_one [] id b v e = absurd (some-ne-none v (sym e))
  many_one (u ∷ vs) zero b v e =
      let h : is_some_of (f u) b ≡ is_some_of (f v) b =
      ap (λ z. is_some_of (f z) b) (some-injective u v e) in omega (arith, h)
  many_one (u ∷ vs) (suc id) b v e = let ih = many_one vs id b v e in omega (arith, ih)

  -- and those of two passes are counted both
  pub many_two : (vs : List View) (id j b : ℕ) (v u : View) → j ≢ id → get_elem? vs id ≡ some v →
      get_elem? vs j ≡ some u → is_some_of (f v) b + is_some_of (f u) b ≤ how_many f vs b
  many_two [] id j b v u apart e g = absurd (some-ne-none v (sym e))
  many_two (y ∷ vs) zero zero b v u apart e g = absurd (apart refl)
  many_two (y ∷ vs) zero (suc j) b v u apart e g =
      let h : is_some_of (f y) b ≡ is_some_of (f v) b =
      ap (λ z. is_some_of (f z) b) (some-injective y v e) in let r = many_one vs j b u g in
      omega (arith, h, r)
  many_two (y ∷ vs) (suc id) zero b v u apart e g =
      let h : is_some_of (f y) b ≡ is_some_of (f u) b =
      ap (λ z. is_some_of (f z) b) (some-injective y u g) in let r = many_one vs id b v e in
      omega (arith, h, r)
  many_two (y ∷ vs) (suc id) (suc j) b v u apart e g =
      let ih = many_two vs id j b v u (λ s. apart (ap suc s)) e g in omega (arith, ih)

  -- where none has a choice
  pub many_none : (vs : List View) (b : ℕ) →
      ((j : ℕ) (u : View) → get_elem? vs j ≡ some u → f u ≡ None) → how_many f vs b ≡ 0
  many_none [] b none_ = refl
  many_none (u ∷ vs) b none_ =
      let h : is_some_of (f u) b ≡ 0 = no_choice (f u) b (none_ 0 u refl) in
      let ih = many_none vs b (λ j w e. none_ (suc j) w e) in omega (arith, h, ih)

-- Posts of which no two are at one row.
among_times : (xs : List Post) (x : Post) → Among x xs → 1 ≤ times_posted xs x.board x.row
among_times [] x a = absurd a
among_times (y ∷ xs) x a = ⊎_elim
    (λ (same : x ≡ y). let h : one_if (is_at y x.board x.row)
    ≡ 1 = ap one_if ((λ i. is_at (sym same i) x.board x.row) ∙ is_itself x) in omega (arith, h))
    (λ r. let ih = among_times xs x r in omega (arith, ih))
    a

-- a post marks its row
pub mark_among : (xs : List Post) → ((b row : ℕ) → times_posted xs b row ≤ 1) → (x : Post) →
    Among x xs → mark_in xs x.board x.row ≡ mark_as x.judged
mark_among [] once x a = absurd a
mark_among (y ∷ xs) once x a = ⊎_elim
    (λ (same : x ≡ y).
    (λ i. mark_by (((λ j. is_at (sym same j) x.board x.row) ∙ is_itself x) i) y
    (mark_in xs x.board x.row)) ∙ (λ i. mark_as (sym same i).judged))
    (λ r. ⊎_elim
    (λ (h : (y.board ≡ x.board) × (y.row ≡ x.row) × (is_at y x.board x.row ≡ true)).
    let two = once x.board x.row in let one : one_if (is_at y x.board x.row) ≡ 1 = ap one_if h.2 in
    let some_ = among_times xs x r in absurd (omega (arith, two, one, some_)))
    (λ (h : is_at y x.board x.row ≡ false). (λ i. mark_by (h i) y (mark_in xs x.board x.row))
    ∙ mark_among xs (λ b row. let t = once b row in omega (arith, t)) x r)
    (of_cases y x.board x.row))
    a

-- what was seen adds nothing to all posts
pub seen_marks : (P Q seen : List Post) (b : ℕ) → ((c row : ℕ) → times_posted P c row ≤ 1) →
    ((y : Post) → Among y seen → Among y P)
    → ((row : ℕ) → mark_in Q b row ≡ mark_in P b row) → (row : ℕ) →
    mark_in (seen ++ Q) b row ≡ mark_in P b row
seen_marks P Q [] b once within same row = same row
seen_marks P Q (y ∷ seen) b once within same row = ⊎_elim
    (λ (h : (y.board ≡ b) × (y.row ≡ row) × (is_at y b row ≡ true)).
    let m = mark_among P once y (within y (inl refl)) in
    (λ i. mark_by (h.2 i) y (mark_in (seen ++ Q) b row))
    ∙ (sym m ∙ (λ i. mark_in P (h.0 i) (h.1 i))))
    (λ (h : is_at y b row ≡ false). (λ i. mark_by (h i) y (mark_in (seen ++ Q) b row))
    ∙ seen_marks P Q seen b once (λ z k. within z (inr k)) same row)
    (of_cases y b row)

-- what has a mark was posted
pub marked_among : (xs : List Post) (b row : ℕ) → mark_in xs b row ≢ Open →
    (x : Post) × Among x xs × (x.board ≡ b) × (x.row ≡ row) × (mark_in xs b row ≡ mark_as x.judged)
marked_among [] b row some_ = absurd (some_ refl)
marked_among (y ∷ xs) b row some_ = ⊎_elim
    (λ (h : (y.board ≡ b) × (y.row ≡ row) × (is_at y b row ≡ true)).
    (y, inl refl, h.0, h.1, (λ i. mark_by (h.2 i) y (mark_in xs b row))))
    (λ (h : is_at y b row ≡ false). let same : mark_in (y ∷ xs) b row
    ≡ mark_in xs b row = (λ i. mark_by (h i) y (mark_in xs b row)) in
    let r = marked_among xs b row (λ e. some_ (same ∙ e)) in (r.0, inr r.1, r.2, r.3, same ∙ r.4))
    (of_cases y b row)

-- for how many of the opened passes these stand
abbrev pub parts_of : List View → ℕ
parts_of [] = 0
parts_of (v ∷ vs) = v.parts + parts_of vs

-- Parts.
pub parts_set : (vs : List View) (id : ℕ) (v w : View) → get_elem? vs id ≡ some v →
    parts_of (set vs id w) + v.parts ≡ parts_of vs + w.parts
parts_set [] id v w e = absurd (some-ne-none v (sym e))
parts_set (u ∷ vs) zero v w e =
    let h : u.parts ≡ v.parts = ap (λ z. z.parts) (some-injective u v e) in omega (arith, h)
parts_set (u ∷ vs) (suc id) v w e = let ih = parts_set vs id v w e in omega (arith, ih)

-- two groups of passes stand for as many as the first and the second together
pub parts_join : (vs ws : List View) → parts_of (vs ++ ws) ≡ parts_of vs + parts_of ws
parts_join [] ws = omega arith
parts_join (u ∷ vs) ws = let ih = parts_join vs ws in omega (arith, ih)

pub parts_one : (vs : List View) (id : ℕ) (v : View) → get_elem? vs id ≡ some v →
    v.parts ≤ parts_of vs
parts_one [] id v e = absurd (some-ne-none v (sym e))
parts_one (u ∷ vs) zero v e =
    let h : u.parts ≡ v.parts = ap (λ z. z.parts) (some-injective u v e) in omega (arith, h)
parts_one (u ∷ vs) (suc id) v e = let ih = parts_one vs id v e in omega (arith, ih)

-- two passes stand for no more than all do
pub parts_two : (vs : List View) (id j : ℕ) (v u : View) → j ≢ id → get_elem? vs id ≡ some v →
    get_elem? vs j ≡ some u → v.parts + u.parts ≤ parts_of vs
parts_two [] id j v u apart e f = absurd (some-ne-none v (sym e))
parts_two (y ∷ vs) zero zero v u apart e f = absurd (apart refl)
parts_two (y ∷ vs) zero (suc j) v u apart e f =
    let h : y.parts ≡ v.parts = ap (λ z. z.parts) (some-injective y v e) in
    let r = parts_one vs j u f in omega (arith, h, r)
parts_two (y ∷ vs) (suc id) zero v u apart e f =
    let h : y.parts ≡ u.parts = ap (λ z. z.parts) (some-injective y u f) in
    let r = parts_one vs id v e in omega (arith, h, r)
parts_two (y ∷ vs) (suc id) (suc j) v u apart e f =
    let ih = parts_two vs id j v u (λ s. apart (ap suc s)) e f in omega (arith, ih)
