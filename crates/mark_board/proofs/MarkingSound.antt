-- What is marked refuted has no model together with the formula, after a post too.
use Rattle.std.proofs.Common.{◌≡◌, ◌≢◌, ℕ, zero, suc, ◌<◌, ◌⊎◌, List, [], ◌∷◌}
use Rattle.std.proofs.Common.{get_or, set, replicate, true, false, refl, sym, ap, ◌∙◌}
use Rattle.std.proofs.Common.{inl, inr}
use Rattle.std.proofs.lemmas.Bool.{cases_eq}
use Rattle.mark_board.specs.declared.mark.Mark.{Mark}
use Rattle.mark_board.specs.declared.mark.Mark.TheVariants.{Open, Refuted, Rejected}
use Rattle.mark_board.specs.declared.rows.Answer.{Answer}
use Rattle.mark_board.specs.declared.rows.Answer.TheVariants.{Marked, RootMarked, Already}
use Rattle.mark_board.specs.Marking.{is_refuted, mark_at}
use Rattle.mark_board.specs.Posting.{marks_after}

-- a list after a write has at its place the new item or the old one
set_either : (marks : List Mark) (i : ℕ) (x d : Mark) →
    (get_or (set marks i x) i d ≡ x) ⊎ (get_or (set marks i x) i d ≡ get_or marks i d)
set_either [] i x d = inr refl
set_either (m ∷ marks) zero x d = inl refl
set_either (m ∷ marks) (suc i) x d = set_either marks i x d

set_other : (marks : List Mark) (i j : ℕ) (x d : Mark) → j ≢ i →
    get_or (set marks i x) j d ≡ get_or marks j d
set_other [] i j x d ne = refl
set_other (m ∷ marks) zero zero x d ne = absurd (ne refl)
set_other (m ∷ marks) zero (suc j) x d ne = refl
set_other (m ∷ marks) (suc i) zero x d ne = refl
set_other (m ∷ marks) (suc i) (suc j) x d ne = set_other marks i j x d (λ e. ne (ap suc e))

pub refuted_is : (m : Mark) → is_refuted m ≡ true → m ≡ Refuted
refuted_is Open h = let k : false ≡ true = h in absurd (cc)
refuted_is Refuted h = refl
refuted_is (Rejected step reason) h = let k : false ≡ true = h in absurd (cc)

-- no row is refuted where nothing is posted
none_refuted : (count row : ℕ) → mark_at (replicate count Open) row ≡ Refuted → ⊥
none_refuted zero row m = cc
none_refuted (suc count) zero m = cc
none_refuted (suc count) (suc row) m = none_refuted count row m

-- ---- where each refuted row means something, it does so after a post that means the same

module _ (means : ℕ → Type 0) (rows : ℕ) where
  -- what holds of each refuted row
  abbrev pub OfRefuted : List Mark → Type 0
  OfRefuted marks = (row : ℕ) → row < rows → mark_at marks row ≡ Refuted → means row

  after_set : (marks : List Mark) (row : ℕ) (mark : Mark) → (mark ≡ Refuted → means row) →
      OfRefuted marks → OfRefuted (set marks row mark)
  after_set marks row mark new old i l m = elim (cases_eq i row) [
    | inr ne ↦ old i l (sym (set_other marks row i mark Open ne) ∙ m)
    | inl e ↦ rw e (elim (set_either marks row mark Open) [
      | inl now ↦ new (sym now ∙ rw e at m)
      | inr same ↦ rw e at (old i l (rw e (sym same ∙ rw e at m)))
    ])
  ]

  pub after_post : (marks : List Mark) (row : ℕ) (mark : Mark) (answer : Answer) →
      (mark ≡ Refuted → means row) → OfRefuted marks →
      OfRefuted (marks_after answer marks row mark)
  after_post marks row mark Already new old = old
  after_post marks row mark Marked new old = after_set marks row mark new old
  after_post marks row mark RootMarked new old = after_set marks row mark new old

  -- nothing is refuted at first
  pub at_first : (count : ℕ) → OfRefuted (replicate count Open)
  at_first count row l m = absurd (none_refuted count row m)
