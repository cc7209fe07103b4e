-- Joined marks refute what one of the two refutes.
use Rattle.std.proofs.Common.{◌≡◌, ◌⊎◌, ℕ, zero, suc, ◌+◌, List, [], ◌∷◌, length}
use Rattle.std.proofs.Common.{Bool, true, false, ◌||◌, refl, sym, ap, ◌∙◌, arith, inl, inr}
use Rattle.case_core.specs.Literal.{Literal}
use Rattle.split_tree.specs.SplitTree.{SplitTree}
use Rattle.mark_board.specs.declared.mark.Mark.{Mark}
use Rattle.mark_board.specs.declared.mark.Mark.TheVariants.{Open, Refuted, Rejected}
use Rattle.mark_board.specs.Marking.{is_refuted, mark_at, refuted_by, AreRefuted}
use Rattle.cube_join.specs.Joined.{joined_mark, joined}

pub open_last : (m : Mark) → joined_mark m Open ≡ m
open_last Open = refl
open_last Refuted = refl
open_last (Rejected step reason) = refl

-- each node has the joined mark
pub mark_joined : (a b : List Mark) (i : ℕ) → mark_at (joined a b) i ≡ joined_mark (mark_at a i)
    (mark_at b i)
mark_joined [] b i = refl
mark_joined (m ∷ a) [] i = sym (open_last (mark_at (m ∷ a) i))
mark_joined (m ∷ a) (n ∷ b) zero = refl
mark_joined (m ∷ a) (n ∷ b) (suc i) = mark_joined a b i

either_refuted : (m n : Mark) → is_refuted (joined_mark m n) ≡ (is_refuted m || is_refuted n)
either_refuted Open n = refl
either_refuted Refuted n = refl
either_refuted (Rejected step reason) Open = refl
either_refuted (Rejected step reason) Refuted = refl
either_refuted (Rejected step reason) (Rejected other why) = refl

-- a node is refuted by joined marks exactly where it is by one of them
pub refuted_joined : (a b : List Mark) (i : ℕ) →
    refuted_by (joined a b) i ≡ (refuted_by a i || refuted_by b i)
refuted_joined a b i =
    ap is_refuted (mark_joined a b i) ∙ either_refuted (mark_at a i) (mark_at b i)

or_one : (b c : Bool) → (b || c) ≡ true → (b ≡ true) ⊎ (c ≡ true)
or_one true c h = inl refl
or_one false c h = inr h

-- so what is true of both lists is true of the joined one
pub joined_refuted : (formula : List (List Literal)) (a b : List Mark) (tree : SplitTree) →
    AreRefuted formula (refuted_by a) [] 0 tree → AreRefuted formula (refuted_by b) [] 0 tree →
    AreRefuted formula (refuted_by (joined a b)) [] 0 tree
joined_refuted formula a b tree h k r l is =
    elim (or_one (refuted_by a (0 + r)) (refuted_by b (0 + r))
    (sym (refuted_joined a b (0 + r)) ∙ is)) [
      | inl first ↦ h r l first
      | inr second ↦ k r l second
    ]

pub long_joined : (a b : List Mark) (n : ℕ) → length a ≡ n → length b ≡ n → length (joined a b) ≡ n
long_joined [] b n h k = k
long_joined (m ∷ a) [] n h k = h
long_joined (m ∷ a) (o ∷ b) zero h k = absurd (omega (arith, h))
long_joined (m ∷ a) (o ∷ b) (suc n) h k =
    ap suc (long_joined a b n (omega (arith, h)) (omega (arith, k)))
