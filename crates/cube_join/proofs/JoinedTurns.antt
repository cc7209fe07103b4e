-- Marks that are joined node by node.
use Rattle.std.proofs.Common.{◌≡◌, ℕ, ◌+◌, ◌<◌, ◌≤◌, List, length, set, refl, sym, ap, ◌∙◌, arith}
use Rattle.std.proofs.Common.{inl, inr, get_or-set_other, get_or-set_same, length-set}
use Rattle.std.proofs.lemmas.Bool.{cases_eq}
use Rattle.std.proofs.lemmas.List.{ext_get_or}
use Rattle.mark_board.specs.declared.mark.Mark.{Mark}
use Rattle.mark_board.specs.declared.mark.Mark.TheVariants.{Open}
use Rattle.mark_board.specs.Marking.{mark_at}
use Rattle.cube_join.specs.Joined.{joined, joined_mark}
use Rattle.cube_join.proofs.JoinedMarks.{mark_joined, long_joined}

-- the first nodes, so many, have the joined marks, and the others those of before
pub record IsJoinedTo (old told : List Mark) (count : ℕ) (now : List Mark) : Type 0 where
  pub long : length now ≡ length old
  pub before : (k : ℕ) → k < count → mark_at now k ≡ mark_at (joined old told) k
  pub after : (k : ℕ) → count ≤ k → mark_at now k ≡ mark_at old k

pub join_more : (old told : List Mark) (count : ℕ) (now next : List Mark) (mark : Mark) →
    IsJoinedTo old told count now → count < length old →
    mark ≡ joined_mark (mark_at now count) (mark_at told count) → next ≡ set now count mark →
    IsJoinedTo old told (count + 1) next
join_more old told count now next mark h l m e = record {
  long = ap length e ∙ (length-set now count mark ∙ h.long);
  before = λ k few. ap (λ (xs : List Mark). mark_at xs k) e ∙ elim (cases_eq k count) [
    | inl same ↦
        ap (mark_at (set now count mark)) same
        ∙ (get_or-set_same now count mark Open (omega (arith, l, h.long))
        ∙ (m ∙ (ap (λ (x : Mark). joined_mark x (mark_at told count)) (h.after count (omega arith))
        ∙ (sym (mark_joined old told count) ∙ ap (mark_at (joined old told)) (sym same)))))
    | inr other ↦
        get_or-set_other now count k mark Open other ∙ h.before k (omega (arith, few, other))
  ];
  after = λ k many. let other : k ≡ count → ⊥ = λ same. omega (arith, many, same) in
      ap (λ (xs : List Mark). mark_at xs k) e
      ∙ (get_or-set_other now count k mark Open other ∙ h.after k (omega (arith, many)));
}

pub join_end : (old told : List Mark) (count : ℕ) (now : List Mark) → IsJoinedTo old told count now
    →
    length told ≡ length old → length told ≤ count → now ≡ joined old told
join_end old told count now h same all =
    ext_get_or Open now (joined old told)
    (h.long ∙ sym (long_joined old told (length old) refl same))
    (λ i l. h.before i (omega (arith, l, all, same, h.long)))
