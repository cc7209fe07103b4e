-- How two ways to part one list, each at an item, lie to each other.
use Rattle.std.proofs.Common.{◌≡◌, List, [], ◌∷◌, ◌++◌, refl, sym, ap}

-- where two lists with a marked item between their parts are one list
pub data Places {A : Type 0} (before others : List A) (item other : A) : Type 0 where
  Same : before ≡ others → item ≡ other → Places before others item other
  Earlier : (mid : List A) → others ≡ before ++ item ∷ mid → Places before others item other
  Later : (mid : List A) → before ≡ others ++ other ∷ mid → Places before others item other

module _ {A : Type 0} where
  push_place : (x y : A) (before others : List A) (item other : A) → x ≡ y →
      Places before others item other → Places (x ∷ before) (y ∷ others) item other
  push_place x y before others item other e (Same p q) = Same (cc) q
  push_place x y before others item other e (Earlier mid p) = Earlier mid (cc)
  push_place x y before others item other e (Later mid p) = Later mid (cc)

  first_item : (x y : A) (a b : List A) → x ∷ a ≡ y ∷ b → x ≡ y
  first_item x y a b e = cc

  other_items : (x y : A) (a b : List A) → x ∷ a ≡ y ∷ b → a ≡ b
  other_items x y a b e = cc

  -- one list that is parted in two ways: at the same place, or one of them earlier
  pub places : (before others : List A) (item other : A) (after rest : List A) →
      before ++ item ∷ after ≡ others ++ other ∷ rest → Places before others item other
  places [] [] item other after rest e = Same refl (first_item item other after rest e)
  places [] (y ∷ ys) item other after rest e =
      Earlier ys (ap (λ t. t ∷ ys) (sym (first_item item y after (ys ++ other ∷ rest) e)))
  places (x ∷ xs) [] item other after rest e =
      Later xs (ap (λ t. t ∷ xs) (first_item x other (xs ++ item ∷ after) rest e))
  places (x ∷ xs) (y ∷ ys) item other after rest e =
      push_place x y xs ys item other (first_item x y (xs ++ item ∷ after) (ys ++ other ∷ rest) e)
      (places xs ys item other after rest
      (other_items x y (xs ++ item ∷ after) (ys ++ other ∷ rest) e))
