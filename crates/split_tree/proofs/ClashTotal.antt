-- All cubes of a list fit, or there is a clash: each cube in turn is held against those before it.
use Rattle.std.proofs.Common.{◌≡◌, ◌≢◌, ◌⊎◌, inl, inr, ⊎_elim, ℕ, zero, suc, ◌+◌, ◌<◌, ◌≤◌, List}
use Rattle.std.proofs.Common.{length, refl, sym, subst, arith}
use Rattle.std.proofs.lemmas.Bool.{cases_eq}
use Rattle.cnf_text.specs.Literal.{Literal}
use Rattle.split_tree.specs.declared.clash.Relation.{Relation}
use Rattle.split_tree.specs.declared.clash.Relation.TheVariants.{Fit, Equal, Prefix, Unrelated}
use Rattle.split_tree.specs.declared.clash.TreeFault.{TreeFault}
use Rattle.split_tree.specs.declared.clash.TreeFault.TheVariants.{Repeats, NotATree, Overlap}
use Rattle.split_tree.specs.declared.clash.TreeFault.TheVariants.{Memory}
use Rattle.split_tree.specs.Clash.{relation_of, cube_at, AllFit, IsClash, IsClashFault}

fit_or_not : (kind : Relation) → (kind ≡ Fit) ⊎ (kind ≢ Fit)
fit_or_not Fit = inl refl
fit_or_not Equal = inr (λ e. cc)
fit_or_not Prefix = inr (λ e. cc)
fit_or_not Unrelated = inr (λ e. cc)

module _ (cubes : List (List Literal)) where
  abbrev between : ℕ → ℕ → Relation
  between i j = relation_of (cube_at cubes i) (cube_at cubes j)

  -- the first of the cubes before a place with which the cube at a number clashes
  record FirstBefore (n m : ℕ) : Type 0 where
    first : ℕ
    before : first < m
    clashes : between first n ≢ Fit
    least : (i : ℕ) → i < first → between i n ≡ Fit

  one_more : (n m : ℕ) → ((i : ℕ) → i < m → between i n ≡ Fit) →
      (between m n ≡ Fit) ⊎ (between m n ≢ Fit) →
      ((i : ℕ) → i < suc m → between i n ≡ Fit) ⊎ FirstBefore n (suc m)
  one_more n m all (inl fits) =
      inl (λ i l. ⊎_elim (λ same. subst (λ k. between k n ≡ Fit) (sym same) fits)
      (λ other. all i (omega arith)) (cases_eq i m))
  one_more n m all (inr clashes) =
      inr (record { first = m; before = omega arith; clashes = clashes; least = all })

  later : (n m : ℕ) → FirstBefore n m → FirstBefore n (suc m)
  later n m f =
      let l = f.before in
      record { first = f.first; before = omega arith; clashes = f.clashes; least = f.least }

  first_before : (n m : ℕ) → ((i : ℕ) → i < m → between i n ≡ Fit) ⊎ FirstBefore n m
  first_before n zero = inl (λ i l. absurd (omega arith))
  first_before n (suc m) =
      ⊎_elim (λ all. one_more n m all (fit_or_not (between m n))) (λ f. inr (later n m f))
      (first_before n m)

  abbrev AllBelow : ℕ → Type 0
  AllBelow n = (i j : ℕ) → i < j → j < n → between i j ≡ Fit

  abbrev HasFault : Type 0
  HasFault = (fault : TreeFault) × (fault ≢ Memory) × IsClashFault cubes fault

  named : (i j : ℕ) (kind : Relation) → kind ≢ Fit → IsClash cubes i j kind → HasFault
  named i j Fit other c = absurd (other refl)
  named i j Equal other c = (Repeats (j + 1), (λ e. cc), (j, i, refl, c))
  named i j Prefix other c = (Overlap (i + 1) (j + 1), (λ e. cc), (i, j, refl, refl, c))
  named i j Unrelated other c = (NotATree (i + 1) (j + 1), (λ e. cc), (i, j, refl, refl, c))

  clash_at : (n : ℕ) → n < length cubes → AllBelow n → FirstBefore n n → HasFault
  clash_at n within all f = named f.first n (between f.first n) f.clashes (record {
    ordered = f.before;
    within = within;
    is_kind = refl;
    clashes = f.clashes;
    least_second = all;
    least_first = f.least;
  })

  with_next : (n : ℕ) → AllBelow n → ((i : ℕ) → i < n → between i n ≡ Fit) → AllBelow (suc n)
  with_next n all row i j l m =
      ⊎_elim (λ same. subst (λ k. between i k ≡ Fit) (sym same) (row i (omega arith)))
      (λ other. all i j l (omega arith)) (cases_eq j n)

  below : (n : ℕ) → n ≤ length cubes → AllBelow n ⊎ HasFault
  below zero h = inl (λ i j l m. absurd (omega arith))
  below (suc n) h =
      ⊎_elim (λ all.
      ⊎_elim (λ row. inl (with_next n all row)) (λ f. inr (clash_at n (omega arith) all f))
      (first_before n n)) inr (below n (omega arith))

  -- all cubes of a list fit, or it has a clash
  pub all_fit_or_a_clash : AllFit cubes ⊎ HasFault
  all_fit_or_a_clash =
      ⊎_elim (λ all. inl (record { fit = all })) inr (below (length cubes) (omega arith))
