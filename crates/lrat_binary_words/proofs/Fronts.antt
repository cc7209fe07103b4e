-- The front of an addition.
use Rattle.std.proofs.Common.{◌≡◌, ℕ, ◌≤◌, List, [], ◌∷◌, map, refl, sym, ap, ◌∙◌}
use Rattle.lrat_text.specs.Grammar.{StepSymbol, positive}
use Rattle.lrat_text.specs.StepWords.{IsFront}
use Rattle.lrat_text.specs.declared.words.Front.TheVariants as fronts
use Rattle.lrat_text.proofs.GrammarDecoding.{nil_cons, no_step_alone}
use Rattle.lrat_text.proofs.OpenMore.{front_alone}
use Rattle.lrat_binary.specs.Binary.{capped, numbers_of}
use Rattle.lrat_binary_words.specs.Symbols.{symbols_at}
use Rattle.lrat_binary_words.specs.Words.{symbols_with_ends}

-- a number with nothing behind it
pub unfinished : (n ends : ℕ) (inside bytes : List ℕ) (left : ℕ → List StepSymbol) →
    map capped (numbers_of inside) ≡ [] → inside ≡ bytes → n ≤ 4611686018427387904 →
    IsFront fronts.Unfinished (positive n ∷ symbols_with_ends ends bytes) left
unfinished n ends inside bytes left none is bound =
    let nothing : symbols_with_ends ends bytes ≡ [] =
    ap (symbols_with_ends ends) (sym is) ∙ ap (symbols_at ends) none in (
      λ e. nil_cons _ _ (sym e),
      rw nothing (no_step_alone (positive n)),
      rw nothing (front_alone (positive n) [] n bound refl refl),
    )
