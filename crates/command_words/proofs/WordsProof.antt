-- What one proof of the whole formula is asked for with.
use Rattle.std.proofs.Common.{◌≡◌, ◌≢◌, ◌↔◌, refl, false, Option, Some, None, IsTrue}
use Rattle.std.specs.Prelude.{IfSome}
use Rattle.clap.specs.Words.{Text}
use Rattle.command_words.specs.Words.{AreSpared, Asked, CanBeDone, GoesWith}

pub without_formula : (proof : Text) (file folder : Option Text) →
    IsTrue false ↔ GoesWith (Some proof) None file folder
without_formula proof file folder =
    (λ yes. absurd (cc), λ goes. absurd ((goes proof refl).0 refl))

pub with_file : (proof file : Text) (formula folder : Option Text) →
    IsTrue false ↔ GoesWith (Some proof) formula (Some file) folder
with_file proof file formula folder =
    (λ yes. absurd (cc), λ goes. let none = (goes proof refl).1 in absurd (cc))

pub with_folder : (proof folder : Text) (formula file : Option Text) →
    IsTrue false ↔ GoesWith (Some proof) formula file (Some folder)
with_folder proof folder formula file =
    (λ yes. absurd (cc), λ goes. let none = (goes proof refl).2 in absurd (cc))

-- what can't be written can't be done
pub clash_refused : {A : Type 0} (refusal : Option A) (asked : Asked)
    → IfSome refusal (λ _. ¬ AreSpared asked) → IfSome refusal (λ _. ¬ CanBeDone asked)
clash_refused None asked clash = tt
clash_refused (Some text) asked clash = λ can. clash can.1
