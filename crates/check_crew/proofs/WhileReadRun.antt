-- A run over a bundle that is read once: how it begins, and what is known at its end.
use Rattle.std.proofs.Common.{◌≡◌, ◌∙◌, ap, subst, sym, ℕ, List, Option, inl, inr}
use Rattle.std.specs.Prelude.{Err, IfErr, IsErrAnd, Ok, Result}
use Rattle.board_hall.specs.Halls.{shared_of, IsNewPass}
use Rattle.board_hall.specs.Posts.{AreReal}
use Rattle.board_hall.specs.declared.pass.Pass.{Pass}
use Rattle.board_hall.specs.declared.view.View.{View}
use Rattle.case_core.specs.Case.{SectionOf}
use Rattle.case_core.specs.Labelled.{LabelledOf}
use Rattle.mark_board.specs.Boards.{BoardsOf}
use Rattle.check_crew.specs.WhileRead.{IsReadRefused, bundle_behind, read_fault}
use Rattle.check_crew.specs.Inner.WhileRead.{IsAllBut, IsFree, IsReadOn, IsReadOrNot}
use Rattle.check_crew.specs.declared.fault.CrewFault.{CrewFault}
use Rattle.check_crew.specs.declared.fault.CrewFault.TheVariants.{Memory, Thread}
use Rattle.check_crew.specs.declared.fault.ReadFault.{ReadFault}
use Rattle.check_crew.specs.declared.site.Site.{Site}
use Rattle.check_crew.specs.declared.while_read.ReadBundle.{ReadBundle}

-- a new pass owes nothing
pub new_free : {R G : Type 0} (site : Site R G) (pass : Pass)
    → IsNewPass (shared_of site.core.now) pass → IsFree site pass
new_free site pass new = record {
  own = (
    new.0,
    ap (λ (v : View). v.of) new.1,
    subst (λ (v : View). AreReal (shared_of site.core.now).of v.seen) (sym new.1)
        (λ x among. absurd among),
  );
  owes = ap (λ (v : View). v.owes) new.1;
}

-- a fault of the crew says nothing of a label line
crew_refused : (icnf : List ℕ) (given : List ℕ → Type 0) (fault : CrewFault)
    → IsReadRefused icnf given (read_fault fault)
crew_refused icnf given Memory = tt
crew_refused icnf given Thread = tt

module _ {J L : Type 0} (gives : L → List ℕ → Type 0) (failures : L → ℕ)
    (is_back : L → L → Type 0) (boards : BoardsOf) (out : List (Option SectionOf))
    (text : LabelledOf) (lent : L) (read : ReadBundle J L)
    (is : IsReadOrNot gives failures is_back boards out text lent read) (icnf : List ℕ)
    (begins : IsReadOn boards out icnf (bundle_behind icnf text (gives lent)) (gives lent) text)
  where
    abbrev given : List ℕ → Type 0
    given = bundle_behind icnf text (gives lent)

    -- a fault of a label line is the first one
    pub read_refused : (fault : ReadFault) → read.end ≡ Err fault → IsReadRefused icnf given fault
    read_refused fault end = elim is [
      | inl done ↦ (rw end at done.refused) icnf begins
      | inr none ↦
          let same : Err (read_fault none.2.0) ≡ Err fault = sym none.2.1 ∙ end in
          let e : read_fault none.2.0 ≡ fault = cc in
          subst (IsReadRefused icnf given) e (crew_refused icnf given none.2.0)
    ]

    -- what was given is read, but for proofs that others have
    pub read_but : (value : Unit {0}) → read.end ≡ Ok value
        → IsAllBut read.kept.boards read.kept.given.items icnf given
    read_but value end = elim is [
      | inl done ↦ (rw end at done.all) icnf begins
      | inr none ↦
          let same : Err (read_fault none.2.0) ≡ Ok value = sym none.2.1 ∙ end in absurd (cc)
    ]

-- a fault that is handed on is the same one
pub handed_on : {T : Type 0} (answer : Result T ReadFault) (fault : ReadFault) (icnf : List ℕ)
    (given : List ℕ → Type 0) → IsErrAnd answer (λ (one : ReadFault). one ≡ fault)
    → IsReadRefused icnf given fault → IfErr answer (λ one. IsReadRefused icnf given one)
handed_on (Ok value) fault icnf given is refused = tt
handed_on (Err one) fault icnf given is refused = subst (IsReadRefused icnf given) (sym is) refused
