-- Laws of iCNF texts.
use Rattle.std.specs.Prelude.{◌≡◌, ◌≢◌, ◌⊎◌, ℕ, List}
use Rattle.cnf_text.specs.Icnf.{Item, StandsFor, IsTextFault}
use Rattle.cnf_text.specs.declared.icnf.TextFault.{TextFault}
use Rattle.cnf_text.specs.declared.icnf.TextFault.TheVariants.{Memory}

-- each text stands for items or has a fault, which is never want of memory
abbrev pub ItemsOrAFault : Type 0
ItemsOrAFault = (text : List ℕ) →
    ((items : List Item) × StandsFor text items)
    ⊎ ((fault : TextFault) × (fault ≢ Memory) × IsTextFault text fault)

-- a text has one fault at most
abbrev pub OneTextFault : Type 0
OneTextFault = (text : List ℕ) (first second : TextFault) →
    IsTextFault text first → IsTextFault text second → first ≡ second

-- it stands for one list of items at most
abbrev pub OneListOfItems : Type 0
OneListOfItems = (text : List ℕ) (first second : List Item) →
    StandsFor text first → StandsFor text second → first ≡ second

-- where it stands for items, it has no fault
abbrev pub NoFaultBesideItems : Type 0
NoFaultBesideItems = (text : List ℕ) (items : List Item) (fault : TextFault) →
    StandsFor text items → IsTextFault text fault → ⊥
