-- The report on a short bundle, worked out part by part.
use Rattle.std.proofs.Common.{◌≡◌, ℕ, zero, suc, true, false, Some, None, List, [], ◌∷◌, refl, sym}
use Rattle.std.proofs.Common.{ap, subst, ◌∙◌, arith}
use Rattle.std.specs.Prelude.{codes}
use Rattle.std.specs.Fmt.{digits}
use Rattle.std.specs.List.{enumerate_from}
use Rattle.std.specs.Ordering.{nat_cmp}
use Rattle.std.specs.Cmp.{nat_cmp_total}
use Rattle.std.specs.FinMap as fin
use Rattle.case_core.specs.Literal.{Literal}
use Rattle.case_core.specs.Numbers.{digits_value, decimal, number_of}
use Rattle.case_core.specs.Tokens.{Token, is_blank, is_comment, words, line_tokens, token_lines}
use Rattle.case_core.specs.Icnf.{Item, ClauseItem, spelled, symbols_of, Within, StandsFor}
use Rattle.case_core.specs.Icnf.{after_header}
use Rattle.case_core.specs.Grammar.{Add}
use Rattle.case_core.specs.Proof.{Proof, IsProofOf}
use Rattle.case_core.proofs.ProofUnique.{one_proof, worked_out}
use Rattle.case_core.specs.Literals.{has, is_tautology, with_literals, with_literal}
use Rattle.case_core.specs.Live.{Live, start}
use Rattle.case_core.specs.Propagation.{Conflict, chain, unfalsified, effect_of}
use Rattle.case_core.specs.Addition.{resolution_fault, addition_fault, no_literals}
use Rattle.case_core.specs.Judgement.{judgement, judged_by}
use Rattle.case_core.specs.Judged.TheVariants.{Refuted as judged_refuted}
use Rattle.case_core.proofs.PropagationSteps.{chain-forces, chain-falsified}
use Rattle.case_core.proofs.JudgementSteps.{judged_from-refuted, judged_from-good, insert-empty}
use Rattle.case_core.proofs.JudgementShort.{addition_is}
use Rattle.case_core.proofs.LiveEmpty.{start-holds_empty_clause}
use Rattle.split_tree.specs.SplitTree.{missing}
use Rattle.split_tree.specs.Leaves.{IsTargetAt, IsPathOf}
use Rattle.split_tree.specs.declared.node.Leaf.TheVariants.{Cube, Missing}
use Rattle.split_tree.specs.declared.node.Target.{Target}
use Rattle.split_tree.specs.declared.node.Target.TheVariants.{Leaf, Node}
use Rattle.case_core.specs.Bundle.{Labelled, is_label, icnf_text, labels_of}
use Rattle.case_core.specs.Case.{CaseOf, SectionOf, AreSections}
use Rattle.case_core.specs.Label.{MissingName, leaf_name, label_name}
use Rattle.case_core.specs.Sections.{AreSectionsOf, IsCaseOf}
use Rattle.mark_board.specs.declared.mark.Mark.{Mark}
use Rattle.mark_board.specs.declared.mark.Mark.TheVariants.{Refuted}
use Rattle.mark_board.specs.Marking.{mark_at}
use Rattle.mark_board.specs.Findings.{mark_as, IsMarkOf, AreFindings}
use Rattle.cube_report.specs.Correct.{IsReportOn}
use Rattle.cube_report.specs.Report.{report_text, total_line, missing_line, weight_line}

abbrev bundle : List ℕ
bundle = codes "p inccnf\n1 0\n-1 0\nl m1\n3 0 1 2 0\n"

abbrev report : List ℕ
report = codes "t 0 1 1152921504606846976\nm 1 0 refuted\nw 0\ns REFUTED\n"

-- ---- the parts of the bundle

abbrev header_and_items : List ℕ
header_and_items = codes "p inccnf\n1 0\n-1 0\n"

abbrev proof_text : List ℕ
proof_text = codes "3 0 1 2 0\n"

abbrev label : Labelled
label = record { line = 4; label = codes "l" ∷ codes "m1" ∷ []; section = proof_text }

first_part : icnf_text bundle ≡ header_and_items
unfolding is_label words is_blank
first_part = refl

second_part : labels_of bundle ≡ label ∷ []
unfolding is_label words is_blank
second_part = refl

-- ---- the formula

abbrev yes : Literal
yes = record { variable = 1; positive = true }

abbrev no : Literal
no = record { variable = 1; positive = false }

abbrev clauses : List (List Literal)
clauses = (yes ∷ []) ∷ (no ∷ []) ∷ []

abbrev items : List Item
items = ClauseItem (yes ∷ []) ∷ ClauseItem (no ∷ []) ∷ []

abbrev tokens : List Token
tokens =
    record { line = 2; bytes = codes "1" } ∷ record { line = 2; bytes = codes "0" }
    ∷ record { line = 3; bytes = codes "-1" } ∷ record { line = 3; bytes = codes "0" } ∷ []

tokens_are : after_header (token_lines 1 header_and_items) ≡ Some tokens
unfolding token_lines line_tokens is_comment is_blank words
tokens_are = refl

symbols_are : symbols_of tokens ≡ spelled items
unfolding number_of decimal digits_value
symbols_are = refl

within : Within items
within = record {
  variables = ((omega arith, tt), ((omega arith, tt), tt));
  clauses = omega arith;
  clause_literals = omega arith;
  cubes = omega arith;
  cube_literals = omega arith;
  cube_lengths = tt;
}

stands : StandsFor (icnf_text bundle) items
stands = (
  tokens,
  ap (λ text. after_header (token_lines 1 text)) first_part
      ∙ tokens_are,
  (symbols_are, within),
)

-- ---- the section

abbrev section : SectionOf
section = record { target = Leaf (Missing 1); proof = proof_text }

abbrev case_of_bundle : CaseOf
case_of_bundle = record { formula = clauses; tree = missing; sections = section ∷ [] }

named : label_name label.label ≡ Some (MissingName 1)
unfolding leaf_name decimal digits_value
named = refl

apart : AreSections missing (section ∷ [])
apart zero l = ((0, (omega arith, omega arith, refl)), λ j k. absurd (omega arith))
apart (suc i) l = absurd (omega arith)

one_section : AreSectionsOf missing (label ∷ []) (section ∷ [])
one_section = record {
  labelled = (
    record {
      target = record {
        value = MissingName 1;
        is = named;
        named = (refl, (0, (omega arith, omega arith, refl)));
      };
      proof = refl;
    },
    tt,
  );
  apart = apart;
}

is_case : IsCaseOf bundle case_of_bundle
is_case = record {
  items = items;
  text = stands;
  formula = refl;
  tree = refl;
  sections =
      subst (λ (labels : List Labelled). AreSectionsOf missing labels (section ∷ []))
      (sym second_part) one_section;
}

-- ---- its judgement

abbrev proof : Proof
proof = record {
  steps = Add (record { id = 3; literals = []; hints = 1 ∷ 2 ∷ []; groups = [] }) ∷ [];
  blank = true;
}

proof_is : (other : Proof) → IsProofOf proof_text other → other ≡ proof
unfolding token_lines line_tokens is_comment is_blank words number_of decimal digits_value
proof_is other is = one_proof _ other proof is (worked_out _ proof refl)

abbrev live : Live
live = start clauses []

at_live : (q : ℕ) → fin.get live q ≡ fin.find nat_cmp q (enumerate_from 1 clauses)
at_live q = fin.get-from_entries nat_cmp_total (enumerate_from 1 clauses) q

outcome : chain live (with_literals no_literals []) (1 ∷ 2 ∷ []) ≡ Conflict
unfolding unfalsified effect_of with_literals with_literal has
outcome =
    chain-forces live _ 1 (2 ∷ []) (yes ∷ []) yes (at_live 1) refl
    ∙ chain-falsified live _ 2 [] (no ∷ []) (at_live 2) refl

good : addition_fault live (record { id = 3; literals = []; hints = 1 ∷ 2 ∷ []; groups = [] })
    ≡ None
unfolding is_tautology resolution_fault
good = addition_is live _ Conflict (at_live 3) refl outcome

judged : (other : Proof) → IsProofOf proof_text other → judgement clauses [] other ≡ judged_refuted
judged other is =
    ap (judged_by live) (proof_is other is)
    ∙ judged_from-good live (start-holds_empty_clause clauses []) 1 _ true _ good
    ∙ judged_from-refuted _ 2 [] true (insert-empty live 3 [] refl)

-- ---- its mark

abbrev marks : List Mark
marks = Refuted ∷ []

judged_on : (path : List Literal) (other : Proof) → path ≡ [] → IsProofOf proof_text other →
    Refuted ≡ mark_as (judgement clauses path other)
judged_on path other is of_text = rw is (ap mark_as (sym (judged other of_text)))

no_node_below : (n : ℕ) (target : Target) → IsTargetAt missing (suc n) target → ⊥
no_node_below n (Leaf (Cube k)) at = let l = at.0 in omega arith
no_node_below n (Leaf (Missing zero)) at = let l = at.0 in omega arith
no_node_below n (Leaf (Missing (suc zero))) at = let e = at.2 in omega arith
no_node_below n (Leaf (Missing (suc (suc j)))) at = let l = at.1 in omega arith
no_node_below n (Node inner) at = let l = at.1 in omega arith

path_is : (path : List Literal) → IsPathOf missing (Leaf (Missing 1)) path → path ≡ []
path_is path (zero, at, is) = is
path_is path (suc n, at, is) = absurd (no_node_below n (Leaf (Missing 1)) at)

mark_is : (node : ℕ) (target : Target) → IsTargetAt missing node target →
    IsMarkOf case_of_bundle target (mark_at marks node)
mark_is (suc n) target at = absurd (no_node_below n target at)
mark_is zero (Leaf (Cube k)) at = absurd (cc)
mark_is zero (Leaf (Missing zero)) at = let l = at.0 in absurd (omega arith)
mark_is zero (Leaf (Missing (suc zero))) at =
    λ path other is of_text. judged_on path other (path_is path is) of_text
mark_is zero (Leaf (Missing (suc (suc j)))) at = let l = at.1 in absurd (omega arith)
mark_is zero (Node inner) at = absurd at.2

findings : AreFindings case_of_bundle marks
findings = record { long = refl; each = mark_is }

-- ---- the text

text_is : report ≡ report_text case_of_bundle.tree marks
unfolding total_line missing_line weight_line digits
text_is = refl

-- the report of one short bundle
pub a_short_report : IsReportOn (codes "p inccnf\n1 0\n-1 0\nl m1\n3 0 1 2 0\n")
    (codes "t 0 1 1152921504606846976\nm 1 0 refuted\nw 0\ns REFUTED\n")
a_short_report = (case_of_bundle, marks, record { case_is = is_case; findings = findings }, text_is)
