use Rattle.std.proofs.Common.{◌≡◌, ◌∙◌, ◌+◌, ℕ, ap, rules, subst, sym}
use Rattle.cnf_text.specs.Tokens.{words}
use Rattle.split_tree.specs.SplitTree.{SplitTree}
use Rattle.case_core.specs.Label.{label_name}
use Rattle.case_core.specs.Inner.Label.{NamesNone}
use Rattle.case_core.proofs.SectionsOneMeaning.{case_limited}
use Rattle.case_core.proofs.SectionsMore.{fault_named}
use Rattle.case_core.proofs.label_line.LabelLine.target.Goals as goal

pub target_of-requires : goal.target_of-requires
target_of-requires c =
    rw c.tree.ensures.tree (case_limited c.requires.0 c.args.case.now c.requires.1)

pub returns-in-Err-clause-fault : goal.returns-in-Err-clause-fault
returns-in-Err-clause-fault c = λ some done text below whole of tree at lines is.
    let number : c.in-Some.line ≡ c.args.self.now.lines + 1 = search rules in
    let names : NamesNone c.tree.result.now (label_name (words c.args.self.now.line.items))
    c.in-Err.fault = rw c.deref.ensures.value at c.in-Err.ensures.err in
    fault_named done text c.args.self.now.line.items below at is whole c.in-Err.fault
    c.in-Some.line c.on_line.result of (number ∙ ap (λ (n : ℕ). n + 1) lines)
    (subst (λ (t : SplitTree). NamesNone t (label_name (words c.args.self.now.line.items))
    c.in-Err.fault) (c.tree.ensures.tree ∙ sym tree) names) c.on_line.ensures some
