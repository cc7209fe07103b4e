use Rattle.std.proofs.Common.{List, ℕ, option_map, Bor}
use Rattle.case_core.specs.Leaf.TheVariants.{Cube}
use Rattle.case_core.specs.Target.TheVariants.{Leaf as Named}
use Rattle.cube_report.specs.Faults.{IsInputFault}
use Rattle.file_store.specs.Files.{may_lie_at}
use Rattle.bundle_files.specs.Judging.{IsRefusedWithEach}
use Rattle.bundle_files.proofs.FormulaReading.{handed_on}
use Rattle.bundle_files.proofs.OneProofCube.{file_refused, no_proof, one_read, one_tree}
use Rattle.bundle_files.proofs.OneProofCube.{refused_with_each}
use Rattle.bundle_files.proofs.one_proof.begin_one.Goals as goal

pub returns-in_err-text-clause-fault : goal.returns-in_err-text-clause-fault
returns-in_err-text-clause-fault g c =
    let held = g.D.Store.held c.args.store.now in
    let formula =
    option_map {T = Bor (List ℕ)} {U = List ℕ} (λ path. path.now) c.args.formula in
    handed_on c.from_residual.result
    (λ fault. IsInputFault fault → IsRefusedWithEach held formula fault) c.in_err-text.field-0.0
    (λ of_input.
    file_refused held formula c.in_err-text.field-0.0 (c.in_err-text.ensures.fault of_input))
    c.from_residual.ensures.1

pub returns-in_err-case-clause-fault : goal.returns-in_err-case-clause-fault
returns-in_err-case-clause-fault g c =
    let held = g.D.Store.held c.args.store.now in
    let formula =
    option_map {T = Bor (List ℕ)} {U = List ℕ} (λ path. path.now) c.args.formula in
    let begun = c.in_ok-text.field-0 in
    handed_on c.from_residual-in_err-case.result
    (λ fault. IsInputFault fault → IsRefusedWithEach held formula fault) c.in_err-case.field-0.0
    (λ of_input.
    refused_with_each held formula begun.said begun.text.items c.extend_from_slice.new.self.items
    c.in_err-case.field-0.0 c.in_ok-text.ensures.read c.in_ok-extend_from_slice.ensures.items
    (rw (c.in_ok-to_vec.ensures.items_if_clones_equal (λ x y e. e), c.deref.ensures.value)
    at c.in_err-case.ensures.fault of_input))
    c.from_residual-in_err-case.ensures.1

pub returns-clause-read : goal.returns-clause-read
returns-clause-read g c =
    let begun = c.in_ok-text.field-0 in
    one_read (may_lie_at (g.D.Store.held c.args.store.now)) _ begun.said begun.text.items
    c.extend_from_slice.new.self.items c.in_ok-text.ensures.read
    c.in_ok-extend_from_slice.ensures.items
    (rw (c.in_ok-to_vec.ensures.items_if_clones_equal (λ x y e. e), c.deref.ensures.value)
    at c.in_ok-case.ensures.counted)

pub returns-clause-handed : goal.returns-clause-handed
returns-clause-handed g c =
    let begun = c.in_ok-text.field-0 in
    one_read g.D.Store.hands _ begun.said begun.text.items c.extend_from_slice.new.self.items
    c.in_ok-text.ensures.handed c.in_ok-extend_from_slice.ensures.items
    (rw (c.in_ok-to_vec.ensures.items_if_clones_equal (λ x y e. e), c.deref.ensures.value)
    at c.in_ok-case.ensures.counted)

pub returns-clause-tree : goal.returns-clause-tree
returns-clause-tree g c =
    let begun = c.in_ok-text.field-0 in
    one_tree g.D.Store.hands _ begun.said begun.text.items c.extend_from_slice.new.self.items
    c.in_ok-text.ensures.handed c.in_ok-extend_from_slice.ensures.items c.in_ok-case.case
    (rw (c.in_ok-to_vec.ensures.items_if_clones_equal (λ x y e. e), c.deref.ensures.value)
    at c.in_ok-case.ensures.case)

pub returns-clause-free : goal.returns-clause-free
returns-clause-free g c =
    let begun = c.in_ok-text.field-0 in
    no_proof g.D.Store.hands _ begun.said begun.text.items c.extend_from_slice.new.self.items
    c.in_ok-text.ensures.handed c.in_ok-extend_from_slice.ensures.items c.in_ok-case.case
    (Named (Cube 1))
    (rw (c.in_ok-to_vec.ensures.items_if_clones_equal (λ x y e. e), c.deref.ensures.value)
    at c.in_ok-case.ensures.case)
