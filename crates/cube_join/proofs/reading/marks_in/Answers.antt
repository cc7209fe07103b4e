use Rattle.std.proofs.Common.{ℕ, ◌∙◌, ap, replicate}
use Rattle.mark_board.specs.declared.mark.Mark.TheVariants.{Open}
use Rattle.cube_join.proofs.ReadingAll.{line_read, cubes_told, missing_told, all_told}
use Rattle.cube_join.proofs.reading.marks_in.Goals as goal

pub returns-in_default-clause-complete : goal.returns-in_default-clause-complete
returns-in_default-clause-complete c = λ legible marks small told.
    line_read c.args.tree.now c.args.report.now marks (λ rest. ⊥) told c.in_default.ensures

pub returns-in_default-read_cubes-clause-complete :
    goal.returns-in_default-read_cubes-clause-complete
returns-in_default-read_cubes-clause-complete c = λ legible marks small told.
    let none = cubes_told c.args.tree.now c.args.report.now c.in-Some.lines.now marks _ _ (λ rest.
    ⊥)
    told small c.in-Some.ensures c.in_default-read_cubes.ensures.complete in
    none.1

pub returns-in_default-2-clause-complete : goal.returns-in_default-2-clause-complete
returns-in_default-2-clause-complete c = λ legible marks small told.
    let none = missing_told c.args.tree.now c.args.report.now c.in-Some.lines.now
    c.in-Some-read_cubes.lines.now marks _ _ _ (λ rest. ⊥) legible told small c.in-Some.ensures
    c.in-Some-read_cubes.ensures.complete
    (λ marks rest legible small e.
    let read = c.in_ok-lines.ensures.complete marks rest legible small e in
    rw c.in_default-2.is at read) in
    none.1

pub returns-clause-complete : goal.returns-clause-complete
returns-clause-complete c = λ legible marks small told.
    all_told c.args.tree.now c.args.report.now c.in-Some.lines.now c.in-Some-read_cubes.lines.now
    c.in-Some-2.lines.now marks c.in_ok-found.found.items _ _ c.read_nodes.new.found.items legible
    told small (c.in_ok-found.ensures.items_if_clones_equal (λ y e. e)
    ∙ ap (λ (n : ℕ). replicate n Open) c.size.ensures) c.in_ok-read_nodes.ensures.long
    c.in-Some.ensures c.in-Some-read_cubes.ensures.complete
    (λ marks rest legible small e.
    let read = c.in_ok-lines.ensures.complete marks rest legible small e in
    rw c.in-Some-2.is at read)
    c.in_ok-read_nodes.ensures.complete
