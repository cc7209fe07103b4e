use Rattle.std.proofs.Common.{◌≡◌, ◌∙◌, ◌++◌, ap, refl, List, ℕ}
use Rattle.case_core.specs.Labelled.{text_below}
use Rattle.bundle_files.proofs.WhileRead.{front_part}
use Rattle.bundle_files.proofs.while_read.read_front.Goals as goal

pub returns-clause-front : goal.returns-clause-front
returns-clause-front g c =
    let begin = c.args.begun.text.items in
    let icnf : c.extend_from_slice.new.self.items ≡ begin ++ c.in_ok-cubes.cubes.items =
    c.in_ok-extend_from_slice.ensures.items
    ∙ ap (λ (t : List ℕ). begin ++ t) c.deref-2.ensures.value in
    record {
      cubes = c.in_ok-cubes.cubes.items;
      icnf = icnf;
      part =
          front_part begin c.in_ok-cubes.cubes.items c.extend_from_slice.new.self.items
          (g.S.Stream.gives c.args.source.now) (g.S.Stream.gives c.front.new.source)
          c.in_ok-text.text c.front.new.self
          (c.in_ok-text.ensures ∙ ap text_below c.deref.ensures.value) c.requires.plain
          c.in_ok-cubes.ensures.part icnf;
      said = refl;
    }
