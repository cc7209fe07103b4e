use Rattle.std.proofs.Common.{rules, ◌≡◌, ◌+◌, ◌++◌, ◌∙◌, ap, codes, decimal, ◌∷◌, ℕ, List}
use Rattle.std.specs.String.{string_bytes}
use Rattle.file_store.specs.Folder.{names_left}
use Rattle.file_store.proofs.FolderNames.{next_cube, next_missing, none_next}
use Rattle.file_store.proofs.folder.LeavesLeft.next_name.Goals as goal

pub returns-then-self : goal.returns-then-self
returns-then-self c =
    let name : decimal (c.args.self.now.cubes_done + 1) ≡ string_bytes c.in_ok-leaf_name.field-0 =
    search rules in (
      _,
      next_cube c.args.self.now (search rules)
          ∙ ap (λ (n : List ℕ). n ∷ names_left (record c.args.self.now {
            cubes_done = c.args.self.now.cubes_done + 1;
          })) name,
    )

pub returns-then-self-2 : goal.returns-then-self-2
returns-then-self-2 c =
    let name : codes "m" ++ decimal (c.args.self.now.missing_done + 1)
    ≡ string_bytes c.in_ok-leaf_name-2.field-0 = search rules in (
      _,
      next_missing c.args.self.now (search rules) (search rules)
          ∙ ap (λ (n : List ℕ). n ∷ names_left (record c.args.self.now {
            missing_done = c.args.self.now.missing_done + 1;
          })) name,
    )

pub returns : goal.returns
returns c = none_next c.args.self.now (search rules) (search rules)
