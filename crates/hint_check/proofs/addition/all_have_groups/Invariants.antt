use Rattle.std.proofs.Common.{◌≡◌, true, take}
use Rattle.std.specs.List.{list_all}
use Rattle.std.specs.Option.{IfSome}
use Rattle.hint_check.specs.Inner.Grouped.{Names, has_group}
use Rattle.hint_check.proofs.addition.all_have_groups.Given as goal

abbrev pub invariant-loop-id : goal.invariant-loop-id
invariant-loop-id l = record {
  covered : list_all (has_group l.step.groups) (take l.id-index l.ids) ≡ true;
  grouped : IfSome l.grouped (λ set. Names set l.step.groups);
}
